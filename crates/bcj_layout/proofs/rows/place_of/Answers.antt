use Rattle.std.proofs.Common.{Err, arith, inl, inr}
use Rattle.std.proofs.lemmas.Bool.{cases_lt}
use Rattle.std.proofs.lemmas.List.Sorted.{searched}
use Rattle.bcj_layout.proofs.rows.place_of.Goals as goal

pub returns-in-Err-clause-none : goal.returns-in-Err-clause-none
returns-in-Err-clause-none c = λ k within e.
    let sides = searched c.args.numbers.now c.args.number (Err c.in-Err.field-0) c.in-Err.ensures.position c.requires.rising in
    elim (cases_lt k c.in-Err.field-0) [ inl less ↦ absurd (omega (arith, sides.1 k less, e)) | inr more ↦ absurd (omega (arith, sides.2 k more within, e)) ]
