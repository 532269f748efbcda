use Rattle.std.proofs.Common.{◌≤◌, ◌∙◌, length, Some, ap, sym, arith}
use Rattle.bcj_layout_rules.specs.Rows.{row_types}
use Rattle.bcj_layout.specs.RowTypes.{Begins, number_of_row}
use Rattle.bcj_layout.proofs.RowLemmas.{row-within, rows-apart}
use Rattle.bcj_layout.proofs.layout.Layout.row_at.Goals as goal

pub returns-in-None-clause-each : goal.returns-in-None-clause-each
returns-in-None-clause-each c = λ r h.
    absurd (c.in-None.ensures.none (number_of_row c.args.self.now.classes r) (record { within = row-within c.args.self.now.classes r h.is_row; here = h.here }))

pub returns-in-Some-clause-each : goal.returns-in-Some-clause-each
returns-in-Some-clause-each c = λ r h.
    let begins : Begins c.args.self.now.classes c.args.self.now.main c.args.at c.in-Some.number = c.in-Some.ensures.there in
    let inside : number_of_row c.args.self.now.classes r ≤ length (row_types c.args.self.now.classes) = omega (arith, row-within c.args.self.now.classes r h.is_row) in
    let found : c.in-Some.number ≤ length (row_types c.args.self.now.classes) = omega (arith, begins.within) in
    ap Some
    (c.row_numbered.ensures.one r h.is_row
    (rows-apart c.args.self.now.classes c.args.self.now.main (number_of_row c.args.self.now.classes r) c.in-Some.number inside found (h.here ∙ sym begins.here)))
