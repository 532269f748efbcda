use Rattle.std.proofs.Common.{arith, length, length-drop, length-take, ◌≤◌, ℕ}
use Rattle.bcj_elf.specs.Places.{strtab_fields}
use Rattle.bcj_elf.proofs.FirstBad.{exit, one_stays, one_moves}
use Rattle.bcj_elf.proofs.judging_contents.judge_strtab.Goals as goal

pub returns-in_err-judge : goal.returns-in_err-judge
unfolding strtab_fields
returns-in_err-judge c = exit _ _ _ c.from_residual.ensures.1 (grind (arith, one_stays))

pub judge_names-requires : goal.judge_names-requires
judge_names-requires c =
    let front : length c.part-strtab.result.now ≤ c.args.s.now.strtab = rw c.part-strtab.ensures (omega (arith, length-take {A = ℕ})) in
    let names : length c.behind-names.result.now ≤ length c.part-strtab.result.now = rw c.behind-names.ensures (omega (arith, length-drop {A = ℕ})) in
    omega arith

pub returns : goal.returns
unfolding strtab_fields
returns c = grind (arith, one_moves)
