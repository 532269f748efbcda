use Rattle.std.proofs.Common.{◌≡◌, ◌++◌, replicate}
use Rattle.bcj_linker_rows.proofs.counting.push_zeros.Given as goal

abbrev pub invariant-loop-i : goal.invariant-loop-i
invariant-loop-i l = l.words ≡ l.initial.words ++ replicate l._i 0
