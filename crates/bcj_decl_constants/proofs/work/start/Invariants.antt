use Rattle.std.proofs.Common.{◌≡◌, [], None, replicate}
use Rattle.bcj_decl_constants.proofs.work.start.Given as goal

-- as many as the turns
abbrev pub invariant-loop-number : goal.invariant-loop-number
invariant-loop-number l = (l.values.items ≡ replicate l.number None) × (l.waiting.items ≡ replicate l.number [])
