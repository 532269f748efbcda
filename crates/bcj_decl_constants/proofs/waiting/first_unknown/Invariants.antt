use Rattle.bcj_decl_constants.specs.Waiting.{KnownBelow}
use Rattle.bcj_decl_constants.proofs.waiting.first_unknown.Given as goal

-- the needs before have values
abbrev pub invariant-loop-i : goal.invariant-loop-i
invariant-loop-i l = KnownBelow l.values l.needs l.i
