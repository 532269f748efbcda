use Rattle.std.proofs.Common.{◌≡◌, take}
use Rattle.bcj_hier_rules.specs.Heads.{AreDistinct}
use Rattle.bcj_hier.specs.Numbers.{names_of}
use Rattle.bcj_hier.proofs.names.number_names.Given as goal

pub record IsNumbered (A B : Type 0) : Type 0 where
  pub named : A
  pub distinct : B

abbrev pub invariant-loop-second : goal.invariant-loop-second
invariant-loop-second l = IsNumbered (l.names ≡ names_of (take l.second l.heads)) (AreDistinct (take l.second l.heads))
