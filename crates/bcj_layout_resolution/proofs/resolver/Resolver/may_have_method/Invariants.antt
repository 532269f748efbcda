use Rattle.std.proofs.Common.{◌<◌, ℕ}
use Rattle.bcj_hier_rules.specs.Shapes.{is_method}
use Rattle.bcj_hier_rules.specs.Heads.{name_of}
use Rattle.bcj_layout_resolution.specs.Places.{heads_in}
use Rattle.bcj_layout_resolution.specs.Searches.{IsWithout, own_method}
use Rattle.bcj_layout_resolution.proofs.resolver.Resolver.may_have_method.Given as goal

abbrev pub invariant-loop-k : goal.invariant-loop-k
invariant-loop-k l = (j : ℕ) → j < l.k → IsWithout l.self (own_method (is_method l.name l.desc)) (name_of (heads_in l.self) l.class) j
