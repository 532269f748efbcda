use Rattle.std.proofs.Common.{◌<◌, ℕ}
use Rattle.bcj_hier_rules.specs.Heads.{name_of}
use Rattle.bcj_layout_resolution.specs.Places.{heads_in}
use Rattle.bcj_layout_resolution.specs.Searches.{IsWithout, own_field}
use Rattle.bcj_layout_resolution.proofs.resolver.Resolver.may_have_field.Given as goal

abbrev pub invariant-loop-k : goal.invariant-loop-k
invariant-loop-k l = (j : ℕ) → j < l.k → IsWithout l.self (own_field l.name l.desc) (name_of (heads_in l.self) l.class) j
