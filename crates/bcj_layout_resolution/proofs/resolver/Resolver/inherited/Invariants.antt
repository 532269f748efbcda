use Rattle.std.proofs.Common.{◌≡◌}
use Rattle.bcj_hier_rules.specs.Heads.{IsIn, name_of}
use Rattle.bcj_hier_rules.specs.Loading.{turns}
use Rattle.bcj_hier_rules.specs.Resolution.{inherited_within}
use Rattle.bcj_layout_rules.specs.Rows.{mixture_of}
use Rattle.bcj_layout_resolution.specs.Places.{heads_in}
use Rattle.bcj_layout_resolution.proofs.resolver.Resolver.inherited.Given as goal

abbrev pub invariant-loop-turns : goal.invariant-loop-turns
invariant-loop-turns l = record { there : IsIn (heads_in l.self) l.at; same : inherited_within (mixture_of l.self) l.turns l.name l.desc (name_of (heads_in l.self) l.at) ≡ inherited_within (mixture_of l.self) (turns (mixture_of l.self)) l.name l.desc (name_of (heads_in l.self) l.fn.class) }

abbrev pub decreases-loop-turns : goal.decreases-loop-turns
decreases-loop-turns l = l.turns
