use Rattle.std.proofs.Common.{◌≡◌, ◌+◌, ◌*◌, drop}
use Rattle.bcj_hier_rules.specs.Resolution.{field_within, first_of}
use Rattle.bcj_layout_rules.specs.Rows.{mixture_of}
use Rattle.bcj_layout_resolution.proofs.resolver.Resolver.+fields.Given as goal

abbrev pub decreases-field_among : goal.decreases-field_among
decreases-field_among l = 3 * l.turns + 2

abbrev pub decreases-field_from : goal.decreases-field_from
decreases-field_from l = 3 * l.turns + 1

abbrev pub decreases-field_within : goal.decreases-field_within
decreases-field_within l = 3 * l.turns

abbrev pub invariant-field_among-loop-class : goal.invariant-field_among-loop-class
invariant-field_among-loop-class l = first_of (field_within (mixture_of l.self) l.turns l.name l.desc) (drop l.class-index l.classes) ≡ first_of (field_within (mixture_of l.self) l.turns l.name l.desc) l.classes
