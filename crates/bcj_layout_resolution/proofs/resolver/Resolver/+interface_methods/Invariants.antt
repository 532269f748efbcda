use Rattle.std.proofs.Common.{◌≡◌, ◌+◌, ◌*◌, drop}
use Rattle.bcj_hier_rules.specs.Resolution.{interface_method_within, first_of}
use Rattle.bcj_layout_rules.specs.Rows.{mixture_of}
use Rattle.bcj_layout_resolution.proofs.resolver.Resolver.+interface_methods.Given as goal

abbrev pub decreases-interface_method_among : goal.decreases-interface_method_among
decreases-interface_method_among l = 3 * l.turns + 2

abbrev pub decreases-interface_method_from : goal.decreases-interface_method_from
decreases-interface_method_from l = 3 * l.turns + 1

abbrev pub decreases-interface_method_within : goal.decreases-interface_method_within
decreases-interface_method_within l = 3 * l.turns

abbrev pub invariant-interface_method_among-loop-class : goal.invariant-interface_method_among-loop-class
invariant-interface_method_among-loop-class l = first_of (interface_method_within (mixture_of l.self) l.turns l.name l.desc) (drop l.class-index l.classes) ≡ first_of (interface_method_within (mixture_of l.self) l.turns l.name l.desc) l.classes
