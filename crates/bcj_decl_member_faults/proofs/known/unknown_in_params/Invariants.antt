use Rattle.std.proofs.Common.{◌≡◌, drop}
use Rattle.std.specs.List.{flat_map}
use Rattle.bcj_decl_rules.specs.Faults.{first_unknown, class_names}
use Rattle.bcj_decl_table.specs.Views.{world_in}
use Rattle.bcj_decl_member_faults.proofs.known.unknown_in_params.Given as goal

abbrev pub invariant-loop-param : goal.invariant-loop-param
invariant-loop-param l =
    first_unknown (world_in l.listing.types) (flat_map (λ p. class_names p.ty) (drop l.param-index l.params))
    ≡ first_unknown (world_in l.listing.types) (flat_map (λ p. class_names p.ty) l.params)
