use Rattle.std.proofs.Common.{◌≡◌, ◌-◌, length}
use Rattle.bcj_decl_rules.specs.Faults.{can_implement, implementation}
use Rattle.bcj_decl_table.specs.Views.{method_of_info, declared_of, world_in}
use Rattle.bcj_decl_head_faults.proofs.Upward.{search_up}
use Rattle.bcj_decl_head_faults.proofs.body.implementation.Given as goal

abbrev pub invariant-loop-step : goal.invariant-loop-step
invariant-loop-step l =
    search_up (can_implement (method_of_info l.method)) (length l.listing.types - l._step) (world_in l.listing.types) (declared_of l.class)
    ≡ implementation (world_in l.listing.types) (declared_of l.info) (method_of_info l.method)
