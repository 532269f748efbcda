use Rattle.std.proofs.Common.{◌≡◌, ◌-◌, length}
use Rattle.bcj_decl_table.specs.Views.{world_in}
use Rattle.bcj_decl_fields.specs.Searches as search_spec
use Rattle.bcj_decl_fields.proofs.subtyping.any_meets.Given as goal

abbrev pub invariant-loop-step : goal.invariant-loop-step
invariant-loop-step l =
    search_spec.any_meets (world_in l.listing.types) l.orders l.name (length l.listing.types - l._step) l.next
    ≡ search_spec.any_meets (world_in l.listing.types) l.orders l.name (length l.listing.types) l.initial.next
