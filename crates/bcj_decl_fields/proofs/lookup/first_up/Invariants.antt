use Rattle.std.proofs.Common.{◌≡◌, ◌-◌, length}
use Rattle.bcj_decl_table.specs.Views.{world_in}
use Rattle.bcj_decl_fields.specs.FieldSearch as search_spec
use Rattle.bcj_decl_fields.proofs.lookup.first_up.Given as goal

abbrev pub invariant-loop-step : goal.invariant-loop-step
invariant-loop-step l =
    search_spec.first_up (world_in l.listing.types) l.name (length l.listing.types - l._step) l.next
    ≡ search_spec.first_up (world_in l.listing.types) l.name (length l.listing.types) l.initial.next
