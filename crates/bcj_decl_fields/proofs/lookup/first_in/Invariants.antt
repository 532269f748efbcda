use Rattle.std.proofs.Common.{◌≡◌, drop}
use Rattle.bcj_decl_table.specs.Views.{world_in}
use Rattle.bcj_decl_fields.specs.FieldSearch as search_spec
use Rattle.bcj_decl_fields.proofs.lookup.first_in.Given as goal

abbrev pub invariant-loop-place : goal.invariant-loop-place
invariant-loop-place l = search_spec.first_in (world_in l.listing.types) l.name (drop l.place-index l.places) ≡ search_spec.first_in (world_in l.listing.types) l.name l.places
