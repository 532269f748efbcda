use Rattle.std.proofs.Common.{None, sym, ◌∙◌}
use Rattle.bcj_decl_rules.specs.Members.{field_of}
use Rattle.bcj_decl_table.specs.Views.{world_in}
use Rattle.bcj_decl_fields.proofs.FieldPlaces.{Means, means_of, found_none, found_some, is_found}
use Rattle.bcj_decl_fields.proofs.lookup.lookup_field.Goals as goal

abbrev none_means : (c : goal.In-None) → Means (world_in c.args.listing.now.types) None (field_of (world_in c.args.listing.now.types) c.args.class.now c.args.name.now)
none_means c = found_none (world_in c.args.listing.now.types) c.requires.interfaces c.requires.open c.requires.once c.args.class.now c.args.name.now (sym c.place.ensures ∙ c.in-None.is)

abbrev some_means : (c : goal.After-field_from) → Means (world_in c.args.listing.now.types) c.field_from.result (field_of (world_in c.args.listing.now.types) c.args.class.now c.args.name.now)
some_means c =
    means_of (world_in c.args.listing.now.types) c.field_from.result _ (field_of (world_in c.args.listing.now.types) c.args.class.now c.args.name.now) c.field_from.ensures
    (found_some (world_in c.args.listing.now.types) c.args.orders.now c.requires.interfaces c.requires.open c.requires.once c.requires.orders c.args.class.now c.args.name.now c.in-Some.place
    (sym c.place.ensures ∙ c.in-Some.is))

pub returns-in-None-clause-value : goal.returns-in-None-clause-value
returns-in-None-clause-value c = (none_means c).value

pub returns-in-Some-clause-value : goal.returns-in-Some-clause-value
returns-in-Some-clause-value c = (some_means c).value

pub returns-in-None-clause-found : goal.returns-in-None-clause-found
returns-in-None-clause-found c = is_found (world_in c.args.listing.now.types) None (field_of (world_in c.args.listing.now.types) c.args.class.now c.args.name.now) (none_means c)

pub returns-in-Some-clause-found : goal.returns-in-Some-clause-found
returns-in-Some-clause-found c =
    is_found (world_in c.args.listing.now.types) c.field_from.result (field_of (world_in c.args.listing.now.types) c.args.class.now c.args.name.now) (some_means c)
