-- The methods that a search of places passes.
use Rattle.std.specs.Prelude.{ℕ, Bool, cond, true, false, List, [], ◌++◌, filter, length, Option, None, Some, slice_get}
use Rattle.std.specs.List.{flat_map}
use Rattle.std.specs.Option.{option_and_then, option_map, option_map_or}
use Rattle.bcj_decl_rules.specs.World.{Named, Method, World}
use Rattle.bcj_decl_rules.specs.Methods as rule
use Rattle.bcj_decl_orders.specs.Orders.{list_at}
use Rattle.bcj_decl_fields.specs.Searches.{superclass_place, places_up}
use Rattle.bcj_decl_methods.specs.declared.contest.MethodId.{MethodId}
use Rattle.bcj_decl_methods.specs.declared.contest.Contest.{Contest}
use Rattle.bcj_decl_methods.specs.declared.choice.Choice.{Choice}
use Rattle.bcj_decl_methods.specs.declared.choice.Choice.TheVariants as choice
use Rattle.bcj_decl_methods.specs.Candidates.{is_open}
use Rattle.bcj_decl_methods.specs.Passes.{Best}

-- the method that an id means
abbrev pub method_at : World → MethodId → Option Method
method_at w id = option_and_then (λ t. slice_get t.methods id.at) (slice_get w id.class)

abbrev pub choice_of : World → Choice → Option rule.Choice
choice_of w (choice.One id) = option_map rule.one (method_at w id)
choice_of w choice.NoneApplies = Some rule.none_applies
choice_of w choice.Ambiguous = Some rule.ambiguous

abbrev pub best_of : World → Contest → Best
best_of w c = record { method = option_and_then (method_at w) c.best; changed = c.changed }

-- all of these methods or those that may pass to another type
abbrev pub shown : Bool → List Method → List Method
shown all ms = cond all ms (filter is_open ms)

-- of the methods of a name in the type at a place
abbrev pub offered : Bool → World → Named → ℕ → List Method
offered all w name k = shown all (option_map_or (λ t. rule.methods_named name t.methods) (slice_get w k) [])

-- the places of the types above the type at a place, in the order of a search
abbrev pub places_beyond : World → List (List ℕ) → ℕ → List ℕ
places_beyond w orders k =
    let classes : List ℕ = places_up (length w) w (superclass_place w k) in
    classes ++ (list_at orders k ++ flat_map (list_at orders) classes)

-- the methods of a name that the type at a place and the types above it have
abbrev pub candidates_at : World → List (List ℕ) → Named → ℕ → List Method
candidates_at w orders name k = offered true w name k ++ flat_map (offered false w name) (places_beyond w orders k)

-- what two passes come to
abbrev pub decided : Option Method → Bool → rule.Choice
decided None changed = rule.none_applies
decided (Some m) changed = cond changed rule.ambiguous (rule.one m)
