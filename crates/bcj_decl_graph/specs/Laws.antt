-- What ties a search along the steps to the rules of the declared world.
use Rattle.std.specs.Prelude.{◌≡◌, ◌↔◌, ℕ, Bool, true, false, Some, slice_get}
use Rattle.std.specs.List.{Contains}
use Rattle.std.specs.Option.{option_map_or}
use Rattle.bcj_decl_rules.specs.World.{Named, Method, Declared, World, type_named}
use Rattle.bcj_decl_rules.specs.Subtypes.{ProperSub}
use Rattle.bcj_decl_rules.specs.Members.{same_signature, declares_method, is_constructor, Passes}
use Rattle.bcj_decl_listing.specs.Places.{place_of, steps_from, steps_of_world}
use Rattle.bcj_decl_graph.specs.Reached.{Reached}

-- a type stands above itself just where the steps from it lead back to the place of its name
abbrev pub EachCircleIsReached : Type 0
EachCircleIsReached =
    (w : World) (s : Named) (t : Declared) → type_named w s ≡ Some t
    → ProperSub w s s ↔ ((k : ℕ) × (place_of w s ≡ Some k) × Reached (steps_of_world w) (λ _. false) (steps_from w t) k)

-- whether the type at a place declares a method of this one's name and parameters; past the end there is none
abbrev pub closed_by : World → Method → ℕ → Bool
closed_by w d k = option_map_or (declares_method d) (slice_get w k) false

-- a method passes to a type just where a type declares it to which steps lead that don't go on behind a type with such a method
abbrev pub EachPassingMethodIsReached : Type 0
EachPassingMethodIsReached =
    (w : World) (t : Declared) (d n : Method) → same_signature d n ≡ true
    → Passes w t n
    ↔ ((k : ℕ) × (u : Declared) × (slice_get w k ≡ Some u) × Contains u.methods n × (n.is_private ≡ false) × (is_constructor n ≡ false)
    × Reached (steps_of_world w) (closed_by w d) (steps_from w t) k)
