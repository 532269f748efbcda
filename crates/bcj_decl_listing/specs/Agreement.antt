-- The members of a type by name, as hash maps keep them.
use Rattle.std.specs.Prelude.{◌≡◌, ℕ, List, [], ◌∷◌}
use Rattle.std.specs.List.{position_from}
use Rattle.std.specs.Option.{option_map_or}
use Rattle.std.specs.HashMap.{get_by_text}
use Rattle.bcj_decl_rules.specs.World.{Named, Field, Method, World}
use Rattle.bcj_decl_rules.specs.Members.{field_named}
use Rattle.bcj_decl_listing.specs.declared.members.MemberIndex.{MemberIndex}
use Rattle.bcj_decl_listing.specs.Places.{positions_from}

-- the index has the first position of each field name
abbrev pub HasFields : MemberIndex → List Field → Type 0
HasFields index fields = (q : Named) → get_by_text index.fields q ≡ position_from (field_named q) 0 fields

-- the positions that an index of methods has for a name; none where the name is not in it
abbrev pub listed : MemberIndex → Named → List ℕ
listed index q = option_map_or (λ g. g.items) (get_by_text index.methods q) []

-- the index has the positions of the methods of each name
abbrev pub HasMethods : MemberIndex → List Method → Type 0
HasMethods index methods = (q : Named) → listed index q ≡ positions_from 0 q methods

-- the indices are those of the types, one for each
abbrev pub AreMembersOf : List MemberIndex → World → Type 0
AreMembersOf [] [] = Unit {0}
AreMembersOf (m ∷ ms) (t ∷ ts) = HasFields m t.fields × HasMethods m t.methods × AreMembersOf ms ts
AreMembersOf _ _ = ⊥
