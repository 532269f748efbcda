-- The types above a type as lists alone, for the code that is to come.
use Rattle.std.specs.Prelude.{◌≡◌, ℕ, zero, suc, Bool, List, [], ◌∷◌, map, length, Option, None, Some}
use Rattle.std.specs.List.{find, flat_map}
use Rattle.bcj_decl_rules.specs.World.{Named, Declared, World, type_named}
use Rattle.bcj_decl_rules.specs.Subtypes.{ProperSub}
use Rattle.bcj_decl_rules.specs.Members.{Visit, class_chain, visits}

-- no type stands above itself
abbrev pub IsAcyclic : World → Type 0
IsAcyclic w = (s : Named) → ProperSub w s s → ⊥

-- the class and its superclasses from near to far
abbrev pub chain_of : World → Declared → List Declared
chain_of w t = map (λ v. v.type) (class_chain w t)

-- the types of the names in list order, each followed at once by its own superinterfaces; a type on several ways stands there as often
abbrev pub types_above : ℕ → World → List Named → List Declared
types_above zero w names = []
types_above (suc n) w names = flat_map (λ name. elim (type_named w name) [ None ↦ [] | Some t ↦ t ∷ types_above n w t.interfaces ]) names

-- the superinterfaces of a type in the order of a search
abbrev pub interfaces_over : World → Declared → List Declared
interfaces_over w t = types_above (length w) w t.interfaces

-- the types in the order of a search, without their ways
abbrev pub types_searched : World → Declared → List Declared
types_searched w t = map (λ v. v.type) (visits w t)

-- the first type of any kind is the same in both lists
abbrev pub HasSameFirsts : List Declared → List Declared → Type 0
HasSameFirsts ts us = (p : Declared → Bool) → find p ts ≡ find p us
