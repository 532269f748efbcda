-- The members of a type: what it declares, and what passes to it from its supertypes (JLS 8.2, 8.3, 8.4.8, 9.2). A private
-- member passes to no other type, and hides in its own type what any declaration hides.
use Rattle.std.specs.Prelude.{◌≡◌, ℕ, zero, suc, Bool, true, false, not, ◌&&◌, List, [], ◌∷◌, ◌++◌, filter, length, Option, None, Some}
use Rattle.std.specs.List.{Contains, find, list_any, flat_map}
use Rattle.std.specs.Option.{option_and_then}
use Rattle.std.specs.Str.{bytes_eq}
use Rattle.bcj_symbolic_trees.specs.Same.{same_types}
use Rattle.bcj_symbolic_trees.specs.Names.{constructor_name}
use Rattle.bcj_decl_rules.specs.World.{Named, Field, Method, Declared, World, type_named}
use Rattle.bcj_decl_rules.specs.Subtypes.{direct_supertypes}

-- ---- the order in which the types above a type are searched

-- a type above another, with the types on the way to it, the lower one first and itself left out
pub record Visit : Type 0 where
  pub type : Declared
  pub way : List Declared

abbrev pub steps_on : List Declared → Declared → List Declared
steps_on way t = way ++ t ∷ []

-- The superclasses from near to far. A chain of different types is no longer than the world, so as many steps are taken.
abbrev pub superclasses_above : ℕ → World → List Declared → Option Named → List Visit
superclasses_above zero w way name = []
superclasses_above (suc n) w way None = []
superclasses_above (suc n) w way (Some name) =
    elim (type_named w name) [
      | None ↦ []
      | Some t ↦ record { type = t; way = way } ∷ superclasses_above n w (steps_on way t) t.superclass
    ]

-- the superinterfaces of these names in list order, each followed at once by its own
abbrev pub interfaces_above : ℕ → World → List Declared → List Named → List Visit
interfaces_above zero w way names = []
interfaces_above (suc n) w way names =
    flat_map
    (λ name.
    elim (type_named w name) [
      | None ↦ []
      | Some t ↦ record { type = t; way = way } ∷ interfaces_above n w (steps_on way t) t.interfaces
    ])
    names

-- the type itself
abbrev pub visit_of : Declared → Visit
visit_of t = record { type = t; way = [] }

abbrev pub class_chain : World → Declared → List Visit
class_chain w t = visit_of t ∷ superclasses_above (length w) w (t ∷ []) t.superclass

-- the type itself, then its superclasses from near to far, then the superinterfaces of all these in this order
abbrev pub visits : World → Declared → List Visit
visits w t = class_chain w t ++ flat_map (λ v. interfaces_above (length w) w (steps_on v.way v.type) v.type.interfaces) (class_chain w t)

-- ---- fields

abbrev pub field_named : Named → Field → Bool
field_named name f = bytes_eq f.name name

abbrev pub declares_field : Named → Declared → Bool
declares_field name t = list_any (field_named name) t.fields

-- a way of no steps is that of the type itself; a field of another type passes where it isn't private and no type on the way hides it
abbrev pub field_passes : Named → List Declared → Field → Bool
field_passes name [] f = true
field_passes name (t ∷ ts) f = not f.is_private && not (list_any (declares_field name) (t ∷ ts))

abbrev pub fields_at : Named → Visit → List Field
fields_at name v = filter (λ f. field_named name f && field_passes name v.way f) v.type.fields

-- the field that a name means in a type: the first that is found
unfoldable pub field_of : World → Named → Named → Option Field
field_of w class name =
    option_and_then (λ t. find (λ f. true) (flat_map (fields_at name) (visits w t))) (type_named w class)

-- ---- methods

-- methods of one name and parameters override or hide one another (JLS 8.4.2)
abbrev pub same_signature : Method → Method → Bool
same_signature m n = bytes_eq m.name n.name && same_types m.params n.params

abbrev pub declares_method : Method → Declared → Bool
declares_method m t = list_any (same_signature m) t.methods

abbrev pub is_constructor : Method → Bool
is_constructor m = bytes_eq m.name constructor_name

-- constructors pass to no other type
abbrev pub method_passes : List Declared → Method → Bool
method_passes [] m = true
method_passes (t ∷ ts) m = not m.is_private && (not (is_constructor m) && not (list_any (declares_method m) (t ∷ ts)))

abbrev pub methods_at : Visit → List Method
methods_at v = filter (method_passes v.way) v.type.methods

-- the methods and constructors of a type in the order of the search
unfoldable pub methods_of_type : World → Declared → List Method
methods_of_type w t = flat_map methods_at (visits w t)

-- ---- what is inherited (JLS 8.4.8, 9.4.1)

-- A method is a member of a type that declares it, and of a type to which it passes and which declares none of its name and
-- parameters. It passes to a type from a direct supertype that has it as a member.
mutual
  pub data IsMember (w : World) : Declared → Method → Type 0 where
    declared : {t : Declared} {m : Method} → Contains t.methods m → IsMember w t m
    inherited : {t : Declared} {m : Method} → declares_method m t ≡ false → Passes w t m → IsMember w t m

  pub data Passes (w : World) : Declared → Method → Type 0 where
    from : {t : Declared} {m : Method} (name : Named) (u : Declared) → Contains (direct_supertypes t) name → type_named w name ≡ Some u → m.is_private ≡ false → is_constructor m ≡ false
        → IsMember w u m → Passes w t m
