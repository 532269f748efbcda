-- A declared world of well-formed units is sound.
use Rattle.std.proofs.Common.{◌≡◌, refl, sym, ap, subst, ◌∙◌, inl, inr, ℕ, zero, suc, Bool, true, false, ◌&&◌, List, [], ◌∷◌, ◌++◌, map, length, Option, Some, None, if◌then◌else◌}
use Rattle.std.specs.List.{list_all, find, filter_map, flat_map, Contains}
use Rattle.std.specs.Option.{option_and_then}
use Rattle.std.specs.Str.{bytes_eq}
use Rattle.std.proofs.lemmas.Bool.{and_parts}
use Rattle.bcj_names.specs.Identifiers.{is_identifier, is_reserved, reserved_words}
use Rattle.bcj_parser_trees.specs.declared.names.Param.{Param}
use Rattle.bcj_parser_trees.specs.declared.names.TypeName.{TypeName}
use Rattle.bcj_parser_trees.specs.Trees as source
use Rattle.bcj_parser_trees.specs.Trees.{PlainMember, PlainType, PlainUnit}
use Rattle.bcj_parser_wellformed.specs.WellFormed.{IsName, IsResultName, void_name, value_name, IsParam, IsWellFormed}
use Rattle.bcj_symbolic_trees.specs.Names.{object_name, throwable_name, print_stream_name, constructor_name}
use Rattle.bcj_symbolic_trees.specs.Types.{int_type, bool_type, void_type}
use Rattle.bcj_symbolic_boot.specs.BootUnit.{thrown_class, thrown_table}
use Rattle.bcj_symbolic_check.specs.Typing.{Each, each_of_none, each_of_more}
use Rattle.bcj_decl_rules.specs.World.{Named, Field, Method, World, Declared, world_of, has_type, type_named, is_named, boot_types, boot_type, object_constructor, declared_type, type_of, param_types, field_in, method_in, constructor_with, constructor_in, or_default, superclass_in}
use Rattle.bcj_decl_rules.specs.Members.{Visit, steps_on, superclasses_above, interfaces_above, class_chain, visits, fields_at, field_of, field_named, field_passes, methods_at, method_passes, methods_of_type}
use Rattle.bcj_decl_rules.specs.Subtypes.{Sub}
use Rattle.bcj_decl_rules.specs.Faults.{IsDeclared, class_names}
use Rattle.bcj_decl_soundness.proofs.Listing.{boot_or_source}
use Rattle.bcj_decl_soundness.proofs.Climbing.{object_known, same_bytes, boot_reaches, stands_found, each_type_reaches}
use Rattle.bcj_typing_soundness.specs.Laws as law
use Rattle.bcj_typing_soundness.specs.World.{IsKnown, IsKnownResult, no_result, a_result, IsSoundField}
use Rattle.bcj_typing_soundness.proofs.Known.{known_int, known_bool, known_class, written_known}
use Rattle.bcj_typing_soundness.proofs.Lists.{each_weaker, each_both, each_append, each_map, each_filter, each_flat_map, each_picked, each_found, each_contained, found_contained, each_any, all_parts, all_of_each}
use Rattle.bcj_typing_soundness.proofs.Declared.{IsMemberOf, each_alone, member_knows, IsDeclaredTypeOf, each_source}

-- ---- what is sound of a type

-- a method or constructor
pub record IsSoundSignature (w : World) (m : Method) : Type 0 where
  pub params : Each (IsKnown w) m.params
  pub result : IsKnownResult w m.result
  pub constructor : m.name ≡ constructor_name → m.result ≡ void_type

-- a type with its members
pub record IsSoundType (w : World) (t : Declared) : Type 0 where
  pub name : is_identifier t.name ≡ true
  pub superclass : (class : Named) → t.superclass ≡ Some class → has_type w class ≡ true
  pub fields : Each (IsSoundField w) t.fields
  pub methods : Each (IsSoundSignature w) t.methods

-- ---- boot types

-- a constructor without parameters
bare_constructor : (w : World) (class : Named) → IsSoundSignature w (constructor_with class [] false)
bare_constructor w class = record { params = each_of_none; result = no_result; constructor = λ e. refl }

-- Object's constructor, and none of another class
object_constructors : (w : World) (class : Named) → Each (IsSoundSignature w) (object_constructor class)
object_constructors w class =
    elim (bytes_eq class object_name) as (λ b. Each (IsSoundSignature w) (if b then constructor_with class [] false ∷ [] else []))
    [ true ↦ each_of_more (bare_constructor w class) each_of_none | false ↦ each_of_none ]

-- the name and the superclass of a boot class that is thrown
abbrev thrown_holds : World → List ℕ × List ℕ → Bool
thrown_holds w p = is_identifier p.0 && has_type w p.1

-- such a class is sound
thrown_sound : (w : World) (p : List ℕ × List ℕ) → thrown_holds w p ≡ true → IsSoundType w (boot_type (thrown_class p))
thrown_sound w (name, above) h =
    let both = and_parts (is_identifier name) (has_type w above) h in
    record {
      name = both.0;
      superclass = λ class e. let f : above ≡ class = cc in subst (λ (n : Named). has_type w n ≡ true) f both.1;
      fields = each_of_none;
      methods = each_append (object_constructors w name) (each_of_more (record { params = each_of_none; result = no_result; constructor = λ e. refl }) each_of_none);
    }

-- each of a table is
thrown_each : (w : World) (table : List (List ℕ × List ℕ)) → list_all (thrown_holds w) table ≡ true → Each (IsSoundType w) (map boot_type (map thrown_class table))
thrown_each w [] h = each_of_none
thrown_each w (p ∷ ps) h = let both = and_parts (thrown_holds w p) (list_all (thrown_holds w) ps) h in each_of_more (thrown_sound w p both.0) (thrown_each w ps both.1)

-- those of the boot unit are
thrown_table_holds : (units : List PlainUnit) → list_all (thrown_holds (world_of units)) thrown_table ≡ true
unfolding world_of is_identifier is_reserved reserved_words
thrown_table_holds units = refl

-- a method of PrintStream
stream_sound : (w : World) (name : Named) (m : Method) → Each (IsKnown w) m.params → m.result ≡ void_type → IsSoundSignature w m
stream_sound w name m p r = record { params = p; result = subst (IsKnownResult w) (sym r) no_result; constructor = λ e. r }

-- one parameter of type int
one_int : (w : World) → Each (IsKnown w) (int_type ∷ [])
one_int w = each_of_more known_int each_of_none

-- one of type boolean
one_bool : (w : World) → Each (IsKnown w) (bool_type ∷ [])
one_bool w = each_of_more known_bool each_of_none

-- a superclass that is Object is there
above_object : (units : List PlainUnit) (class : Named) → Some object_name ≡ Some class → has_type (world_of units) class ≡ true
above_object units class e = let f : object_name ≡ class = cc in subst (λ (n : Named). has_type (world_of units) n ≡ true) f (object_known units)

-- PrintStream's name is one
stream_named : is_identifier print_stream_name ≡ true
unfolding is_identifier is_reserved reserved_words
stream_named = refl

-- and that of a type
stream_known : (units : List PlainUnit) → has_type (world_of units) print_stream_name ≡ true
unfolding world_of
stream_known units = refl

-- Object's name is one
pub object_named : is_identifier object_name ≡ true
unfolding is_identifier is_reserved reserved_words
object_named = refl

-- each boot type is sound
boot_sound : (units : List PlainUnit) → Each (IsSoundType (world_of units)) boot_types
unfolding is_identifier is_reserved reserved_words
boot_sound units =
    let w : World = world_of units in
    each_of_more (record { name = refl; superclass = λ class e. cc; fields = each_of_none; methods = each_of_more (bare_constructor w object_name) each_of_none })
    (each_of_more (record { name = refl; superclass = above_object units; fields = each_of_none; methods = each_of_none })
    (each_of_more (record { name = refl; superclass = above_object units; fields = each_of_more (record { name = refl; ty = known_class stream_named (stream_known units) }) each_of_none; methods = each_of_none })
    (each_of_more
    (record {
      name = refl;
      superclass = above_object units;
      fields = each_of_none;
      methods =
          each_of_more (stream_sound w [] _ (one_int w) refl)
          (each_of_more (stream_sound w [] _ (one_bool w) refl)
          (each_of_more (stream_sound w [] _ (one_int w) refl)
          (each_of_more (stream_sound w [] _ (one_bool w) refl)
          (each_of_more (stream_sound w [] _ each_of_none refl)
          (each_of_more (stream_sound w [] _ (one_int w) refl) each_of_none)))));
    })
    (each_of_more
    (record { name = refl; superclass = above_object units; fields = each_of_none; methods = each_of_more (record { params = each_of_none; result = no_result; constructor = λ e. refl }) each_of_none })
    (thrown_each w thrown_table (thrown_table_holds units))))))

-- ---- source types

-- what holds of one value holds of the same one
pub some_is : {A : Type 0} (P : A → Type 0) {x y : A} → Some x ≡ Some y → P x → P y
some_is P {x} {y} e p = let f : x ≡ y = cc in subst P f p

-- no identifier is the name of constructors
pub no_constructor_name : (name : Named) → IsName name → name ≡ constructor_name → ⊥
unfolding is_identifier is_reserved reserved_words
no_constructor_name name f e = let g : is_identifier constructor_name ≡ true = subst (λ n. is_identifier n ≡ true) e f in cc

-- a written result whose names are known is there
pub result_known : {w : World} {ty : TypeName} → IsResultName ty → list_all (has_type w) (class_names ty) ≡ true → IsKnownResult w (type_of ty)
result_known void_name h = no_result
result_known (value_name t) h = a_result (written_known t h)

-- so are the types of parameters
pub params_known : {w : World} {ps : List Param} → Each IsParam ps → list_all (has_type w) (flat_map (λ p. class_names p.ty) ps) ≡ true → Each (IsKnown w) (param_types ps)
params_known {w} {ps} f h =
    each_map (λ (p : Param). type_of p.ty) (each_weaker (λ p k. written_known k.0.ty k.1) (each_both f (all_of_each (has_type w) (λ (p : Param). class_names p.ty) ps h)))

-- the field that a member declares
pub member_field_sound : {units : List PlainUnit} {t : PlainType} (m : PlainMember) → IsMemberOf units t m → (f : Field) → field_in t.interface t.name m ≡ Some f
    → IsSoundField (world_of units) f
member_field_sound {units} (source.field_member at mods ty name init) k f e =
    some_is (IsSoundField (world_of units)) e (record { name = k.is.formed.1; ty = written_known k.is.formed.0 (member_knows k.is) })
member_field_sound (source.method_member at mods result name params throws body) k f e = cc
member_field_sound (source.constructor_member at mods name params throws first body) k f e = cc
member_field_sound (source.static_member at body) k f e = cc

-- the method
pub member_method_sound : {units : List PlainUnit} {t : PlainType} (m : PlainMember) → IsMemberOf units t m → (d : Method) → method_in t.interface t.name m ≡ Some d
    → IsSoundSignature (world_of units) d
member_method_sound {units} (source.method_member at mods result name params throws body) k d e =
    let w : World = world_of units in
    let known = all_parts (has_type w) (class_names result) (flat_map (λ p. class_names p.ty) params ++ throws) (member_knows k.is) in
    let others = all_parts (has_type w) (flat_map (λ p. class_names p.ty) params) throws known.1 in
    some_is (IsSoundSignature w) e
    (record { params = params_known k.is.formed.2 others.0; result = result_known k.is.formed.0 known.0; constructor = λ n. absurd (no_constructor_name name k.is.formed.1 n) })
member_method_sound (source.field_member at mods ty name init) k d e = cc
member_method_sound (source.constructor_member at mods name params throws first body) k d e = cc
member_method_sound (source.static_member at body) k d e = cc

-- the constructor
pub member_constructor_sound : {units : List PlainUnit} {t : PlainType} (m : PlainMember) → IsMemberOf units t m → (d : Method) → constructor_in t.name m ≡ Some d
    → IsSoundSignature (world_of units) d
member_constructor_sound {units} (source.constructor_member at mods name params throws first body) k d e =
    let w : World = world_of units in
    let known = all_parts (has_type w) (flat_map (λ p. class_names p.ty) params) throws (member_knows k.is) in
    some_is (IsSoundSignature w) e (record { params = params_known k.is.formed.1 known.0; result = no_result; constructor = λ n. refl })
member_constructor_sound (source.field_member at mods ty name init) k d e = cc
member_constructor_sound (source.method_member at mods result name params throws body) k d e = cc
member_constructor_sound (source.static_member at body) k d e = cc

-- constructors, or the one that is not written
default_sound : (w : World) (class : Named) (ms : List Method) → Each (IsSoundSignature w) ms → Each (IsSoundSignature w) (or_default class ms)
default_sound w class [] e = each_of_more (bare_constructor w class) each_of_none
default_sound w class (m ∷ ms) e = e

-- and none in an interface
constructors_sound : (w : World) (i : Bool) (class : Named) (ms : List Method) → Each (IsSoundSignature w) ms → Each (IsSoundSignature w) (elim i [ true ↦ [] | false ↦ or_default class ms ])
constructors_sound w true class ms e = each_of_none
constructors_sound w false class ms e = default_sound w class ms e

-- the superclass of a declared type is there
superclass_known : (units : List PlainUnit) (i : Bool) (extends implements : List Named) → list_all (has_type (world_of units)) (extends ++ implements) ≡ true → (class : Named)
    → elim i [ true ↦ None | false ↦ Some (superclass_in extends) ] ≡ Some class → has_type (world_of units) class ≡ true
superclass_known units true extends implements h class e = cc
superclass_known units false [] implements h class e = above_object units class e
superclass_known units false (name ∷ names) implements h class e =
    some_is (λ (n : Named). has_type (world_of units) n ≡ true) e (and_parts (has_type (world_of units) name) (list_all (has_type (world_of units)) (names ++ implements)) h).0

-- a declared type is sound
source_sound : (units : List PlainUnit) (t : PlainType) → IsDeclaredTypeOf units t → IsSoundType (world_of units) (declared_type t)
source_sound units t k =
    let w : World = world_of units in
    let each = each_alone k.is.members in
    record {
      name = k.is.formed.name;
      superclass = superclass_known units t.interface t.extends t.implements k.is.known;
      fields = each_picked (field_in t.interface t.name) (each_weaker member_field_sound each);
      methods =
          each_append
          (constructors_sound w t.interface t.name (filter_map (constructor_in t.name) t.members) (each_picked (constructor_in t.name) (each_weaker member_constructor_sound each)))
          (each_picked (method_in t.interface t.name) (each_weaker member_method_sound each));
    }

-- each type of a declared world is
world_sound : (units : List PlainUnit) → IsDeclared units → Each IsWellFormed units → Each (IsSoundType (world_of units)) (world_of units)
unfolding world_of
world_sound units fine f = each_append (boot_sound units) (each_map declared_type (each_weaker (source_sound units) (each_source units fine f)))

-- ---- members that are found

-- what holds of each type that a name finds
record Above (w : World) (P : Declared → Type 0) : Type 0 where
  at : (name : Named) (t : Declared) → type_named w name ≡ Some t → P t

-- a type that is found, in front of others
one_above : {w : World} {P : Declared → Type 0} → Above w P → (way : List Declared) (rest : Declared → List Visit) → ((t : Declared) → Each (λ (v : Visit). P v.type) (rest t)) → (name : Named)
    (o : Option Declared) → type_named w name ≡ o → Each (λ (v : Visit). P v.type) (elim o [ None ↦ [] | Some t ↦ record { type = t; way = way } ∷ rest t ])
one_above a way rest each name None e = each_of_none
one_above a way rest each name (Some t) e = each_of_more (a.at name t e) (each t)

-- the superclasses
superclasses_each : {w : World} {P : Declared → Type 0} → Above w P → (n : ℕ) (way : List Declared) (name : Option Named) → Each (λ (v : Visit). P v.type) (superclasses_above n w way name)
superclasses_each a zero way name = each_of_none
superclasses_each a (suc n) way None = each_of_none
superclasses_each {w} a (suc n) way (Some name) =
    one_above a way (λ t. superclasses_above n w (steps_on way t) t.superclass) (λ t. superclasses_each a n (steps_on way t) t.superclass) name (type_named w name) refl

-- what holds of all holds of each
each_of_all : {A : Type 0} {P : A → Type 0} → ((x : A) → P x) → (xs : List A) → Each P xs
each_of_all f [] = each_of_none
each_of_all f (x ∷ xs) = each_of_more (f x) (each_of_all f xs)

-- the superinterfaces
interfaces_each : {w : World} {P : Declared → Type 0} → Above w P → (n : ℕ) (way : List Declared) (names : List Named) → Each (λ (v : Visit). P v.type) (interfaces_above n w way names)
interfaces_each a zero way names = each_of_none
interfaces_each {w} {P} a (suc n) way names =
    each_flat_map (λ name. elim (type_named w name) [ None ↦ [] | Some t ↦ record { type = t; way = way } ∷ interfaces_above n w (steps_on way t) t.interfaces ])
    (each_of_all (λ name. one_above a way (λ t. interfaces_above n w (steps_on way t) t.interfaces) (λ t. interfaces_each a n (steps_on way t) t.interfaces) name (type_named w name) refl) names)

-- the type with its superclasses
chain_each : {w : World} {P : Declared → Type 0} → Above w P → (t : Declared) → P t → Each (λ (v : Visit). P v.type) (class_chain w t)
chain_each {w} a t p = each_of_more p (superclasses_each a (length w) (t ∷ []) t.superclass)

-- all types that a search visits
visits_each : {w : World} {P : Declared → Type 0} → Above w P → (t : Declared) → P t → Each (λ (v : Visit). P v.type) (visits w t)
visits_each {w} {P} a t p =
    each_append (chain_each a t p)
    (each_flat_map (λ (v : Visit). interfaces_above (length w) w (steps_on v.way v.type) v.type.interfaces)
    (each_of_all (λ (v : Visit). interfaces_each a (length w) (steps_on v.way v.type) v.type.interfaces) (class_chain w t)))

-- each type that a name finds is sound
sound_above : (units : List PlainUnit) → IsDeclared units → Each IsWellFormed units → Above (world_of units) (IsSoundType (world_of units))
sound_above units fine f = record { at = λ name t e. each_found (is_named name) t (world_sound units fine f) e }

-- so is a field that is found
field_found : (w : World) → Above w (IsSoundType w) → (class name : Named) (f : Field) (o : Option Declared) → type_named w class ≡ o
    → option_and_then (λ t. find (λ f. true) (flat_map (fields_at name) (visits w t))) o ≡ Some f → IsSoundField w f
field_found w a class name f None e h = cc
field_found w a class name f (Some t) e h =
    each_found (λ (f : Field). true) f
    (each_flat_map (fields_at name)
    (each_weaker (λ (v : Visit) k. each_filter (λ (f : Field). field_named name f && field_passes name v.way f) k.fields) (visits_each a t (a.at class t e)))) h

-- each field of the world is
fields_sound : (units : List PlainUnit) → IsDeclared units → Each IsWellFormed units → (class name : Named) (f : Field) → field_of (world_of units) class name ≡ Some f → IsSoundField (world_of units) f
unfolding field_of
fields_sound units fine g class name f h = field_found (world_of units) (sound_above units fine g) class name f (type_named (world_of units) class) refl h

-- and a method that is found
method_found : (w : World) → Above w (IsSoundType w) → (class : Named) (t : Declared) (m : Method) → type_named w class ≡ Some t → Contains (methods_of_type w t) m → IsSoundSignature w m
unfolding methods_of_type
method_found w a class t m e c =
    each_contained m (each_flat_map methods_at (each_weaker (λ (v : Visit) k. each_filter (method_passes v.way) k.methods) (visits_each a t (a.at class t e)))) c

-- Object has its constructor alone
abbrev IsBare : Method → Type 0
IsBare m = (m.name ≡ constructor_name) × (m.params ≡ [])

-- in a declared world too
object_bare : (units : List PlainUnit) (t : Declared) → type_named (world_of units) object_name ≡ Some t → Each IsBare (methods_of_type (world_of units) t)
unfolding world_of methods_of_type
object_bare units t e = some_is (λ (d : Declared). Each IsBare (methods_of_type (world_of units) d)) e (each_of_more (refl, refl) each_of_none)

-- by its name
of_object : (units : List PlainUnit) (class : Named) (t : Declared) (m : Method) → type_named (world_of units) class ≡ Some t → Contains (methods_of_type (world_of units) t) m → class ≡ object_name → IsBare m
of_object units class t m e c is = each_contained m (object_bare units t (sym (ap (type_named (world_of units)) is) ∙ e)) c

-- ---- the world

-- Throwable is there
throwable_known : (units : List PlainUnit) → has_type (world_of units) throwable_name ≡ true
unfolding world_of
throwable_known units = refl

-- each type stands below Object
below_object : (units : List PlainUnit) → IsDeclared units → (name : Named) → has_type (world_of units) name ≡ true → Sub (world_of units) name object_name
below_object units fine name h =
    elim (boot_or_source units name h) [
      | inl boot ↦ boot_reaches units name boot
      | inr k ↦
          let found = stands_found units fine k.file k.before k.type k.stands in
          subst (λ (n : Named). Sub (world_of units) n object_name) (same_bytes k.type.name name k.called)
          (each_type_reaches units fine (declared_type k.type) (found_contained (is_named k.type.name) (world_of units) (declared_type k.type) found))
    ]

-- each name of a type is an identifier
names_sound : (w : World) → Each (IsSoundType w) w → (name : Named) → has_type w name ≡ true → is_identifier name ≡ true
names_sound w e name h = let p = each_any (is_named name) e h in subst (λ (n : Named). is_identifier n ≡ true) (same_bytes p.item.name name p.passes) p.holds.name

-- the whole of it
pub world_is_sound : law.WorldsSound
world_is_sound units fine f =
    let above = sound_above units fine f in
    record {
      named = names_sound (world_of units) (world_sound units fine f);
      object = object_known units;
      throwable = throwable_known units;
      below_object = below_object units fine;
      superclass = λ name class t e s. (above.at name t e).superclass class s;
      fields = fields_sound units fine f;
      methods = λ class t m e c.
          let k = method_found (world_of units) above class t m e c in
          record { params = k.params; result = k.result; constructor = k.constructor; of_object = of_object units class t m e c };
    }
