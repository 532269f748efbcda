-- In a declared world a private method stands beside no inherited one of its name and parameters.
use Rattle.std.proofs.Common.{◌≡◌, ◌<◌, ◌++◌, List, [], ◌∷◌, map, Option, Some, None, Bool, true, false, not, refl, sym, ◌∙◌, ap, subst, ℕ, zero, suc, length, inl, inr, arith, slice_index_or}
use Rattle.std.proofs.lemmas.Bool.{cases_Bool, and_parts}
use Rattle.std.proofs.lemmas.List.Folds.{find-append}
use Rattle.std.proofs.lemmas.List.Elements.{Contains-append_cases}
use Rattle.std.specs.List.{Contains, find, list_all, filter_map, cons_option}
use Rattle.std.specs.Option.{option_or}
use Rattle.bcj_parser_trees.specs.Trees.{PlainType, PlainUnit, PlainMember, field_member, method_member, constructor_member, static_member}
use Rattle.bcj_symbolic_trees.specs.Names.{constructor_name}
use Rattle.bcj_decl_rules.specs.World.{Named, Method, Declared, World, world_of, type_named, has_type, is_named, boot_types, source_types, declared_type, method_in, constructor_in, constructors_of, or_default, methods_of}
use Rattle.bcj_decl_rules.specs.Members.{is_constructor, same_signature, Passes}
use Rattle.bcj_decl_rules.specs.Faults.{StandsIn, IsDeclared, in_member, in_method, private_beside_inherited}
use Rattle.bcj_decl_soundness.proofs.Listing.{boot_or_source}
use Rattle.bcj_decl_soundness.proofs.Climbing.{same_bytes, bytes_same, stands_found}
use Rattle.bcj_decl_methods.specs.Laws as law
use Rattle.bcj_decl_methods.proofs.Finding.{both_true, any_none, any_found, finds, found_in}

fails_in : {X : Type 0} (p : X → Bool) (xs : List X) (k : ℕ) (d : X) → k < length xs → p (slice_index_or xs k d) ≡ false → list_all p xs ≡ true → ⊥
fails_in p [] k d h it all = omega arith
fails_in p (y ∷ ys) zero d h it all =
    let parts : (p y ≡ true) × (list_all p ys ≡ true) = and_parts (p y) (list_all p ys) all in
    let wrong : true ≡ false = sym parts.0 ∙ it in
    cc
fails_in p (y ∷ ys) (suc k) d h it all =
    let below : k < length ys = omega (arith, h) in
    fails_in p ys k d below it (and_parts (p y) (list_all p ys) all).1

at_only : {X : Type 0} (x y : X) (k : ℕ) → k < 1 → slice_index_or (x ∷ []) k y ≡ y → x ≡ y
at_only x y zero h e = e
at_only x y (suc k) h e = absurd (omega (arith, h))

only : {X : Type 0} (x y : X) → Contains (x ∷ []) y → x ≡ y
only {X} x y c = at_only x y c.0 c.1 c.2

holds_in : {X : Type 0} (p : X → Bool) (xs : List X) (x : X) → list_all p xs ≡ true → Contains xs x → p x ≡ true
holds_in p xs x all c =
    elim (cases_Bool (p x)) [
      | inl it ↦ it
      | inr other ↦ absurd (fails_in p xs c.0 x c.1 (ap p c.2 ∙ other) all)
    ]

-- ---- boot types

boot_open : list_all (λ t. list_all (λ m. not m.is_private) t.methods) boot_types ≡ true
boot_open = refl

from_boot : (units : List PlainUnit) (name : Named) (t : Declared) → type_named (world_of units) name ≡ Some t → has_type boot_types name ≡ true → Contains boot_types t
unfolding world_of
from_boot units name t named boot =
    let any : (u : Declared) × Contains boot_types u × (is_named name u ≡ true) = any_found (is_named name) boot_types boot in
    let some : (u : Declared) × (find (is_named name) boot_types ≡ Some u) = finds (is_named name) boot_types any.0 any.1 any.2 in
    let whole : type_named (world_of units) name ≡ Some some.0 =
    find-append (is_named name) boot_types (map declared_type (source_types units)) ∙ ap (λ o. option_or o (type_named (map declared_type (source_types units)) name)) some.1 in
    found_in (is_named name) boot_types t (some.1 ∙ (sym whole ∙ named))

-- ---- source types

all_constructors : (class : Named) (ms : List PlainMember) → list_all is_constructor (filter_map (constructor_in class) ms) ≡ true
all_constructors class [] = refl
all_constructors class (field_member at mods ty name init ∷ ms) = all_constructors class ms
all_constructors class (method_member at mods result name params throws body ∷ ms) = all_constructors class ms
all_constructors class (constructor_member at mods name params throws first body ∷ ms) = both_true _ _ (bytes_same constructor_name) (all_constructors class ms)
all_constructors class (static_member at body ∷ ms) = all_constructors class ms

default_constructor : (class : Named) (ms : List Method) → list_all is_constructor ms ≡ true → list_all is_constructor (or_default class ms) ≡ true
default_constructor class [] all = both_true _ _ (bytes_same constructor_name) refl
default_constructor class (m ∷ ms) all = all

constructors_by : (t : PlainType) (b : Bool) → list_all is_constructor (elim b [ true ↦ [] | false ↦ or_default t.name (filter_map (constructor_in t.name) t.members) ]) ≡ true
constructors_by t true = refl
constructors_by t false = default_constructor t.name (filter_map (constructor_in t.name) t.members) (all_constructors t.name t.members)

-- a method of a type with its place among the members
record Written (interface : Bool) (class : Named) (ms : List PlainMember) (d : Method) : Type 0 where
  earlier : List PlainMember
  later : List PlainMember
  member : PlainMember
  at : ms ≡ earlier ++ member ∷ later
  makes : method_in interface class member ≡ Some d

written_behind : (interface : Bool) (class : Named) (x : PlainMember) (ms : List PlainMember) (d : Method) → Written interface class ms d → Written interface class (x ∷ ms) d
written_behind interface class x ms d w =
    record { earlier = x ∷ w.earlier; later = w.later; member = w.member; at = ap (λ l. x ∷ l) w.at; makes = w.makes }

written_by : (interface : Bool) (class : Named) (x : PlainMember) (ms : List PlainMember) (d : Method) → (Contains (filter_map (method_in interface class) ms) d → Written interface class ms d) → (o : Option Method)
    → method_in interface class x ≡ o → Contains (cons_option o (filter_map (method_in interface class) ms)) d → Written interface class (x ∷ ms) d
written_by interface class x ms d again None e inside = written_behind interface class x ms d (again inside)
written_by interface class x ms d again (Some m) e inside =
    elim (Contains-append_cases (m ∷ []) (filter_map (method_in interface class) ms) d inside) [
      | inl here_it ↦ record { earlier = []; later = ms; member = x; at = refl; makes = e ∙ ap Some (only m d here_it) }
      | inr rest ↦ written_behind interface class x ms d (again rest)
    ]

written_in : (interface : Bool) (class : Named) (ms : List PlainMember) (d : Method) → Contains (filter_map (method_in interface class) ms) d → Written interface class ms d
written_in interface class [] d inside = let none : inside.0 < 0 = inside.1 in absurd (omega (arith, none))
written_in interface class (x ∷ ms) d inside = written_by interface class x ms d (written_in interface class ms d) (method_in interface class x) refl inside

refused : (units : List PlainUnit) → IsDeclared units → (file : ℕ) (before : List PlainType) (t : PlainType) → StandsIn units file before t → (earlier later : List PlainMember) (x : PlainMember)
    → t.members ≡ earlier ++ x ∷ later → (d m : Method) → method_in t.interface t.name x ≡ Some d → d.is_private ≡ true → Passes (world_of units) (declared_type t) m → same_signature d m ≡ true → ⊥
refused units fine file before t stands earlier later (field_member at mods ty name init) e d m makes hidden passes same = cc
refused units fine file before t stands earlier later (method_member at mods result name params throws body) e d m makes hidden passes same =
    fine _ _ (in_member earlier later stands e (in_method makes (private_beside_inherited m hidden passes same)))
refused units fine file before t stands earlier later (constructor_member at mods name params throws first body) e d m makes hidden passes same = cc
refused units fine file before t stands earlier later (static_member at body) e d m makes hidden passes same = cc

source_alone : (units : List PlainUnit) → IsDeclared units → (file : ℕ) (before : List PlainType) (t : PlainType) → StandsIn units file before t → (d m : Method) → Contains (methods_of t) d → d.is_private ≡ true
    → is_constructor d ≡ false → Passes (world_of units) (declared_type t) m → same_signature d m ≡ true → ⊥
source_alone units fine file before t stands d m inside hidden plain passes same =
    elim (Contains-append_cases (constructors_of t) (filter_map (method_in t.interface t.name) t.members) d inside) [
      | inl constructor ↦
          let wrong : true ≡ false = sym (holds_in is_constructor (constructors_of t) d (constructors_by t t.interface) constructor) ∙ plain in
          cc
      | inr method ↦
          let w : Written t.interface t.name t.members d = written_in t.interface t.name t.members d method in
          refused units fine file before t stands w.earlier w.later w.member w.at d m w.makes hidden passes same
    ]

-- ---- the world

known_by : (w : World) (name : Named) (t : Declared) → type_named w name ≡ Some t → has_type w name ≡ true
known_by w name t named =
    elim (cases_Bool (has_type w name)) [
      | inl it ↦ it
      | inr none ↦
          let wrong : None ≡ Some t = sym (any_none (is_named name) w none) ∙ named in
          absurd (cc)
    ]

pub stand_alone : law.DeclaredPrivateMethodsStandAlone
stand_alone units fine name t named d m inside hidden plain passes same =
    elim (boot_or_source units name (known_by (world_of units) name t named)) [
      | inl boot ↦
          let visible : list_all (λ x. not x.is_private) t.methods ≡ true = holds_in (λ u. list_all (λ x. not x.is_private) u.methods) boot_types t boot_open (from_boot units name t named boot) in
          let is_open : not d.is_private ≡ true = holds_in (λ x. not x.is_private) t.methods d visible inside in
          let wrong : false ≡ true = ap not (sym hidden) ∙ is_open in
          cc
      | inr source ↦
          let found : type_named (world_of units) name ≡ Some (declared_type source.type) =
          ap (type_named (world_of units)) (sym (same_bytes source.type.name name source.called)) ∙ stands_found units fine source.file source.before source.type source.stands in
          let both : Some t ≡ Some (declared_type source.type) = sym named ∙ found in
          let it : t ≡ declared_type source.type = cc in
          let P : Declared → Type 0 = λ u. Contains u.methods d in
          let Q : Declared → Type 0 = λ u. Passes (world_of units) u m in
          source_alone units fine source.file source.before source.type source.stands d m (subst P it inside) hidden plain (subst Q it passes) same
    ]
