-- No two fields, methods or constructors of a type are alike.
use Rattle.std.proofs.Common.{◌≡◌, refl, ap, Bool, true, false, cond, ◌||◌, List, [], ◌∷◌, ◌++◌, map, filter, Option, Some, None}
use Rattle.std.specs.List.{AllZip, filter_map, list_any, cons_option}
use Rattle.std.specs.Str.{bytes_eq}
use Rattle.std.proofs.lemmas.Bool.{and_from}
use Rattle.std.proofs.lemmas.Slice.Eq.{bytes_eq-Decides}
use Rattle.bcj_parser_trees.specs.Trees as source
use Rattle.bcj_parser_trees.specs.Trees.{PlainMember, PlainType, PlainUnit}
use Rattle.bcj_symbolic_trees.specs.Same.{same_types}
use Rattle.bcj_symbolic_trees.proofs.SameLemmas.{same_types-Decides}
use Rattle.bcj_symbolic_check.specs.Typing.{Each, each_of_none, each_of_more, Differ, none_differ, more_differ}
use Rattle.bcj_decl_rules.specs.World.{param_types}
use Rattle.bcj_decl_rules.specs.Faults.{is_field_of, is_method_of, is_constructor_of, second_field, second_method, second_constructor, in_method}
use Rattle.bcj_typing_soundness.proofs.Lists.{each_weaker, each_append, each_map, each_filter, each_picked}
use Rattle.bcj_typing_soundness.proofs.Declared.{IsMemberBehind, AreMembersBehind, no_members_behind, more_members_behind}
use Rattle.bcj_typing_soundness.proofs.Methods.{either_true}

-- ---- lists without two alike

-- two lists, and none of the one like one of the other
pub differ_both : {A : Type 0} {Alike : A → A → Type 0} {xs ys : List A} → Differ Alike xs → Differ Alike ys → Each (λ x. Each (λ y. ¬ Alike x y) ys) xs → Differ Alike (xs ++ ys)
differ_both none_differ d e = d
differ_both (more_differ n r) d (each_of_more k rest) = more_differ (each_append n k) (differ_both r d rest)

-- what a filter keeps
pub differ_filter : {A : Type 0} {Alike : A → A → Type 0} (p : A → Bool) {xs : List A} → Differ Alike xs → Differ Alike (filter p xs)
differ_filter p none_differ = none_differ
differ_filter {A} {Alike} p (more_differ {x = x} {xs = xs} n r) =
    elim (p x) as (λ b. Differ Alike (cond b (x ∷ filter p xs) (filter p xs))) [ true ↦ more_differ (each_filter p n) (differ_filter p r) | false ↦ differ_filter p r ]

-- what follows for each from what it comes from
pub each_zipped : {A B : Type 0} {R : A → B → Type 0} {P : A → Type 0} {Q : B → Type 0} (xs : List A) (ys : List B) → ((x : A) (y : B) → P x → R x y → Q y) → Each P xs → AllZip R xs ys → Each Q ys
each_zipped [] [] f e z = each_of_none
each_zipped [] (y ∷ ys) f e z = absurd z
each_zipped (x ∷ xs) [] f e z = absurd z
each_zipped (x ∷ xs) (y ∷ ys) f (each_of_more p r) z = each_of_more (f x y p z.0) (each_zipped xs ys f r z.1)

-- what is picked of items that aren't alike isn't alike
pub differ_picked : {A B : Type 0} {Alike : A → A → Type 0} {Same : B → B → Type 0} (f : A → Option B) {xs : List A}
    → ((a b : A) (x y : B) → f a ≡ Some x → f b ≡ Some y → Same x y → Alike a b) → Differ Alike xs → Differ Same (filter_map f xs)
differ_picked f g none_differ = none_differ
differ_picked {A} {B} {Alike} {Same} f g (more_differ {x = a} {xs = xs} n r) = by (f a) refl (differ_picked f g r) where
  by : (o : Option B) → f a ≡ o → Differ Same (filter_map f xs) → Differ Same (cons_option o (filter_map f xs))
  by None e d = d
  by (Some x) e d = more_differ (each_picked f (each_weaker (λ b k y h same. k (g a b x y e h same)) n)) d

-- what a function makes of items that differ
pub differ_map : {A B : Type 0} {Same : B → B → Type 0} (f : A → B) {xs : List A} → Differ (λ x y. Same (f x) (f y)) xs → Differ Same (map f xs)
differ_map f none_differ = none_differ
differ_map f (more_differ n r) = more_differ (each_map f n) (differ_map f r)

-- what becomes of items that aren't alike isn't alike
pub differ_zipped : {A B : Type 0} {R : A → B → Type 0} {Alike : A → A → Type 0} {Same : B → B → Type 0} (xs : List A) (ys : List B)
    → ((a b : A) (x y : B) → R a x → R b y → Same x y → Alike a b) → Differ Alike xs → AllZip R xs ys → Differ Same ys
differ_zipped [] [] f d z = none_differ
differ_zipped [] (y ∷ ys) f d z = absurd z
differ_zipped (x ∷ xs) [] f d z = absurd z
differ_zipped (x ∷ xs) (y ∷ ys) f (more_differ n r) z =
    more_differ (each_zipped xs ys (λ b v k q same. k (f x b y v z.0 q same)) n z.1) (differ_zipped xs ys f r z.1)

-- ---- members

-- an item of a list
data In {A : Type 0} (x : A) : List A → Type 0 where
  in_first : {xs : List A} → In x (x ∷ xs)
  in_behind : {y : A} {xs : List A} → In x xs → In x (y ∷ xs)

-- also with others behind
in_left : {A : Type 0} {x : A} {xs : List A} (ys : List A) → In x xs → In x (xs ++ ys)
in_left ys in_first = in_first
in_left ys (in_behind i) = in_behind (in_left ys i)

-- the last
in_last : {A : Type 0} (x : A) (xs : List A) → In x (xs ++ x ∷ [])
in_last x [] = in_first
in_last x (y ∷ ys) = in_behind (in_last x ys)

-- one that passes a test
any_in : {A : Type 0} (p : A → Bool) {x : A} {xs : List A} → In x xs → p x ≡ true → list_any p xs ≡ true
any_in p (in_first {xs = xs}) h = ap (λ b. b || list_any p xs) h
any_in p (in_behind {y = y} {xs = xs} i) h = either_true (p y) (list_any p xs) (any_in p i h)

-- such members don't stand behind one another
abbrev Refused : List PlainUnit → PlainType → (PlainMember → PlainMember → Type 0) → Type 0
Refused units t Alike = (earlier : List PlainMember) (m n : PlainMember) → In m earlier → IsMemberBehind units t earlier n → Alike m n → ⊥

-- no member behind is like this one
later_differ : {units : List PlainUnit} {t : PlainType} (Alike : PlainMember → PlainMember → Type 0) {earlier ms : List PlainMember} → Refused units t Alike → (m : PlainMember) → In m earlier
    → AreMembersBehind units t earlier ms → Each (λ n. ¬ Alike m n) ms
later_differ Alike f m i no_members_behind = each_of_none
later_differ Alike f m i (more_members_behind {earlier = earlier} {m = n} k r) =
    each_of_more (f earlier m n i k) (later_differ Alike f m (in_left (n ∷ []) i) r)

-- no two members are alike
members_differ : {units : List PlainUnit} {t : PlainType} (Alike : PlainMember → PlainMember → Type 0) {earlier ms : List PlainMember} → Refused units t Alike → AreMembersBehind units t earlier ms
    → Differ Alike ms
members_differ Alike f no_members_behind = none_differ
members_differ Alike f (more_members_behind {earlier = earlier} {m = m} k r) = more_differ (later_differ Alike f m (in_last m earlier) r) (members_differ Alike f r)

-- ---- fields

-- fields of one name
abbrev pub SameNamedFields : PlainMember → PlainMember → Type 0
SameNamedFields (source.field_member at mods ty name init) (source.field_member at2 mods2 ty2 name2 init2) = name ≡ name2
SameNamedFields _ _ = ⊥

-- are refused
fields_refused : (units : List PlainUnit) (t : PlainType) → Refused units t SameNamedFields
fields_refused units t earlier (source.field_member at mods ty name init) (source.field_member at2 mods2 ty2 name2 init2) i k e =
    k.fine _ (second_field (any_in (is_field_of name2) i ((bytes_eq-Decides name name2).1 e)))
fields_refused units t earlier _ _ i k e = absurd (e)

-- ---- methods

-- methods of one name with the same parameters
abbrev pub SameMethods : PlainMember → PlainMember → Type 0
SameMethods (source.method_member at mods result name params throws body) (source.method_member at2 mods2 result2 name2 params2 throws2 body2) = (name ≡ name2) × (param_types params ≡ param_types params2)
SameMethods _ _ = ⊥

-- are refused
methods_refused : (units : List PlainUnit) (t : PlainType) → Refused units t SameMethods
methods_refused units t earlier (source.method_member at mods result name params throws body) (source.method_member at2 mods2 result2 name2 params2 throws2 body2) i k e =
    k.fine _
    (in_method refl
    (second_method
    (any_in (is_method_of name2 params2) i
    (and_from (bytes_eq name name2) (same_types (param_types params) (param_types params2)) ((bytes_eq-Decides name name2).1 e.0) ((same_types-Decides (param_types params) (param_types params2)).1 e.1)))))
methods_refused units t earlier _ _ i k e = absurd (e)

-- ---- constructors

-- constructors with the same parameters
abbrev pub SameConstructors : PlainMember → PlainMember → Type 0
SameConstructors (source.constructor_member at mods name params throws first body) (source.constructor_member at2 mods2 name2 params2 throws2 first2 body2) = param_types params ≡ param_types params2
SameConstructors _ _ = ⊥

-- are refused
constructors_refused : (units : List PlainUnit) (t : PlainType) → Refused units t SameConstructors
constructors_refused units t earlier (source.constructor_member at mods name params throws first body) (source.constructor_member at2 mods2 name2 params2 throws2 first2 body2) i k e =
    k.fine _ (second_constructor (any_in (is_constructor_of params2) i ((same_types-Decides (param_types params) (param_types params2)).1 e)))
constructors_refused units t earlier _ _ i k e = absurd (e)

-- ---- of a type

-- the fields of a declared type
pub fields_of_type_differ : {units : List PlainUnit} {t : PlainType} {ms : List PlainMember} → AreMembersBehind units t [] ms → Differ SameNamedFields ms
fields_of_type_differ {units} {t} a = members_differ SameNamedFields (fields_refused units t) a

-- its methods
pub methods_of_type_differ : {units : List PlainUnit} {t : PlainType} {ms : List PlainMember} → AreMembersBehind units t [] ms → Differ SameMethods ms
methods_of_type_differ {units} {t} a = members_differ SameMethods (methods_refused units t) a

-- its constructors
pub constructors_of_type_differ : {units : List PlainUnit} {t : PlainType} {ms : List PlainMember} → AreMembersBehind units t [] ms → Differ SameConstructors ms
constructors_of_type_differ {units} {t} a = members_differ SameConstructors (constructors_refused units t) a
