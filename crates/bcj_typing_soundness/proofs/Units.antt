-- What elaboration makes of a unit is well typed.
use Rattle.std.proofs.Common.{◌≡◌, refl, ap, subst, ◌∙◌, ℕ, zero, suc, ◌+◌, ◌≤◌, true, ◌||◌, List, [], ◌∷◌, ◌++◌, map, length, slice_get, Some, arith, length-append}
use Rattle.std.specs.List.{AllZip}
use Rattle.std.proofs.lemmas.List.Folds.{list_any-append}
use Rattle.std.proofs.lemmas.Slice.Eq.{bytes_eq-Decides}
use Rattle.bcj_parser_trees.specs.Trees.{PlainType, PlainUnit}
use Rattle.bcj_parser_wellformed.specs.WellFormed.{IsWellFormed}
use Rattle.bcj_parser_wellformed.proofs.Units.{unit_formed}
use Rattle.bcj_symbolic_trees.specs.Units.{PlainClass}
use Rattle.bcj_symbolic_check.specs.Limits.{max_types}
use Rattle.bcj_symbolic_check.specs.Typing.{Each, each_of_none, each_of_more, WellTypedBehind, no_classes, more_classes}
use Rattle.bcj_decl_rules.specs.World.{Named, World, has_type, is_named, boot_types, declared_type, source_types}
use Rattle.bcj_decl_rules.specs.Faults.{second_of_name}
use Rattle.bcj_decl_soundness.proofs.Listing.{one_type_more}
use Rattle.bcj_typing_rules.specs.Members.{BecomesClass, becomes_class}
use Rattle.bcj_typing_soundness.specs.Laws as law
use Rattle.bcj_typing_soundness.specs.World.{WorldIsSound}
use Rattle.bcj_typing_soundness.proofs.Lists.{each_first, each_weaker, each_append, each_right}
use Rattle.bcj_typing_soundness.proofs.Declared.{IsDeclaredType, AreDeclaredBehind, more_types_behind, unit_declared_at}
use Rattle.bcj_typing_soundness.proofs.Sound.{world_is_sound}
use Rattle.bcj_typing_soundness.proofs.Methods.{either_true}
use Rattle.bcj_typing_soundness.proofs.Classes.{class_typed}

-- ---- names of classes

-- the types before, as the world has them
abbrev earlier_types : List PlainType → World
earlier_types before = boot_types ++ map declared_type before

-- a class has the name of a type before
abbrev IsOfEarlier : List PlainType → PlainClass → Type 0
IsOfEarlier before c = has_type (earlier_types before) c.head.name ≡ true

-- a name before stays one
stays : (before : List PlainType) (t : PlainType) (name : Named) → has_type (earlier_types before) name ≡ true → has_type (earlier_types (before ++ t ∷ [])) name ≡ true
stays before t name h =
    subst (λ (w : World). has_type w name ≡ true) (one_type_more before t)
    (list_any-append (is_named name) (earlier_types before) (declared_type t ∷ []) ∙ ap (λ b. b || has_type (declared_type t ∷ []) name) h)

-- and the name of the type comes to them
comes : (before : List PlainType) (t : PlainType) → has_type (earlier_types (before ++ t ∷ [])) t.name ≡ true
comes before t =
    subst (λ (w : World). has_type w t.name ≡ true) (one_type_more before t)
    (list_any-append (is_named t.name) (earlier_types before) (declared_type t ∷ [])
    ∙ either_true (has_type (earlier_types before) t.name) (has_type (declared_type t ∷ []) t.name) (ap (λ b. b || has_type [] t.name) ((bytes_eq-Decides t.name t.name).1 refl)))

-- a class has the name of its type
class_name : (units : List PlainUnit) (t : PlainType) (c : PlainClass) → BecomesClass units t c → t.name ≡ c.head.name
class_name units t c (becomes_class xs ys fs ss is cs ms) = refl

-- no class before has the name of a declared type
new_name : {units : List PlainUnit} {before : List PlainType} {t : PlainType} {earlier : List PlainClass} → IsDeclaredType units before t → Each (IsOfEarlier before) earlier
    → Each (λ (b : PlainClass). ¬ (t.name ≡ b.head.name)) earlier
new_name {before = before} d e = each_weaker (λ b k same. d.fine _ (second_of_name (ap (has_type (earlier_types before)) same ∙ k))) e

-- ---- units

-- the classes of a unit, from one on
classes_typed : (units : List PlainUnit) → WorldIsSound units → (before ts : List PlainType) → AreDeclaredBehind units before ts → (earlier cs : List PlainClass) → AllZip (BecomesClass units) ts cs
    → length earlier + length ts ≤ max_types → Each (IsOfEarlier before) earlier → WellTypedBehind earlier cs
classes_typed units sound before [] d earlier [] z few e = no_classes
classes_typed units sound before [] d earlier (c ∷ cs) z few e = absurd z
classes_typed units sound before (t ∷ ts) d earlier [] z few e = absurd z
classes_typed units sound before (t ∷ ts) (more_types_behind d r) earlier (c ∷ cs) z few e =
    more_classes
    (class_typed units sound before t d earlier c z.0 (omega arith) (new_name d e))
    (classes_typed units sound (before ++ t ∷ []) ts r (earlier ++ c ∷ []) cs z.1 (omega (arith, length-append earlier (c ∷ [])))
    (each_append (each_weaker (λ b k. stays before t b.head.name k) e)
    (each_of_more (subst (λ (n : Named). has_type (earlier_types (before ++ t ∷ [])) n ≡ true) (class_name units t c z.0) (comes before t)) each_of_none)))

-- the list of units, taken apart at one of them
record SplitAt (units : List PlainUnit) (u : PlainUnit) : Type 0 where
  earlier : List PlainUnit
  later : List PlainUnit
  is : units ≡ earlier ++ u ∷ later

-- it is taken apart at a place
split_at : (units : List PlainUnit) (own : ℕ) (u : PlainUnit) → slice_get units own ≡ Some u → SplitAt units u
split_at [] own u e = cc
split_at (x ∷ xs) zero u e = let is : x ≡ u = cc in record { earlier = []; later = xs; is = ap (λ y. y ∷ xs) is }
split_at (x ∷ xs) (suc n) u e = let s = split_at xs n u e in record { earlier = x ∷ s.earlier; later = s.later; is = ap (λ ys. x ∷ ys) s.is }

-- of well-formed units
pub elaborated : law.FormedElaborationsWellTyped
elaborated units fine formed own u e =
    let s : SplitAt units e.unit = split_at units own e.unit e.is_own in
    let f : IsWellFormed e.unit = each_first (each_right s.earlier (e.unit ∷ s.later) (subst (Each IsWellFormed) s.is formed)) in
    classes_typed units (world_is_sound units fine formed) (source_types s.earlier) e.unit (unit_declared_at units fine s.earlier s.later e.unit s.is f) [] u.classes e.classes (omega (arith, f.few)) each_of_none

-- of units that the grammar derives
pub each_elaboration : law.ElaborationsWellTyped
each_elaboration units fine derived own u e =
    elaborated units fine (each_weaker (λ v d. unit_formed d.text d.tokens v d.are_tokens d.is_unit) derived) own u e
