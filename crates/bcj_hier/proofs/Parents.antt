-- The superclass of a type that loads, by its number, and items of the preorder.
use Rattle.std.proofs.Common.{◌≡◌, ◌<◌, ◌≤◌, ℕ, zero, suc, true, false, List, [], ◌∷◌, ◌++◌, map, length, slice_get, Option, None, Some, IfSome, refl, sym, ◌∙◌, ap, subst, arith}
use Rattle.std.specs.Option.{option_map, option_to_list}
use Rattle.bcj_symbolic_trees.specs.declared.class_tree.ClassHead.{ClassHead}
use Rattle.bcj_hier_rules.specs.Shapes.{Named}
use Rattle.bcj_hier_rules.specs.Heads.{of_heads, head_shape, number_of, AreDistinct, max_types}
use Rattle.bcj_hier_rules.specs.declared.link_error.LinkError.TheVariants as error
use Rattle.bcj_hier_rules.specs.Loading.{load_error}
use Rattle.bcj_hier_soundness.proofs.Distinct.{heads_are_found, numbers_stand}
use Rattle.bcj_hier_soundness.proofs.Loads.{superclasses_load}
use Rattle.bcj_hier.specs.declared.parts.Part.{Part}
use Rattle.bcj_hier.specs.Numbers.{names_of, part_of, parts_of, name_at, all_parts, parts_at, superclass_place}
use Rattle.bcj_hier.specs.Loads.{loading_error}
use Rattle.bcj_hier.specs.Hierarchies.{superclass_at}
use Rattle.bcj_hier.specs.Walks.{AreClassesAt}
use Rattle.bcj_hier.proofs.Places.{numbered_is}
use Rattle.bcj_hier.proofs.ByParts.{name_is, name_found, head_there, missing_error}
use Rattle.bcj_hier.proofs.Children.{no_superclass}
use Rattle.bcj_hier.proofs.Sound.{parts_there}
use Rattle.std.proofs.lemmas.Option.{slice_get_within}

-- the number of the superclass that is named
pub record IsParent (heads : List ClassHead) (k : ℕ) (o : Option ℕ) : Type 0 where
  pub name : option_map (name_at heads) o ≡ superclass_at heads k
  pub there : IfSome o (λ p. p < length heads)

named_at : (heads : List ClassHead) (k : ℕ) (h : ClassHead) → slice_get heads k ≡ Some h → superclass_at heads k ≡ h.superclass
named_at heads k h e = ap (λ o. elim o [ None ↦ None | Some g ↦ g.superclass ]) e

by_number : (heads : List ClassHead) (k : ℕ) (name : Named) → superclass_at heads k ≡ Some name → load_error (of_heads heads) name ≡ None → (o : Option ℕ) → number_of heads name ≡ o → IsParent heads k o
by_number heads k name is loads None e = let w : Some error.NoClassDefFound ≡ None = sym (missing_error heads name e) ∙ loads in absurd cc
by_number heads k name is loads (Some j) e =
    let stands = numbers_stand heads name j e in
    record {
      name = ap (λ n. Some n) (name_found heads name j e) ∙ sym is;
      there = slice_get_within heads j stands.head stands.there;
    }

by_superclass : (heads : List ClassHead) → AreDistinct heads → (k : ℕ) (h : ClassHead) → slice_get heads k ≡ Some h → loading_error heads k ≡ None → (s : Option Named) → h.superclass ≡ s
    → IsParent heads k (superclass_place (map (part_of (names_of heads) false) (option_to_list s) ++ map (part_of (names_of heads) true) h.interfaces))
by_superclass heads distinct k h e loads None is =
    let P : Option ℕ → Type 0 = λ o. IsParent heads k o in
    subst P (sym (no_superclass heads h.interfaces)) (record { name = sym (named_at heads k h e ∙ is); there = tt })
by_superclass heads distinct k h e loads (Some name) is =
    let P : Option ℕ → Type 0 = λ o. IsParent heads k o in
    let found_it = heads_are_found heads k h distinct e in
    let named : name_at heads k ≡ h.name = name_is heads k h e in
    let above = superclasses_load (of_heads heads) h.name name (head_shape h) (sym (ap (load_error (of_heads heads)) named) ∙ loads) found_it is in
    subst P (sym (numbered_is heads name)) (by_number heads k name (named_at heads k h e ∙ is) above.0 (number_of heads name) refl)

-- the superclass of a type that loads is the first of its parts
pub parent_is : (heads : List ClassHead) → AreDistinct heads → (k : ℕ) → k < length heads → loading_error heads k ≡ None → (ps : List (List Part)) (own : List Part) (o : Option ℕ)
    → ps ≡ all_parts heads → own ≡ parts_at ps k → o ≡ superclass_place own → IsParent heads k o
parent_is heads distinct k few loads ps own o parted is e =
    let at = head_there heads k few in
    let P : Option ℕ → Type 0 = λ x. IsParent heads k x in
    let all : own ≡ parts_of (names_of heads) at.0 = is ∙ (ap (λ l. parts_at l k) parted ∙ parts_there heads k at.0 at.1) in
    subst P (sym (e ∙ ap superclass_place all)) (by_superclass heads distinct k at.0 at.1 loads at.0.superclass refl)

-- what stands in preorder is one of the types
pub one_of : (heads : List ClassHead) (order : List ℕ) (n j : ℕ) → AreClassesAt heads order → slice_get order n ≡ Some j → j < length heads
one_of heads [] n j all e = absurd cc
one_of heads (k ∷ order) zero j all e = let is : k ≡ j = cc in subst (λ x. x < length heads) is all.0.within
one_of heads (k ∷ order) (suc n) j all e = one_of heads order n j all.1 e

pub next_there : (heads : List ClassHead) (order : List ℕ) (n : ℕ) (o : Option ℕ) → AreClassesAt heads order → o ≡ slice_get order n → IfSome o (λ d. d < length heads)
next_there heads order n None all e = tt
next_there heads order n (Some j) all e = one_of heads order n j all (sym e)

pub few_there : (heads : List ClassHead) (o : Option ℕ) → length heads ≤ max_types → IfSome o (λ p. p < length heads) → IfSome o (λ p. p < 4096)
few_there heads None few h = tt
few_there heads (Some p) few h = let w : p < length heads = h in omega arith
