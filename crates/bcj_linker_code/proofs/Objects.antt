-- Objects, one behind the other.
use Rattle.std.proofs.Common.{◌≡◌, ℕ, ◌+◌, ◌<◌, ◌≤◌, List, [], ◌∷◌, ◌++◌, length, get_or, take, drop, refl, sym, ap, subst, ◌∙◌, append_assoc, append-nil}
use Rattle.std.proofs.lemmas.List.{drop_more, drop_all, drop-drop}
use Rattle.std.proofs.lemmas.List.Elements.{All-head, All-tail}
use Rattle.bcj_elf.specs.Plain.{plain}
use Rattle.bcj_elf.specs.Rules.{IsObject}
use Rattle.bcj_hier_rules.specs.Shapes.{Named}
use Rattle.bcj_layout_rules.specs.Rows.{Classes}
use Rattle.bcj_linker_rules.specs.Memory.{code_words}
use Rattle.bcj_linker_objects.specs.declared.gathered.GatheredObject.{GatheredObject}
use Rattle.bcj_linker_objects.specs.Gathering.{linked_in}
use Rattle.bcj_linker_code.specs.Objects.{AreObjects}
use Rattle.bcj_linker_code.specs.Relocating.{object_code}

-- the first of objects that fit classes
record FirstFits (cs : Classes) (o : GatheredObject) (os : List GatheredObject) : Type 0 where
  pub formed : IsObject (plain o.object)
  pub count : length (take o.classes cs) ≡ o.classes
  pub others : AreObjects (drop o.classes cs) os

first_fits : (cs : Classes) (o : GatheredObject) (os : List GatheredObject) → AreObjects cs (o ∷ os) → FirstFits cs o os
first_fits cs o os h =
    let counted = h.counted in
    record {
      formed = All-head (λ g. IsObject (plain g.object)) o os h.formed;
      count = cc;
      others = record { formed = All-tail (λ g. IsObject (plain g.object)) o os h.formed; counted = cc };
    }

-- Objects up to an index are put behind words, where `first` classes are theirs. The objects that are left fit the classes that are left.
pub record ArePut (cs : Classes) (main : Named) (objects : List GatheredObject) (before words : List ℕ) (index first : ℕ) : Type 0 where
  pub left : AreObjects (drop first cs) (drop index objects)
  pub whole : words ++ code_words cs main first (linked_in (drop index objects) (drop first cs)) ≡ before ++ code_words cs main 0 (linked_in objects cs)

-- before the first
pub none_put : (cs : Classes) (main : Named) (objects : List GatheredObject) (before : List ℕ) → AreObjects cs objects → ArePut cs main objects before before 0 0
none_put cs main objects before h = record { left = h; whole = refl }

-- the next object is well formed
pub next_formed : (cs : Classes) (main : Named) (objects : List GatheredObject) (before words : List ℕ) (index first : ℕ) (o : GatheredObject)
    → index < length objects → o ≡ get_or objects index o → ArePut cs main objects before words index first → IsObject (plain o.object)
next_formed cs main objects before words index first o lt is h =
    let e : drop index objects ≡ o ∷ drop (index + 1) objects = drop_more objects index o lt ∙ ap (λ p. p ∷ drop (index + 1) objects) (sym is) in
    (first_fits (drop first cs) o (drop (index + 1) objects) (subst (AreObjects (drop first cs)) e h.left)).formed

-- the code of objects is that of the first one, and then that of the others
next_code : (cs : Classes) (main : Named) (ds : Classes) (o : GatheredObject) (os : List GatheredObject) (first : ℕ) → length (take o.classes ds) ≡ o.classes
    → code_words cs main first (linked_in (o ∷ os) ds) ≡ object_code cs main first (plain o.object) ++ code_words cs main (first + o.classes) (linked_in os (drop o.classes ds))
next_code cs main ds o os first count = ap (λ n. object_code cs main first (plain o.object) ++ code_words cs main (first + n) (linked_in os (drop o.classes ds))) count

-- one object more
pub one_put : (cs : Classes) (main : Named) (objects : List GatheredObject) (before words more : List ℕ) (index first later : ℕ) (o : GatheredObject)
    → index < length objects → o ≡ get_or objects index o → more ≡ words ++ object_code cs main first (plain o.object) → later ≡ first + o.classes
    → ArePut cs main objects before words index first → ArePut cs main objects before more (index + 1) later
one_put cs main objects before words more index first later o lt is put sum h =
    let rest : List GatheredObject = drop (index + 1) objects in
    let e : drop index objects ≡ o ∷ rest = drop_more objects index o lt ∙ ap (λ p. p ∷ rest) (sym is) in
    let fits = first_fits (drop first cs) o rest (subst (AreObjects (drop first cs)) e h.left) in
    let classes : drop o.classes (drop first cs) ≡ drop later cs = drop-drop o.classes first cs ∙ ap (λ n. drop n cs) (sym sum) in
    let here : List ℕ = object_code cs main first (plain o.object) in
    let next : code_words cs main first (linked_in (drop index objects) (drop first cs)) ≡ here ++ code_words cs main later (linked_in rest (drop later cs)) =
    ap (λ os. code_words cs main first (linked_in os (drop first cs))) e ∙ next_code cs main (drop first cs) o rest first fits.count
    ∙ ap (λ n. here ++ code_words cs main n (linked_in rest (drop o.classes (drop first cs)))) (sym sum) ∙ ap (λ ds. here ++ code_words cs main later (linked_in rest ds)) classes in
    record {
      left = subst (λ ds. AreObjects ds rest) classes fits.others;
      whole =
          ap (λ ws. ws ++ code_words cs main later (linked_in rest (drop later cs))) put ∙ append_assoc words here _ ∙ ap (λ ws. words ++ ws) (sym next) ∙ h.whole;
    }

-- all are put
pub all_put : (cs : Classes) (main : Named) (objects : List GatheredObject) (before words : List ℕ) (index first : ℕ) → length objects ≤ index
    → ArePut cs main objects before words index first → words ≡ before ++ code_words cs main 0 (linked_in objects cs)
all_put cs main objects before words index first le h =
    let e : drop index objects ≡ [] = drop_all index objects le in
    let whole = h.whole in
    let none : code_words cs main first (linked_in (drop index objects) (drop first cs)) ≡ [] = rw e refl in
    sym (append-nil words) ∙ ap (λ ws. words ++ ws) (sym none) ∙ whole
