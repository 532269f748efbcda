-- Gathered objects as those of an image.
use Rattle.std.proofs.Common.{◌≡◌, ◌<◌, ◌≤◌, ℕ, List, [], ◌∷◌, length, map, drop, subst, arith}
use Rattle.std.specs.List.{All}
use Rattle.std.proofs.lemmas.List.Elements.{All-nil, All-cons}
use Rattle.bcj_elf.specs.Plain.{plain}
use Rattle.bcj_elf.specs.Rules.{IsObject}
use Rattle.bcj_symbolic_measure.specs.Totals.{capped}
use Rattle.bcj_hier_rules.specs.Shapes.{Named}
use Rattle.bcj_hier_rules.specs.Heads.{AreDistinct, max_types}
use Rattle.bcj_layout_rules.specs.Rows.{Classes}
use Rattle.bcj_layout_rules.specs.Places.{max_image}
use Rattle.bcj_linker_rules.specs.Memory.{Linked, classes_of}
use Rattle.bcj_linker_objects.specs.declared.gathered.GatheredObject.{GatheredObject}
use Rattle.bcj_linker_objects.specs.Objects.{AreLinked}
use Rattle.bcj_linker_objects.specs.Names.{heads_in}
use Rattle.bcj_linker_objects.specs.Gathering.{linked_in}
use Rattle.bcj_linker_code.specs.Objects.{AreObjects}
use Rattle.bcj_linker.specs.declared.image.Image.{Image}
use Rattle.bcj_linker.specs.Links.{IsMixture, IsImage}
use Rattle.bcj_linker.specs.Steps.{IsImageOf}

-- linked objects are well formed
pub are_formed : (all : List (List ℕ)) (objects : List GatheredObject) (cs : Classes) → AreLinked all (linked_in objects cs) → All (λ o. IsObject (plain o.object)) objects
are_formed all [] cs l = All-nil (λ o. IsObject (plain o.object))
are_formed [] (o ∷ os) cs l = elim l [ ]
are_formed (bytes ∷ all) (o ∷ os) cs l = All-cons (λ o. IsObject (plain o.object)) o os l.0.object (are_formed all os (drop o.classes cs) l.1)

pub are_objects : (all : List (List ℕ)) (objects : List GatheredObject) (cs : Classes) → AreLinked all (linked_in objects cs)
    → map (λ o. o.classes) objects ≡ map (λ l. length l.classes) (linked_in objects cs) → AreObjects cs objects
are_objects all objects cs l counted = record { formed = are_formed all objects cs l; counted = counted }

-- gathered objects are a mixture
pub is_mixture : (all : List (List ℕ)) (ls : List Linked) (cs : Classes) → cs ≡ classes_of ls → AreLinked all ls → AreDistinct (heads_in cs) → length cs ≤ max_types → IsMixture all ls
is_mixture all ls cs whole l distinct few =
    let Differ : Classes → Type 0 = λ c. AreDistinct (heads_in c) in
    let Few : Classes → Type 0 = λ c. length c ≤ max_types in
    record { linked = l; distinct = subst Differ whole distinct; few = subst Few whole few }

-- their image is that of their bytes
pub is_image : (boot : List ℕ) (objects : List (List ℕ)) (main : Named) (heap depth : ℕ) (ls : List Linked) (i : Image) → IsMixture (boot ∷ objects) ls → IsImageOf ls main heap depth i
    → IsImage boot objects main heap depth i
is_image boot objects main heap depth ls i mixture is = record {
  objects_are = ls;
  mixture = mixture;
  fits = is.fits;
  memory = is.memory;
  start = is.start;
  read_only = is.read_only;
  words = is.words;
  heap_at = is.heap_at;
  heap_words = is.heap_words;
  depth_is = is.depth_is;
  classes = is.classes;
  main_is = is.main_is;
}

-- a number that is past the limit where it is capped is past it, and one that isn't is as it is
pub past : (n size : ℕ) → n ≡ capped size → max_image < n → max_image < size
unfolding capped
past n size e h = omega (arith, e, h)

pub within : (n size : ℕ) → n ≡ capped size → n ≤ max_image → size ≤ max_image
unfolding capped
within n size e h = omega (arith, e, h)
