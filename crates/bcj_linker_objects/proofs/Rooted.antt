-- Object stands first, also where objects follow boot.
use Rattle.std.proofs.Common.{◌≡◌, ℕ, suc, ◌+◌, ◌<◌, Bool, true, List, [], ◌∷◌, ◌++◌, length, map, take, drop, get_or, Option, None, Some, refl, sym, ap, subst, ◌∙◌, append_assoc, arith}
use Rattle.std.specs.Prelude.{slice_get, is_some}
use Rattle.std.specs.List.{list_all, list_any, position}
use Rattle.std.proofs.lemmas.List.{take_more, take-append-drop, length-take-le, get_or-take}
use Rattle.std.proofs.lemmas.List.Quantifiers.{position-Some}
use Rattle.std.proofs.lemmas.Option.{slice_get_within, get_or_from_slice_get}
use Rattle.std.proofs.lemmas.Bool.{and_from}
use Rattle.std.proofs.lemmas.List.Folds.{list_all-append, list_any_at}
use Rattle.bcj_symbolic_trees.specs.declared.class_tree.ClassHead.{ClassHead}
use Rattle.bcj_hier_rules.specs.Shapes.{Named}
use Rattle.bcj_hier_rules.specs.Heads.{is_placed, is_called, number_of, AreDistinct, IsFirstRepeat, IsRooted, max_types}
use Rattle.bcj_layout_rules.specs.Rows.{Classes}
use Rattle.bcj_linker_rules.specs.Memory.{Linked, classes_of}
use Rattle.bcj_linker_objects.specs.declared.gathered.GatheredObject.{GatheredObject}
use Rattle.bcj_linker_objects.specs.declared.gathered.Gathered.{Gathered}
use Rattle.bcj_linker_objects.specs.declared.gathering.Gathering.{Gathering}
use Rattle.bcj_linker_objects.specs.Objects.{IsLinked, AreLinked}
use Rattle.bcj_linker_objects.specs.Names.{heads_in}
use Rattle.bcj_linker_objects.specs.Gathering.{linked_in, linked_of}
use Rattle.bcj_linker_objects.specs.declared.stop.LinkTotal.{LinkTotal}
use Rattle.bcj_linker_objects.specs.declared.stop.LinkTotal.TheVariants.{Types, Image}
use Rattle.bcj_linker_objects.specs.declared.stop.LinkStop.{LinkStop}
use Rattle.bcj_linker_objects.specs.declared.stop.LinkStop.TheVariants.{Malformed, Duplicate, TooLarge, NoMemory}
use Rattle.bcj_linker_objects.specs.Steps.{Gathers, IsFinished, IsTooMany, IsFinishStop}
use Rattle.bcj_linker_objects.specs.Stops.{IsTooLarge, IsStopOf, IsStop}
use Rattle.bcj_linker_objects.proofs.Places.{some_position}
use Rattle.bcj_linker_objects.proofs.Damage.{one_object}
use Rattle.bcj_linker_objects.proofs.Placed.{linked_placed}
use Rattle.bcj_linker_objects.proofs.Noted.{heads_in-append}
use Rattle.bcj_linker_objects.proofs.Taken.{count, each_counted, gathered_classes}

-- two lists of such heads
both_placed : (hs ks : List ClassHead) → list_all is_placed hs ≡ true → list_all is_placed ks ≡ true → list_all is_placed (hs ++ ks) ≡ true
both_placed hs ks h k = list_all-append is_placed hs ks ∙ and_from (list_all is_placed hs) (list_all is_placed ks) h k

-- exactly Object and the interfaces of all objects have no superclass
all_placed : (all : List (List ℕ)) (ls : List Linked) → AreLinked all ls → list_all is_placed (heads_in (classes_of ls)) ≡ true
all_placed [] [] are = refl
all_placed [] (l ∷ ls) are = absurd are
all_placed (b ∷ all) [] are = absurd are
all_placed (b ∷ all) (l ∷ ls) are =
    ap (λ (hs : List ClassHead). list_all is_placed hs) (heads_in-append l.classes (classes_of ls))
    ∙ both_placed (heads_in l.classes) (heads_in (classes_of ls)) (linked_placed b l are.0) (all_placed all ls are.1)

-- more heads keep the root
rooted_more : (hs ks : List ClassHead) → IsRooted hs → list_all is_placed ks ≡ true → IsRooted (hs ++ ks)
rooted_more hs ks root placed = record {
  top = root.top;
  others = root.others ++ ks;
  first = ap (λ (l : List ClassHead). l ++ ks) root.first;
  named = root.named;
  class = root.class;
  alone = root.alone;
  placed = both_placed hs ks root.placed placed;
}

-- the root of boot is that of all
rooted_list : (boot : List ℕ) (objects : List (List ℕ)) (l : Linked) (ls : List Linked) → IsLinked boot l → IsRooted (heads_in l.classes) → AreLinked (boot ∷ objects) ls → IsRooted (heads_in (classes_of ls))
rooted_list boot objects l [] is root are = absurd are
rooted_list boot objects l (k ∷ ls) is root are =
    let here : IsRooted (heads_in k.classes) = subst (λ (j : Linked). IsRooted (heads_in j.classes)) (one_object boot l k is are.0) root in
    subst IsRooted (sym (heads_in-append k.classes (classes_of ls))) (rooted_more (heads_in k.classes) (heads_in (classes_of ls)) here (all_placed objects ls are.1))

-- the classes that are gathered are rooted as those of boot are
pub rooted : (boot : List ℕ) (objects : List (List ℕ)) (l : Linked) (g : Gathering) → IsLinked boot l → IsRooted (heads_in l.classes) → Gathers (boot ∷ objects) g → IsRooted (heads_in g.classes)
rooted boot objects l g is root gathers =
    subst (λ (cs : Classes). IsRooted (heads_in cs)) (gathered_classes (boot ∷ objects) g gathers) (rooted_list boot objects l (linked_in g.objects g.classes) is root gathers.linked)

-- ---- turns

module _ {A : Type 0} (xs : List A) (i : ℕ) (x : A) (is : slice_get xs i ≡ Some x) where
  -- the front with the item at a place
  pub one_further : take (i + 1) xs ≡ take i xs ++ x ∷ []
  one_further = take_more xs i x (slice_get_within xs i x is) ∙ ap (λ (y : A). take i xs ++ y ∷ []) (get_or_from_slice_get xs i x x is)

  -- the list around that item
  pub around_place : take i xs ++ x ∷ drop (i + 1) xs ≡ xs
  around_place =
      sym (append_assoc (take i xs) (x ∷ []) (drop (i + 1) xs))
      ∙ ap (λ (l : List A). l ++ drop (i + 1) xs) (sym one_further)
      ∙ take-append-drop (i + 1) xs

  -- the front before it
  pub length_before : length (take i xs) ≡ i
  length_before = let within : i < length xs = slice_get_within xs i x is in length-take-le i xs (omega arith)

-- ---- the whole

-- boot and those before are as many as the number says
counted : (objects : List (List ℕ)) (index : ℕ) (bytes : List ℕ) (number : ℕ) → slice_get objects index ≡ Some bytes → number ≡ index + 1 → suc (length (take index objects)) ≡ number
counted objects index bytes number is n = let before : length (take index objects) ≡ index = length_before objects index bytes is in omega arith

-- the object behind those before is taken in
pub further : (boot : List ℕ) (objects : List (List ℕ)) (index : ℕ) (bytes : List ℕ) (number : ℕ) (g new : Gathering) → slice_get objects index ≡ Some bytes → number ≡ index + 1
    → ((all : List (List ℕ)) → length all ≡ number → Gathers all g → Gathers (all ++ bytes ∷ []) new)
    → Gathers (boot ∷ take index objects) g → Gathers (boot ∷ take (index + 1) objects) new
further boot objects index bytes number g new is n add gathers =
    subst (λ (l : List (List ℕ)). Gathers (boot ∷ l) new) (sym (one_further objects index bytes is)) (add (boot ∷ take index objects) (counted objects index bytes number is n) gathers)

-- the object behind those before is refused
pub refused : (boot : List ℕ) (objects : List (List ℕ)) (index : ℕ) (bytes : List ℕ) (number : ℕ) (g : Gathering) (e : LinkStop) → slice_get objects index ≡ Some bytes → number ≡ index + 1
    → ((all others : List (List ℕ)) → length all ≡ number → Gathers all g → IsStopOf (all ++ bytes ∷ others) e)
    → Gathers (boot ∷ take index objects) g → IsStopOf (boot ∷ objects) e
refused boot objects index bytes number g e is n add gathers =
    subst (λ (l : List (List ℕ)). IsStopOf (boot ∷ l) e) (around_place objects index bytes is)
    (add (boot ∷ take index objects) (drop (index + 1) objects) (counted objects index bytes number is n) gathers)

-- heads that differ have no first repeat
pub no_repeat : (heads : List ClassHead) (first second : ℕ) (name : Named) → AreDistinct heads → IsFirstRepeat heads first second name → ⊥
no_repeat heads first second name are r =
    let p : ClassHead → Bool = is_called name in
    let place = position-Some p heads first r.head r.earlier in
    let front : List ClassHead = take second heads in
    let within : second < length heads = slice_get_within heads second r.head r.later in
    let len : length front ≡ second = length-take-le second heads (omega arith) in
    let here : p (get_or front first r.head) ≡ true = ap p (get_or-take second heads first r.head r.apart) ∙ place.1 in
    let any : list_any p front ≡ true = list_any_at p front first r.head (omega (arith, r.apart)) here in
    let none : number_of front r.head.name ≡ None = are front r.head (drop (second + 1) heads) (sym (around_place heads second r.head r.later)) in
    let none_named : position p front ≡ None = subst (λ (q : Named). position (is_called q) front ≡ None) r.named none in
    let some : is_some (position p front) ≡ true = some_position p front ∙ any in
    let nowhere : Option ℕ = None in
    let no : is_some nowhere ≡ true = subst (λ (o : Option ℕ). is_some o ≡ true) none_named some in
    cc

-- there are too many types
too_large : (boot : List ℕ) (objects : List (List ℕ)) (g : Gathering) → Gathers (boot ∷ objects) g → (what : LinkTotal) → IsTooMany g what → IsTooLarge (boot ∷ objects) what
too_large boot objects g gathers Types h =
    let same : g.classes ≡ classes_of (linked_in g.objects g.classes) = sym (gathered_classes (boot ∷ objects) g gathers) in
    record {
      objects = linked_in g.objects g.classes;
      linked = gathers.linked;
      distinct = subst (λ (cs : Classes). AreDistinct (heads_in cs)) same gathers.distinct;
      many = subst (λ (cs : Classes). max_types < length cs) same h;
    }
too_large boot objects g gathers Image h = h

-- why the hierarchy isn't made
pub finish_stops : (boot : List ℕ) (objects : List (List ℕ)) (g : Gathering) → Gathers (boot ∷ objects) g → (e : LinkStop) → IsFinishStop g e → IsStop boot objects e
finish_stops boot objects g gathers (Malformed object at) h = absurd h
finish_stops boot objects g gathers (Duplicate name first second) h = absurd h
finish_stops boot objects g gathers (TooLarge what) h = too_large boot objects g gathers what h
finish_stops boot objects g gathers NoMemory h = h

-- what is finished has the objects that were gathered
finished_linked : (g : Gathering) (new : Gathered) → IsFinished g new → linked_of new ≡ linked_in g.objects g.classes
finished_linked g new is =
    ap (λ (os : List GatheredObject). linked_in os new.records.classes) is.objects ∙ ap (λ (cs : Classes). linked_in g.objects cs) is.classes

-- their numbers of classes
pub finished_counts : (all : List (List ℕ)) (g : Gathering) → Gathers all g → (new : Gathered) → IsFinished g new → map count new.objects ≡ map (λ (l : Linked). length l.classes) (linked_of new)
finished_counts all g gathers new is =
    ap (λ (os : List GatheredObject). map count os) is.objects
    ∙ each_counted g.objects g.classes gathers.counted
    ∙ ap (λ (ls : List Linked). map (λ (l : Linked). length l.classes) ls) (sym (finished_linked g new is))

-- and their classes in order
pub finished_classes : (all : List (List ℕ)) (g : Gathering) → Gathers all g → (new : Gathered) → IsFinished g new → new.records.classes ≡ classes_of (linked_of new)
finished_classes all g gathers new is = is.classes ∙ sym (gathered_classes all g gathers) ∙ ap (λ (ls : List Linked). classes_of ls) (sym (finished_linked g new is))

-- with the root of boot
pub finished_rooted : (boot : List ℕ) (objects : List (List ℕ)) (l : Linked) (g : Gathering) → IsLinked boot l → IsRooted (heads_in l.classes) → Gathers (boot ∷ objects) g → (new : Gathered) → IsFinished g new
    → IsRooted (heads_in new.records.classes)
finished_rooted boot objects l g is root gathers new finished =
    subst (λ (cs : Classes). IsRooted (heads_in cs)) (sym finished.classes) (rooted boot objects l g is root gathers)
