-- Why the next object is refused.
use Rattle.std.proofs.Common.{◌≡◌, ℕ, zero, suc, ◌<◌, List, [], ◌∷◌, ◌++◌, length, take, Some, refl, sym, ap, subst, ◌∙◌, arith}
use Rattle.std.specs.Prelude.{slice_get}
use Rattle.std.proofs.Math.Seq.{take-append_seam}
use Rattle.bcj_hier_rules.specs.Shapes.{Named}
use Rattle.bcj_hier_rules.specs.Heads.{AreDistinct}
use Rattle.bcj_layout_rules.specs.Rows.{Classes}
use Rattle.bcj_linker_rules.specs.Memory.{Linked, classes_of}
use Rattle.bcj_linker_objects.specs.declared.gathering.Gathering.{Gathering}
use Rattle.bcj_linker_objects.specs.declared.stop.LinkStop.{LinkStop}
use Rattle.bcj_linker_objects.specs.declared.stop.LinkStop.TheVariants.{Malformed, Duplicate, TooLarge, NoMemory}
use Rattle.bcj_linker_objects.specs.Objects.{IsLinked, AreLinked, IsBadObject}
use Rattle.bcj_linker_objects.specs.Names.{heads_in}
use Rattle.bcj_linker_objects.specs.Gathering.{linked_in}
use Rattle.bcj_linker_objects.specs.Steps.{HasSecond, IsNameStop, Gathers, IsReadStop}
use Rattle.bcj_linker_objects.specs.Stops.{IsMalformed, IsDuplicate, IsStopOf, IsStop}
use Rattle.bcj_linker_objects.proofs.Damage.{no_object_is_bad}
use Rattle.bcj_linker_objects.proofs.Taken.{gathered_classes, gathered_names, owner_more}

-- the item behind a front
behind_front : {A : Type 0} (front : List A) (x : A) (behind : List A) → slice_get (front ++ x ∷ behind) (length front) ≡ Some x
behind_front [] x behind = refl
behind_front (y ∷ front) x behind = behind_front front x behind

module _ (all : List (List ℕ)) (bytes : List ℕ) (others : List (List ℕ)) (g : Gathering) (gathers : Gathers all g) where
  abbrev whole : List (List ℕ)
  whole = all ++ bytes ∷ others

  abbrev so_far : List Linked
  so_far = linked_in g.objects g.classes

  -- those before the next one
  before_it : (number : ℕ) → length all ≡ number → AreLinked (take number whole) so_far
  before_it number n = subst (λ (l : List (List ℕ)). AreLinked l so_far) (sym (ap (λ k. take k whole) (sym n) ∙ take-append_seam all (bytes ∷ others))) gathers.linked

  -- the next one
  it : (number : ℕ) → length all ≡ number → slice_get whole number ≡ Some bytes
  it number n = ap (λ k. slice_get whole k) (sym n) ∙ behind_front all bytes others

  -- the names so far differ
  distinct_so_far : AreDistinct (heads_in (classes_of so_far))
  distinct_so_far = subst (λ (l : Classes). AreDistinct (heads_in l)) (sym (gathered_classes all g gathers)) gathers.distinct

  -- damage of the next one
  malformed : (number object at : ℕ) → length all ≡ number → object ≡ number → IsBadObject bytes at → IsMalformed whole object at
  malformed number object at n same bad =
      let len : length all ≡ object = n ∙ sym same in
      record {
        before = record { objects = so_far; linked = before_it object len; distinct = distinct_so_far };
        bytes = bytes;
        there = it object len;
        bad = bad;
      }

  -- the next one is damaged
  pub stops_reading : (number : ℕ) (e : LinkStop) → length all ≡ number → IsReadStop bytes number e → IsStopOf whole e
  stops_reading number (Malformed object at) n h = malformed number object at n h.0 h.1
  stops_reading number (Duplicate name first second) n h = absurd h
  stops_reading number (TooLarge what) n h = absurd h
  stops_reading number NoMemory n h = h

  -- a second class of a name in the next one
  duplicate : (number : ℕ) (l : Linked) (name : Named) (first second : ℕ) → length all ≡ number → IsLinked bytes l → HasSecond g l.classes number name first second → IsDuplicate whole name first second
  duplicate number l name first second n is h =
      let len : length all ≡ second = n ∙ sym h.number in
      record {
        before = so_far;
        linked = before_it second len;
        bytes = bytes;
        there = it second len;
        last = l;
        is = is;
        front = h.front;
        class = h.class;
        behind = h.behind;
        classes = h.split;
        named = h.named;
        distinct = subst (λ (cs : Classes). AreDistinct (heads_in (cs ++ h.front))) (sym (gathered_classes all g gathers)) (h.distinct (gathered_names all g gathers));
        earlier = sym (owner_more all g gathers name h.front number n) ∙ h.earlier;
      }

  -- the next one has a name that is taken
  pub stops_naming : (number : ℕ) (l : Linked) (e : LinkStop) → length all ≡ number → IsLinked bytes l → IsNameStop g l.classes number e → IsStopOf whole e
  stops_naming number l (Malformed object at) n is h = absurd h
  stops_naming number l (Duplicate name first second) n is h = duplicate number l name first second n is h
  stops_naming number l (TooLarge what) n is h = absurd h
  stops_naming number l NoMemory n is h = h

-- ---- boot isn't damaged

-- the same item
some_same : {A : Type 0} (x y : A) → Some x ≡ Some y → x ≡ y
some_same x y e = cc

-- a damaged object isn't boot
behind_boot : (boot : List ℕ) (objects : List (List ℕ)) (l : Linked) (object at : ℕ) → IsLinked boot l → IsMalformed (boot ∷ objects) object at → 0 < object
behind_boot boot objects l zero at is h =
    absurd (no_object_is_bad boot l at is (subst (λ (b : List ℕ). IsBadObject b at) (sym (some_same boot h.bytes h.there)) h.bad))
behind_boot boot objects l (suc n) at is h = omega arith

-- so a stop is one behind boot
pub stop_behind_boot : (boot : List ℕ) (objects : List (List ℕ)) (l : Linked) (e : LinkStop) → IsLinked boot l → IsStopOf (boot ∷ objects) e → IsStop boot objects e
stop_behind_boot boot objects l (Malformed object at) is h = (behind_boot boot objects l object at is h, h)
stop_behind_boot boot objects l (Duplicate name first second) is h = h
stop_behind_boot boot objects l (TooLarge what) is h = h
stop_behind_boot boot objects l NoMemory is h = h
