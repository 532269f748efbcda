-- Boot and an object as a mixture.
use Rattle.std.proofs.Common.{◌≡◌, ◌<◌, ◌≤◌, ℕ, List, [], ◌∷◌, ◌++◌, length, take, refl, sym, ◌∙◌, ap, subst, arith, append-nil}
use Rattle.bcj_elf.specs.Plain.{plain}
use Rattle.bcj_symbolic_measure.specs.Totals.{capped}
use Rattle.bcj_hier_rules.specs.Heads.{AreDistinct, max_types}
use Rattle.bcj_layout_rules.specs.Rows.{Classes}
use Rattle.bcj_layout_rules.specs.Places.{heap_at, max_image}
use Rattle.bcj_linker_rules.specs.Memory.{Linked, classes_of}
use Rattle.bcj_linker_objects.specs.declared.gathered.GatheredObject.{GatheredObject}
use Rattle.bcj_linker_objects.specs.Objects.{AreLinked}
use Rattle.bcj_linker_objects.specs.Names.{heads_in}
use Rattle.bcj_linker_objects.specs.Gathering.{linked_in}
use Rattle.bcj_object_boot.specs.Boot.{boot_object}
use Rattle.bcj_cli_showing.specs.Text.{show_text}
use Rattle.bcj_cli_shown.specs.Causes.{AreTwo, AreGathered, HasLargeImage}
use Rattle.bcj_cli_shown.specs.Shows.{IsMixed, IsShown}

pub record Mixes (bytes : List ℕ) (cs : Classes) (own : Linked) : Type 0 where
  pub boot : Linked
  pub mixed : IsMixed bytes boot own
  pub whole : boot.classes ++ own.classes ≡ cs

-- what is gathered of boot and an object is the classes of both
pub mixes : (bytes : List ℕ) (objects : List GatheredObject) (cs : Classes) (own : Linked) → AreGathered bytes objects cs → AreTwo (linked_in objects cs) own → Mixes bytes cs own
mixes bytes objects cs own g two =
    let Both : List Linked → Type 0 = λ ls. AreLinked (boot_object ∷ bytes ∷ []) ls in
    let linked : AreLinked (boot_object ∷ bytes ∷ []) (two.boot ∷ own ∷ []) = subst Both two.are g.linked in
    let whole : cs ≡ two.boot.classes ++ own.classes = g.whole ∙ (ap classes_of two.are ∙ ap (λ ys. two.boot.classes ++ ys) (append-nil own.classes)) in
    let Differ : Classes → Type 0 = λ c. AreDistinct (heads_in c) in
    let Few : Classes → Type 0 = λ c. length c ≤ max_types in
    record {
      boot = two.boot;
      mixed = record { boot_is = linked.0; own_is = linked.1.0; distinct = subst Differ whole g.distinct; few = subst Few whole g.few };
      whole = sym whole;
    }

-- two objects are two
pub are_two : (objects : List GatheredObject) (cs : Classes) → length objects ≡ 2 → (own : Linked) × AreTwo (linked_in objects cs) own
are_two [] cs e = cc
are_two (b ∷ []) cs e = cc
are_two (b ∷ o ∷ []) cs e = (_, record { boot = record { object = plain b.object; classes = take b.classes cs }; are = refl })
are_two (b ∷ o ∷ p ∷ os) cs e = let no : ⊥ = omega (arith, e) in elim no [ ]

-- a number that is past the limit where it is capped is past it, and one that isn't is as it is
pub past : (n size : ℕ) → n ≡ capped size → max_image < n → max_image < size
unfolding capped
past n size e h = omega (arith, e, h)

pub within : (n size : ℕ) → n ≡ capped size → n ≤ max_image → size ≤ max_image
unfolding capped
within n size e h = omega (arith, e, h)

pub shown : (bytes : List ℕ) (objects : List GatheredObject) (cs : Classes) (own : Linked) (text : List ℕ) → AreGathered bytes objects cs → AreTwo (linked_in objects cs) own
    → text ≡ show_text (heads_in cs) own.classes own.object.text → heap_at cs [] ≤ max_image → IsShown bytes text
shown bytes objects cs own text g two is fits =
    let m : Mixes bytes cs own = mixes bytes objects cs own g two in
    let Fits : Classes → Type 0 = λ c. heap_at c [] ≤ max_image in
    record {
      boot = m.boot;
      own = own;
      mixed = m.mixed;
      fits = subst Fits (sym m.whole) fits;
      is = is ∙ ap (λ c. show_text (heads_in c) own.classes own.object.text) (sym m.whole);
    }

pub large : (bytes : List ℕ) (objects : List GatheredObject) (cs : Classes) → length objects ≡ 2 → AreGathered bytes objects cs → max_image < heap_at cs [] → HasLargeImage bytes
large bytes objects cs e g h =
    let two : (own : Linked) × AreTwo (linked_in objects cs) own = are_two objects cs e in
    let m : Mixes bytes cs two.0 = mixes bytes objects cs two.0 g two.1 in
    let Large : Classes → Type 0 = λ c. max_image < heap_at c [] in
    record { boot = m.boot; own = two.0; mixed = m.mixed; large = subst Large (sym m.whole) h }

-- where two objects are linked, two are gathered
pub two_linked : (a b : List ℕ) (objects : List GatheredObject) (cs : Classes) → AreLinked (a ∷ b ∷ []) (linked_in objects cs) → length objects ≡ 2
two_linked a b [] cs l = elim l [ ]
two_linked a b (x ∷ []) cs l = elim l.1 [ ]
two_linked a b (x ∷ y ∷ []) cs l = refl
two_linked a b (x ∷ y ∷ z ∷ os) cs l = elim l.1.1 [ ]
