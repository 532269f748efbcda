-- Slots put behind others one by one: those of a list that is itself put together so are put behind others as those of which it was.
use Rattle.std.proofs.Common.{◌≡◌, List, [], ◌∷◌, ◌++◌, Option, Some, None, Bool, true, false, ◌&&◌, cond, refl, sym, ◌∙◌, ap, ℕ, inl, inr}
use Rattle.std.proofs.lemmas.Bool.{cases_Bool, and_parts, and_from, or_cases, or_left, or_right}
use Rattle.std.specs.List.{fold, list_any}
use Rattle.std.specs.Str.{bytes_eq}
use Rattle.std.proofs.lemmas.List.Folds.{list_any-append}
use Rattle.bcj_hier_rules.specs.Shapes.{Named, Method, Shape}
use Rattle.bcj_hier_soundness.proofs.Names.{same_bytes, bytes_same}
use Rattle.bcj_layout_rules.specs.Members.{Slot, open_slot, private_slot, same_owner, same_slot, with_slot, with_method, with_own}

-- owners that compare as equal are equal, and the reverse
owner_is : (a b : Option Named) → same_owner a b ≡ true → a ≡ b
owner_is None None h = refl
owner_is (Some a) (Some b) h = ap Some (same_bytes a b h)
owner_is None (Some b) h = cc
owner_is (Some a) None h = cc

-- an owner compares as equal to itself
owner_same : (a : Option Named) → same_owner a a ≡ true
owner_same None = refl
owner_same (Some a) = bytes_same a

-- slots that compare as equal are equal, and the reverse
pub slot_is : (a b : Slot) → same_slot a b ≡ true → a ≡ b
slot_is a b h =
    let first : (bytes_eq a.name b.name ≡ true) × ((bytes_eq a.desc b.desc && same_owner a.owner b.owner) ≡ true) = and_parts _ _ h in
    let second : (bytes_eq a.desc b.desc ≡ true) × (same_owner a.owner b.owner ≡ true) = and_parts _ _ first.1 in
    let names : a.name ≡ b.name = same_bytes a.name b.name first.0 in
    let descs : a.desc ≡ b.desc = same_bytes a.desc b.desc second.0 in
    let owners : a.owner ≡ b.owner = owner_is a.owner b.owner second.1 in
    let slot : Named → List ℕ → Option Named → Slot = λ n d o. record { name = n; desc = d; owner = o } in
    ap (λ n. slot n a.desc a.owner) names ∙ (ap (λ d. slot b.name d a.owner) descs ∙ ap (λ o. slot b.name b.desc o) owners)

-- a slot compares as equal to itself
pub slot_same : (a : Slot) → same_slot a a ≡ true
slot_same a = and_from _ _ (bytes_same a.name) (and_from _ _ (bytes_same a.desc) (owner_same a.owner))

-- ---- slots among slots

abbrev pub has : Slot → List Slot → Bool
has x xs = list_any (same_slot x) xs

abbrev pub merged : List Slot → List Slot → List Slot
merged cur xs = fold with_slot cur xs

abbrev put : Slot → List Slot → Bool → List Slot
put x xs there = cond there xs (xs ++ x ∷ [])

-- a slot that is there changes nothing
pub with_old : (xs : List Slot) (x : Slot) → has x xs ≡ true → with_slot xs x ≡ xs
with_old xs x h = ap (put x xs) h

-- a slot that isn't there comes behind the others
pub with_new : (xs : List Slot) (x : Slot) → has x xs ≡ false → with_slot xs x ≡ xs ++ x ∷ []
with_new xs x h = ap (put x xs) h

-- what is among slots is among them with others behind
has_before : (x : Slot) (xs ys : List Slot) → has x xs ≡ true → has x (xs ++ ys) ≡ true
has_before x xs ys h = list_any-append (same_slot x) xs ys ∙ or_left _ _ h

-- what is among slots stays there
has_kept : (x y : Slot) (xs : List Slot) → has x xs ≡ true → has x (with_slot xs y) ≡ true
has_kept x y xs h =
    elim (cases_Bool (has y xs)) [
      | inl old ↦ ap (has x) (with_old xs y old) ∙ h
      | inr new ↦ ap (has x) (with_new xs y new) ∙ has_before x xs (y ∷ []) h
    ]

-- a slot that is put is there
has_put : (x : Slot) (xs : List Slot) → has x (with_slot xs x) ≡ true
has_put x xs =
    elim (cases_Bool (has x xs)) [
      | inl old ↦ ap (has x) (with_old xs x old) ∙ old
      | inr new ↦ ap (has x) (with_new xs x new) ∙ (list_any-append (same_slot x) xs (x ∷ []) ∙ or_right _ _ (or_left _ false (slot_same x)))
    ]

-- what is among slots is among them with others put behind
merged_keeps : (x : Slot) (cur ys : List Slot) → has x cur ≡ true → has x (merged cur ys) ≡ true
merged_keeps x cur [] h = h
merged_keeps x cur (y ∷ ys) h = merged_keeps x (with_slot cur y) ys (has_kept x y cur h)

-- what is put behind slots is among them then
merged_has : (x : Slot) (cur ys : List Slot) → has x ys ≡ true → has x (merged cur ys) ≡ true
merged_has x cur [] h = cc
merged_has x cur (y ∷ ys) h =
    elim (or_cases (same_slot x y) (has x ys) h) [
      | inl same ↦ merged_keeps x (with_slot cur y) ys (ap (λ z. has x (with_slot cur z)) (sym (slot_is x y same)) ∙ has_put x cur)
      | inr other ↦ merged_has x (with_slot cur y) ys other
    ]

-- putting one more behind
merged-append : (cur xs : List Slot) (x : Slot) → merged cur (xs ++ x ∷ []) ≡ with_slot (merged cur xs) x
merged-append cur [] x = refl
merged-append cur (y ∷ ys) x = merged-append (with_slot cur y) ys x

-- ---- steps that put slots behind others, whatever stands before

abbrev pub Commutes : (List Slot → List Slot) → Type 0
Commutes f = (cur xs : List Slot) → merged cur (f xs) ≡ f (merged cur xs)

-- to put a slot commutes
pub slot_commutes : (x : Slot) → Commutes (λ xs. with_slot xs x)
slot_commutes x cur xs =
    elim (cases_Bool (has x xs)) [
      | inl old ↦ ap (merged cur) (with_old xs x old) ∙ sym (with_old (merged cur xs) x (merged_has x cur xs old))
      | inr new ↦ ap (merged cur) (with_new xs x new) ∙ merged-append cur xs x
    ]

-- steps that commute do so one after another
pub fold_commutes : {A : Type 0} (f : List Slot → A → List Slot) → ((a : A) → Commutes (λ xs. f xs a)) → (items : List A) → Commutes (λ xs. fold f xs items)
fold_commutes f each [] cur xs = refl
fold_commutes f each (a ∷ rest) cur xs = fold_commutes f each rest cur (f xs a) ∙ ap (λ ys. fold f ys rest) (each a cur xs)

abbrev pub slot_by : Named → Method → Slot
slot_by class m = cond m.is_private (private_slot class m) (open_slot m)

-- so does a method's, where it isn't skipped
method_at : (class : Named) (m : Method) (skip : Bool) → Commutes (λ xs. cond skip xs (with_slot xs (slot_by class m)))
method_at class m true cur xs = refl
method_at class m false cur xs = slot_commutes (slot_by class m) cur xs

-- to put a type's own slots commutes
pub own_commutes : (s : Shape) → Commutes (λ xs. with_own xs s)
own_commutes s = fold_commutes (with_method s.head.name) (λ m cur xs. method_at s.head.name m _ cur xs) s.methods
