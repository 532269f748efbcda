-- Whether one of the items of a list has something, in a loop over the list.
use Rattle.std.proofs.Common.{◌≡◌, ◌<◌, ◌≤◌, ◌+◌, ℕ, zero, suc, List, [], ◌∷◌, map, length, drop, get_or, Bool, true, false, inl, inr, sym, refl, ap, subst, ◌∙◌, add-one, arith}
use Rattle.std.proofs.Math.Seq.{drop-cons}
use Rattle.std.specs.List.{Contains}
use Rattle.bcj_decl_graph.proofs.Membership.{first_or_other, none_in_nil}
use Rattle.std.proofs.lemmas.List.Elements.{Contains-append_right, Contains-append_left, Contains-push}
use Rattle.bcj_decl_head_faults.specs.Lacks.{SomeOf, AnswersWhether}

-- the list at an index
parts : {X : Type 0} (xs : List X) (i : ℕ) (x : X) → i < length xs → x ≡ get_or xs i x → drop i xs ≡ x ∷ drop (suc i) xs
parts xs i x inside is = drop-cons xs i x inside ∙ ap (λ y. y ∷ drop (suc i) xs) (sym is)

-- what the rest of the list has the whole has
pub some_in_rest : {X : Type 0} (P : X → Type 0) (xs : List X) (i : ℕ) → SomeOf P (drop i xs) → SomeOf P xs
some_in_rest P xs zero h = h
some_in_rest P [] (suc i) h = h
some_in_rest P (x ∷ xs) (suc i) h = inr (some_in_rest P xs i h)

pub some_here : {X : Type 0} (P : X → Type 0) (xs : List X) (i : ℕ) (x : X) → i < length xs → x ≡ get_or xs i x → P x → SomeOf P xs
some_here P xs i x inside is h =
    let Q : List _ → Type 0 = λ l. SomeOf P l in
    some_in_rest P xs i (subst Q (sym (parts xs i x inside is)) (inl h))

pub some_next : {X : Type 0} (P : X → Type 0) (xs : List X) (i : ℕ) (x : X) → i < length xs → x ≡ get_or xs i x → (P x → ⊥) → (SomeOf P xs → SomeOf P (drop i xs)) → SomeOf P xs → SomeOf P (drop (i + 1) xs)
some_next {X} P xs i x inside is none before h =
    let Q : List X → Type 0 = λ l. SomeOf P l in
    let R : ℕ → Type 0 = λ n. SomeOf P (drop n xs) in
    let rest : SomeOf P (x ∷ drop (suc i) xs) = subst Q (parts xs i x inside is) (before h) in
    subst R (sym (add-one i)) (elim rest [ inl it ↦ absurd (none it) | inr other ↦ other ])

drop-end : {X : Type 0} (xs : List X) (i : ℕ) → length xs ≤ i → drop i xs ≡ []
drop-end [] zero h = refl
drop-end [] (suc i) h = refl
drop-end (x ∷ xs) zero h = absurd (omega arith)
drop-end (x ∷ xs) (suc i) h = drop-end xs i (omega arith)

pub some_end : {X : Type 0} (P : X → Type 0) (xs : List X) (i : ℕ) → length xs ≤ i → (SomeOf P xs → SomeOf P (drop i xs)) → SomeOf P xs → ⊥
some_end {X} P xs i past before h =
    let Q : List X → Type 0 = λ l. SomeOf P l in
    subst Q (drop-end xs i past) (before h)

pub some-map : {X Y : Type 0} (P : Y → Type 0) (f : X → Y) (xs : List X) → SomeOf (λ x. P (f x)) xs → SomeOf P (map f xs)
some-map P f [] h = h
some-map P f (x ∷ xs) (inl h) = inl h
some-map P f (x ∷ xs) (inr h) = inr (some-map P f xs h)

pub some-unmap : {X Y : Type 0} (P : Y → Type 0) (f : X → Y) (xs : List X) → SomeOf P (map f xs) → SomeOf (λ x. P (f x)) xs
some-unmap P f [] h = h
some-unmap P f (x ∷ xs) (inl h) = inl h
some-unmap P f (x ∷ xs) (inr h) = inr (some-unmap P f xs h)

-- the item that has it
pub record Holding {X : Type 0} (P : X → Type 0) (xs : List X) : Type 0 where
  pub item : X
  pub among : Contains xs item
  pub has_it : P item

holding_further : {X : Type 0} (P : X → Type 0) (x : X) (xs : List X) → Holding P xs → Holding P (x ∷ xs)
holding_further P x xs h = record { item = h.item; among = Contains-append_right (x ∷ []) xs h.item h.among; has_it = h.has_it }

pub holding : {X : Type 0} (P : X → Type 0) (xs : List X) → SomeOf P xs → Holding P xs
holding P [] h = absurd h
holding P (x ∷ xs) (inl h) = record { item = x; among = Contains-append_left (x ∷ []) xs x (Contains-push [] x); has_it = h }
holding P (x ∷ xs) (inr h) = holding_further P x xs (holding P xs h)

pub some_contained : {X : Type 0} (P : X → Type 0) (xs : List X) (x : X) → Contains xs x → P x → SomeOf P xs
some_contained P [] x inside h = none_in_nil x inside
some_contained P (y ∷ ys) x inside h =
    elim (first_or_other y ys x inside) [ inl it ↦ inl (subst P (sym it) h) | inr other ↦ inr (some_contained P ys x other h) ]

pub decided : {P Q : Type 0} (b : Bool) → (P → Q) → (Q → P) → AnswersWhether b P → AnswersWhether b Q
decided true f g d = f d
decided false f g d = λ q. d (g q)

-- the same at an index
pub some_at : {X : Type 0} (P : X → Type 0) (xs : List X) (i : ℕ) (d : X) → i < length xs → P (get_or xs i d) → SomeOf P xs
some_at {X} P xs i d inside h =
    let Q : List X → Type 0 = λ l. SomeOf P l in
    some_in_rest P xs i (subst Q (sym (drop-cons xs i d inside)) (inl h))

pub if_true : {P : Type 0} (b : Bool) → b ≡ true → AnswersWhether b P → P
if_true true e d = d
if_true false e d = cc

pub if_false : {P : Type 0} (b : Bool) → b ≡ false → AnswersWhether b P → P → ⊥
if_false false e d = d
if_false true e d = cc
