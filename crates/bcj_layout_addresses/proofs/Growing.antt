-- Lists that grow at their end, beside what is still to come.
use Rattle.std.proofs.Common.{◌≡◌, ◌+◌, ◌<◌, ℕ, zero, suc, List, [], ◌∷◌, ◌++◌, map, drop, length, slice_get, Some, refl, sym, ◌∙◌, ap, arith, add-one, append_assoc}
use Rattle.bcj_tables_rules.specs.declared.records.ClassRecord.{ClassRecord}
use Rattle.bcj_layout_rules.specs.Rows.{Classes}
use Rattle.bcj_layout_addresses.specs.Lists.{by_number}

-- ---- an element

-- within a list there is an element
pub there : {X : Type 0} (xs : List X) (k : ℕ) → k < length xs → (x : X) × (slice_get xs k ≡ Some x)
there [] k inside = absurd (omega arith)
there (x ∷ xs) zero inside = (x, refl)
there (x ∷ xs) (suc k) inside = there xs k (omega arith)

-- what is left from an element on begins with it
pub left_at : {X : Type 0} (xs : List X) (k : ℕ) (x : X) → slice_get xs k ≡ Some x → drop k xs ≡ x ∷ drop (suc k) xs
left_at [] k x e = cc
left_at (y ∷ ys) zero x e =
    let same : y ≡ x = cc in
    ap (λ z. z ∷ ys) same
left_at (y ∷ ys) (suc k) x e = left_at ys k x e

-- ---- one more

-- one more of what a function makes of the elements of a list
pub one_more : {X Y : Type 0} (f : X → Y) (xs : List X) (k : ℕ) (ys next : List Y) (y : Y) → k < length xs → next ≡ ys ++ y ∷ [] → ((x : X) → slice_get xs k ≡ Some x → y ≡ f x)
    → next ++ map f (drop (k + 1) xs) ≡ ys ++ map f (drop k xs)
one_more f xs k ys next y inside e it =
    let x = there xs k inside in
    let rest = map f (drop (suc k) xs) in
    rw add-one
    (ap (λ l. l ++ rest) e ∙ (append_assoc ys (y ∷ []) rest ∙ (ap (λ z. ys ++ z ∷ rest) (it x.0 x.1) ∙ ap (λ l. ys ++ map f l) (sym (left_at xs k x.0 x.1)))))

-- one more of the lists of classes
pub one_more_class : (words : ℕ → ClassRecord → List ℕ) (cs : Classes) (k : ℕ) (lists next : List (List ℕ)) (ws : List ℕ) → k < length cs → next ≡ lists ++ ws ∷ []
    → ((c : ClassRecord) → slice_get cs k ≡ Some c → ws ≡ words k c)
    → next ++ by_number words (k + 1) (drop (k + 1) cs) ≡ lists ++ by_number words k (drop k cs)
one_more_class words cs k lists next ws inside e it =
    let c = there cs k inside in
    let rest = by_number words (suc k) (drop (suc k) cs) in
    rw add-one
    (ap (λ l. l ++ rest) e
    ∙ (append_assoc lists (ws ∷ []) rest ∙ (ap (λ w. lists ++ w ∷ rest) (it c.0 c.1) ∙ ap (λ l. lists ++ by_number words k l) (sym (left_at cs k c.0 c.1)))))

-- ---- all classes

-- there are as many lists as classes
pub number_count : (words : ℕ → ClassRecord → List ℕ) (i : ℕ) (cs : Classes) → length (by_number words i cs) ≡ length cs
number_count words i [] = refl
number_count words i (c ∷ cs) = ap suc (number_count words (suc i) cs)

-- the list of a class
pub number_at : (words : ℕ → ClassRecord → List ℕ) (i : ℕ) (cs : Classes) (k : ℕ) (c : ClassRecord) → slice_get cs k ≡ Some c → slice_get (by_number words i cs) k ≡ Some (words (i + k) c)
number_at words i [] k c e = cc
number_at words i (x ∷ cs) zero c e =
    let same : x ≡ c = cc in
    let at : i ≡ i + 0 = omega arith in
    ap (λ y. Some (words i y)) same ∙ ap (λ n. Some (words n c)) at
number_at words i (x ∷ cs) (suc k) c e =
    let at : suc i + k ≡ i + suc k = omega arith in
    number_at words (suc i) cs k c e ∙ ap (λ n. Some (words n c)) at

-- where the numbers don't matter
pub number_map : (words : ℕ → ClassRecord → List ℕ) (f : ClassRecord → List ℕ) (i : ℕ) (cs : Classes) → ((k : ℕ) (c : ClassRecord) → slice_get cs k ≡ Some c → words (i + k) c ≡ f c)
    → by_number words i cs ≡ map f cs
number_map words f i [] each = refl
number_map words f i (c ∷ cs) each =
    let at : i ≡ i + 0 = omega arith in
    let first : words i c ≡ f c = ap (λ n. words n c) at ∙ each 0 c refl in
    let later : (k : ℕ) (d : ClassRecord) → slice_get cs k ≡ Some d → words (suc i + k) d ≡ f d = λ k d e. let next : suc i + k ≡ i + suc k = omega arith in ap (λ n. words n d) next ∙ each (suc k) d e in
    ap (λ l. l ∷ by_number words (suc i) cs) first ∙ ap (λ l. f c ∷ l) (number_map words f (suc i) cs later)
