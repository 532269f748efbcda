-- The number of a class's row counts the types before it that load.
use Rattle.std.proofs.Common.{◌≡◌, refl, ap, sym, ◌∙◌, ◌<◌, ◌+◌, ℕ, zero, suc, Bool, true, false, cond, List, [], ◌∷◌, ◌++◌, map, filter, take, drop, length, position, Option, Some, None, arith, add-one, append_assoc, inl, inr, if◌then◌else◌}
use Rattle.std.specs.Option.{option_map}
use Rattle.std.specs.Str.{bytes_eq}
use Rattle.std.proofs.lemmas.Bool.{cases_Bool}
use Rattle.std.proofs.lemmas.List.{map-append}
use Rattle.bcj_symbolic_trees.specs.Types.{class_type}
use Rattle.bcj_tables_rules.specs.declared.records.ClassRecord.{ClassRecord}
use Rattle.bcj_hier_rules.specs.Shapes.{Named}
use Rattle.bcj_hier_rules.specs.Heads.{is_called, name_of, AreDistinct}
use Rattle.bcj_hier_rules.specs.Trees.{loads}
use Rattle.bcj_hier_soundness.proofs.Names.{same_bytes, bytes_same}
use Rattle.bcj_hier_soundness.proofs.Distinct.{position_first}
use Rattle.bcj_layout_rules.specs.Rows.{Classes, mixture_of, row_number}
use Rattle.bcj_layout_resolution.specs.Places.{heads_in}
use Rattle.bcj_layout_rows.proofs.RowLemmas.{classes_first}
use Rattle.bcj_layout_rows.proofs.ListLemmas.{position-made}

-- a name that doesn't pass is not among those that pass
not-passing : (p : Named → Bool) (name : Named) (xs : List Named) → p name ≡ false → position (bytes_eq name) (filter p xs) ≡ None
not-passing p name [] h = refl
not-passing p name (x ∷ xs) h = by (p x) refl (not-passing p name xs h)
  where
    differs : (d : Bool) → bytes_eq name x ≡ d → p x ≡ true → d ≡ false
    differs false e it = refl
    differs true e it = let wrong : true ≡ false = sym it ∙ (ap p (sym (same_bytes name x e)) ∙ h) in cc

    by : (b : Bool) → p x ≡ b → position (bytes_eq name) (filter p xs) ≡ None → position (bytes_eq name) (cond b (x ∷ filter p xs) (filter p xs)) ≡ None
    by true it rest =
        position_first (bytes_eq name) x (filter p xs)
        ∙ (ap (λ b. cond b (Some 0) (option_map suc (position (bytes_eq name) (filter p xs)))) (differs (bytes_eq name x) refl it) ∙ ap (option_map suc) rest)
    by false it rest = rest

-- names that are equal either way round
turned : (a b : Named) → bytes_eq a b ≡ false → bytes_eq b a ≡ false
turned a b h =
    elim (cases_Bool (bytes_eq b a)) [
      | inl it ↦ let wrong : true ≡ false = sym (ap (bytes_eq a) (same_bytes b a it) ∙ bytes_same a) ∙ h in cc
      | inr other ↦ other
    ]

-- where a list has no place for a test, its first fails and the others have none
none-parts : (d : Bool) (o : Option ℕ) → cond d (Some 0) (option_map suc o) ≡ None → (d ≡ false) × (o ≡ None)
none-parts true o h = cc
none-parts false None h = (refl, refl)
none-parts false (Some k) h = cc

-- a name that stands nowhere before has the number of those before that pass, where it passes
first-passing : (p : Named → Bool) (before : List Named) (name : Named) (behind : List Named) → position (λ x. bytes_eq x name) before ≡ None
    → position (bytes_eq name) (filter p (before ++ name ∷ behind)) ≡ (if p name then Some (length (filter p before)) else None)
first-passing p [] name behind h = by (p name) refl
  where
    by : (b : Bool) → p name ≡ b → position (bytes_eq name) (cond b (name ∷ filter p behind) (filter p behind)) ≡ (if b then Some 0 else None)
    by true it =
        position_first (bytes_eq name) name (filter p behind) ∙ ap (λ b. cond b (Some 0) (option_map suc (position (bytes_eq name) (filter p behind)))) (bytes_same name)
    by false it = not-passing p name behind it
first-passing p (b ∷ before) name behind h = by (p b) (first-passing p before name behind apart.1)
  where
    apart : (bytes_eq b name ≡ false) × (position (λ x. bytes_eq x name) before ≡ None)
    apart = none-parts (bytes_eq b name) (position (λ x. bytes_eq x name) before) (sym (position_first (λ x. bytes_eq x name) b before) ∙ h)

    more : (d : Bool) (n : ℕ) → option_map suc (if d then Some n else None) ≡ (if d then Some (suc n) else None)
    more true n = refl
    more false n = refl

    by : (d : Bool) → position (bytes_eq name) (filter p (before ++ name ∷ behind)) ≡ (if p name then Some (length (filter p before)) else None)
        → position (bytes_eq name) (cond d (b ∷ filter p (before ++ name ∷ behind)) (filter p (before ++ name ∷ behind))) ≡ (if p name then Some (length (cond d (b ∷ filter p before) (filter p before))) else None)
    by true h =
        position_first (bytes_eq name) b (filter p (before ++ name ∷ behind))
        ∙ (ap (λ d. cond d (Some 0) (option_map suc (position (bytes_eq name) (filter p (before ++ name ∷ behind))))) (turned b name apart.0)
        ∙ (ap (option_map suc) h ∙ more (p name) (length (filter p before))))
    by false h = h

-- ---- classes by their places

-- the class at a place, between those before and those behind
record Split (cs : Classes) (k : ℕ) : Type 0 where
  class : ClassRecord
  whole : cs ≡ take k cs ++ class ∷ drop (suc k) cs
  named : name_of (heads_in cs) (record { 0 = k }) ≡ class.head.name

-- each place of a list splits it
split : (cs : Classes) (k : ℕ) → k < length cs → Split cs k
split [] k h = absurd (omega arith)
split (c ∷ cs) zero h = record { class = c; whole = refl; named = refl }
split (c ∷ cs) (suc k) h =
    let rest : Split cs k = split cs k (omega arith) in
    record { class = rest.class; whole = ap (λ l. c ∷ l) rest.whole; named = rest.named }

-- where no name stands twice, a class's name stands nowhere before it
none-before : (cs : Classes) (k : ℕ) (s : Split cs k) → AreDistinct (heads_in cs) → position (λ x. bytes_eq x s.class.head.name) (map (λ c. c.head.name) (take k cs)) ≡ None
none-before cs k s distinct =
    position-made (λ (c : ClassRecord). c.head.name) (λ x. bytes_eq x s.class.head.name) (take k cs)
    ∙ (sym (position-made (λ (c : ClassRecord). c.head) (is_called s.class.head.name) (take k cs))
    ∙ distinct (heads_in (take k cs)) s.class.head (heads_in (drop (suc k) cs)) (ap heads_in s.whole ∙ map-append (λ (c : ClassRecord). c.head) (take k cs) (s.class ∷ drop (suc k) cs)))

-- the row of the class at a place
pub class-row : (cs : Classes) (k : ℕ) → AreDistinct (heads_in cs) → k < length cs
    → row_number cs (class_type (name_of (heads_in cs) (record { 0 = k })))
    ≡ (if loads (mixture_of cs) (name_of (heads_in cs) (record { 0 = k })) then Some (length (filter (loads (mixture_of cs)) (map (λ c. c.head.name) (take k cs)))) else None)
class-row cs k distinct inside =
    let s = split cs k inside in
    let p = loads (mixture_of cs) in
    let whole : map (λ (c : ClassRecord). c.head.name) cs ≡ map (λ (c : ClassRecord). c.head.name) (take k cs) ++ s.class.head.name ∷ map (λ (c : ClassRecord). c.head.name) (drop (suc k) cs) =
    ap (map (λ (c : ClassRecord). c.head.name)) s.whole ∙ map-append (λ (c : ClassRecord). c.head.name) (take k cs) (s.class ∷ drop (suc k) cs) in
    classes_first cs (name_of (heads_in cs) (record { 0 = k }))
    ∙ (ap (λ n. position (bytes_eq n) (filter p (map (λ (c : ClassRecord). c.head.name) cs))) s.named
    ∙ (ap (λ l. position (bytes_eq s.class.head.name) (filter p l)) whole
    ∙ (first-passing p (map (λ (c : ClassRecord). c.head.name) (take k cs)) s.class.head.name (map (λ (c : ClassRecord). c.head.name) (drop (suc k) cs)) (none-before cs k s distinct)
    ∙ ap (λ n. if p n then Some (length (filter p (map (λ (c : ClassRecord). c.head.name) (take k cs)))) else None) (sym s.named))))

-- ---- one class more

-- of those before
pub taken-step : (p : Named → Bool) (cs : Classes) (k : ℕ) → k < length cs
    → length (filter p (map (λ c. c.head.name) (take (k + 1) cs))) ≡ length (filter p (map (λ c. c.head.name) (take k cs))) + (if p (name_of (heads_in cs) (record { 0 = k })) then 1 else 0)
taken-step p cs k h = rw add-one (within cs k h)
  where
    counted : (d : Bool) (n m : ℕ) (x : Named) (xs ys : List Named) → length xs ≡ length ys + n → length (cond d (x ∷ xs) xs) ≡ length (cond d (x ∷ ys) ys) + n
    counted true n m x xs ys e = omega arith
    counted false n m x xs ys e = e

    alone : (d : Bool) (x : Named) → length (cond d (x ∷ []) []) ≡ 0 + (if d then 1 else 0)
    alone true x = refl
    alone false x = refl

    within : (cs : Classes) (k : ℕ) → k < length cs
        → length (filter p (map (λ c. c.head.name) (take (suc k) cs))) ≡ length (filter p (map (λ c. c.head.name) (take k cs))) + (if p (name_of (heads_in cs) (record { 0 = k })) then 1 else 0)
    within [] k h = absurd (omega arith)
    within (c ∷ cs) zero h = alone (p c.head.name) c.head.name
    within (c ∷ cs) (suc k) h =
        counted (p c.head.name) (if p (name_of (heads_in cs) (record { 0 = k })) then 1 else 0) 0 c.head.name (filter p (map (λ c. c.head.name) (take (suc k) cs))) (filter p (map (λ c. c.head.name) (take k cs)))
        (within cs k (omega arith))

-- and of those left
pub rows-step : (f : Named → Option ℕ) (cs : Classes) (k : ℕ) (rows next : List (Option ℕ)) → next ≡ rows ++ f (name_of (heads_in cs) (record { 0 = k })) ∷ [] → k < length cs
    → next ++ map (λ c. f c.head.name) (drop (k + 1) cs) ≡ rows ++ map (λ c. f c.head.name) (drop k cs)
rows-step f cs k rows next e h =
    ap (λ l. l ++ map (λ (c : ClassRecord). f c.head.name) (drop (k + 1) cs)) e
    ∙ (append_assoc rows (f (name_of (heads_in cs) (record { 0 = k })) ∷ []) (map (λ (c : ClassRecord). f c.head.name) (drop (k + 1) cs)) ∙ ap (λ l. rows ++ l) (sym left))
  where
    within : (cs : Classes) (k : ℕ) → k < length cs → map (λ c. f c.head.name) (drop k cs) ≡ f (name_of (heads_in cs) (record { 0 = k })) ∷ map (λ c. f c.head.name) (drop (suc k) cs)
    within [] k h = absurd (omega arith)
    within (c ∷ cs) zero h = refl
    within (c ∷ cs) (suc k) h = within cs k (omega arith)

    left : map (λ c. f c.head.name) (drop k cs) ≡ f (name_of (heads_in cs) (record { 0 = k })) ∷ map (λ c. f c.head.name) (drop (k + 1) cs)
    left = rw add-one (within cs k h)
