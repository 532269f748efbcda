-- The first name that stands twice.
use Rattle.std.proofs.Common.{◌≡◌, ◌<◌, ◌++◌, ◌∷◌, [], ◌⊎◌, ℕ, zero, suc, cond, List, take, slice_get, Option, None, Some, refl, sym, ◌∙◌, ap, subst, arith, inl, inr}
use Rattle.std.specs.Option.{option_map}
use Rattle.bcj_symbolic_trees.specs.declared.class_tree.ClassHead.{ClassHead}
use Rattle.bcj_hier_rules.specs.Shapes.{Named}
use Rattle.bcj_hier_rules.specs.Heads.{number_of, is_called, AreDistinct, IsFirstRepeat}
use Rattle.bcj_hier_soundness.proofs.Distinct.{position_first}
use Rattle.bcj_hier.specs.declared.stop.HierStop.{HierStop}
use Rattle.bcj_hier.specs.declared.stop.HierStop.TheVariants.{Duplicate, TooMany, NoMemory}
use Rattle.bcj_hier.specs.Stops.{IsStop, IsDuplicate}
use Rattle.bcj_hier.specs.Numbers.{names_of, numbered}
use Rattle.bcj_hier.proofs.Places.{numbered_is}
use Rattle.std.proofs.lemmas.Bool.{cases_Bool}

-- where one item is put behind a list, each item stands in the list or is that one
record AtEnd (xs before : List ClassHead) (h g : ClassHead) : Type 0 where
  whole : before ≡ xs
  same : h ≡ g

record Inside (xs before : List ClassHead) (g : ClassHead) : Type 0 where
  behind : List ClassHead
  whole : xs ≡ before ++ g ∷ behind

ends : (xs before : List ClassHead) (h g : ClassHead) (behind : List ClassHead) → xs ++ h ∷ [] ≡ before ++ g ∷ behind → Inside xs before g ⊎ AtEnd xs before h g
ends [] [] h g behind e = inr (record { whole = refl; same = cc })
ends [] (b ∷ []) h g behind e = cc
ends [] (b ∷ (c ∷ before)) h g behind e = cc
ends (x ∷ xs) [] h g behind e = let first : x ≡ g = cc in inl (record { behind = xs; whole = ap (λ y. y ∷ xs) first })
ends (x ∷ xs) (b ∷ before) h g behind e =
    let first : x ≡ b = cc in
    let rest : xs ++ h ∷ [] ≡ before ++ g ∷ behind = cc in
    elim (ends xs before h g behind rest) [
      | inl i ↦ inl (record { behind = i.behind; whole = ap (λ y. y ∷ xs) first ∙ ap (λ l. b ∷ l) i.whole })
      | inr i ↦ inr (record { whole = ap (λ l. b ∷ l) i.whole ∙ ap (λ y. y ∷ xs) (sym first); same = i.same })
    ]

distinct_more : (xs : List ClassHead) (h : ClassHead) → AreDistinct xs → number_of xs h.name ≡ None → AreDistinct (xs ++ h ∷ [])
distinct_more xs h d none = λ before g behind e. elim (ends xs before h g behind e) [
  | inl i ↦ d before g i.behind i.whole
  | inr i ↦ ap (λ l. number_of l g.name) i.whole ∙ (ap (λ (y : ClassHead). number_of xs y.name) (sym i.same) ∙ none)
]

take_one : (xs : List ClassHead) (k : ℕ) (h : ClassHead) → slice_get xs k ≡ Some h → take (suc k) xs ≡ take k xs ++ h ∷ []
take_one [] k h e = cc
take_one (x ∷ xs) zero h e = let same : x ≡ h = cc in ap (λ y. y ∷ []) same
take_one (x ∷ xs) (suc k) h e = ap (λ l. x ∷ l) (take_one xs k h e)

suc_of : (name : Named) (x : ClassHead) (xs : List ClassHead) → number_of (x ∷ xs) name ≡ cond (is_called name x) (Some 0) (option_map suc (number_of xs name))
suc_of name x xs = position_first (is_called name) x xs

-- the number of a name in front is its number in the whole
record Front (heads : List ClassHead) (name : Named) (first second : ℕ) : Type 0 where
  whole : number_of heads name ≡ Some first
  apart : first < second

front_by : (o : Option ℕ) (n : ℕ) → option_map suc o ≡ Some n → (k : ℕ) × (o ≡ Some k) × (n ≡ suc k)
front_by None n e = cc
front_by (Some k) n e = (k, refl, let s : suc k ≡ n = cc in sym s)

front : (heads : List ClassHead) (name : Named) (first second : ℕ) → number_of (take second heads) name ≡ Some first → Front heads name first second
front heads name first zero e = cc
front [] name first (suc second) e = cc
front (x ∷ xs) name first (suc second) e =
    elim (cases_Bool (is_called name x)) [
      | inl it ↦
          let at : Some 0 ≡ Some first = sym (ap (λ b. cond b (Some 0) (option_map suc (number_of (take second xs) name))) it) ∙ (sym (suc_of name x (take second xs)) ∙ e) in
          let zero_at : 0 ≡ first = cc in
          record { whole = suc_of name x xs ∙ (ap (λ b. cond b (Some 0) (option_map suc (number_of xs name))) it ∙ at); apart = omega arith }
      | inr other ↦
          let t : (k : ℕ) × (number_of (take second xs) name ≡ Some k) × (first ≡ suc k) =
          front_by (number_of (take second xs) name) first (sym (ap (λ b. cond b (Some 0) (option_map suc (number_of (take second xs) name))) other) ∙ (sym (suc_of name x (take second xs)) ∙ e)) in
          let f : Front xs name t.0 second = front xs name t.0 second t.1 in
          let below : t.0 < second = f.apart in
          let next : first ≡ suc t.0 = t.2 in
          record {
            whole = suc_of name x xs ∙ (ap (λ b. cond b (Some 0) (option_map suc (number_of xs name))) other ∙ (ap (option_map suc) f.whole ∙ ap Some (sym t.2)));
            apart = omega arith;
          }
    ]

pub first_repeat : (heads : List ClassHead) (names : List Named) (first second : ℕ) (h : ClassHead) → slice_get heads second ≡ Some h → names ≡ names_of (take second heads) → AreDistinct (take second heads)
    → Some first ≡ numbered names h.name → IsFirstRepeat heads first second h.name
first_repeat heads names first second h there named distinct e =
    let at : number_of (take second heads) h.name ≡ Some first = sym (e ∙ (ap (λ (ns : List Named). numbered ns h.name) named ∙ numbered_is (take second heads) h.name)) in
    let f : Front heads h.name first second = front heads h.name first second at in
    record { head = h; later = there; named = refl; earlier = f.whole; apart = f.apart; distinct = distinct }

names_more : (xs : List ClassHead) (h : ClassHead) → names_of (xs ++ h ∷ []) ≡ names_of xs ++ h.name ∷ []
names_more [] h = refl
names_more (x ∷ xs) h = ap (λ l. x.name ∷ l) (names_more xs h)

pub one_more_name : (heads : List ClassHead) (names after : List Named) (second : ℕ) (h : ClassHead) → slice_get heads second ≡ Some h → names ≡ names_of (take second heads) → after ≡ names ++ h.name ∷ []
    → after ≡ names_of (take (suc second) heads)
one_more_name heads names after second h there named e =
    e ∙ (ap (λ l. l ++ h.name ∷ []) named ∙ (sym (names_more (take second heads) h) ∙ ap names_of (sym (take_one heads second h there))))

pub one_more_distinct : (heads : List ClassHead) (names : List Named) (second : ℕ) (h : ClassHead) → slice_get heads second ≡ Some h → names ≡ names_of (take second heads) → AreDistinct (take second heads)
    → None ≡ numbered names h.name → AreDistinct (take (suc second) heads)
one_more_distinct heads names second h there named distinct e =
    let none : number_of (take second heads) h.name ≡ None = sym (e ∙ (ap (λ (ns : List Named). numbered ns h.name) named ∙ numbered_is (take second heads) h.name)) in
    let D : List ClassHead → Type 0 = λ l. AreDistinct l in
    subst D (sym (take_one heads second h there)) (distinct_more (take second heads) h distinct none)

pub stop_of : (heads : List ClassHead) (name : Named) (first second : ℕ) (e : HierStop) → IsDuplicate name first second e → IsFirstRepeat heads first second name → IsStop heads e
stop_of heads name first second (Duplicate n f s) d r =
    let F : ℕ → Type 0 = λ k. IsFirstRepeat heads k second name in
    let S : ℕ → Type 0 = λ k. IsFirstRepeat heads f k name in
    let N : Named → Type 0 = λ l. IsFirstRepeat heads f s l in
    subst N (sym d.0) (subst S (sym d.2) (subst F (sym d.1) r))
stop_of heads name first second TooMany d r = absurd d
stop_of heads name first second NoMemory d r = tt
