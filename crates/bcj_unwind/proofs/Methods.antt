-- The method with an address, where methods stand in order.
use Rattle.std.proofs.Common.{◌≡◌, ℕ, zero, suc, ◌<◌, ◌≤◌, List, [], ◌∷◌, Option, Some, None, true, false, ◌&&◌, length, get_or, leb, cond, refl, sym, ◌∙◌, ap, inl, inr, arith}
use Rattle.std.proofs.lemmas.Bool.{cases_Bool, le-leb, lt-leb, le-ltb, lt-ltb}
use Rattle.std.specs.List.{find, slice_get, AllWithin}
use Rattle.std.specs.List.Sorted.{IsNonDecreasingBy}
use Rattle.bcj_linker_rules.specs.Frames.{is_in}
use Rattle.bcj_unwind.specs.declared.ranges.MethodRanges.{MethodRanges}
use Rattle.bcj_unwind.specs.Orders.{StandFrom}

-- an address lies in no code that begins behind it
before : (first past p : ℕ) → p < first → is_in first past p ≡ false
before first past p less = simp (lt-leb first p less)

-- methods that begin behind an address don't have it
none_behind : (least p : ℕ) (ms : List MethodRanges) → StandFrom least ms → p < least → find (λ m. is_in m.first m.past p) ms ≡ None
none_behind least p [] stand less = refl
none_behind least p (m ∷ ms) stand less =
    let out : is_in m.first m.past p ≡ false = before m.first m.past p (omega arith) in
    simp out (none_behind m.past p ms stand.2 (omega arith))

-- ends are no less than where methods begin
end_from : (least : ℕ) (ms : List MethodRanges) (k : ℕ) (d : MethodRanges) → StandFrom least ms → k < length ms → least ≤ (get_or ms k d).past
end_from least [] k d stand below = absurd (omega arith)
end_from least (m ∷ ms) zero d stand below = omega arith
end_from least (m ∷ ms) (suc k) d stand below = let h = end_from m.past ms k d stand.2 (omega arith) in omega arith

-- the ends of methods rise
pub ends_rise : (least : ℕ) (ms : List MethodRanges) → StandFrom least ms → IsNonDecreasingBy (λ m. m.past) ms
ends_rise least [] stand i j d le below = absurd (omega arith)
ends_rise least (m ∷ ms) stand zero zero d le below = omega arith
ends_rise least (m ∷ ms) stand zero (suc j) d le below = end_from m.past ms j d stand.2 (omega arith)
ends_rise least (m ∷ ms) stand (suc i) zero d le below = absurd (omega arith)
ends_rise least (m ∷ ms) stand (suc i) (suc j) d le below = ends_rise m.past ms stand.2 i j d (omega arith) (omega arith)

-- the method, where it begins no later than the address
abbrev begun : ℕ → Option MethodRanges → Option MethodRanges
begun p None = None
begun p (Some m) = cond (leb m.first p) (Some m) None

-- the first method that ends behind the address is the one that has it, if one does
first_ahead : (least p : ℕ) (ms : List MethodRanges) (i : ℕ) → StandFrom least ms
    → AllWithin (λ m. m.past ≤ p) ms 0 i → AllWithin (λ m. p < m.past) ms i (length ms) → find (λ m. is_in m.first m.past p) ms ≡ begun p (slice_get ms i)
first_ahead least p [] i stand past later = refl
first_ahead least p (m ∷ ms) zero stand past later =
    let ahead : p < m.past = later zero m (omega arith) (omega arith) in
    elim (cases_Bool (leb m.first p)) [
      | inl so ↦ simp (so, lt-ltb p m.past ahead)
      | inr not_so ↦ simp not_so (none_behind m.past p ms stand.2 ahead)
    ]
first_ahead least p (m ∷ ms) (suc i) stand past later =
    let over : m.past ≤ p = past zero m (omega arith) (omega arith) in
    let out : is_in m.first m.past p ≡ false = simp (le-ltb p m.past over) (elim (leb m.first p) as (λ b. (b && false) ≡ false) [ true ↦ refl | false ↦ refl ]) in
    simp out (first_ahead m.past p ms i stand.2 (λ k d at_least below. past (suc k) d (omega arith) (omega arith)) (λ k d at_least below. later (suc k) d (omega arith) (omega arith)))

module _ (p : ℕ) (ms : List MethodRanges) (i : ℕ) (order : StandFrom 0 ms) (passed : AllWithin (λ m. m.past ≤ p) ms 0 i) (ahead : AllWithin (λ m. p < m.past) ms i (length ms)) where
  -- it has the address where it begins no later
  pub found_there : (m : MethodRanges) → Some m ≡ slice_get ms i → m.first ≤ p → Some m ≡ find (λ m. is_in m.first m.past p) ms
  found_there m there begins = sym (first_ahead 0 p ms i order passed ahead ∙ ap (begun p) (sym there) ∙ simp (le-leb m.first p begins))

  -- and no method has it where it begins later
  pub found_later : (m : MethodRanges) → Some m ≡ slice_get ms i → p < m.first → None ≡ find (λ m. is_in m.first m.past p) ms
  found_later m there begins = sym (first_ahead 0 p ms i order passed ahead ∙ ap (begun p) (sym there) ∙ simp (lt-leb m.first p begins))

  -- or where no method ends behind it
  pub found_nowhere : None ≡ slice_get ms i → None ≡ find (λ m. is_in m.first m.past p) ms
  found_nowhere there = sym (first_ahead 0 p ms i order passed ahead ∙ ap (begun p) (sym there))
