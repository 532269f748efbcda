-- The first need without a value.
use Rattle.std.proofs.Common.{◌≡◌, ◌<◌, ◌≤◌, ◌+◌, ℕ, true, List, length, Option, Some, None, refl, sym, ◌∙◌, ap, subst, inl, inr, arith, slice_get, get_or}
use Rattle.std.proofs.lemmas.Option.{slice_get_within, slice_get-get_or}
use Rattle.std.specs.Option.{is_some, option_and_then}
use Rattle.bcj_decl_rules.specs.declared.value.Value.{Value}
use Rattle.bcj_decl_constants.specs.Numbers.{value_of_number}
use Rattle.bcj_decl_constants.specs.Waiting.{Table, IsKnownAt, KnownBelow, AllAt}
use Rattle.bcj_decl_constants.proofs.Core.{same_or_not}

known_there : (vs : Table) (m : ℕ) (o : Option Value) → slice_get vs m ≡ Some o → is_some o ≡ true → IsKnownAt vs m
known_there vs m None h some = absurd (cc)
known_there vs m (Some v) h some = (v, h)

pub below_next : (vs : Table) (is : List ℕ) (i : ℕ) → ((j m : ℕ) → slice_get is j ≡ Some m → m < length vs) → KnownBelow vs is i → i < length is → is_some (get_or vs (get_or is i 0) None) ≡ true → KnownBelow vs is (i + 1)
below_next vs is i below known lt some j m less h =
    elim (same_or_not j i) [
      | inl same ↦
          let here_it : slice_get is i ≡ Some (get_or is i 0) = slice_get-get_or is i 0 lt in
          let is_it : Some (get_or is i 0) ≡ Some m = sym here_it ∙ (ap (slice_get is) (sym same) ∙ h) in
          let number : get_or is i 0 ≡ m = cc in
          let within : get_or is i 0 < length vs = below i (get_or is i 0) here_it in
          subst (λ (k : ℕ). IsKnownAt vs k) number (known_there vs (get_or is i 0) (get_or vs (get_or is i 0) None) (slice_get-get_or vs (get_or is i 0) None within) some)
      | inr other ↦ let before : j < i = omega arith in known j m before h
    ]

pub all_below : (vs : Table) (is : List ℕ) (k : ℕ) → KnownBelow vs is k → length is ≤ k → AllAt vs is
all_below vs is k known le i m h =
    let within : i < length is = slice_get_within is i m h in
    let lt : i < k = omega arith in
    known i m lt h

free_there : (vs : Table) (n : ℕ) (o : Option Value) → slice_get vs n ≡ Some o → value_of_number vs n ≡ None → slice_get vs n ≡ Some None
free_there vs n None h none = h
free_there vs n (Some v) h none =
    let wrong : Some v ≡ None = sym (ap (option_and_then (λ o. o)) h) ∙ none in
    absurd (cc)

pub free_at : (vs : Table) (n : ℕ) → n < length vs → value_of_number vs n ≡ None → slice_get vs n ≡ Some None
free_at vs n within none = free_there vs n (get_or vs n None) (slice_get-get_or vs n None within) none

known_by : (vs : Table) (n : ℕ) (o : Option (Option Value)) (v : Value) → slice_get vs n ≡ o → option_and_then (λ p. p) o ≡ Some v → IsKnownAt vs n
known_by vs n None v h some = absurd (cc)
known_by vs n (Some None) v h some = absurd (cc)
known_by vs n (Some (Some u)) v h some = (u, h)

pub known_if : (vs : Table) (n : ℕ) (v : Value) → value_of_number vs n ≡ Some v → IsKnownAt vs n
known_if vs n v h = known_by vs n (slice_get vs n) v refl h
