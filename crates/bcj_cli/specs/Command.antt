-- The forms of words that a command may have.
use Prim.Native.Char.{code}
use Rattle.std.specs.Prelude.{◌≡◌, ℕ, ◌+◌, ◌-◌, ◌*◌, Bool, not, ◌&&◌, ◌||◌, nat_le, nat_eq, List, [], ◌∷◌, length, if◌then◌else◌, Option, Some, None, codes, slice_index}
use Rattle.std.specs.List.{list_all, fold}
use Rattle.std.specs.Str.{bytes_eq}
use Rattle.bcj_names.specs.Identifiers.{is_digit}
use Rattle.bcj_cli_language.specs.Bounds.{max_turns}

-- `try MAIN FILE` with a bound on the turns
pub record Try : Type 0 where
  pub main : List ℕ
  pub file : List ℕ
  pub turns : ℕ

-- decimal digits without a leading zero
abbrev pub is_numeral : List ℕ → Bool
is_numeral w = not (nat_eq (length w) 0) && (list_all is_digit w && (not (nat_eq (slice_index w 0) (code "0")) || nat_eq (length w) 1))

-- the base of decimal digits
abbrev pub radix : ℕ
radix = 10

abbrev pub numeral_value : List ℕ → ℕ
numeral_value w = fold (λ n b. n * radix + (b - code "0")) 0 w

abbrev pub is_turns : List ℕ → Bool
is_turns w = is_numeral w && nat_le (numeral_value w) max_turns

abbrev pub begins_with_dash : List ℕ → Bool
begins_with_dash [] = Bool.false
begins_with_dash (b ∷ rest) = nat_eq b (code "-")

-- what the words ask for: `try MAIN FILE` or `try --turns N MAIN FILE`, where MAIN doesn't begin with `-`
abbrev pub request_of : List (List ℕ) → Option Try
request_of (a ∷ m ∷ f ∷ []) =
    if bytes_eq a (codes "try") && not (begins_with_dash m)
    then Some (record { main = m; file = f; turns = max_turns })
    else None
request_of (a ∷ o ∷ n ∷ m ∷ f ∷ []) =
    if bytes_eq a (codes "try") && (bytes_eq o (codes "--turns") && (is_turns n && not (begins_with_dash m)))
    then Some (record { main = m; file = f; turns = numeral_value n })
    else None
request_of _ = None

abbrev pub AsksFor : List (List ℕ) → List ℕ → List ℕ → ℕ → Type 0
AsksFor words main file turns = request_of words ≡ Some (record { main = main; file = file; turns = turns })
