-- Which file the words name.
use Rattle.std.proofs.Common.{◌≡◌, ℕ, Bool, true, false, List, [], ◌∷◌, None, Some, IsSome, IfSome, codes, if◌then◌else◌, sym, ap, subst}
use Rattle.std.specs.Prelude.{slice_get}
use Rattle.std.specs.Str.{bytes_eq}
use Rattle.bcj_cli_shown.specs.Form.{shown_file}

asked_by : (b : Bool) (file other : List ℕ) → IsSome (if b then Some file else None) → file ≡ other → (if b then Some file else None) ≡ Some other
asked_by true file other some is = ap (λ f. Some f) is
asked_by false file other some is = absurd cc

-- the second word is the file
pub asked : (words : List (List ℕ)) (file : List ℕ) → IsSome (shown_file words) → slice_get words 1 ≡ Some file → shown_file words ≡ Some file
asked [] file some is = absurd cc
asked (a ∷ []) file some is = absurd cc
asked (a ∷ f ∷ []) file some is = asked_by (bytes_eq a (codes "show")) f file some cc
asked (a ∷ f ∷ g ∷ rest) file some is = absurd cc

-- what holds of the file holds of what the words ask for
pub for_file : (words : List (List ℕ)) (file : List ℕ) (P : List ℕ → Type 0) → shown_file words ≡ Some file → P file → IfSome (shown_file words) P
for_file words file P is h = subst (λ o. IfSome o P) (sym is) h
