-- What the words of a compilation name.
use Rattle.std.proofs.Common.{◌≡◌, refl, sym, ◌∙◌, subst, ℕ, zero, suc, ◌+◌, ◌-◌, ◌<◌, ◌≤◌, Bool, true, false, cond, if◌then◌else◌, List, [], ◌∷◌, drop, length, get_or, Option, None, Some, IsSome, IfSome, codes, arith}
use Rattle.std.specs.Prelude.{slice_get}
use Rattle.std.specs.Str.{bytes_eq}
use Rattle.bcj_cli_compiling.specs.Form.{Compilation, compilation_of}
use Rattle.bcj_cli_compiling.specs.function.Named.{named_in}

if_asked : (b : Bool) (asked : Compilation) (P : Compilation → Type 0) → P asked → IfSome (if b then Some asked else None) P
if_asked true asked P h = h
if_asked false asked P h = tt

-- what holds of what the words name holds of what they ask for
pub for_asked : (words : List (List ℕ)) (P : Compilation → Type 0) → P (named_in words) → IfSome (compilation_of words) P
for_asked [] P h = tt
for_asked (a ∷ []) P h = tt
for_asked (a ∷ o ∷ []) P h = tt
for_asked (a ∷ o ∷ u ∷ contexts) P h = if_asked (bytes_eq a (codes "compile")) (record { out = o; files = u ∷ contexts }) P h

-- there are three words then
pub are_three : (words : List (List ℕ)) → IsSome (compilation_of words) → 2 < length words
are_three [] h = absurd cc
are_three (a ∷ []) h = absurd cc
are_three (a ∷ o ∷ []) h = absurd cc
are_three (a ∷ o ∷ u ∷ contexts) h = omega arith

-- a word from the third on is a file
pub file_at : (words : List (List ℕ)) (at : ℕ) (file : List ℕ) → 2 ≤ at → slice_get words at ≡ Some file → slice_get (drop 2 words) (at - 2) ≡ Some file
file_at words zero file low is = absurd (omega arith)
file_at words (suc zero) file low is = absurd (omega arith)
file_at [] (suc (suc n)) file low is = is
file_at (a ∷ []) (suc (suc n)) file low is = is
file_at (a ∷ o ∷ rest) (suc (suc n)) file low is = let e : suc (suc n) - 2 ≡ n = omega arith in subst (λ k. slice_get rest k ≡ Some file) (sym e) is

-- the second word is that of the object
pub out_at : (words : List (List ℕ)) (out : List ℕ) → slice_get words 1 ≡ Some out → (named_in words).out ≡ out
out_at [] out is = cc
out_at (a ∷ []) out is = cc
out_at (a ∷ o ∷ rest) out is = cc
