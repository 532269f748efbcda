-- The form of the words that ask for a compilation.
use Rattle.std.specs.Prelude.{ℕ, List, [], ◌∷◌, Option, Some, None, codes, if◌then◌else◌}
use Rattle.std.specs.Str.{bytes_eq}

-- the file of the object, and those of the sources, of which the first is compiled and the others are its context
pub record Compilation : Type 0 where
  pub out : List ℕ
  pub files : List (List ℕ)

-- what the words ask for: `compile OUT UNIT CONTEXT*`
abbrev pub compilation_of : List (List ℕ) → Option Compilation
compilation_of (a ∷ o ∷ u ∷ contexts) = if bytes_eq a (codes "compile") then Some (record { out = o; files = u ∷ contexts }) else None
compilation_of _ = None

-- which of the sources is compiled
abbrev pub own_source : ℕ
own_source = 0
