-- The texts of refusals.
use Rattle.std.specs.Prelude.{ℕ, List, [], ◌++◌, codes, decimal}

-- a text in two parts with its line end
abbrev pub line_of : List ℕ → List ℕ → List ℕ
line_of front back = front ++ (back ++ codes "\n")

abbrev pub no_memory_text : List ℕ
no_memory_text = line_of (codes "out of memory") []

-- what is said behind the name of a file: `:AT: KIND`
abbrev pub place_and_kind : ℕ → List ℕ → List ℕ
place_and_kind at kind = codes ":" ++ (decimal at ++ (codes ": " ++ kind))
