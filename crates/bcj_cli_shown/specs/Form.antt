-- The form of the words that ask for the text of an object.
use Rattle.std.specs.Prelude.{ℕ, List, [], ◌∷◌, Option, Some, None, codes, if◌then◌else◌}
use Rattle.std.specs.Str.{bytes_eq}

-- the file of the object: `show OBJECT`
abbrev pub shown_file : List (List ℕ) → Option (List ℕ)
shown_file (a ∷ file ∷ []) = if bytes_eq a (codes "show") then Some file else None
shown_file _ = None

-- the most bytes of an object file
abbrev pub max_object_bytes : ℕ
max_object_bytes = 4194304
