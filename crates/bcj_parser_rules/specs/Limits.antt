-- The limits of a text that is read.
use Rattle.std.specs.Prelude.{ℕ, ◌^◌}

-- how high a unit may be
abbrev pub max_height : ℕ
max_height = 256

-- how many classes and interfaces a unit may have
abbrev pub max_types : ℕ
max_types = 64

-- a larger value of a literal is kept as this
abbrev pub max_value : ℕ
max_value = 2 ^ 64
