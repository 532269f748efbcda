-- The limits of a unit, and of what is counted in one.
use Rattle.std.specs.Prelude.{ℕ, ◌-◌, ◌^◌}

-- the most classes of a unit
abbrev pub max_types : ℕ
max_types = 64

-- the most dimensions of a type (JVMS 4.3.2)
abbrev pub max_dimensions : ℕ
max_dimensions = 255

-- one past the largest value of `int` (JLS 4.2.1)
abbrev pub int_end : ℕ
int_end = 2 ^ 31

-- the last place that is told from those before it, since a place is a u32
abbrev pub max_place : ℕ
max_place = 2 ^ 32 - 1
