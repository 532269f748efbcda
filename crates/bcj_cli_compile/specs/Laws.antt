-- What holds of accepted sources.
use Rattle.std.specs.Prelude.{◌≡◌, ℕ, List}
use Rattle.bcj_symbolic_trees.specs.Units.{PlainUnit}
use Rattle.bcj_object_rules.specs.Objects.{object, Carries}
use Rattle.bcj_cli_compile.specs.Accepted.{Accepted}

-- the object of what sources become carries it
abbrev pub AcceptedIsCarried : Type 0
AcceptedIsCarried = (sources : List (List ℕ)) (own : ℕ) (u : PlainUnit) → Accepted sources own u → Carries (object u) u

-- sources become one symbolic unit at most
abbrev pub OneIsAccepted : Type 0
OneIsAccepted = (sources : List (List ℕ)) (own : ℕ) (u v : PlainUnit) → Accepted sources own u → Accepted sources own v → u ≡ v
