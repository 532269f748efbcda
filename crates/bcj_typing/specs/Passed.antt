-- Limits by sizes that stand at the last value of their type.
use Rattle.std.specs.Prelude.{◌≡◌, ℕ, nat_lt, List, ◌∷◌, Option, None, Some, Result, Ok, Err, if◌then◌else◌}
use Rattle.std.specs.Option.{option_or}
use Rattle.bcj_parser_trees.specs.Trees.{PlainType}
use Rattle.bcj_symbolic_trees.specs.declared.class_tree.SymUnit.{SymUnit}
use Rattle.bcj_symbolic_trees.specs.Units.{PlainUnit, plain_of}
use Rattle.bcj_symbolic_measure.specs.declared.measured.BodySize.{BodySize}
use Rattle.bcj_typing_rules.specs.function.Expressions.{Outcome, result, fault}
use Rattle.bcj_typing_node.specs.declared.miss.Miss.{Miss}
use Rattle.bcj_typing_node.specs.declared.miss.Miss.TheVariants as miss
use Rattle.bcj_typing.specs.declared.limits.Past.{Past}
use Rattle.bcj_typing.specs.declared.stop.Limited.TheVariants as limited
use Rattle.bcj_typing.specs.declared.stop.TypeStop.{TypeStop}
use Rattle.bcj_typing.specs.declared.stop.TypeStop.TheVariants as stop
use Rattle.bcj_typing.specs.Limits as limits

abbrev pub past_of : Past → limits.Past
past_of p = record { what = p.what; at = p.at }

abbrev pub size_past : ℕ → BodySize → Option limits.Past
size_past at s =
    if nat_lt limits.frame_limit s.frame
    then Some (record { what = limited.Frame; at = at })
    else (if nat_lt limits.method_limit s.words then Some (record { what = limited.Method; at = at }) else None)

abbrev pub sizes_past : List ℕ → List BodySize → Option limits.Past
sizes_past (at ∷ places) (s ∷ sizes) = option_or (size_past at s) (sizes_past places sizes)
sizes_past _ _ = None

-- a unit within the limits, or the first number of it past its own
abbrev pub IsLimited : List PlainType → PlainUnit → Result SymUnit TypeStop → Type 0
IsLimited ts u (Ok v) = (plain_of v ≡ u) × (limits.first_past ts u ≡ None)
IsLimited ts u (Err (stop.TooLarge what at)) = limits.first_past ts u ≡ Some (record { what = what; at = at })
IsLimited ts u (Err (stop.Untyped at k)) = ⊥
IsLimited ts u (Err stop.NoMemory) = Unit {0}

-- what the typing of a unit comes to, and then its limits
abbrev pub Comes : List PlainType → Outcome PlainUnit → Result SymUnit TypeStop → Type 0
Comes ts o (Ok v) = (o ≡ result (plain_of v)) × (limits.first_past ts (plain_of v) ≡ None)
Comes ts o (Err (stop.TooLarge what at)) = (u : PlainUnit) × (o ≡ result u) × (limits.first_past ts u ≡ Some (record { what = what; at = at }))
Comes ts o (Err (stop.Untyped at k)) = o ≡ fault at k
Comes ts o (Err stop.NoMemory) = Unit {0}

abbrev pub stop_of : Miss → TypeStop
stop_of (miss.Untyped at k) = stop.Untyped at k
stop_of miss.NoMemory = stop.NoMemory
