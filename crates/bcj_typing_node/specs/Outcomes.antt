-- What a call says of a result, or of the first fault.
use Rattle.std.specs.Prelude.{◌≡◌, ℕ, Bool, List, Option, Some, Result, Ok, Err, IfOk, if◌then◌else◌}
use Rattle.bcj_decl_rules.specs.declared.value.Value.{Value}
use Rattle.bcj_typing_rules.specs.declared.kind.Kind.{Kind}
use Rattle.bcj_typing_rules.specs.Premises.{Need, earlier_kind, earliest_missing}
use Rattle.bcj_typing_rules.specs.Expressions as rules
use Rattle.bcj_typing_rules.specs.function.Expressions.{Outcome, result, fault, settled}
use Rattle.bcj_typing_node.specs.declared.miss.Miss.{Miss}
use Rattle.bcj_typing_node.specs.declared.miss.Miss.TheVariants.{Untyped, NoMemory}
use Rattle.bcj_typing_node.specs.declared.typing.Typing.{Typing}
use Rattle.bcj_typing_node.specs.declared.typing.Placing.{Placing}
use Rattle.bcj_typing_node.specs.Typings.{typing_of, placing_of}

-- the outcome, read plain, unless memory fails
abbrev pub Tells : {R A : Type 0} → (R → A) → Outcome A → Result R Miss → Type 0
Tells of o (Ok r) = o ≡ result (of r)
Tells of o (Err (Untyped at k)) = o ≡ fault at k
Tells of o (Err NoMemory) = Unit {0}

-- a need before others
abbrev pub missing_with : Kind → Bool → Option Kind → Option Kind
missing_with k met missing = if met then missing else Some (earlier_kind k missing)

-- a node at a first byte that needs this and is worth this value
abbrev pub Judges : ℕ → List Need → Option Value → rules.Typing → Result Typing Miss → Type 0
Judges at needs v t r = Tells typing_of (settled at (earliest_missing needs) (rules.valued v t)) r × IfOk r (λ t. t.value ≡ v)

-- the same of a variable that is assigned
abbrev pub Places : ℕ → List Need → rules.Placing → Result Placing Miss → Type 0
Places at needs p r = Tells placing_of (settled at (earliest_missing needs) p) r
