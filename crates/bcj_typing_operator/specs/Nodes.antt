-- What a call says of a node that lacks nothing.
use Rattle.std.specs.Prelude.{◌≡◌, Option, Result, IfOk}
use Rattle.bcj_decl_rules.specs.declared.value.Value.{Value}
use Rattle.bcj_typing_rules.specs.Expressions as rules
use Rattle.bcj_typing_rules.specs.function.Expressions.{result}
use Rattle.bcj_typing_node.specs.declared.miss.Miss.{Miss}
use Rattle.bcj_typing_node.specs.declared.typing.Typing.{Typing}
use Rattle.bcj_typing_node.specs.Typings.{typing_of}
use Rattle.bcj_typing_node.specs.Outcomes.{Tells}

-- a node that is worth this value, unless memory fails
abbrev pub Gives : Option Value → rules.Typing → Result Typing Miss → Type 0
Gives v t r = Tells typing_of (result (rules.valued v t)) r × IfOk r (λ x. x.value ≡ v)

-- the same where nothing but memory can fail
abbrev pub Makes : {E : Type 0} → Option Value → rules.Typing → Result Typing E → Type 0
Makes v t r = IfOk r (λ x. typing_of x ≡ rules.valued v t) × IfOk r (λ x. x.value ≡ v)
