-- The condition of a `for` (JLS 14.14.1), which is true where none is written.
use Rattle.std.specs.Prelude.{true, [], ◌∷◌, Option, None, Some, option_map}
use Rattle.bcj_symbolic_trees.specs.Trees as tree
use Rattle.bcj_typing_rules.specs.declared.kind.Kind.TheVariants as kind
use Rattle.bcj_typing_rules.specs.Premises.{need}
use Rattle.bcj_typing_rules.specs.Operators.{is_bool}
use Rattle.bcj_typing_rules.specs.Expressions as rules
use Rattle.bcj_typing_rules.specs.function.Statements.{Test}
use Rattle.bcj_typing_node.specs.declared.typing.Typing.{Typing}
use Rattle.bcj_typing_node.specs.Typings.{typing_of}

abbrev pub test_from : Option rules.Typing → Test
test_from None = record { needs = []; tree = tree.bool_value true; steps = [] }
test_from (Some t) = record { needs = need kind.Condition (is_bool t.type) ∷ []; tree = t.tree; steps = t.steps }

abbrev pub test_in : Option Typing → Test
test_in t = test_from (option_map typing_of t)
