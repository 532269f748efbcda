-- The plain data of a Rust tree.
use Rattle.std.specs.Prelude.{List, map}
use Rattle.bcj_cli_language.specs.Tree.{Sum, number, local, binary, Test, Act, print, declare, assign, choose, repeat, Acts, acts}
use Rattle.bcj_cli_language.specs.declared.tree.Condition.{Condition}
use Rattle.bcj_cli_language.specs.declared.tree.Expression.{Expression, fold-Expression}
use Rattle.bcj_cli_language.specs.declared.tree.Expression.TheOpen as open_expression
use Rattle.bcj_cli_language.specs.declared.tree.Statement.{Statement, fold-Statement}
use Rattle.bcj_cli_language.specs.declared.tree.Statement.TheOpen as open_statement

abbrev pub sum_step : open_expression.Expression-F Sum → Sum
sum_step (open_expression.Number n) = number n
sum_step (open_expression.Local x) = local x
sum_step (open_expression.Binary op a b) = binary op a b

unfoldable pub sum_of : Expression → Sum
sum_of = fold-Expression Sum sum_step

abbrev pub test_of : Condition → Test
test_of c = record { comparison = c.comparison; left = sum_of c.left; right = sum_of c.right }

abbrev pub act_step : open_statement.Statement-F Act → Act
act_step (open_statement.Print e) = print (sum_of e)
act_step (open_statement.Declare x e) = declare x (sum_of e)
act_step (open_statement.Assign x e) = assign x (sum_of e)
act_step (open_statement.If c a b) = choose (test_of c) (acts a) (acts b)
act_step (open_statement.While c a) = repeat (test_of c) (acts a)

unfoldable pub act_of : Statement → Act
act_of = fold-Statement Act act_step

abbrev pub acts_of : List Statement → Acts
acts_of ss = acts (map act_of ss)
