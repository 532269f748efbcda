-- One equation for each variant of a tree.
use Rattle.std.proofs.Common.{◌≡◌, ℕ, List, sym, ◌∙◌, ap}
use Rattle.bcj_cli_language.specs.declared.tree.Operator.{Operator}
use Rattle.bcj_cli_language.specs.declared.tree.Condition.{Condition}
use Rattle.bcj_cli_language.specs.declared.tree.Expression.{Expression, fold-roll-Expression}
use Rattle.bcj_cli_language.specs.declared.tree.Expression.TheOpen as open_expression
use Rattle.bcj_cli_language.specs.declared.tree.Expression.TheVariants.{Number, Local, Binary, rolls-Number, rolls-Local, rolls-Binary}
use Rattle.bcj_cli_language.specs.declared.tree.Statement.{Statement, fold-roll-Statement}
use Rattle.bcj_cli_language.specs.declared.tree.Statement.TheOpen as open_statement
use Rattle.bcj_cli_language.specs.declared.tree.Statement.TheVariants.{Print, Declare, Assign, If, While, rolls-Print, rolls-Declare, rolls-Assign, rolls-If, rolls-While}
use Rattle.bcj_cli_language.specs.Tree.{Sum, number, local, binary, Act, print, declare, assign, choose, repeat}
use Rattle.bcj_cli_language.specs.Plain.{sum_step, sum_of, test_of, act_step, act_of, acts_of}

pub sum-Number : (n : ℕ) → sum_of (Number n) ≡ number n
unfolding sum_of
sum-Number n = ap sum_of (sym (rolls-Number n)) ∙ fold-roll-Expression Sum sum_step (open_expression.Number n)

pub sum-Local : (x : List ℕ) → sum_of (Local x) ≡ local x
unfolding sum_of
sum-Local x = ap sum_of (sym (rolls-Local x)) ∙ fold-roll-Expression Sum sum_step (open_expression.Local x)

pub sum-Binary : (op : Operator) (a b : Expression) → sum_of (Binary op a b) ≡ binary op (sum_of a) (sum_of b)
unfolding sum_of
sum-Binary op a b = ap sum_of (sym (rolls-Binary op a b)) ∙ fold-roll-Expression Sum sum_step (open_expression.Binary op a b)

pub act-Print : (e : Expression) → act_of (Print e) ≡ print (sum_of e)
unfolding act_of
act-Print e = ap act_of (sym (rolls-Print e)) ∙ fold-roll-Statement Act act_step (open_statement.Print e)

pub act-Declare : (x : List ℕ) (e : Expression) → act_of (Declare x e) ≡ declare x (sum_of e)
unfolding act_of
act-Declare x e = ap act_of (sym (rolls-Declare x e)) ∙ fold-roll-Statement Act act_step (open_statement.Declare x e)

pub act-Assign : (x : List ℕ) (e : Expression) → act_of (Assign x e) ≡ assign x (sum_of e)
unfolding act_of
act-Assign x e = ap act_of (sym (rolls-Assign x e)) ∙ fold-roll-Statement Act act_step (open_statement.Assign x e)

pub act-If : (c : Condition) (a b : List Statement) → act_of (If c a b) ≡ choose (test_of c) (acts_of a) (acts_of b)
unfolding act_of
act-If c a b = ap act_of (sym (rolls-If c a b)) ∙ fold-roll-Statement Act act_step (open_statement.If c a b)

pub act-While : (c : Condition) (a : List Statement) → act_of (While c a) ≡ repeat (test_of c) (acts_of a)
unfolding act_of
act-While c a = ap act_of (sym (rolls-While c a)) ∙ fold-roll-Statement Act act_step (open_statement.While c a)

pub ruleset tree_rules = (sum-Number, sum-Local, sum-Binary, act-Print, act-Declare, act-Assign, act-If, act-While)
