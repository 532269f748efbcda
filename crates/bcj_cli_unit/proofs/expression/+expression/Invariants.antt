use Rattle.std.proofs.Common.{◌≡◌, drop}
use Rattle.bcj_parser_trees.specs.Plain.{exprs_of}
use Rattle.bcj_cli_unit.specs.Lacking.{all_lacking}
use Rattle.bcj_cli_unit.proofs.expression.+expression.Given as goal

abbrev pub invariant-expressions_within-loop-e : goal.invariant-expressions_within-loop-e
invariant-expressions_within-loop-e l = all_lacking l.scope.names l.room (exprs_of (drop l.e-index l.all)) ≡ all_lacking l.scope.names l.room (exprs_of l.all)
