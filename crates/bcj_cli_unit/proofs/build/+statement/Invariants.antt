use Rattle.std.proofs.Common.{◌≡◌, drop}
use Rattle.bcj_parser_trees.specs.Plain.{stmts_of}
use Rattle.bcj_cli_unit.specs.function.Built.{acts_built}
use Rattle.bcj_cli_unit.proofs.Building.{built_so_far}
use Rattle.bcj_cli_unit.proofs.build.+statement.Given as goal

abbrev pub invariant-statements-loop-one : goal.invariant-statements-loop-one
invariant-statements-loop-one l = built_so_far l.built (acts_built (stmts_of (drop l.one-index l.all))) ≡ acts_built (stmts_of l.all)
