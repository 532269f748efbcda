use Rattle.std.proofs.Common.{◌≡◌, drop}
use Rattle.bcj_parser_trees.specs.Plain.{stmts_of, catches_of}
use Rattle.bcj_cli_unit.specs.Lacking.{all_lacks, behind_all, catches_lack}
use Rattle.bcj_cli_unit.proofs.statement.+statement.Given as goal

abbrev pub invariant-statements-loop-one : goal.invariant-statements-loop-one
invariant-statements-loop-one l =
    (all_lacks l.room l.scope (stmts_of (drop l.one-index l.all)) ≡ all_lacks l.room l.fn.scope (stmts_of l.all))
    × (behind_all l.scope (stmts_of (drop l.one-index l.all)) ≡ behind_all l.fn.scope (stmts_of l.all))

abbrev pub invariant-handlers-loop-one : goal.invariant-handlers-loop-one
invariant-handlers-loop-one l = catches_lack l.room l.scope (catches_of (drop l.one-index l.all)) ≡ catches_lack l.room l.fn.scope (catches_of l.all)
