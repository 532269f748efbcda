use Rattle.std.proofs.Common.{◌≡◌, drop}
use Rattle.bcj_symbolic_trees.specs.Plain.{stmts_of, catches_of}
use Rattle.bcj_symbolic_measure.specs.Totals.{capped, larger}
use Rattle.bcj_symbolic_measure.specs.Depths.{stmts_depth, catches_depth}
use Rattle.bcj_symbolic_measure.proofs.temporaries.+statement.Given as goal

abbrev pub invariant-handlers-loop-handler : goal.invariant-handlers-loop-handler
invariant-handlers-loop-handler l = record { fits : capped l.most ≡ l.most; sums : capped (larger l.most (catches_depth (catches_of (drop l.handler-index l.catches)))) ≡ capped (catches_depth (catches_of l.catches)) }

abbrev pub invariant-statements-loop-one : goal.invariant-statements-loop-one
invariant-statements-loop-one l = record { fits : capped l.most ≡ l.most; sums : capped (larger l.most (stmts_depth (stmts_of (drop l.one-index l.all)))) ≡ capped (stmts_depth (stmts_of l.all)) }
