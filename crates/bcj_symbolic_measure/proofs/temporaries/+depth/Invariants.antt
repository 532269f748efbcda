use Rattle.std.proofs.Common.{◌≡◌, ◌≤◌, drop}
use Rattle.bcj_symbolic_trees.specs.Plain.{exprs_of}
use Rattle.bcj_symbolic_measure.specs.Totals.{capped, larger}
use Rattle.bcj_symbolic_measure.specs.Depths.{exprs_depth, args_depth, behind}
use Rattle.bcj_symbolic_measure.proofs.temporaries.+depth.Given as goal

abbrev pub invariant-arguments-loop-before : goal.invariant-arguments-loop-before
invariant-arguments-loop-before l = record {
  reached : capped l.before ≤ l.most;
  fits : capped l.most ≡ l.most;
  sums : capped (larger l.most (behind l.before (args_depth (exprs_of (drop l.before l.args))))) ≡ capped (args_depth (exprs_of l.args));
}

abbrev pub invariant-expressions-loop-e : goal.invariant-expressions-loop-e
invariant-expressions-loop-e l = record { fits : capped l.most ≡ l.most; sums : capped (larger l.most (exprs_depth (exprs_of (drop l.e-index l.all)))) ≡ capped (exprs_depth (exprs_of l.all)) }
