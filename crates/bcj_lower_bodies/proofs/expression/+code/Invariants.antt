use Rattle.std.proofs.Common.{◌≡◌, ◌+◌, ◌++◌, drop}
use Rattle.bcj_symbolic_trees.specs.Plain.{exprs_of}
use Rattle.bcj_lower_rules.specs.Nodes.{args_lines, exprs_lines, exprs_labels}
use Rattle.bcj_lower_words.specs.Views.{lines_of}
use Rattle.bcj_lower_bodies.specs.Views.{context_of}
use Rattle.bcj_lower_bodies.proofs.expression.+code.Given as goal

abbrev pub invariant-arguments-loop-argument : goal.invariant-arguments-loop-argument
invariant-arguments-loop-argument l = record {
  lines : lines_of l.lines ++ args_lines (context_of l.context) l.free l.next (exprs_of (drop l.argument-index l.args)) ≡ lines_of l.fn.lines ++ args_lines (context_of l.context) l.d l.k (exprs_of l.args);
  labels : l.next + exprs_labels (exprs_of (drop l.argument-index l.args)) ≡ l.k + exprs_labels (exprs_of l.args);
}

abbrev pub invariant-expressions-loop-e : goal.invariant-expressions-loop-e
invariant-expressions-loop-e l = record {
  lines : lines_of l.lines ++ exprs_lines (context_of l.context) l.d l.next (exprs_of (drop l.e-index l.all)) ≡ lines_of l.fn.lines ++ exprs_lines (context_of l.context) l.d l.k (exprs_of l.all);
  labels : l.next + exprs_labels (exprs_of (drop l.e-index l.all)) ≡ l.k + exprs_labels (exprs_of l.all);
}
