use Rattle.std.proofs.Common.{◌≡◌, ◌+◌, ◌++◌, drop}
use Rattle.bcj_symbolic_trees.specs.Plain.{stmts_of, catches_of}
use Rattle.bcj_lower_rules.specs.Nodes.{stmts_lines, catches_lines, stmts_labels, catches_labels}
use Rattle.bcj_lower_rules.specs.Ranges.{stmts_ranges, catches_ranges}
use Rattle.bcj_lower_words.specs.Views.{lines_of}
use Rattle.bcj_lower_bodies.specs.Views.{context_of, around_of, ranges_of}
use Rattle.bcj_lower_bodies.proofs.statement.+statement.Given as goal

abbrev pub invariant-handlers-loop-handler : goal.invariant-handlers-loop-handler
invariant-handlers-loop-handler l = record {
  lines : lines_of l.code.lines ++ catches_lines (context_of l.context) (around_of l.around) l.end l.at l.next (catches_of (drop l.handler-index l.catches)) ≡ lines_of l.fn.code.lines ++ catches_lines (context_of l.context) (around_of l.around) l.end l.target l.k (catches_of l.catches);
  ranges : ranges_of l.code.ranges.items ++ catches_ranges l.next (catches_of (drop l.handler-index l.catches)) ≡ ranges_of l.fn.code.ranges.items ++ catches_ranges l.k (catches_of l.catches);
  labels : l.next + catches_labels (catches_of (drop l.handler-index l.catches)) ≡ l.k + catches_labels (catches_of l.catches);
}

abbrev pub invariant-statements-loop-one : goal.invariant-statements-loop-one
invariant-statements-loop-one l = record {
  lines : lines_of l.code.lines ++ stmts_lines (context_of l.context) (around_of l.around) l.next (stmts_of (drop l.one-index l.all)) ≡ lines_of l.fn.code.lines ++ stmts_lines (context_of l.context) (around_of l.around) l.k (stmts_of l.all);
  ranges : ranges_of l.code.ranges.items ++ stmts_ranges l.next (stmts_of (drop l.one-index l.all)) ≡ ranges_of l.fn.code.ranges.items ++ stmts_ranges l.k (stmts_of l.all);
  labels : l.next + stmts_labels (stmts_of (drop l.one-index l.all)) ≡ l.k + stmts_labels (stmts_of l.all);
}
