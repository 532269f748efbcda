use Rattle.std.proofs.Common.{◌≡◌, ◌++◌, drop}
use Rattle.bcj_symbolic_trees.specs.Types.{types_of}
use Rattle.bcj_layout_rules.specs.Rows.{mentioned}
use Rattle.bcj_layout_rows.proofs.arrays.mentioned.Given as goal

abbrev pub invariant-loop-class : goal.invariant-loop-class
invariant-loop-class l = types_of l.types ++ mentioned (drop l.class-index l.classes) ≡ mentioned l.classes
