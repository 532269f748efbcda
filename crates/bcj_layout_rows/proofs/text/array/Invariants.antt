use Rattle.std.proofs.Common.{◌≡◌}
use Rattle.bcj_symbolic_trees.specs.Types.{ty_of}
use Rattle.bcj_layout_rows.specs.Texts.{array_of}
use Rattle.bcj_layout_rows.proofs.text.array.Given as goal

abbrev pub invariant-loop : goal.invariant-loop
invariant-loop l = ty_of l.ty ≡ array_of l.counter (ty_of l.fn.element)
