use Rattle.std.proofs.Common.{◌≡◌, ◌++◌}
use Rattle.std.specs.Iterator.Adapters.{zip_first, zip_second}
use Rattle.std.specs.Slice.Iter.{iter_rest}
use Rattle.bcj_symbolic_trees.specs.Types.{types_of}
use Rattle.bcj_typing_rules.specs.Expressions as rules
use Rattle.bcj_typing_node.specs.Typings.{pairs_of, typings_of}
use Rattle.bcj_typing_call.proofs.argument.argument_steps.Given as goal

abbrev pub invariant-loop-arg : goal.invariant-loop-arg
invariant-loop-arg l =
    pairs_of l.steps ++ rules.argument_steps (typings_of (iter_rest (zip_first l.arg-iterator))) (types_of (iter_rest (zip_second l.arg-iterator)))
    ≡ pairs_of l.initial.steps ++ rules.argument_steps (typings_of l.fn.args) (types_of l.fn.params)
