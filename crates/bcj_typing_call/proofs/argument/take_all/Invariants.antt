use Rattle.std.proofs.Common.{◌≡◌, ◌++◌, map, length}
use Rattle.std.specs.Vec.Iter.{into_iter_items, into_iter_len}
use Rattle.bcj_symbolic_trees.specs.Plain.{expr_of}
use Rattle.bcj_typing_rules.specs.Expressions.{steps_in}
use Rattle.bcj_typing_node.specs.Typings.{pairs_of, typings_of}
use Rattle.bcj_typing_call.proofs.argument.take_all.Given as goal

abbrev pub invariant-loop-arg : goal.invariant-loop-arg
invariant-loop-arg l =
    record {
      long : into_iter_len l.arg-iterator ≡ length (into_iter_items l.arg-iterator);
      trees : map expr_of l.taken.trees ++ map (λ t. t.tree) (typings_of (into_iter_items l.arg-iterator)) ≡ map (λ t. t.tree) (typings_of l.fn.args);
      steps : pairs_of l.taken.steps ++ steps_in (typings_of (into_iter_items l.arg-iterator)) ≡ pairs_of l.fn.before ++ steps_in (typings_of l.fn.args);
    }
