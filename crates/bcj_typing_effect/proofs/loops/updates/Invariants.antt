use Rattle.std.proofs.Common.{◌≡◌, map}
use Rattle.bcj_symbolic_trees.specs.Plain.{expr_of}
use Rattle.bcj_typing_rules.specs.Expressions as rules
use Rattle.bcj_typing_node.specs.Typings.{pairs_of, typings_of}
use Rattle.bcj_typing_effect.proofs.loops.updates.Given as goal

abbrev pub invariant-loop-part : goal.invariant-loop-part
invariant-loop-part l =
    record {
      trees : map expr_of l.all.trees ≡ map (λ (t : rules.Typing). t.tree) (typings_of l.yielded);
      steps : pairs_of l.all.steps ≡ rules.steps_in (typings_of l.yielded);
    }
