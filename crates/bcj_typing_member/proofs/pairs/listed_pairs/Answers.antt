use Rattle.std.proofs.Common.{◌≡◌, ◌∙◌, ap, subst, map, List}
use Rattle.std.specs.Prelude.{IfOk}
use Rattle.bcj_symbolic_trees.specs.Units.{PlainPair}
use Rattle.bcj_typing_node.specs.Typings.{pairs_of}
use Rattle.bcj_typing_member.specs.Steps.{step_of}
use Rattle.bcj_typing_member.proofs.StepLemmas.{pairs_are}
use Rattle.bcj_typing_member.proofs.pairs.listed_pairs.Goals as goal

pub returns : goal.returns
returns c =
    let P : List PlainPair → Type 0 = λ l. IfOk c.copy_steps.result (λ ps. pairs_of ps ≡ l) in
    subst P (ap (map step_of) c.as_slice.ensures.keys ∙ (c.in_ok-found.ensures ∙ pairs_are (pairs_of c.args.steps.now))) c.copy_steps.ensures
