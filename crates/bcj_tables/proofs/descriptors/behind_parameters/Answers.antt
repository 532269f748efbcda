use Rattle.std.proofs.Common.{Some, length, ◌∙◌, ap}
use Rattle.std.proofs.lemmas.List.{take_rest}
use Rattle.bcj_tables.proofs.DescriptorLoops.{parameters_end, parameters_cut, parameters_turn, parameters_done}
use Rattle.bcj_tables.proofs.descriptors.behind_parameters.Goals as goal

pub returns-then-begins : goal.returns-then-begins
returns-then-begins c = ap Some (take_rest _ 1) ∙ parameters_end _ (length c.args.text.now) c.loop-turn._turn _ c.loop-turn-test.true c.loop-turn.invariant c.if-begins.ensures.value

pub returns-in-None : goal.returns-in-None
returns-in-None c = parameters_cut _ (length c.args.text.now) c.loop-turn._turn _ c.loop-turn-test.true c.loop-turn.invariant c.if-begins.ensures.value c.in-None.ensures

pub loop-turn-preserved : goal.loop-turn-preserved
loop-turn-preserved c = parameters_turn _ (length c.args.text.now) c.loop-turn._turn _ _ c.loop-turn-test.true c.loop-turn.invariant c.if-begins.ensures.value c.in-Some.ensures

pub returns : goal.returns
returns c = parameters_done _ (length c.args.text.now) c.loop-turn._turn _ c.loop-turn-test.false c.loop-turn.invariant
