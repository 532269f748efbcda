use Rattle.bcj_parser_declaration.proofs.ModifierTurns.{modifiers_turn}
use Rattle.bcj_parser_declaration.proofs.modifiers.modifiers.Goals as goal

pub loop-turn-preserved : goal.loop-turn-preserved
loop-turn-preserved c = modifiers_turn _ c.len-turn-end.result c.loop-turn._turn _ c.in-Some.more _ _ c.loop-turn-test.true c.loop-turn.invariant (cc) c.advance.ensures
