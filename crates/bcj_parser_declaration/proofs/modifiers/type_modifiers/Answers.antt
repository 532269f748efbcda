use Rattle.std.proofs.Common.{◌-◌, ◌+◌, sym, ◌∙◌, ap}
use Rattle.bcj_parser_rules.specs.function.Declarations.{type_modifiers}
use Rattle.bcj_parser_declaration.proofs.ModifierTurns.{public_turn, abstract_turn}
use Rattle.bcj_parser_declaration.proofs.modifiers.type_modifiers.Goals.{in-Public, in-Abstract}
use Rattle.bcj_parser_declaration.proofs.modifiers.type_modifiers.Goals as goal

pub loop-turn-preserved : goal.loop-turn-preserved
loop-turn-preserved c = elim c.match-unit_beginning.branch [
  | in-Public w ↦ public_turn _ c.len-turn-end.result c.loop-turn._turn _ _ _ c.loop-turn-test.true c.loop-turn.invariant (sym c.unit_beginning.ensures ∙ w.in-Public.is) c.advance.ensures
      ∙ ap (λ b. type_modifiers (c.len-turn-end.result - (c.loop-turn._turn + 1)) b c.advance.new.self) (sym w.is_abstract-is)
  | in-Abstract w ↦ abstract_turn _ c.len-turn-end.result c.loop-turn._turn _ _ _ c.loop-turn-test.true c.loop-turn.invariant (sym c.unit_beginning.ensures ∙ w.in-Abstract.is) c.advance.ensures
      ∙ ap (λ b. type_modifiers (c.len-turn-end.result - (c.loop-turn._turn + 1)) b c.advance.new.self) (sym w.is_abstract-is)
]
