use Rattle.std.proofs.Common.{ℕ, Vec, Global, not, map, ◌∙◌, ap, arith}
use Rattle.std.proofs.lemmas.Grind.{common_steps}
use Rattle.std.proofs.lemmas.List.{map-append}
use Rattle.bcj_parser_trees.specs.declared.unit.Member.{Member}
use Rattle.bcj_parser_trees.specs.Plain.{member_of}
use Rattle.bcj_parser_rules.specs.function.Statements.{is_inside}
use Rattle.bcj_parser_rules.specs.function.Declarations.{member}
use Rattle.bcj_parser_cursor.proofs.Turns.{many_turn, many_end, many_done, many_refused, reads_passed}
use Rattle.bcj_parser_declaration.proofs.member.Grammar.inside.Goals as goal

pub returns-then-sees-clause-reads : goal.returns-then-sees-clause-reads
returns-then-sees-clause-reads c = many_end is_inside (member c.args.self.room c.args.self.interface) _ c.len-turn-end.result c.loop-turn._turn _ _ _ c.loop-turn-test.true c.loop-turn.invariant.0 (ap not c.if-sees.ensures)

pub returns-in_err-more-clause-reads : goal.returns-in_err-more-clause-reads
returns-in_err-more-clause-reads c = reads_passed {A = Vec Member Global × ℕ} {C = Vec Member Global × ℕ} (λ p. (map member_of p.0.items, p.1)) (λ p. (map member_of p.0.items, p.1)) _ _ _ _ _ c.from_residual.ensures.1 c.in_err-more.ensures.reads
    (λ x o. many_refused is_inside (member c.args.self.room c.args.self.interface) _ c.len-turn-end.result c.loop-turn._turn _ _ _ _ x c.loop-turn-test.true c.loop-turn.invariant.0 (ap not c.if-sees.ensures) o)

pub loop-turn-preserved : goal.loop-turn-preserved
loop-turn-preserved c = (
  many_turn is_inside (member c.args.self.room c.args.self.interface) _ c.len-turn-end.result c.loop-turn._turn _ _ _ _ _ _ _ _ c.loop-turn-test.true c.loop-turn.invariant.0 (ap not c.if-sees.ensures)
      c.in_ok-more.ensures.reads (ap (map member_of) c.in_ok-append.ensures.items ∙ map-append _ _ _) c.max-high.ensures,
  grind (arith, common_steps),
)

pub returns-clause-reads : goal.returns-clause-reads
returns-clause-reads c = many_done is_inside (member c.args.self.room c.args.self.interface) _ c.len-turn-end.result c.loop-turn._turn _ _ _ c.loop-turn-test.false c.loop-turn.invariant.0
