use Rattle.std.proofs.Common.{◌≡◌, suc, ◌+◌, ◌-◌, rules, arith, ap, ◌∙◌}
use Rattle.std.proofs.lemmas.Grind.{common_steps}
use Rattle.bcj_parser_trees.specs.Plain.{expr_of}
use Rattle.bcj_parser_rules.specs.function.Steps.{then_read}
use Rattle.bcj_parser_rules.specs.function.Expressions.{climb, expression}
use Rattle.bcj_parser_expression.proofs.Turns.{climb_end, climb_on, below, not_below}
use Rattle.bcj_parser_expression.proofs.grammar.Grammar.climb.Goals as goal

pub loop-turn-init : goal.loop-turn-init
loop-turn-init g c = let e : suc c.args.self.now.room ≡ c.args.self.now.room + 1 - 0 = omega arith in
    (ap (λ n. climb c.args.self.now.room (expression c.args.self.now.room) n c.args.least c.args.at (expr_of c.args.left, c.args.high) c.args.cursor.now) e, c.requires.low)

pub returns-then-binds-least-clause-reads : goal.returns-then-binds-least-clause-reads
returns-then-binds-least-clause-reads g c = climb_end c.args.self.now.room (expression c.args.self.now.room) c.args.least c.args.at _ _ (c.args.self.now.room + 1) c.loop-turn._turn _ c.joining-joining.result
    c.loop-turn-test.true c.loop-turn.invariant.0 c.joining-joining.ensures (below _ _ (omega (arith, c.binds.ensures, c.if-binds-least.true)))

pub returns-in_err-left-clause-reads : goal.returns-in_err-left-clause-reads
returns-in_err-left-clause-reads g c =
    let e = climb_on c.args.self.now.room (expression c.args.self.now.room) c.args.least c.args.at (expr_of c.loop-turn.left, c.loop-turn.high) _ (c.args.self.now.room + 1) c.loop-turn._turn c.loop-turn.cursor c.joining-joining.result
    c.loop-turn-test.true c.loop-turn.invariant.0 c.joining-joining.ensures (not_below _ _ (omega (arith, c.binds.ensures, c.if-binds-least.false))) in
    first_of (search rules, grind (arith, common_steps))

pub loop-turn-preserved : goal.loop-turn-preserved
loop-turn-preserved g c = (
  climb_on c.args.self.now.room (expression c.args.self.now.room) c.args.least c.args.at (expr_of c.loop-turn.left, c.loop-turn.high) _ (c.args.self.now.room + 1) c.loop-turn._turn c.loop-turn.cursor c.joining-joining.result
      c.loop-turn-test.true c.loop-turn.invariant.0 c.joining-joining.ensures (not_below _ _ (omega (arith, c.binds.ensures, c.if-binds-least.false)))
      ∙ ap (λ o. then_read o (climb c.args.self.now.room (expression c.args.self.now.room) (c.args.self.now.room + 1 - (c.loop-turn._turn + 1)) c.args.least c.args.at)) c.in_ok-left.ensures.reads,
  c.in_ok-left.ensures.low,
)
