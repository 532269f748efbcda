use Rattle.std.proofs.Common.{◌-◌, ◌+◌, sym, ap, ◌∙◌}
use Rattle.std.proofs.lemmas.List.{take_rest}
use Rattle.bcj_tables_rules.specs.Texts.{behind_brackets}
use Rattle.bcj_tables.proofs.DescriptorLoops.{brackets_turn, brackets_end, brackets_done}
use Rattle.bcj_tables.proofs.descriptors.behind_brackets.Goals as goal

pub returns-then-not-begins : goal.returns-then-not-begins
returns-then-not-begins c = brackets_end _ 255 c.loop-turn._turn _ c.loop-turn-test.true c.loop-turn.invariant c.if-not-begins.ensures.value

pub loop-turn-preserved : goal.loop-turn-preserved
loop-turn-preserved c = brackets_turn _ 255 c.loop-turn._turn _ c.loop-turn-test.true c.loop-turn.invariant c.if-not-begins.ensures.value
    ∙ ap (behind_brackets (255 - (c.loop-turn._turn + 1))) (sym (take_rest _ 1))

pub returns : goal.returns
returns c = brackets_done _ 255 c.loop-turn._turn _ c.loop-turn-test.false c.loop-turn.invariant
