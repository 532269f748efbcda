use Rattle.std.proofs.Common.{arith}
use Rattle.bcj_elf.specs.function.Judging.{plain_turn}
use Rattle.bcj_elf.proofs.FirstBad.{exit}
use Rattle.bcj_elf.proofs.Turns.{classes_go_on, classes_stop, classes_end}
use Rattle.bcj_elf.proofs.judging_contents.judge_classes.Goals as goal

pub loop-index-preserved : goal.loop-index-preserved
loop-index-preserved c = record {
  place = omega arith;
  name = omega arith;
  same = classes_go_on c.args.bytes.now c.args.s.now (plain_turn c.loop-index.turn) _ c.loop-index.index c.args.classes _ c.loop-index-test.true c.next_turn-turn.ensures.next c.loop-index.invariant.same c.in_ok-judge_class.ensures.place;
}

pub returns-in_err-judge_class : goal.returns-in_err-judge_class
returns-in_err-judge_class c =
    exit _ _ _ c.from_residual.ensures.1
    (classes_stop c.args.bytes.now c.args.s.now (plain_turn c.loop-index.turn) c.loop-index.index c.args.classes _ _ c.loop-index-test.true c.loop-index.invariant.same c.in_err-judge_class.ensures.place)

pub returns : goal.returns
returns c = classes_end c.args.bytes.now c.args.s.now (plain_turn c.loop-index.turn) c.loop-index.index c.args.classes _ c.loop-index-test.false c.loop-index.invariant.same
