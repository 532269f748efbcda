use Rattle.std.proofs.Common.{arith}
use Rattle.bcj_elf.proofs.FirstBad.{exit}
use Rattle.bcj_elf.proofs.Turns.{relocations_go_on, relocations_stop, relocations_end}
use Rattle.bcj_elf.proofs.judging_contents.judge_relocations.Goals as goal

pub loop-preserved : goal.loop-preserved
loop-preserved c = record {
  place = omega arith;
  same = relocations_go_on c.args.bytes.now c.loop.at c.args.t.now.section c.args.t.now.contents.now c.args.t.now.symbols c.loop.least c.loop.counter c.args.count c.word.result _ c.loop-test.true c.word.ensures c.loop.invariant.same
      c.in_ok-judge_relocation.ensures;
}

pub returns-in_err-judge_relocation : goal.returns-in_err-judge_relocation
returns-in_err-judge_relocation c =
    exit _ _ _ c.from_residual.ensures.1
    (relocations_stop c.args.bytes.now c.loop.at c.args.t.now.section c.args.t.now.contents.now c.args.t.now.symbols c.loop.least c.loop.counter c.args.count _ _ c.loop-test.true c.loop.invariant.same c.in_err-judge_relocation.ensures)

pub returns : goal.returns
returns c = relocations_end c.args.bytes.now c.loop.at c.args.t.now.section c.args.t.now.contents.now c.args.t.now.symbols c.loop.least c.loop.counter c.args.count _ c.loop-test.false c.loop.invariant.same
