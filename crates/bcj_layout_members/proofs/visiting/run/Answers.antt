use Rattle.std.proofs.Common.{◌≡◌, ◌+◌, ◌<◌, ◌≤◌, length, arith}
use Rattle.bcj_layout_members.proofs.Rounds.{reached_more, reached_all, head_count}
use Rattle.bcj_layout_members.proofs.visiting.run.Goals as goal

pub loop-preserved : goal.loop-preserved
loop-preserved c =
    let heads : length c.args.hier.now ≡ length c.args.classes.now = head_count c.args.classes.now c.args.hier.now c.requires.agree in
    let rounds : c.len-rounds.result ≡ length c.args.hier.now = c.len-rounds.ensures.count in
    let few : c.loop.counter < c.len-rounds.result + 1 = c.loop-test.true in
    record {
      table = c.in_ok-round.ensures.table;
      reached =
          reached_more c.args.classes.now c.requires.linked c.loop.rows c.round.new.rows c.loop.counter c.loop.invariant.reached c.in_ok-round.ensures.fills (omega arith);
    }

pub returns-clause-full : goal.returns-clause-full
returns-clause-full c =
    let heads : length c.args.hier.now ≡ length c.args.classes.now = head_count c.args.classes.now c.args.hier.now c.requires.agree in
    let rounds : c.len-rounds.result ≡ length c.args.hier.now = c.len-rounds.ensures.count in
    let past : c.len-rounds.result + 1 ≤ c.loop.counter = c.loop-test.false in
    let most : c.loop.counter ≤ c.len-rounds.result + 1 = c.loop.auto.counter-end in
    reached_all c.args.classes.now c.loop.rows c.loop.counter c.loop.invariant.reached (omega arith) (omega arith)
