use Rattle.std.proofs.Common.{◌≡◌, ◌<◌, ◌≤◌, length, arith, subst}
use Rattle.std.proofs.lemmas.Option.{slice_get_within}
use Rattle.bcj_layout_members.specs.Tables.{Fills}
use Rattle.bcj_layout_members.proofs.Ready.{fills_more}
use Rattle.bcj_layout_members.proofs.visiting.round.Goals as goal

pub loop-k-preserved : goal.loop-k-preserved
loop-k-preserved c =
    let e : c.in_ok-number.field-0 ≡ c.loop-k.k = c.in_ok-number.ensures in
    let one : Fills c.args.classes.now c.loop-k.rows c.visit.new.rows c.loop-k.k = subst (Fills c.args.classes.now c.loop-k.rows c.visit.new.rows) e c.in_ok-visit.ensures.fills in
    record {
      table = c.in_ok-visit.ensures.table;
      keeps = λ k d. c.in_ok-visit.ensures.keeps k (c.loop-k.invariant.keeps k d);
      fills =
          fills_more c.args.classes.now c.args.rows.now c.loop-k.rows c.visit.new.rows c.loop-k.k c.loop-k.invariant.keeps c.in_ok-visit.ensures.keeps c.loop-k.invariant.fills one;
    }

pub returns-clause-fills : goal.returns-clause-fills
returns-clause-fills c k class e loads parts =
    let within : k < length c.args.classes.now = slice_get_within c.args.classes.now k class e in
    let past : length c.args.classes.now ≤ c.loop-k.k = c.loop-k-test.false in
    c.loop-k.invariant.fills k (omega arith) class e loads parts
