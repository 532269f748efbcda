use Rattle.std.proofs.Common.{◌≡◌, ◌∙◌, ap, arith}
use Rattle.bcj_elf.specs.Layout.{name_len, behind_name}
use Rattle.bcj_elf.specs.Places.{name_fields}
use Rattle.bcj_elf.specs.function.Judging.{plain_field}
use Rattle.bcj_elf.proofs.FirstBad.{exit}
use Rattle.bcj_elf.proofs.Turns.{names_go_on, names_room, names_stop, names_end}
use Rattle.bcj_elf.proofs.judging_contents.judge_names.Goals as goal

pub loop-preserved : goal.loop-preserved
loop-preserved c =
    let code = c.name_length.ensures.value in
    let tables : c.name_length-in-loop.result ≡ name_len (behind_name c.loop.left.now) = c.name_length-in-loop.ensures.value ∙ ap name_len c.after_name-others.ensures in
    let rest = c.after_name-left.ensures ∙ ap behind_name c.after_name-others.ensures in
    let found = c.in_ok-judge_class_names.ensures in
    record {
      room = names_room c.loop.at c.loop.left.now _ c.after_name-left.result.now (omega arith) rest found.code found.tables ∙ c.loop.invariant.room;
      same = names_go_on c.args.bytes.now c.loop.at c.loop.left.now c.loop.counter c.args.classes _ c.after_name-left.result.now _ c.loop-test.true (omega arith) rest c.loop.invariant.same found.place;
    }

pub returns-in_err-judge_class_names : goal.returns-in_err-judge_class_names
returns-in_err-judge_class_names c =
    exit _ _ _ c.from_residual.ensures.1 (names_stop c.args.bytes.now c.loop.at c.loop.left.now c.loop.counter c.args.classes _ _ c.loop-test.true c.loop.invariant.same c.in_err-judge_class_names.ensures.place)

pub returns : goal.returns
unfolding name_fields plain_field
returns c = (rw c.is_empty.ensures at c.judge.ensures) ∙ names_end c.args.bytes.now c.loop.at c.loop.left.now c.loop.counter c.args.classes _ c.loop-test.false c.loop.invariant.same
