use Rattle.std.proofs.Common.{arith}
use Rattle.bcj_elf.specs.Plain.{plain}
use Rattle.bcj_linker_code.proofs.Words.{none_put, one_put, all_put}
use Rattle.bcj_linker_code.proofs.object.push_object.Goals as goal

pub loop-index-init : goal.loop-index-init
loop-index-init c = λ cs main places object. none_put cs main c.args.first (plain c.args.object.now) _ _ c.args.words.now c.as_slice-relocations.ensures.value object

pub loop-index-preserved : goal.loop-index-preserved
loop-index-preserved c = λ cs main places object.
    one_put cs main c.args.first c.as_slice-relocations.result.now c.as_slice-text.result.now c.args.words.now c.loop-index.words c.push.new.self c.loop-index.index c.loop-index.passed
    c.take_relocation-relocation.new.passed c.word_at.result c.in_ok-relocated.field-0 c.take_relocation-relocation.result c.take_relocation-relocation.ensures.found
    c.take_relocation-relocation.ensures.parted c.word_at.ensures (c.in_ok-relocated.ensures cs main places) c.in_ok-push.ensures.ok (c.loop-index.invariant cs main places object)

pub returns : goal.returns
returns c = λ cs main places object.
    all_put cs main c.args.first (plain c.args.object.now) c.as_slice-relocations.result.now c.as_slice-text.result.now c.args.words.now c.loop-index.words c.loop-index.index c.loop-index.passed
    c.as_slice-relocations.ensures.value c.as_slice-text.ensures.value (omega arith) (c.loop-index.invariant cs main places object)
