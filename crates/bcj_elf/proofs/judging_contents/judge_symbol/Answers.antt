use Rattle.bcj_elf.specs.Fields.{tested, word_field}
use Rattle.bcj_elf.specs.Places.{symbol_fields}
use Rattle.bcj_elf.proofs.FirstBad.{on_ok}
use Rattle.bcj_elf.proofs.Good.{symbol_size_right}
use Rattle.bcj_elf.proofs.judging_contents.judge_symbol.Goals as goal

pub returns-clause-place : goal.returns-clause-place
unfolding symbol_fields tested word_field
returns-clause-place c =
    rw (
      c.tested.ensures,
      c.word.ensures,
      c.word_field.ensures,
      c.tested-2.ensures,
      c.byte_field.ensures,
      c.byte_field-2.ensures,
      c.half_field.ensures,
    ) at c.judge.ensures

pub returns-clause-size : goal.returns-clause-size
returns-clause-size c = on_ok _ c.judge.result _ (returns-clause-place c) (symbol_size_right c.args.bytes.now c.args.at c.args.e.now.name c.args.e.now.value c.args.e.now.is_size c.args.e.now.info c.args.e.now.index)
