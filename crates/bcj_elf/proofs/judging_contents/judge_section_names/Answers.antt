use Rattle.bcj_elf.proofs.Turns.{section_names_listed}
use Rattle.bcj_elf.proofs.judging_contents.judge_section_names.Goals as goal

pub returns : goal.returns
returns c =
    rw (section_names_listed c.args.bytes.now c.args.at) (rw (
      c.text_field.ensures,
      c.text_field-2.ensures,
      c.text_field-3.ensures,
      c.text_field-4.ensures,
      c.text_field-5.ensures,
      c.text_field-6.ensures,
      c.text_field-7.ensures,
      c.text_field-8.ensures,
      c.text_field-9.ensures,
    ) at c.judge.ensures)
