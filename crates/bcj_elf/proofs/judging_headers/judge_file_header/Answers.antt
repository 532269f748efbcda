use Rattle.bcj_elf.specs.Places.{file_header_fields}
use Rattle.bcj_elf.proofs.judging_headers.judge_file_header.Goals as goal

pub returns : goal.returns
unfolding file_header_fields
returns c =
    rw (
      c.text_field.ensures,
      c.byte_field.ensures,
      c.byte_field-2.ensures,
      c.byte_field-3.ensures,
      c.byte_field-4.ensures,
      c.text_field-2.ensures,
      c.half_field.ensures,
      c.half_field-2.ensures,
      c.word_field.ensures,
      c.word_field-2.ensures,
      c.word_field-3.ensures,
      c.tested.ensures,
      c.word_field-4.ensures,
      c.half_field-3.ensures,
      c.half_field-4.ensures,
      c.half_field-5.ensures,
      c.half_field-6.ensures,
      c.half_field-7.ensures,
      c.half_field-8.ensures,
      c.is_headers_offset.ensures,
      c.word-shoff.ensures,
    ) at c.judge.ensures
