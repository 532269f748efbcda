use Rattle.std.proofs.Common.{arith}
use Rattle.bcj_tables_rows.proofs.object.with_records.Goals as goal

pub returns : goal.returns
returns c = record {
  text_words = c.requires.object.text_words;
  tab_words = c.requires.object.tab_words;
  symbols = c.requires.object.symbols;
  text_relocs = c.requires.object.text_relocs;
  tab_relocs = c.requires.object.tab_relocs;
  small = omega (arith, c.requires.object.small);
}
