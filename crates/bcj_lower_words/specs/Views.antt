-- What the lines of a method stand for.
use Rattle.std.specs.Prelude.{List, map}
use Rattle.std.specs.Option.{option_map}
use Rattle.bcj_symbolic_measure.specs.function.Counts.{entry_of}
use Rattle.bcj_lower_rules.specs.Lines as rules
use Rattle.bcj_lower_words.specs.declared.line.Address.{Address}
use Rattle.bcj_lower_words.specs.declared.line.Address.TheVariants as address
use Rattle.bcj_lower_words.specs.declared.line.Relocated.{Relocated}
use Rattle.bcj_lower_words.specs.declared.line.Line.{Line}
use Rattle.bcj_lower_words.specs.declared.lines.Lines.{Lines}

abbrev pub address_of : Address → rules.Address
address_of address.Region = rules.region
address_of (address.Entry e) = rules.entry (entry_of e)

abbrev pub relocated_of : Relocated → rules.Relocated
relocated_of r = record { half = r.half; address = address_of r.address }

abbrev pub line_of : Line → rules.Line
line_of l = record { item = l.item; relocated = option_map relocated_of l.relocated }

-- the lines in order
abbrev pub lines_of : Lines → List rules.Line
lines_of l = map line_of l.lines.items
