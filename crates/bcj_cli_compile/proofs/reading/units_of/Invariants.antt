use Rattle.std.proofs.Common.{map, take}
use Rattle.std.specs.List.{AllZip}
use Rattle.bcj_parser_trees.specs.Plain.{unit_of}
use Rattle.bcj_cli_compile.specs.Texts.{Parses}
use Rattle.bcj_cli_compile.proofs.reading.units_of.Given as goal

abbrev pub invariant-loop-file : goal.invariant-loop-file
invariant-loop-file l = AllZip Parses (take l.file l.sources) (map unit_of l.units.items)
