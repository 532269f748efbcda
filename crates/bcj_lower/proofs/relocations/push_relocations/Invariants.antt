use Rattle.std.proofs.Common.{◌≡◌, ◌++◌, List, map}
use Rattle.std.specs.Iterator.Adapters.{zip_first, zip_second}
use Rattle.std.specs.Slice.Iter.{iter_rest}
use Rattle.bcj_symbolic_measure.specs.Entries.{PlainEntry}
use Rattle.bcj_lower_rules.specs.Classes.{relocations_at}
use Rattle.bcj_lower_words.specs.Views.{line_of}
use Rattle.bcj_lower.specs.Views.{relocation_in}
use Rattle.bcj_lower.specs.function.Tables.{tables_in, tables_of}
use Rattle.bcj_lower.proofs.relocations.push_relocations.Given as goal

abbrev pub invariant-loop-line : goal.invariant-loop-line
invariant-loop-line l =
    (uses : List PlainEntry) → tables_in l.tables ≡ tables_of uses
    → map relocation_in l.relocs.items ++ relocations_at uses l.start (map line_of (iter_rest (zip_first l.line-iterator))) (iter_rest (zip_second l.line-iterator))
    ≡ map relocation_in l.initial.relocs.items ++ relocations_at uses l.start (map line_of l.fn.lines) l.fn.places
