use Rattle.bcj_symbolic_measure.proofs.ObjectLemmas.{file-built}
use Rattle.bcj_symbolic_measure.proofs.object.file_size.Goals as goal

pub returns : goal.returns
returns c =
    file-built _ _ _ _ _ _ _ _ _ _ _ _ _ _ _ _ _ _ _ _ _ _ _ _
    c.plus-counted.ensures c.plus-symbol_count.ensures
    c.times-text_size.ensures c.times-text_relocations_size.ensures c.times-tables_size.ensures c.times-table_relocations_size.ensures
    c.plus-records_size.ensures c.times-symbols_size.ensures c.plus-names_size.ensures
    c.placed-text.ensures c.placed-text_relocations.ensures c.placed-tables.ensures c.placed-table_relocations.ensures
    c.placed-records.ensures c.placed-symbols.ensures c.placed-names.ensures c.placed-section_names.ensures c.placed.ensures
