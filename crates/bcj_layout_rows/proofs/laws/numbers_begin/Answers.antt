use Rattle.bcj_layout_rows.proofs.RowLemmas.{classes_first, arrays_behind, numbered_from_one}
use Rattle.bcj_layout_rows.proofs.laws.numbers_begin.Goals as goal

pub returns-clause-classes : goal.returns-clause-classes
returns-clause-classes c = classes_first

pub returns-clause-arrays : goal.returns-clause-arrays
returns-clause-arrays c = arrays_behind

pub returns-clause-selectors : goal.returns-clause-selectors
returns-clause-selectors c = numbered_from_one
