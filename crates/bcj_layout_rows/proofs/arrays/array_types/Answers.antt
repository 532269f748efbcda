use Rattle.bcj_layout_rows.proofs.ArrayLemmas.{answers-distinct}
use Rattle.bcj_layout_rows.proofs.arrays.array_types.Goals as goal

pub returns-clause-distinct : goal.returns-clause-distinct
returns-clause-distinct c = answers-distinct c.args.resolver.now c.loading_arrays.result c.loading_arrays.ensures
