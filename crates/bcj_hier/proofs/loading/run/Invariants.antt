use Rattle.std.proofs.Common.{count_by}
use Rattle.bcj_hier.specs.Loads.{IsSound, is_open}
use Rattle.bcj_hier.proofs.loading.run.Given as goal

abbrev pub invariant-loop : goal.invariant-loop
invariant-loop l = IsSound l.heads l.loading.states.items l.loading.rows.items

abbrev pub decreases-loop : goal.decreases-loop
decreases-loop l = count_by is_open l.loading.states.items
