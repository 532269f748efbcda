use Rattle.std.proofs.Common.{◌≡◌, ◌<◌, ℕ, None}
use Rattle.bcj_hier_rules.specs.Loading.{load_error}
use Rattle.bcj_layout_rules.specs.Rows.{mixture_of}
use Rattle.bcj_layout_members.specs.Places.{name_at}
use Rattle.bcj_layout_members.specs.Tables.{IsDone}
use Rattle.bcj_layout_members.proofs.visiting.is_full.Given as goal

abbrev pub invariant-loop-k : goal.invariant-loop-k
invariant-loop-k l = (j : ℕ) → j < l.k → load_error (mixture_of l.classes) (name_at l.classes j) ≡ None → IsDone l.rows j
