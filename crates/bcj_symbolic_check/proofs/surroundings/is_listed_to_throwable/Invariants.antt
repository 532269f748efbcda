use Rattle.std.proofs.Common.{◌≡◌, drop, map}
use Rattle.bcj_symbolic_trees.specs.Types.{given}
use Rattle.bcj_symbolic_trees.specs.Units.{pair_of}
use Rattle.std.specs.List.{list_any}
use Rattle.bcj_symbolic_check.specs.Steps.{is_pair, throwable_type}
use Rattle.bcj_symbolic_check.specs.function.Views.{kind_of}
use Rattle.bcj_symbolic_check.proofs.surroundings.is_listed_to_throwable.Given as goal

abbrev pub invariant-loop-pair : goal.invariant-loop-pair
invariant-loop-pair l = list_any (is_pair (kind_of l.from) (given throwable_type)) (map pair_of (drop l.pair-index l.pairs)) ≡ list_any (is_pair (kind_of l.from) (given throwable_type)) (map pair_of l.pairs)
