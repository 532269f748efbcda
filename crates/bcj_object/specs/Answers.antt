-- Why a unit has no object: the first of its numbers that passes a limit.
use Rattle.std.specs.Prelude.{◌≡◌, Some}
use Rattle.bcj_symbolic_trees.specs.Units.{PlainUnit}
use Rattle.bcj_object_rules.specs.Sizes.{excess}
use Rattle.bcj_object.specs.declared.stop.ObjectStop.{ObjectStop}
use Rattle.bcj_object.specs.declared.stop.ObjectStop.TheVariants.{TooLarge, NoMemory}

abbrev pub IsExcess : PlainUnit → ObjectStop → Type 0
IsExcess u (TooLarge what) = excess u ≡ Some what
IsExcess u NoMemory = Unit {0}
