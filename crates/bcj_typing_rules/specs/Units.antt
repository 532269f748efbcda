-- The symbolic unit of a source unit (JLS 7.3, 13.1), in the world of all units.
use Rattle.std.specs.Prelude.{◌≡◌, ℕ, List, Some, slice_get}
use Rattle.std.specs.List.{AllZip}
use Rattle.bcj_parser_trees.specs.Trees as source
use Rattle.bcj_symbolic_trees.specs.Units.{PlainUnit}
use Rattle.bcj_typing_rules.specs.Members.{BecomesClass}

-- `elab`: the unit with the number `own` among the units becomes `u`, its types in text order
pub record Elaborates (units : List source.PlainUnit) (own : ℕ) (u : PlainUnit) : Type 0 where
  pub unit : source.PlainUnit
  pub is_own : slice_get units own ≡ Some unit
  pub classes : AllZip (BecomesClass units) unit u.classes
