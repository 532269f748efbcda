-- A walk over nodes in preorder: the place of the next node, and that of the first node without a rule.
use Rattle.std.specs.Prelude.{◌+◌, min, Bool, List, [], ◌∷◌, Some, None, unwrap_or, if◌then◌else◌}
use Rattle.bcj_symbolic_check.specs.declared.walk.Walk.{Walk}
use Rattle.bcj_symbolic_check.specs.Limits.{max_place}

unfoldable pub started : Walk
started = record { place = 0; fault = None }

-- past a node that has a rule or none
unfoldable pub stepped : Walk → Bool → Walk
stepped w holds = record { place = min (w.place + 1) max_place; fault = if holds then w.fault else Some (unwrap_or w.fault w.place) }

unfoldable pub noted : Walk → List Bool → Walk
noted w [] = w
noted w (holds ∷ rest) = noted (stepped w holds) rest

-- a walk that stepped over a node as if it had a rule, once it is known whether it has
unfoldable pub settled : Walk → Bool → Walk → Walk
settled before holds w = record { place = w.place; fault = if holds then w.fault else Some (unwrap_or before.fault before.place) }
