use Rattle.std.proofs.Common.{◌≡◌, drop}
use Rattle.bcj_symbolic_trees.specs.Plain.{catches_of}
use Rattle.bcj_symbolic_check.specs.Statements.{catches_hold}
use Rattle.bcj_symbolic_check.specs.function.Views.{frame_of}
use Rattle.bcj_symbolic_check.proofs.statement.catches_hold.Given as goal

abbrev pub invariant-loop-handler : goal.invariant-loop-handler
invariant-loop-handler l = catches_hold (frame_of l.body) (catches_of (drop l.handler-index l.catches)) ≡ catches_hold (frame_of l.body) (catches_of l.catches)
