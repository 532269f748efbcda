use Rattle.bcj_cli_code.proofs.Reversed.{frame_take}
use Rattle.bcj_cli_code.proofs.scope.Scope.leave.Goals as goal

pub returns : goal.returns
returns c = frame_take _ _ _ _ _ c.self.view_is c.truncate.ensures.items
