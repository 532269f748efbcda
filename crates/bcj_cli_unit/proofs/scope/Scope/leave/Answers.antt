use Rattle.bcj_cli_unit.proofs.Scopes.{scope_state_take}
use Rattle.bcj_cli_unit.proofs.scope.Scope.leave.Goals as goal

pub returns : goal.returns
returns c = scope_state_take _ _ _ _ _ c.self.view_is c.truncate.ensures.items
