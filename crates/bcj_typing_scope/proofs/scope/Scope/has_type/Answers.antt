use Rattle.std.proofs.Common.{◌∙◌}
use Rattle.bcj_typing_scope.specs.Surroundings.{world_around}
use Rattle.bcj_typing_scope.proofs.Heads.{has_by_head}
use Rattle.bcj_typing_scope.proofs.scope.Scope.has_type.Goals as goal

pub returns : goal.returns
returns c = c.is_some.ensures ∙ has_by_head (world_around c.args.self.now.world.now) c.args.name.now c.head.result c.head.ensures
