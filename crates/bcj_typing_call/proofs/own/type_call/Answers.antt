use Rattle.std.proofs.Common.{ap}
use Rattle.bcj_typing_node.specs.Forms.{choice_of}
use Rattle.bcj_typing_call.proofs.Chosen.{type_chosen}
use Rattle.bcj_typing_call.proofs.own.type_call.Goals as goal

pub returns-in-One : goal.returns-in-One
returns-in-One c = type_chosen _ _ _ _ _ _ _ (ap choice_of c.in-One.is) c.is_static.ensures c.type_call_by.ensures
