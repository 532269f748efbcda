use Rattle.std.proofs.Common.{ap}
use Rattle.bcj_typing_node.specs.Forms.{choice_of}
use Rattle.bcj_typing_node.specs.Typings.{typing_of}
use Rattle.bcj_typing_call.proofs.Chosen.{behind_chosen}
use Rattle.bcj_typing_call.proofs.behind.behind_call.Goals as goal

pub returns-in-One : goal.returns-in-One
returns-in-One c = behind_chosen _ _ (typing_of c.args.target) _ _ _ _ _ _ (ap choice_of c.in-One.is) c.is_static.ensures c.behind_call_by.ensures
