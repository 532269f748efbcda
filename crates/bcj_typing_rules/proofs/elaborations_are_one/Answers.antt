use Rattle.bcj_typing_rules.proofs.Members.{one_class, one_unit}
use Rattle.bcj_typing_rules.proofs.elaborations_are_one.Goals as goal

pub returns-clause-classes : goal.returns-clause-classes
returns-clause-classes _ units a right only t x y h k = one_class units a right only t x y h k

pub returns-clause-units : goal.returns-clause-units
returns-clause-units _ units a right only own u v x y = one_unit units a right only own u v x y
