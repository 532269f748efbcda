use Rattle.bcj_cli_compile.proofs.Carried.{one_unit_is}
use Rattle.bcj_cli_compile.proofs.laws.one_is_accepted.Goals as goal

pub returns : goal.returns
returns c =
    one_unit_is c.one_cutting.ensures.tokens c.one_unit.ensures c.declared_worlds_are_answered.ensures.right c.declared_worlds_are_answered.ensures.one c.elaborations_are_one.ensures.units
