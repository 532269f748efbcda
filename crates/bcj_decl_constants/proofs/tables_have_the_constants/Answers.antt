use Rattle.bcj_decl_constants.proofs.Whole.{each_value_is_a_constant, each_constant_is_there}
use Rattle.bcj_decl_constants.proofs.tables_have_the_constants.Goals as goal

pub returns-clause-right : goal.returns-clause-right
returns-clause-right c = each_value_is_a_constant

pub returns-clause-whole : goal.returns-clause-whole
returns-clause-whole c = each_constant_is_there
