use Rattle.bcj_decl_soundness.proofs.Constants as constants
use Rattle.bcj_decl_soundness.proofs.constants_are_found.Goals as goal

pub returns-clause-right : goal.returns-clause-right
returns-clause-right c = constants.each_value_is_constant

pub returns-clause-whole : goal.returns-clause-whole
returns-clause-whole c = constants.each_constant_is_found

pub returns-clause-fields : goal.returns-clause-fields
returns-clause-fields c = constants.each_field_is_found
