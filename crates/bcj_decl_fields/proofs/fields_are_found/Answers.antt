use Rattle.bcj_decl_fields.proofs.Fields as fields
use Rattle.bcj_decl_fields.proofs.fields_are_found.Goals as goal

pub returns : goal.returns
returns c = fields.fields_are_found
