use Rattle.std.proofs.Common.{arith}
use Rattle.std.proofs.lemmas.Map.Text.{text_keys}
use Rattle.bcj_decl_member_faults.proofs.earlier.replace_place.Goals as goal

pub returns-clause-new : goal.returns-clause-new
returns-clause-new c = λ q. grind (arith, text_keys)
