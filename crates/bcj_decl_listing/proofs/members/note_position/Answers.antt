use Rattle.std.proofs.Common.{arith}
use Rattle.std.proofs.lemmas.Grind.{text_groups}
use Rattle.bcj_decl_listing.proofs.members.note_position.Goals as goal

pub returns : goal.returns
returns c = λ q. grind (arith, text_groups)
