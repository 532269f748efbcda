use Rattle.std.proofs.Common.{arith}
use Rattle.std.proofs.lemmas.Map.Text.{text_keys}
use Rattle.bcj_linker_objects.proofs.names.note.Goals as goal

pub returns-in_ok-insert-clause-owners : goal.returns-in_ok-insert-clause-owners
returns-in_ok-insert-clause-owners c = λ q. grind (arith, text_keys)
