use Rattle.std.proofs.Common.{◌≡◌, Bool, true, false, cond, refl, ◌∙◌}
use Rattle.std.specs.Prelude.{◌||◌, string_bytes}
use Rattle.std.specs.Str.{bytes_eq}
use Rattle.std.specs.HashSet.{contains_text}
use Rattle.std.proofs.lemmas.Map.Text.{hash_set_updates_text}
use Rattle.bcj_tables.proofs.keys.note.Goals as goal

either : (a b : Bool) → cond a true b ≡ (b || a)
either true true = refl
either true false = refl
either false true = refl
either false false = refl

pub returns : goal.returns
returns c = λ q. hash_set_updates_text (string_bytes c.args.key) c.args.keys.now c.insert.new.self true c.in_ok-insert.ensures.updates q ∙ either (bytes_eq (string_bytes c.args.key) q) (contains_text c.args.keys.now q)
