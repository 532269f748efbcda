-- What the functions that judge fields answer. Private contracts cite it.
use Rattle.std.specs.Prelude.{ℕ, List, Result, Ok, Err, Option, Some, None}
use Rattle.bcj_elf.specs.declared.field.BadField.{BadField}
use Rattle.bcj_elf.specs.declared.field.Field as judged
use Rattle.bcj_elf.specs.declared.judging_contents.Turn as turn
use Rattle.bcj_elf.specs.Fields.{Field}
use Rattle.bcj_elf.specs.Places.{Turn}

-- the bad field of an answer
abbrev pub verdict : {T : Type 0} → Result T BadField → Option (ℕ × List ℕ)
verdict (Ok found) = None
verdict (Err b) = Some (b.at, b.what.now)

unfoldable pub plain_field : judged.Field → Field
plain_field f = record { name = f.what.now; at = f.at; size = f.size; is_right = f.is_right }

unfoldable pub plain_turn : turn.Turn → Turn
plain_turn t = record { at = t.at; name = t.name; left = t.left.now; text = t.text; tab = t.tab }
