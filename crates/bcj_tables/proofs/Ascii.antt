-- Texts of ASCII characters.
use Rattle.std.proofs.Common.{◌≡◌, ℕ, zero, suc, ◌+◌, ◌-◌, ◌<◌, ◌≤◌, true, List, [], ◌∷◌, length, get_or, take, drop, arith}
use Rattle.std.specs.Str.{IsUtf8}
use Rattle.std.proofs.lemmas.Str.{IsUtf8-from_ascii}
use Rattle.std.proofs.lemmas.Bool.{ltb-true, leb-true}
use Rattle.std.proofs.lemmas.List.{length-take-le, length-drop}
use Rattle.bcj_tables_rules.specs.Steps.{is_ascii, has_text, text_bytes, next_text, next_word}
use Rattle.bcj_tables_rules.proofs.Lawful.{both}

-- the test tells texts of ASCII characters
ascii_tested : (t : List ℕ) → is_ascii t ≡ true → (i : ℕ) → get_or t i 0 < 128
ascii_tested [] h i = omega arith
ascii_tested (b ∷ t) h zero = ltb-true b 128 (both _ _ h).0
ascii_tested (b ∷ t) h (suc i) = ascii_tested t (both _ _ h).1 i

-- a whole text is UTF-8
pub utf8_tested : (bytes : List ℕ) → has_text bytes ≡ true → IsUtf8 (text_bytes bytes)
unfolding has_text
utf8_tested bytes h = IsUtf8-from_ascii (text_bytes bytes) (ascii_tested (text_bytes bytes) (both _ _ h).1)

-- a whole text and its length stand in the bytes
pub whole_text : (bytes : List ℕ) → has_text bytes ≡ true → 4 + length (next_text bytes) ≤ length bytes
unfolding has_text text_bytes next_text
whole_text bytes h =
    let p = both _ _ (both _ _ h).0 in
    let four : 4 ≤ length bytes = leb-true _ _ p.0 in
    let fits : next_word bytes ≤ length bytes - 4 = leb-true _ _ p.1 in
    let size : length (take (next_word bytes) (drop 4 bytes)) ≡ next_word bytes = length-take-le (next_word bytes) (drop 4 bytes) (omega (arith, length-drop 4 bytes)) in
    rw h (omega (arith, size))

pub ruleset utf8_rules = (utf8_tested)
