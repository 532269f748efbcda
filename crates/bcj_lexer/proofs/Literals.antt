-- `number_kind` and `Literal` agree: what a number word is
use Rattle.std.proofs.Common.{◌≡◌, ℕ, Bool, true, false, cond, ◌&&◌, ◌==◌, ◌⊎◌, inl, inr, [], ◌∷◌, Option, Some, None, refl, sym, ◌∙◌, ap, subst, eqb-true}
use Rattle.std.proofs.lemmas.Bool.{and_parts}
use Rattle.std.specs.Option.{unwrap_or}
use Rattle.bcj_lexer.specs.declared.TokenKind.{TokenKind}
use Rattle.bcj_lexer.specs.declared.TokenKind.TheVariants as kind
use Rattle.bcj_names.specs.Identifiers.{is_digit}
use Rattle.bcj_lexer.specs.Bytes.{Text, is_octal_digit, is_binary_digit, is_hex_digit, is_sign, is_x, is_b, is_e, is_p, is_long_suffix, is_float_suffix}
use Rattle.bcj_lexer.specs.Numbers.{Gap, none, underscore, Digits, one, more, Numeral, zero, decimal as decimal_numeral, hexadecimal as hexadecimal_numeral, octal, binary, Maybe, left_out, present, Exponent, unsigned as unsigned_exponent, signed, FloatSuffix, float_suffix, Point, point, FloatLiteral, fraction as fraction_literal, fraction_alone, exponent, suffix, hexadecimal_whole, hexadecimal_fraction, Literal, int, long, float}
use Rattle.bcj_lexer.specs.function.Words.{past, digits, integer_end, float_end, unsigned, past_exponent, decimal_end, integer_at, float_at, binary_end, decimal_float, octal_or, decimal_by, decimal_at, decimal, fraction_at, fraction, hex_float, hex_by, binary_at, hex_point, hex_at, hexadecimal, based, number_kind}
use Rattle.bcj_lexer.proofs.ByteClasses as byte

-- ---- digits

cond_some : {A : Type 0} (t : Bool) (o p : Option A) (r : A) → cond t o None ≡ Some r → cond t o p ≡ Some r
cond_some true o p r e = e
cond_some false o p r e = absurd (cc)

from_digits : (digit : ℕ → Bool) (z r : Text) → digits digit z ≡ Some r → (ends : Bool) → past digit ends z ≡ Some r
unfolding past digits
from_digits digit [] r e ends = absurd (cc)
from_digits digit (b ∷ z) r e ends = cond_some (digit b) (past digit true z) (cond (b == 95) (past digit false z) (cond ends (Some (b ∷ z)) None)) r e

past_gap : (digit : ℕ → Bool) → digit 95 ≡ false → {z m : Text} (r : Text) → Gap z m → digits digit m ≡ Some r → (ends : Bool) → past digit ends z ≡ Some r
unfolding past
past_gap digit u r (none {r = m}) e ends = from_digits digit m r e ends
past_gap digit u r (underscore {z = z} g) e ends = rw u (past_gap digit u r g e false)

digits_read : (digit : ℕ → Bool) → digit 95 ≡ false → {z r : Text} → Digits digit z r → past digit true r ≡ Some r → digits digit z ≡ Some r
unfolding digits
digits_read digit u (one {b = b} {r = r} h) e = rw h e
digits_read digit u (more {b = b} {r = r} h g d) e = rw h (past_gap digit u r g (digits_read digit u d e) true)

abbrev PastSound : (ℕ → Bool) → Bool → Text → Text → Type 0
PastSound digit ends z r = ((ends ≡ true) × (z ≡ r)) ⊎ ((m : Text) × Gap z m × Digits digit m r)

past_sound : (digit : ℕ → Bool) (ends : Bool) (z r : Text) → past digit ends z ≡ Some r → PastSound digit ends z r
unfolding past
past_sound digit true [] r e = inl (refl, cc)
past_sound digit false [] r e = absurd (cc)
past_sound digit ends (b ∷ z) r e =
    elim (digit b) as (λ t. digit b ≡ t → cond t (past digit true z) (cond (b == 95) (past digit false z) (cond ends (Some (b ∷ z)) None)) ≡ Some r → PastSound digit ends (b ∷ z) r) [
      | true ↦ λ h f. elim (past_sound digit true z r f) [
        | inl p ↦ inr (b ∷ z, none, subst (λ y. Digits digit (b ∷ y) r) (sym p.1) (one h))
        | inr q ↦ inr (b ∷ z, none, more h q.1 q.2)
      ]
      | false ↦ λ h. elim (b == 95) as (λ t. (b == 95) ≡ t → cond t (past digit false z) (cond ends (Some (b ∷ z)) None) ≡ Some r → PastSound digit ends (b ∷ z) r) [
        | true ↦ λ k f. elim (past_sound digit false z r f) [
          | inl p ↦ absurd (cc (p.0))
          | inr q ↦ inr (q.0, subst (λ c. Gap (c ∷ z) q.0) (sym (eqb-true b 95 k)) (underscore q.1), q.2)
        ]
        | false ↦ λ k. elim ends as (λ t. cond t (Some (b ∷ z)) None ≡ Some r → PastSound digit t (b ∷ z) r) [
          | true ↦ λ f. inl (refl, cc)
          | false ↦ λ f. absurd (cc)
        ]
      ] refl
    ] refl e

digits_sound : (digit : ℕ → Bool) (z r : Text) → digits digit z ≡ Some r → Digits digit z r
unfolding digits
digits_sound digit [] r e = absurd (cc)
digits_sound digit (b ∷ z) r e =
    elim (digit b) as (λ t. digit b ≡ t → cond t (past digit true z) None ≡ Some r → Digits digit (b ∷ z) r) [
      | true ↦ λ h f. elim (past_sound digit true z r f) [
        | inl p ↦ subst (λ y. Digits digit (b ∷ y) r) (sym p.1) (one h)
        | inr q ↦ more h q.1 q.2
      ]
      | false ↦ λ h f. absurd (cc)
    ] refl e

-- the text does not go on with digits of this kind
abbrev Apart : (ℕ → Bool) → Text → Type 0
Apart digit [] = Unit {0}
Apart digit (b ∷ z) = (digit b ≡ false) × ((b == 95) ≡ false)

apart_past : (digit : ℕ → Bool) (z : Text) → Apart digit z → past digit true z ≡ Some z
unfolding past
apart_past digit [] a = refl
apart_past digit (b ∷ z) a = let h = a.0 in let k = a.1 in rw (h, k) refl

apart_none : (digit : ℕ → Bool) (z : Text) → Apart digit z → digits digit z ≡ None
unfolding digits
apart_none digit [] a = refl
apart_none digit (b ∷ z) a = let h = a.0 in rw h refl

digits_to : (digit : ℕ → Bool) → digit 95 ≡ false → {z r : Text} → Digits digit z r → Apart digit r → digits digit z ≡ Some r
digits_to digit u {r = r} d a = digits_read digit u d (apart_past digit r a)

no_underscore : is_digit 95 ≡ false
no_underscore = refl

no_underscore_octal : is_octal_digit 95 ≡ false
unfolding is_octal_digit
no_underscore_octal = refl

no_underscore_binary : is_binary_digit 95 ≡ false
unfolding is_binary_digit
no_underscore_binary = refl

no_underscore_hex : is_hex_digit 95 ≡ false
unfolding is_hex_digit
no_underscore_hex = refl

octal_digits : {z r : Text} → Digits is_octal_digit z r → Digits is_digit z r
octal_digits (one {b = b} h) = one (byte.octal_digit b h)
octal_digits (more {b = b} h g d) = more (byte.octal_digit b h) g (octal_digits d)

-- ---- ends of a word

suffix_read : {z : Text} → FloatSuffix z [] → float_end z ≡ Some kind.Float
unfolding float_end
suffix_read (float_suffix {b = b} h) = rw h refl

float_read : {z : Text} → Maybe FloatSuffix z [] → float_end z ≡ Some kind.Float
unfolding float_end
float_read left_out = refl
float_read (present s) = suffix_read s

suffix_apart : {z : Text} → FloatSuffix z [] → Apart is_digit z
suffix_apart (float_suffix {b = b} h) = (byte.float_suffix-digit b h, byte.float_suffix-underscore b h)

float_apart : {z : Text} → Maybe FloatSuffix z [] → Apart is_digit z
float_apart left_out = tt
float_apart (present s) = suffix_apart s

digits_unsigned : {z r : Text} → Digits is_digit z r → unsigned z ≡ z
unfolding unsigned
digits_unsigned (one {b = b} h) = let n = byte.digit-sign b h in rw n refl
digits_unsigned (more {b = b} h g d) = let n = byte.digit-sign b h in rw n refl

exponent_read : (indicator : ℕ → Bool) → {z r : Text} → Exponent indicator z r → Apart is_digit r → past_exponent indicator z ≡ Some r
unfolding past_exponent unsigned
exponent_read indicator (unsigned_exponent {z = z} h d) a = rw (h, digits_unsigned d) (digits_to is_digit no_underscore d a)
exponent_read indicator (signed {s = s} h k d) a = rw (h, k) (digits_to is_digit no_underscore d a)

exponent_long : (indicator : ℕ → Bool) → {z r : Text} → Exponent indicator z r → integer_end z ≡ None
unfolding integer_end
exponent_long indicator (unsigned_exponent h (one k)) = refl
exponent_long indicator (unsigned_exponent h (more k g d)) = refl
exponent_long indicator (signed h k d) = refl

exponent_apart : {z r : Text} → Exponent is_e z r → Apart is_digit z
exponent_apart (unsigned_exponent {b = b} h d) = (byte.e-digit b h, byte.e-underscore b h)
exponent_apart (signed {b = b} h k d) = (byte.e-digit b h, byte.e-underscore b h)

binary_apart : {z r : Text} → Exponent is_p z r → Apart is_hex_digit z
binary_apart (unsigned_exponent {b = b} h d) = (byte.p-hex_digit b h, byte.p-underscore b h)
binary_apart (signed {b = b} h k d) = (byte.p-hex_digit b h, byte.p-underscore b h)

no_exponent : {z : Text} → Maybe FloatSuffix z [] → past_exponent is_e z ≡ None
unfolding past_exponent
no_exponent left_out = refl
no_exponent (present (float_suffix {b = b} h)) = let n = byte.float_suffix-e b h in rw n refl

decimal_end_read : {z n : Text} → Maybe (Exponent is_e) z n → Maybe FloatSuffix n [] → decimal_end z ≡ Some kind.Float
unfolding decimal_end
decimal_end_read {z = z} left_out s = let h = no_exponent s in rw h (float_read s)
decimal_end_read (present x) s = let h = exponent_read is_e x (float_apart s) in rw h (float_read s)

end_apart : {z n : Text} → Maybe (Exponent is_e) z n → Maybe FloatSuffix n [] → Apart is_digit z
end_apart left_out s = float_apart s
end_apart (present x) s = exponent_apart x

binary_end_read : {z n : Text} → Exponent is_p z n → Maybe FloatSuffix n [] → binary_end z ≡ Some kind.Float
unfolding binary_end float_at
binary_end_read x s = let h = exponent_read is_p x (float_apart s) in rw h (float_read s)

-- what an integer literal ends with
data IntegerEnd : Text → TokenKind → Type 0 where
  int_end : IntegerEnd [] kind.Int
  long_end : {b : ℕ} → is_long_suffix b ≡ true → IntegerEnd (b ∷ []) kind.Long

integer_read : {r : Text} {k : TokenKind} → IntegerEnd r k → integer_end r ≡ Some k
unfolding integer_end
integer_read int_end = refl
integer_read (long_end h) = rw h refl

integer_apart : {r : Text} {k : TokenKind} → IntegerEnd r k → Apart is_digit r
integer_apart int_end = tt
integer_apart (long_end {b = b} h) = (byte.long_suffix-digit b h, byte.long_suffix-underscore b h)

integer_apart_hex : {r : Text} {k : TokenKind} → IntegerEnd r k → Apart is_hex_digit r
integer_apart_hex int_end = tt
integer_apart_hex (long_end {b = b} h) = (byte.long_suffix-hex_digit b h, byte.long_suffix-underscore b h)

integer_apart_octal : {r : Text} {k : TokenKind} → IntegerEnd r k → Apart is_octal_digit r
integer_apart_octal int_end = tt
integer_apart_octal (long_end {b = b} h) = (byte.long_suffix-octal_digit b h, byte.long_suffix-underscore b h)

integer_apart_binary : {r : Text} {k : TokenKind} → IntegerEnd r k → Apart is_binary_digit r
integer_apart_binary int_end = tt
integer_apart_binary (long_end {b = b} h) = (byte.long_suffix-binary_digit b h, byte.long_suffix-underscore b h)

-- ---- the base

-- the text does not begin with `x`, `X`, `b` or `B`
abbrev Plain : Text → Type 0
Plain [] = Unit {0}
Plain (c ∷ z) = (is_x c ≡ false) × (is_b c ≡ false)

integer_plain : {r : Text} {k : TokenKind} → IntegerEnd r k → Plain r
integer_plain int_end = tt
integer_plain (long_end {b = b} h) = (byte.long_suffix-x b h, byte.long_suffix-b b h)

exponent_plain : {z r : Text} → Exponent is_e z r → Plain z
exponent_plain (unsigned_exponent {b = b} h d) = (byte.e-x b h, byte.e-b b h)
exponent_plain (signed {b = b} h k d) = (byte.e-x b h, byte.e-b b h)

suffix_plain : {z : Text} → FloatSuffix z [] → Plain z
suffix_plain (float_suffix {b = b} h) = (byte.float_suffix-x b h, byte.float_suffix-b b h)

digits_plain : {z r : Text} → Digits is_digit z r → Plain z
digits_plain (one {b = b} h) = (byte.digit-x b h, byte.digit-b b h)
digits_plain (more {b = b} h g d) = (byte.digit-x b h, byte.digit-b b h)

underscore_plain : (is_x 95 ≡ false) × (is_b 95 ≡ false)
unfolding is_x is_b
underscore_plain = (refl, refl)

gap_plain : {z m r : Text} → Gap z m → Digits is_digit m r → Plain z
gap_plain none d = digits_plain d
gap_plain (underscore g) d = underscore_plain

based_plain : (b : ℕ) (z : Text) → Plain z → based b z ≡ decimal (b ∷ z)
unfolding based
based_plain b [] p = refl
based_plain b (c ∷ z) p = let h = p.0 in let k = p.1 in rw (h, k) refl

decimal_word : {w r : Text} → Digits is_digit w r → Plain r → number_kind w ≡ decimal w
unfolding number_kind
decimal_word (one {b = b} {r = r} h) p = let n = byte.digit-point b h in rw n (based_plain b r p)
decimal_word (more {b = b} {z = z} h g d) p = let n = byte.digit-point b h in rw n (based_plain b z (gap_plain g d))

-- ---- integer literals are read

decimal_some : (w r : Text) (k : TokenKind) → digits is_digit w ≡ Some r → integer_end r ≡ Some k → decimal w ≡ octal_or w k
unfolding decimal decimal_at decimal_by
decimal_some w r k e f = rw (e, f) refl

digit_zero : is_digit 48 ≡ true
digit_zero = refl

octal_zero : (z : Text) (k : TokenKind) → octal_or (48 ∷ z) k ≡ integer_at (past is_octal_digit true z)
unfolding octal_or
octal_zero z k = refl

octal_other : (b : ℕ) (z : Text) (k : TokenKind) → (b == 48) ≡ false → octal_or (b ∷ z) k ≡ Some k
unfolding octal_or
octal_other b z k h = rw h refl

hexadecimal_word : (x : ℕ) (z : Text) → is_x x ≡ true → number_kind (48 ∷ x ∷ z) ≡ hexadecimal z
unfolding number_kind based
hexadecimal_word x z h = rw h refl

hexadecimal_some : (z r : Text) (k : TokenKind) → digits is_hex_digit z ≡ Some r → integer_end r ≡ Some k → hexadecimal z ≡ Some k
unfolding hexadecimal hex_at hex_by
hexadecimal_some z r k e f = rw (e, f) refl

binary_word : (b : ℕ) (z : Text) → is_b b ≡ true → number_kind (48 ∷ b ∷ z) ≡ integer_at (digits is_binary_digit z)
unfolding number_kind based
binary_word b z h = let n = byte.b-x b h in rw (n, h) refl

numeral_read : {w r : Text} {k : TokenKind} → Numeral w r → IntegerEnd r k → number_kind w ≡ Some k
unfolding integer_at
numeral_read {k = k} (zero {r = r}) i =
    let d : Digits is_digit (48 ∷ r) r = one digit_zero in
    let e = digits_to is_digit no_underscore d (integer_apart i) in
    let past_is = apart_past is_octal_digit r (integer_apart_octal i) in
    decimal_word d (integer_plain i) ∙ decimal_some (48 ∷ r) r k e (integer_read i) ∙ octal_zero r k ∙ rw past_is (integer_read i)
numeral_read {k = k} (decimal_numeral {b = b} {z = z} {r = r} n d) i =
    let e = digits_to is_digit no_underscore d (integer_apart i) in
    decimal_word d (integer_plain i) ∙ decimal_some (b ∷ z) r k e (integer_read i) ∙ octal_other b z k n
numeral_read {k = k} (hexadecimal_numeral {x = x} {z = z} {r = r} h d) i =
    hexadecimal_word x z h ∙ hexadecimal_some z r k (digits_to is_hex_digit no_underscore_hex d (integer_apart_hex i)) (integer_read i)
numeral_read {k = k} (octal {z = z} {m = m} {r = r} g d) i =
    let w : Digits is_digit (48 ∷ z) r = more digit_zero g (octal_digits d) in
    let e = digits_to is_digit no_underscore w (integer_apart i) in
    let past_is = past_gap is_octal_digit no_underscore_octal r g (digits_to is_octal_digit no_underscore_octal d (integer_apart_octal i)) true in
    decimal_word w (integer_plain i) ∙ decimal_some (48 ∷ z) r k e (integer_read i) ∙ octal_zero z k ∙ rw past_is (integer_read i)
numeral_read {k = k} (binary {b = b} {z = z} {r = r} h d) i =
    let e = digits_to is_binary_digit no_underscore_binary d (integer_apart_binary i) in
    binary_word b z h ∙ rw e (integer_read i)

-- ---- floating-point literals are read

decimal_none : (w r : Text) → digits is_digit w ≡ Some r → integer_end r ≡ None → decimal w ≡ decimal_float r
unfolding decimal decimal_at decimal_by
decimal_none w r e f = rw (e, f) refl

decimal_tail : {w n : Text} → Digits is_digit w n → Apart is_digit n → Plain n → integer_end n ≡ None → number_kind w ≡ decimal_float n
decimal_tail {w = w} {n = n} d a p e = decimal_word d p ∙ decimal_none w n (digits_to is_digit no_underscore d a) e

point_integer : (m : Text) → integer_end (46 ∷ m) ≡ None
unfolding integer_end is_long_suffix
point_integer [] = refl
point_integer (b ∷ m) = refl

point_apart : (m : Text) → Apart is_digit (46 ∷ m)
point_apart m = (refl, refl)

point_apart_hex : (m : Text) → Apart is_hex_digit (46 ∷ m)
unfolding is_hex_digit
point_apart_hex m = (refl, refl)

point_plain : (m : Text) → Plain (46 ∷ m)
unfolding is_x is_b
point_plain m = (refl, refl)

-- digits that may be left out before something that is none
maybe_digits : (digit : ℕ → Bool) → digit 95 ≡ false → {m n : Text} → Maybe (Digits digit) m n → Apart digit n → unwrap_or (digits digit m) m ≡ n
maybe_digits digit u (left_out {r = n}) a = let e = apart_none digit n a in rw e refl
maybe_digits digit u (present d) a = let e = digits_to digit u d a in rw e refl

exponent_point : {z r : Text} → Exponent is_e z r → decimal_float z ≡ decimal_end z
unfolding decimal_float
exponent_point (unsigned_exponent {b = b} h d) = let n = byte.e-point b h in rw n refl
exponent_point (signed {b = b} h k d) = let n = byte.e-point b h in rw n refl

suffix_point : {z : Text} → FloatSuffix z [] → decimal_float z ≡ decimal_end z
unfolding decimal_float
suffix_point (float_suffix {b = b} h) = let n = byte.float_suffix-point b h in rw n refl

suffix_integer : {z : Text} → FloatSuffix z [] → integer_end z ≡ None
unfolding integer_end
suffix_integer (float_suffix {b = b} h) = let n = byte.float_suffix-long_suffix b h in rw n refl

binary_point : {z r : Text} → Exponent is_p z r → hex_float z ≡ binary_end z
unfolding hex_float
binary_point (unsigned_exponent {b = b} h d) = let n = byte.p-point b h in rw n refl
binary_point (signed {b = b} h k d) = let n = byte.p-point b h in rw n refl

decimal_float-point : (m : Text) → decimal_float (46 ∷ m) ≡ decimal_end (unwrap_or (digits is_digit m) m)
unfolding decimal_float
decimal_float-point m = refl

hex_float-point : (m : Text) → hex_float (46 ∷ m) ≡ binary_end (unwrap_or (digits is_hex_digit m) m)
unfolding hex_float
hex_float-point m = refl

hexadecimal_none : (z r : Text) → digits is_hex_digit z ≡ Some r → integer_end r ≡ None → hexadecimal z ≡ hex_float r
unfolding hexadecimal hex_at hex_by
hexadecimal_none z r e f = rw (e, f) refl

hexadecimal_point : (m : Text) → hexadecimal (46 ∷ m) ≡ binary_at (digits is_hex_digit m)
unfolding hexadecimal hex_at hex_point digits is_hex_digit
hexadecimal_point m = refl

fraction_word : (m : Text) → number_kind (46 ∷ m) ≡ fraction_at (digits is_digit m)
unfolding number_kind fraction
fraction_word m = refl

fraction_some : (m n : Text) → digits is_digit m ≡ Some n → fraction_at (digits is_digit m) ≡ decimal_end n
unfolding fraction_at
fraction_some m n e = rw e refl

binary_some : (m n : Text) → digits is_hex_digit m ≡ Some n → binary_at (digits is_hex_digit m) ≡ binary_end n
unfolding binary_at
binary_some m n e = rw e refl

whole_point : {m n o : Text} → Maybe Point m n → Exponent is_p n o → (Apart is_hex_digit m) × (integer_end m ≡ None) × (hex_float m ≡ binary_end n)
whole_point left_out x = (binary_apart x, exponent_long is_p x, binary_point x)
whole_point (present (point {r = n})) x =
    let e = maybe_digits is_hex_digit no_underscore_hex left_out (binary_apart x) in
    (point_apart_hex n, point_integer n, hex_float-point n ∙ ap binary_end e)

float_literal_read : {w : Text} → FloatLiteral w → number_kind w ≡ Some kind.Float
float_literal_read (fraction_literal {m = m} {n = n} d md me ms) =
    let e = maybe_digits is_digit no_underscore md (end_apart me ms) in
    decimal_tail d (point_apart m) (point_plain m) (point_integer m) ∙ decimal_float-point m ∙ ap decimal_end e ∙ decimal_end_read me ms
float_literal_read (fraction_alone {m = m} {n = n} d me ms) =
    fraction_word m ∙ fraction_some m n (digits_to is_digit no_underscore d (end_apart me ms)) ∙ decimal_end_read me ms
float_literal_read (exponent d x ms) =
    decimal_tail d (exponent_apart x) (exponent_plain x) (exponent_long is_e x) ∙ exponent_point x ∙ decimal_end_read (present x) ms
float_literal_read (suffix d left_out s) =
    decimal_tail d (suffix_apart s) (suffix_plain s) (suffix_integer s) ∙ suffix_point s ∙ decimal_end_read left_out (present s)
float_literal_read (suffix d (present x) s) =
    decimal_tail d (exponent_apart x) (exponent_plain x) (exponent_long is_e x) ∙ exponent_point x ∙ decimal_end_read (present x) (present s)
float_literal_read (hexadecimal_whole {x = x} {z = z} {m = m} {n = n} h d mp x2 ms) =
    let at = whole_point mp x2 in
    hexadecimal_word x z h ∙ hexadecimal_none z m (digits_to is_hex_digit no_underscore_hex d at.0) at.1 ∙ at.2 ∙ binary_end_read x2 ms
float_literal_read (hexadecimal_fraction {x = x} {m = m} {n = n} h left_out d x2 ms) =
    hexadecimal_word x (46 ∷ m) h ∙ hexadecimal_point m ∙ binary_some m n (digits_to is_hex_digit no_underscore_hex d (binary_apart x2)) ∙ binary_end_read x2 ms
float_literal_read (hexadecimal_fraction {x = x} {z = z} {m = m} {n = n} h (present d1) d x2 ms) =
    let e = maybe_digits is_hex_digit no_underscore_hex (present d) (binary_apart x2) in
    hexadecimal_word x z h ∙ hexadecimal_none z (46 ∷ m) (digits_to is_hex_digit no_underscore_hex d1 (point_apart_hex m)) (point_integer m) ∙ hex_float-point m ∙ ap binary_end e ∙ binary_end_read x2 ms

pub literal_read : {k : TokenKind} {w : Text} → Literal k w → number_kind w ≡ Some k
literal_read (int n) = numeral_read n int_end
literal_read (long h n) = numeral_read n (long_end h)
literal_read (float f) = float_literal_read f

-- ---- what is read is a literal

-- a value, and what is so if it is there
from_at : {A B : Type 0} (P : Type 0) (o : Option A) (f : Option A → Option B) (k : B) → f o ≡ Some k → f None ≡ None → ((r : A) → o ≡ Some r → f (Some r) ≡ Some k → P) → P
from_at P None f k e n g = absurd (cc)
from_at P (Some r) f k e n g = g r refl e

float_end_sound : (z : Text) (k : TokenKind) → float_end z ≡ Some k → (k ≡ kind.Float) × Maybe FloatSuffix z []
unfolding float_end
float_end_sound [] k e = (cc, left_out)
float_end_sound (b ∷ []) k e =
    elim (is_float_suffix b) as (λ t. is_float_suffix b ≡ t → cond t (Some kind.Float) None ≡ Some k → (k ≡ kind.Float) × Maybe FloatSuffix (b ∷ []) []) [
      | true ↦ λ h f. (cc, present (float_suffix h))
      | false ↦ λ h f. absurd (cc)
    ] refl e
float_end_sound (b ∷ c ∷ z) k e = absurd (cc)

exponent_sound : (indicator : ℕ → Bool) (z r : Text) → past_exponent indicator z ≡ Some r → Exponent indicator z r
unfolding past_exponent unsigned digits
exponent_sound indicator [] r e = absurd (cc)
exponent_sound indicator (b ∷ []) r e = elim (indicator b) as (λ t. cond t None None ≡ Some r → Exponent indicator (b ∷ []) r) [ true ↦ λ f. absurd (cc) | false ↦ λ f. absurd (cc) ] e
exponent_sound indicator (b ∷ s ∷ z) r e =
    elim (indicator b) as (λ t. indicator b ≡ t → cond t (digits is_digit (cond (is_sign s) z (s ∷ z))) None ≡ Some r → Exponent indicator (b ∷ s ∷ z) r) [
      | true ↦ λ h. elim (is_sign s) as (λ t. is_sign s ≡ t → digits is_digit (cond t z (s ∷ z)) ≡ Some r → Exponent indicator (b ∷ s ∷ z) r) [
        | true ↦ λ k f. signed h k (digits_sound is_digit z r f)
        | false ↦ λ k f. unsigned_exponent h (digits_sound is_digit (s ∷ z) r f)
      ] refl
      | false ↦ λ h f. absurd (cc)
    ] refl e

maybe_sound : (Part : Text → Text → Type 0) (o : Option Text) (z : Text) → ((r : Text) → o ≡ Some r → Part z r) → Maybe Part z (unwrap_or o z)
maybe_sound Part None z f = left_out
maybe_sound Part (Some r) z f = present (f r refl)

record DecimalEnd (z : Text) (k : TokenKind) : Type 0 where
  is_float : k ≡ kind.Float
  rest : Text
  exponent_part : Maybe (Exponent is_e) z rest
  suffix_part : Maybe FloatSuffix rest []

decimal_end_sound : (z : Text) (k : TokenKind) → decimal_end z ≡ Some k → DecimalEnd z k
unfolding decimal_end
decimal_end_sound z k e =
    let n = unwrap_or (past_exponent is_e z) z in
    let at = float_end_sound n k e in
    record { is_float = at.0; rest = n; exponent_part = maybe_sound (Exponent is_e) (past_exponent is_e z) z (exponent_sound is_e z); suffix_part = at.1 }

record BinaryEnd (z : Text) (k : TokenKind) : Type 0 where
  is_float : k ≡ kind.Float
  rest : Text
  exponent_part : Exponent is_p z rest
  suffix_part : Maybe FloatSuffix rest []

binary_end_sound : (z : Text) (k : TokenKind) → binary_end z ≡ Some k → BinaryEnd z k
unfolding binary_end float_at
binary_end_sound z k e = from_at (BinaryEnd z k) (past_exponent is_p z) float_at k e refl (λ r f g.
    let at = float_end_sound r k g in record { is_float = at.0; rest = r; exponent_part = exponent_sound is_p z r f; suffix_part = at.1 })

float_of : {w : Text} (k : TokenKind) → k ≡ kind.Float → FloatLiteral w → Literal k w
float_of {w = w} k e f = subst (λ j. Literal j w) (sym e) (float f)

integer_sound : (r : Text) (k : TokenKind) → integer_end r ≡ Some k → (w : Text) → Numeral w r → Literal k w
unfolding integer_end
integer_sound [] k e w n = subst (λ j. Literal j w) (let h : kind.Int ≡ k = cc in h) (int n)
integer_sound (b ∷ []) k e w n =
    elim (is_long_suffix b) as (λ t. is_long_suffix b ≡ t → cond t (Some kind.Long) None ≡ Some k → Literal k w) [
      | true ↦ λ h f. subst (λ j. Literal j w) (let g : kind.Long ≡ k = cc in g) (long h n)
      | false ↦ λ h f. absurd (cc)
    ] refl e
integer_sound (b ∷ c ∷ z) k e w n = absurd (cc)

octal_sound : (z r : Text) → past is_octal_digit true z ≡ Some r → Numeral (48 ∷ z) r
octal_sound z r e = elim (past_sound is_octal_digit true z r e) [
  | inl p ↦ subst (λ y. Numeral (48 ∷ y) r) (sym p.1) zero
  | inr q ↦ octal q.1 q.2
]

octal_or_sound : (b : ℕ) (z r : Text) (j k : TokenKind) → digits is_digit (b ∷ z) ≡ Some r → integer_end r ≡ Some j → octal_or (b ∷ z) j ≡ Some k → Literal k (b ∷ z)
unfolding octal_or integer_at
octal_or_sound b z r j k e i f =
    elim (b == 48) as (λ t. (b == 48) ≡ t → cond t (integer_at (past is_octal_digit true z)) (Some j) ≡ Some k → Literal k (b ∷ z)) [
      | true ↦ λ h g. from_at (Literal k (b ∷ z)) (past is_octal_digit true z) integer_at k g refl (λ q p s.
          integer_sound q k s (b ∷ z) (subst (λ c. Numeral (c ∷ z) q) (sym (eqb-true b 48 h)) (octal_sound z q p)))
      | false ↦ λ h g. integer_sound r k (i ∙ g) (b ∷ z) (decimal_numeral h (digits_sound is_digit (b ∷ z) r e))
    ] refl f

decimal_float_sound : (w r : Text) (k : TokenKind) → Digits is_digit w r → integer_end r ≡ None → decimal_float r ≡ Some k → Literal k w
unfolding decimal_float integer_end
decimal_float_sound w [] k d i e = absurd (cc)
decimal_float_sound w (b ∷ z) k d i e =
    elim (b == 46) as (λ t. (b == 46) ≡ t → cond t (decimal_end (unwrap_or (digits is_digit z) z)) (decimal_end (b ∷ z)) ≡ Some k → Literal k w) [
      | true ↦ λ h f.
          let at = decimal_end_sound (unwrap_or (digits is_digit z) z) k f in
          let d2 = subst (λ c. Digits is_digit w (c ∷ z)) (eqb-true b 46 h) d in
          float_of k at.is_float (fraction_literal d2 (maybe_sound (Digits is_digit) (digits is_digit z) z (digits_sound is_digit z)) at.exponent_part at.suffix_part)
      | false ↦ λ h f.
          let at = decimal_end_sound (b ∷ z) k f in
          float_of k at.is_float (ended d at.exponent_part at.suffix_part)
    ] refl e
  where
    ended : {w n : Text} {b : ℕ} {z : Text} → Digits is_digit w (b ∷ z) → Maybe (Exponent is_e) (b ∷ z) n → Maybe FloatSuffix n [] → FloatLiteral w
    ended d (present x) s = exponent d x s
    ended d left_out (present s) = suffix d left_out s

none_by : (w r : Text) (k : TokenKind) → decimal_by w r None ≡ Some k → decimal_float r ≡ Some k
unfolding decimal_by
none_by w r k e = e

some_by : (w r : Text) (j k : TokenKind) → decimal_by w r (Some j) ≡ Some k → octal_or w j ≡ Some k
unfolding decimal_by
some_by w r j k e = e

decimal_sound : (w : Text) (k : TokenKind) → decimal w ≡ Some k → Literal k w
unfolding decimal decimal_at digits
decimal_sound [] k e = absurd (cc)
decimal_sound (b ∷ z) k e = from_at (Literal k (b ∷ z)) (digits is_digit (b ∷ z)) (decimal_at (b ∷ z)) k e refl (λ r f g. by_end r f (integer_end r) refl g)
  where
    by_end : (r : Text) → digits is_digit (b ∷ z) ≡ Some r → (o : Option TokenKind) → integer_end r ≡ o → decimal_by (b ∷ z) r o ≡ Some k → Literal k (b ∷ z)
    by_end r f None i g = decimal_float_sound (b ∷ z) r k (digits_sound is_digit (b ∷ z) r f) i (none_by (b ∷ z) r k g)
    by_end r f (Some j) i g = octal_or_sound b z r j k f i (some_by (b ∷ z) r j k g)

binary_point_sound : (m : Text) (k : TokenKind) → binary_end (unwrap_or (digits is_hex_digit m) m) ≡ Some k → (n : Text) × Maybe (Digits is_hex_digit) m n × BinaryEnd n k
binary_point_sound m k e =
    (unwrap_or (digits is_hex_digit m) m, maybe_sound (Digits is_hex_digit) (digits is_hex_digit m) m (digits_sound is_hex_digit m), binary_end_sound (unwrap_or (digits is_hex_digit m) m) k e)

hex_float_sound : (x : ℕ) → is_x x ≡ true → (z r : Text) (k : TokenKind) → Digits is_hex_digit z r → hex_float r ≡ Some k → Literal k (48 ∷ x ∷ z)
unfolding hex_float
hex_float_sound x h z [] k d e = absurd (cc)
hex_float_sound x h z (b ∷ m) k d e =
    elim (b == 46) as (λ t. (b == 46) ≡ t → cond t (binary_end (unwrap_or (digits is_hex_digit m) m)) (binary_end (b ∷ m)) ≡ Some k → Literal k (48 ∷ x ∷ z)) [
      | true ↦ λ p f.
          let at = binary_point_sound m k f in
          let d2 = subst (λ c. Digits is_hex_digit z (c ∷ m)) (eqb-true b 46 p) d in
          with_fraction d2 at.1 at.2
      | false ↦ λ p f.
          let at = binary_end_sound (b ∷ m) k f in
          float_of k at.is_float (hexadecimal_whole h d left_out at.exponent_part at.suffix_part)
    ] refl e
  where
    with_fraction : {m n : Text} → Digits is_hex_digit z (46 ∷ m) → Maybe (Digits is_hex_digit) m n → BinaryEnd n k → Literal k (48 ∷ x ∷ z)
    with_fraction d left_out at = float_of k at.is_float (hexadecimal_whole h d (present point) at.exponent_part at.suffix_part)
    with_fraction d (present d3) at = float_of k at.is_float (hexadecimal_fraction h (present d) d3 at.exponent_part at.suffix_part)

binary_at-None : binary_at None ≡ None
unfolding binary_at
binary_at-None = refl

binary_at-Some : (n : Text) (k : TokenKind) → binary_at (Some n) ≡ Some k → binary_end n ≡ Some k
unfolding binary_at
binary_at-Some n k e = e

hex_by-None : (r : Text) (k : TokenKind) → hex_by r None ≡ Some k → hex_float r ≡ Some k
unfolding hex_by
hex_by-None r k e = e

hex_by-Some : (r : Text) (j k : TokenKind) → hex_by r (Some j) ≡ Some k → Some j ≡ Some k
unfolding hex_by
hex_by-Some r j k e = e

hex_point_sound : (x : ℕ) → is_x x ≡ true → (z : Text) (k : TokenKind) → hex_point z ≡ Some k → Literal k (48 ∷ x ∷ z)
unfolding hex_point
hex_point_sound x h [] k e = absurd (cc)
hex_point_sound x h (b ∷ m) k e =
    elim (b == 46) as (λ t. (b == 46) ≡ t → cond t (binary_at (digits is_hex_digit m)) None ≡ Some k → Literal k (48 ∷ x ∷ b ∷ m)) [
      | true ↦ λ p f. subst (λ c. Literal k (48 ∷ x ∷ c ∷ m)) (sym (eqb-true b 46 p)) (fraction_only m f)
      | false ↦ λ p f. absurd (cc)
    ] refl e
  where
    fraction_only : (m : Text) → binary_at (digits is_hex_digit m) ≡ Some k → Literal k (48 ∷ x ∷ 46 ∷ m)
    fraction_only m f = from_at (Literal k (48 ∷ x ∷ 46 ∷ m)) (digits is_hex_digit m) binary_at k f binary_at-None (λ n g i.
        let at = binary_end_sound n k (binary_at-Some n k i) in
        float_of k at.is_float (hexadecimal_fraction h left_out (digits_sound is_hex_digit m n g) at.exponent_part at.suffix_part))

hexadecimal_sound : (x : ℕ) → is_x x ≡ true → (z : Text) (k : TokenKind) → hexadecimal z ≡ Some k → Literal k (48 ∷ x ∷ z)
unfolding hexadecimal hex_at
hexadecimal_sound x h z k e = by_digits (digits is_hex_digit z) refl e
  where
    by_end : (r : Text) → Digits is_hex_digit z r → (o : Option TokenKind) → integer_end r ≡ o → hex_by r o ≡ Some k → Literal k (48 ∷ x ∷ z)
    by_end r d None i g = hex_float_sound x h z r k d (hex_by-None r k g)
    by_end r d (Some j) i g = integer_sound r k (i ∙ hex_by-Some r j k g) (48 ∷ x ∷ z) (hexadecimal_numeral h d)

    by_digits : (o : Option Text) → digits is_hex_digit z ≡ o → hex_at z o ≡ Some k → Literal k (48 ∷ x ∷ z)
    by_digits None f g = hex_point_sound x h z k g
    by_digits (Some r) f g = by_end r (digits_sound is_hex_digit z r f) (integer_end r) refl g

binary_sound : (b : ℕ) → is_b b ≡ true → (z : Text) (k : TokenKind) → integer_at (digits is_binary_digit z) ≡ Some k → Literal k (48 ∷ b ∷ z)
unfolding integer_at
binary_sound b h z k e = from_at (Literal k (48 ∷ b ∷ z)) (digits is_binary_digit z) integer_at k e refl (λ r f g.
    integer_sound r k g (48 ∷ b ∷ z) (binary h (digits_sound is_binary_digit z r f)))

fraction_sound : (z : Text) (k : TokenKind) → fraction z ≡ Some k → Literal k (46 ∷ z)
unfolding fraction fraction_at
fraction_sound z k e = from_at (Literal k (46 ∷ z)) (digits is_digit z) fraction_at k e refl (λ r f g.
    let at = decimal_end_sound r k g in
    float_of k at.is_float (fraction_alone (digits_sound is_digit z r f) at.exponent_part at.suffix_part))

based_sound : (b : ℕ) (z : Text) (k : TokenKind) → based b z ≡ Some k → Literal k (b ∷ z)
unfolding based
based_sound b [] k e = decimal_sound (b ∷ []) k e
based_sound b (c ∷ z) k e =
    elim (is_x c && b == 48) as (λ t. (is_x c && b == 48) ≡ t → cond t (hexadecimal z) (cond (is_b c && b == 48) (integer_at (digits is_binary_digit z)) (decimal (b ∷ c ∷ z))) ≡ Some k → Literal k (b ∷ c ∷ z)) [
      | true ↦ λ h f.
          let both = and_parts (is_x c) (b == 48) h in
          subst (λ a. Literal k (a ∷ c ∷ z)) (sym (eqb-true b 48 both.1)) (hexadecimal_sound c both.0 z k f)
      | false ↦ λ g. elim (is_b c && b == 48) as (λ t. (is_b c && b == 48) ≡ t → cond t (integer_at (digits is_binary_digit z)) (decimal (b ∷ c ∷ z)) ≡ Some k → Literal k (b ∷ c ∷ z)) [
        | true ↦ λ h f.
            let both = and_parts (is_b c) (b == 48) h in
            subst (λ a. Literal k (a ∷ c ∷ z)) (sym (eqb-true b 48 both.1)) (binary_sound c both.0 z k f)
        | false ↦ λ h f. decimal_sound (b ∷ c ∷ z) k f
      ] refl
    ] refl e

pub literal_sound : (w : Text) (k : TokenKind) → number_kind w ≡ Some k → Literal k w
unfolding number_kind
literal_sound [] k e = absurd (cc)
literal_sound (b ∷ z) k e =
    elim (b == 46) as (λ t. (b == 46) ≡ t → cond t (fraction z) (based b z) ≡ Some k → Literal k (b ∷ z)) [
      | true ↦ λ h f. subst (λ a. Literal k (a ∷ z)) (sym (eqb-true b 46 h)) (fraction_sound z k f)
      | false ↦ λ h f. based_sound b z k f
    ] refl e
