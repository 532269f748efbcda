-- Each token of a text is ASCII
use Rattle.std.proofs.Common.{◌≡◌, ℕ, ◌-◌, ◌<◌, Bool, true, ◌&&◌, List, [], ◌∷◌, ◌++◌, length, nat_lt, take, drop, slice_range, refl, sym, ◌∙◌, ap, subst, arith, length-append, append_assoc}
use Rattle.std.specs.List.{All, list_all}
use Rattle.std.specs.Str.{IsAscii}
use Rattle.std.proofs.lemmas.Bool.{and_parts}
use Rattle.std.proofs.lemmas.Bool.Decides.{nat_tests}
use Rattle.std.proofs.lemmas.List.Elements.{All-cons, All-nil}
use Rattle.std.proofs.lemmas.Str.Ascii.{IsAscii-from_all}
use Rattle.std.proofs.Math.Seq.{drop-append_seam, take-append_seam}
use Rattle.bcj_lexer.specs.declared.Token.{Token}
use Rattle.bcj_lexer.specs.declared.TokenKind.{TokenKind}
use Rattle.bcj_lexer.specs.declared.piece.PieceKind.{PieceKind}
use Rattle.bcj_lexer.specs.declared.piece.PieceKind.TheVariants as piece
use Rattle.bcj_names.specs.Identifiers.{begins_identifier, in_identifier, is_word}
use Rattle.bcj_lexer.specs.Bytes.{Text, is_sign, in_literal, is_escaped}
use Rattle.bcj_lexer.specs.Symbols.{separators, operators}
use Rattle.bcj_lexer.specs.Numbers.{begins_number, goes_on, NumberTail, ends, stops, takes, number_word}
use Rattle.bcj_lexer.specs.Pieces.{Quoted, close, plain, escape, Spells, identifier, reserved, number as number_piece, string, character, separator, operator as operator_piece, Longest, Piece, Cut, done, cut, tokens, TokensOf}
use Rattle.bcj_lexer.specs.Laws.{AreAscii}
use Rattle.bcj_lexer.proofs.Identifiers.{identifier_word, reserved_word}
use Rattle.bcj_lexer.proofs.Parts.{all, all_among}
use Rattle.bcj_lexer.proofs.Longest.{piece_front}

-- the front of a text up to another one, all of it ASCII
pub record AsciiFront (z r : Text) : Type 0 where
  pub word : Text
  pub is : z ≡ word ++ r
  pub low : All (λ b. b < 128) word

none : (r : Text) → AsciiFront r r
none r = record { word = []; is = refl; low = All-nil (λ b. b < 128) }

one : (b : ℕ) {z r : Text} → b < 128 → AsciiFront z r → AsciiFront (b ∷ z) r
one b h f = record { word = b ∷ f.word; is = ap (λ y. b ∷ y) f.is; low = All-cons (λ b. b < 128) b f.word h f.low }

-- ---- bytes

begins_low : (b : ℕ) → begins_identifier b ≡ true → b < 128
begins_low b h = grind (arith, nat_tests)

in_identifier_low : (b : ℕ) → in_identifier b ≡ true → b < 128
in_identifier_low b h = grind (arith, nat_tests)

goes_on_low : (hex : Bool) (previous b : ℕ) → goes_on hex previous b ≡ true → b < 128
unfolding goes_on is_sign
goes_on_low hex previous b h = grind (arith, nat_tests)

number_low : (b : ℕ) (z : Text) → begins_number (b ∷ z) ≡ true → b < 128
unfolding begins_number
number_low b [] h = grind (arith, nat_tests)
number_low b (c ∷ z) h = grind (arith, nat_tests)

literal_low : (b : ℕ) → in_literal b ≡ true → b < 128
unfolding in_literal is_escaped
literal_low b h = grind (arith, nat_tests)

escaped_low : (b : ℕ) → is_escaped b ≡ true → b < 128
unfolding is_escaped
escaped_low b h = grind (arith, nat_tests)

-- ---- words

all_low : (w : Text) → list_all in_identifier w ≡ true → All (λ b. b < 128) w
all_low [] h = All-nil (λ b. b < 128)
all_low (b ∷ w) h = let p = and_parts (in_identifier b) (list_all in_identifier w) h in All-cons (λ b. b < 128) b w (in_identifier_low b p.0) (all_low w p.1)

word_low : (w : Text) → is_word w ≡ true → All (λ b. b < 128) w
word_low [] h = absurd (cc)
word_low (b ∷ w) h = let p = and_parts (begins_identifier b) (list_all in_identifier w) h in All-cons (λ b. b < 128) b w (begins_low b p.0) (all_low w p.1)

-- ---- pieces

tail_front : {hex : Bool} {previous : ℕ} {z w r : Text} → NumberTail hex previous z w r → AsciiFront z r
tail_front ends = none []
tail_front (stops {b = b} {z = z} h) = none (b ∷ z)
tail_front {hex = hex} {previous = previous} (takes {b = b} h g) = one b (goes_on_low hex previous b h) (tail_front g)

quoted_front : (quote : ℕ) {z r : Text} → quote < 128 → Quoted quote z r → AsciiFront z r
quoted_front quote q (close {r = r}) = one quote q (none r)
quoted_front quote q (plain {b = b} n h d) = one b (literal_low b h) (quoted_front quote q d)
quoted_front quote q (escape {b = b} h d) = one 92 (omega arith) (one b (escaped_low b h) (quoted_front quote q d))

-- a word of a table
abbrev is_low : Text → Bool
is_low [] = true
is_low (b ∷ w) = nat_lt b 128 && is_low w

separators_low : all is_low separators ≡ true
unfolding separators
separators_low = refl

operators_low : all is_low operators ≡ true
unfolding operators
operators_low = refl

low_word : (w : Text) → is_low w ≡ true → All (λ b. b < 128) w
low_word [] h = All-nil (λ b. b < 128)
low_word (b ∷ w) h = All-cons (λ b. b < 128) b w (first b (is_low w) h) (low_word w (others b (is_low w) h)) where
  first : (b : ℕ) (t : Bool) → (nat_lt b 128 && t) ≡ true → b < 128
  first b t h = grind (arith, nat_tests)

  others : (b : ℕ) (t : Bool) → (nat_lt b 128 && t) ≡ true → t ≡ true
  others b t h = grind (arith, nat_tests)

token_front : {k : TokenKind} {z r : Text} → Spells (piece.Token k) z r → AsciiFront z r
token_front (identifier w h e) = record { word = w; is = e; low = word_low w (identifier_word w h) }
token_front (reserved w h e) = record { word = w; is = e; low = word_low w (reserved_word w h) }
token_front (number_piece (number_word {b = b} {z = z} h t) l) = one b (number_low b z h) (tail_front t)
token_front (string g) = one 34 (omega arith) (quoted_front 34 (omega arith) g)
token_front (character g) = one 39 (omega arith) (quoted_front 39 (omega arith) g)
token_front (separator w h e n) = record { word = w; is = e; low = low_word w (all_among is_low separators_low h) }
token_front (operator_piece w h e n) = record { word = w; is = e; low = low_word w (all_among is_low operators_low h) }

-- ---- tokens

-- the bytes of the text between two of its tails
slice_is : (p w r : Text) → slice_range (p ++ (w ++ r)) (length (p ++ (w ++ r)) - length (w ++ r)) (length (p ++ (w ++ r)) - length r) ≡ w
slice_is p w r =
    let from : length (p ++ (w ++ r)) - length (w ++ r) ≡ length p = omega (arith, length-append p (w ++ r)) in
    let to : (length (p ++ (w ++ r)) - length r) - length p ≡ length w = omega (arith, length-append p (w ++ r), length-append w r) in
    ap (λ n. take ((length (p ++ (w ++ r)) - length r) - n) (drop n (p ++ (w ++ r)))) from ∙ ap (λ n. take n (drop (length p) (p ++ (w ++ r)))) to
    ∙ ap (take (length w)) (drop-append_seam p (w ++ r)) ∙ take-append_seam w r

abbrev token_at : ℕ → TokenKind → Text → Text → Token
token_at size k z m = record { kind = k; start = size - length z; end = size - length m }

slice_ascii : (text p z m : Text) → text ≡ p ++ z → AsciiFront z m → IsAscii (slice_range text (length text - length z) (length text - length m))
slice_ascii text p z m e f = subst IsAscii (sym is) (IsAscii-from_all f.word f.low) where
  is : slice_range text (length text - length z) (length text - length m) ≡ f.word
  is = ap (λ x. slice_range x (length x - length z) (length x - length m)) (e ∙ ap (λ y. p ++ y) f.is) ∙ ap (λ y. slice_range (p ++ (f.word ++ m)) (length (p ++ (f.word ++ m)) - length y) (length (p ++ (f.word ++ m)) - length m)) f.is ∙ slice_is p f.word m

cut_ascii : (text p : Text) {z r : Text} {ps : List Piece} → text ≡ p ++ z → Cut (length text) z r ps → AreAscii text (tokens ps)
unfolding tokens
cut_ascii text p e done = All-nil (λ t. IsAscii (slice_range text t.start t.end))
cut_ascii text p {z = z} e (cut {k = k} {m = m} {ps = ps} l c) =
    let f = piece_front l.spells in
    with_piece k l (cut_ascii text (p ++ (f.first ∷ f.others)) (e ∙ ap (λ y. p ++ y) f.is ∙ sym (append_assoc p (f.first ∷ f.others) m)) c)
  where
    with_piece : (j : PieceKind) → Longest j z m → AreAscii text (tokens ps) → AreAscii text (tokens (record { kind = j; start = length text - length z; end = length text - length m } ∷ ps))
    with_piece piece.Blank l a = a
    with_piece piece.Comment l a = a
    with_piece (piece.Token j) l a = All-cons (λ t. IsAscii (slice_range text t.start t.end)) (token_at (length text) j z m) (tokens ps) (slice_ascii text p z m e (token_front l.spells)) a

pub tokens_ascii : (text : Text) (ts : List Token) → TokensOf text ts → AreAscii text ts
tokens_ascii text ts t = subst (AreAscii text) (sym t.are) (cut_ascii text [] refl t.cutting)
