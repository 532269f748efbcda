-- The scan finds the longest piece
use Rattle.std.proofs.Common.{◌≡◌, ℕ, ◌<◌, ◌≤◌, Bool, true, false, not, cond, ◌&&◌, ◌||◌, ◌==◌, ◌⊎◌, inl, inr, [], ◌∷◌, ◌++◌, length, Option, Some, None, refl, sym, ◌∙◌, ap, subst, arith, eqb-true, length-append}
use Rattle.std.specs.List.{list_all}
use Rattle.std.proofs.lemmas.Bool.{and_parts, or_parts, or_cases}
use Rattle.bcj_lexer.specs.declared.TokenKind.{TokenKind}
use Rattle.bcj_lexer.specs.declared.TokenKind.TheVariants as kind
use Rattle.bcj_lexer.specs.declared.piece.PieceKind.{PieceKind}
use Rattle.bcj_lexer.specs.declared.piece.PieceKind.TheVariants as piece
use Rattle.bcj_names.specs.Identifiers.{begins_identifier, in_identifier, is_digit, is_word, is_identifier, is_reserved}
use Rattle.bcj_lexer.specs.Bytes.{Text, is_blank, in_line}
use Rattle.bcj_lexer.specs.Symbols.{Among, separators, operators}
use Rattle.bcj_lexer.specs.Numbers.{begins_number, begins_hex, NumberTail, NumberWord, number_word, Literal}
use Rattle.bcj_lexer.specs.function.Words.{number_kind}
use Rattle.bcj_lexer.specs.Pieces.{Run, opens_comment, Spells, blank, last_byte, line_comment, block_comment, identifier, reserved, number as number_piece, string, character, separator, operator as operator_piece, Longest}
use Rattle.bcj_lexer.specs.function.Scan.{Found, behind, before, found, word_kind, word, behind_tail, behind_number, number_found, number, behind_block, behind_quoted, behind_symbol, operator, separator_or, symbol, slash, is_last_blank, other, scan}
use Rattle.bcj_lexer.proofs.ByteClasses as byte
use Rattle.bcj_lexer.proofs.Identifiers.{identifier_word, identifier-reserved, word_identifier, reserved_word, all_run, word_of_run}
use Rattle.bcj_lexer.proofs.Literals.{literal_read, literal_sound}
use Rattle.bcj_lexer.proofs.Parts.{before_is, same_rest, run_split, run_of, run_most, tail_split, tail_of, tail_is, block_sound, block_read, block_split, quoted_sound, quoted_read, quoted_split, all, all_among, Within, symbol_has, symbol_sound}

-- ---- every piece has a first byte

pub record Front (z r : Text) : Type 0 where
  pub first : ℕ
  pub others : Text
  pub is : z ≡ first ∷ (others ++ r)

abbrev first_is : (ℕ → Bool) → Text → Bool
first_is test [] = false
first_is test (b ∷ w) = test b

separators_filled : all (first_is (λ b. true)) separators ≡ true
unfolding separators
separators_filled = refl

operators_filled : all (first_is (λ b. true)) operators ≡ true
unfolding operators
operators_filled = refl

filled_front : (w : Text) {z r : Text} → first_is (λ b. true) w ≡ true → z ≡ w ++ r → Front z r
filled_front [] h e = absurd (cc)
filled_front (b ∷ w) h e = record { first = b; others = w; is = e }

word_front : (w : Text) {z r : Text} → is_word w ≡ true → z ≡ w ++ r → Front z r
word_front [] h e = absurd (cc)
word_front (b ∷ w) h e = record { first = b; others = w; is = e }

number_split : {z w r : Text} → NumberWord z w r → z ≡ w ++ r
number_split (number_word {b = b} h t) = ap (λ y. b ∷ y) (tail_split t)

number_front : {z w r : Text} → NumberWord z w r → Front z r
number_front (number_word {b = b} {w = w} h t) = record { first = b; others = w; is = ap (λ y. b ∷ y) (tail_split t) }

pub piece_front : {k : PieceKind} {z r : Text} → Spells k z r → Front z r
piece_front (blank {b = b} h) = record { first = b; others = []; is = refl }
piece_front last_byte = record { first = 26; others = []; is = refl }
piece_front (line_comment {w = w} g) = record { first = 47; others = 47 ∷ w; is = ap (λ y. 47 ∷ 47 ∷ y) (run_split g) }
piece_front (block_comment g) = let s = block_split g in record { first = 47; others = 42 ∷ s.0; is = ap (λ y. 47 ∷ 42 ∷ y) s.1 }
piece_front (identifier w h e) = word_front w (identifier_word w h) e
piece_front (reserved w h e) = word_front w (reserved_word w h) e
piece_front (number_piece w l) = number_front w
piece_front (string g) = let s = quoted_split g in record { first = 34; others = s.0; is = ap (λ y. 34 ∷ y) s.1 }
piece_front (character g) = let s = quoted_split g in record { first = 39; others = s.0; is = ap (λ y. 39 ∷ y) s.1 }
piece_front (separator w h e n) = filled_front w (all_among (first_is (λ b. true)) separators_filled h) e
piece_front (operator_piece w h e n) = filled_front w (all_among (first_is (λ b. true)) operators_filled h) e

pub shrinks : {k : PieceKind} {z r : Text} → Spells k z r → length r < length z
shrinks {z = z} {r = r} s = let f = piece_front s in omega (arith, ap length f.is, length-append f.others r)

-- two pieces at one place that leave as much leave the same
pub same_end : {k j : PieceKind} {z r q : Text} → Spells k z r → Spells j z q → length r ≡ length q → r ≡ q
same_end {r = r} {q = q} s t n =
    let f = piece_front s in let g = piece_front t in
    same_rest (f.first ∷ f.others) (g.first ∷ g.others) r q (sym f.is ∙ g.is) n

-- ---- what the scan finds is a piece

of_pair : (p q : PieceKind × Text) (z : Text) → p ≡ q → Spells p.0 z p.1 → Spells q.0 z q.1
of_pair p q z e s = subst (λ (x : PieceKind × Text). Spells x.0 z x.1) e s

pub some_is : {A : Type 0} (x y : A) → Some x ≡ Some y → x ≡ y
some_is x y e = cc

of_found : (k j : PieceKind) (z r q : Text) → ◌≡◌ {A = Found} (Some (k, r)) (Some (j, q)) → Spells k z r → Spells j z q
of_found k j z r q e s = of_pair (k, r) (j, q) z (some_is (k, r) (j, q) e) s

found_sound : (j : PieceKind) (o : Option Text) (k : PieceKind) (z r : Text) → found j o ≡ Some (k, r) → ((q : Text) → o ≡ Some q → Spells j z q) → Spells k z r
unfolding found
found_sound j None k z r e f = absurd (cc)
found_sound j (Some q) k z r e f = of_found j k z q r e (f q refl)

word_byte : (b : ℕ) → begins_identifier b ≡ true → in_identifier b ≡ true
word_byte b h = rw h refl

behind_word : (b : ℕ) (z : Text) → begins_identifier b ≡ true → behind in_identifier (b ∷ z) ≡ behind in_identifier z
unfolding behind
behind_word b z h = let k = word_byte b h in rw k refl

word_of : (b : ℕ) (z w r : Text) → begins_identifier b ≡ true → Run in_identifier z w r → Spells (piece.Token (word_kind (b ∷ w))) (b ∷ z) r
unfolding word_kind
word_of b z w r h g =
    let split = ap (λ y. b ∷ y) (run_split g) in
    elim (is_reserved (b ∷ w)) as (λ t. is_reserved (b ∷ w) ≡ t → Spells (piece.Token (cond t kind.Reserved kind.Identifier)) (b ∷ z) r) [
      | true ↦ λ e. reserved (b ∷ w) e split
      | false ↦ λ e. identifier (b ∷ w) (word_identifier (b ∷ w) (word_of_run b h g) e) split
    ] refl

-- the word, by its bytes
word_is : (b : ℕ) (z w : Text) → begins_identifier b ≡ true → Run in_identifier z w (behind in_identifier z) → word (b ∷ z) ≡ (piece.Token (word_kind (b ∷ w)), behind in_identifier z)
unfolding word
word_is b z w h g =
    let e = behind_word b z h in
    let f = before_is (b ∷ z) (b ∷ w) (behind in_identifier z) (ap (λ y. b ∷ y) (run_split g)) in
    rw (e, f) refl

word_sound : (b : ℕ) (z : Text) (k : PieceKind) (r : Text) → begins_identifier b ≡ true → Some (word (b ∷ z)) ≡ Some (k, r) → Spells k (b ∷ z) r
word_sound b z k r h e =
    let s = run_of in_identifier z in
    of_found (piece.Token (word_kind (b ∷ s.0))) k (b ∷ z) (behind in_identifier z) r (ap (λ p. Some p) (sym (word_is b z s.0 h s.1)) ∙ e) (word_of b z s.0 (behind in_identifier z) h s.1)

-- the number word, by its bytes
number_is : (b : ℕ) (z w r : Text) → NumberTail (begins_hex (b ∷ z)) b z w r → number (b ∷ z) ≡ number_found (number_kind (b ∷ w)) r
unfolding number behind_number
number_is b z w r g =
    let e = tail_is g in
    let f = before_is (b ∷ z) (b ∷ w) r (ap (λ y. b ∷ y) (tail_split g)) in
    rw (e, f) refl

number_found_sound : (o : Option TokenKind) (b : ℕ) (z w q : Text) (k : PieceKind) (r : Text) → number_kind (b ∷ w) ≡ o → NumberWord (b ∷ z) (b ∷ w) q → number_found o q ≡ Some (k, r) → Spells k (b ∷ z) r
unfolding number_found
number_found_sound None b z w q k r h g e = absurd (cc)
number_found_sound (Some j) b z w q k r h g e = of_found (piece.Token j) k (b ∷ z) q r e (number_piece g (literal_sound (b ∷ w) j h))

number_sound : (b : ℕ) (z : Text) (k : PieceKind) (r : Text) → begins_number (b ∷ z) ≡ true → number (b ∷ z) ≡ Some (k, r) → Spells k (b ∷ z) r
number_sound b z k r h e =
    let s = tail_of (begins_hex (b ∷ z)) b z in
    let q = behind_tail (begins_hex (b ∷ z)) b z in
    number_found_sound (number_kind (b ∷ s.0)) b z s.0 q k r refl (number_word h s.1) (sym (number_is b z s.0 q s.1) ∙ e)

operator_sound : (z : Text) (k : PieceKind) (r : Text) → opens_comment z ≡ false → operator z ≡ Some (k, r) → Spells k z r
unfolding operator
operator_sound z k r n e = found_sound (piece.Token kind.Operator) (behind_symbol None operators z) k z r e (λ q f.
    elim (symbol_sound None operators z q f) [ inl g ↦ absurd (cc) | inr s ↦ operator_piece s.0 s.1 s.2 n ])

separator_or_sound : (o : Option Text) (z : Text) (k : PieceKind) (r : Text) → behind_symbol None separators z ≡ o → begins_number z ≡ false → opens_comment z ≡ false → separator_or o z ≡ Some (k, r) → Spells k z r
unfolding separator_or
separator_or_sound None z k r h m n e = operator_sound z k r n e
separator_or_sound (Some q) z k r h m n e = of_found (piece.Token kind.Separator) k z q r e
    (elim (symbol_sound None separators z q h) [ inl g ↦ absurd (cc) | inr s ↦ separator s.0 s.1 s.2 m ])

symbol_is_piece : (z : Text) (k : PieceKind) (r : Text) → begins_number z ≡ false → opens_comment z ≡ false → symbol z ≡ Some (k, r) → Spells k z r
unfolding symbol
symbol_is_piece z k r m n e = separator_or_sound (behind_symbol None separators z) z k r refl m n e

slash_number : (z : Text) → begins_number (47 ∷ z) ≡ false
unfolding begins_number
slash_number [] = refl
slash_number (c ∷ z) = refl

line_of : (z : Text) → Spells piece.Comment (47 ∷ 47 ∷ z) (behind in_line z)
line_of z = let s = run_of in_line z in line_comment s.1

slash_sound : (z : Text) (k : PieceKind) (r : Text) → slash (47 ∷ z) z ≡ Some (k, r) → Spells k (47 ∷ z) r
unfolding slash opens_comment
slash_sound [] k r e = symbol_is_piece (47 ∷ []) k r (slash_number []) refl e
slash_sound (c ∷ z) k r e =
    elim (c == 47) as (λ t. (c == 47) ≡ t → cond t (Some (piece.Comment, behind in_line z)) (cond (c == 42) (found piece.Comment (behind_block z)) (symbol (47 ∷ c ∷ z))) ≡ Some (k, r) → Spells k (47 ∷ c ∷ z) r) [
      | true ↦ λ h f. subst (λ a. Spells k (47 ∷ a ∷ z) r) (sym (eqb-true c 47 h)) (of_found piece.Comment k (47 ∷ 47 ∷ z) (behind in_line z) r f (line_of z))
      | false ↦ λ g. elim (c == 42) as (λ t. (c == 42) ≡ t → cond t (found piece.Comment (behind_block z)) (symbol (47 ∷ c ∷ z)) ≡ Some (k, r) → Spells k (47 ∷ c ∷ z) r) [
        | true ↦ λ h f. subst (λ a. Spells k (47 ∷ a ∷ z) r) (sym (eqb-true c 42 h)) (found_sound piece.Comment (behind_block z) k (47 ∷ 42 ∷ z) r f (λ q i. block_comment (block_sound z q i)))
        | false ↦ λ h f. symbol_is_piece (47 ∷ c ∷ z) k r (slash_number (c ∷ z)) h f
      ] refl
    ] refl e

no_comment : (b : ℕ) (z : Text) → (b == 47) ≡ false → opens_comment (b ∷ z) ≡ false
unfolding opens_comment
no_comment b [] h = refl
no_comment b (c ∷ z) h = rw h refl

last_sound : (b : ℕ) (z : Text) → is_last_blank b z ≡ true → Spells piece.Blank (b ∷ z) z
unfolding is_last_blank
last_sound b [] h = subst (λ a. Spells piece.Blank (a ∷ []) []) (sym (eqb-true b 26 h)) last_byte
last_sound b (c ∷ z) h = absurd (cc)

other_sound : (b : ℕ) (z : Text) (k : PieceKind) (r : Text) → begins_number (b ∷ z) ≡ false → other b z ≡ Some (k, r) → Spells k (b ∷ z) r
unfolding other
other_sound b z k r m e =
    elim (b == 34) as (λ t. (b == 34) ≡ t → cond t (found (piece.Token kind.Str) (behind_quoted 34 false z)) (cond (b == 39) (found (piece.Token kind.Char) (behind_quoted 39 false z)) (cond (b == 47) (slash (b ∷ z) z) (cond (is_last_blank b z) (Some (piece.Blank, z)) (symbol (b ∷ z))))) ≡ Some (k, r) → Spells k (b ∷ z) r) [
      | true ↦ λ h f. subst (λ a. Spells k (a ∷ z) r) (sym (eqb-true b 34 h)) (found_sound (piece.Token kind.Str) (behind_quoted 34 false z) k (34 ∷ z) r f (λ q i. string (quoted_sound 34 false z q i)))
      | false ↦ λ g. elim (b == 39) as (λ t. (b == 39) ≡ t → cond t (found (piece.Token kind.Char) (behind_quoted 39 false z)) (cond (b == 47) (slash (b ∷ z) z) (cond (is_last_blank b z) (Some (piece.Blank, z)) (symbol (b ∷ z)))) ≡ Some (k, r) → Spells k (b ∷ z) r) [
        | true ↦ λ h f. subst (λ a. Spells k (a ∷ z) r) (sym (eqb-true b 39 h)) (found_sound (piece.Token kind.Char) (behind_quoted 39 false z) k (39 ∷ z) r f (λ q i. character (quoted_sound 39 false z q i)))
        | false ↦ λ g2. elim (b == 47) as (λ t. (b == 47) ≡ t → cond t (slash (b ∷ z) z) (cond (is_last_blank b z) (Some (piece.Blank, z)) (symbol (b ∷ z))) ≡ Some (k, r) → Spells k (b ∷ z) r) [
          | true ↦ λ h f. let e1 = eqb-true b 47 h in subst (λ a. Spells k (a ∷ z) r) (sym e1) (slash_sound z k r (ap (λ a. slash (a ∷ z) z) (sym e1) ∙ f))
          | false ↦ λ n. elim (is_last_blank b z) as (λ t. is_last_blank b z ≡ t → cond t (Some (piece.Blank, z)) (symbol (b ∷ z)) ≡ Some (k, r) → Spells k (b ∷ z) r) [
            | true ↦ λ h f. of_found piece.Blank k (b ∷ z) z r f (last_sound b z h)
            | false ↦ λ h f. symbol_is_piece (b ∷ z) k r m (no_comment b z n) f
          ] refl
        ] refl
      ] refl
    ] refl e

pub scan_sound : (z : Text) (k : PieceKind) (r : Text) → scan z ≡ Some (k, r) → Spells k z r
unfolding scan
scan_sound [] k r e = absurd (cc)
scan_sound (b ∷ z) k r e =
    elim (is_blank b) as (λ t. is_blank b ≡ t → cond t (Some (piece.Blank, z)) (cond (begins_identifier b) (Some (word (b ∷ z))) (cond (begins_number (b ∷ z)) (number (b ∷ z)) (other b z))) ≡ Some (k, r) → Spells k (b ∷ z) r) [
      | true ↦ λ h f. of_found piece.Blank k (b ∷ z) z r f (blank h)
      | false ↦ λ g. elim (begins_identifier b) as (λ t. begins_identifier b ≡ t → cond t (Some (word (b ∷ z))) (cond (begins_number (b ∷ z)) (number (b ∷ z)) (other b z)) ≡ Some (k, r) → Spells k (b ∷ z) r) [
        | true ↦ λ h f. word_sound b z k r h f
        | false ↦ λ g2. elim (begins_number (b ∷ z)) as (λ t. begins_number (b ∷ z) ≡ t → cond t (number (b ∷ z)) (other b z) ≡ Some (k, r) → Spells k (b ∷ z) r) [
          | true ↦ λ h f. number_sound b z k r h f
          | false ↦ λ h f. other_sound b z k r h f
        ] refl
      ] refl
    ] refl e

-- ---- the scan finds as long a piece as any

-- The scan finds a piece that is no shorter than this one, and of this kind where it is as long.
pub record Covers (k : PieceKind) (z q : Text) : Type 0 where
  pub kind_found : PieceKind
  pub rest : Text
  pub is : scan z ≡ Some (kind_found, rest)
  pub near : length rest ≤ length q
  pub same : length rest ≡ length q → kind_found ≡ k

exact : {k : PieceKind} {z q : Text} → scan z ≡ Some (k, q) → Covers k z q
exact {k = k} {q = q} e = record { kind_found = k; rest = q; is = e; near = omega arith; same = λ n. refl }

blank_scan : (b : ℕ) (z : Text) → is_blank b ≡ true → scan (b ∷ z) ≡ Some (piece.Blank, z)
unfolding scan
blank_scan b z h = rw h refl

last_scan : scan (26 ∷ []) ≡ Some (piece.Blank, [])
unfolding scan is_blank begins_number other is_last_blank
last_scan = refl

word_scan : (b : ℕ) (z : Text) → begins_identifier b ≡ true → scan (b ∷ z) ≡ Some (word (b ∷ z))
unfolding scan
word_scan b z h = let n = byte.word-blank b h in rw (n, h) refl

number_first : (b : ℕ) (z : Text) → begins_number (b ∷ z) ≡ true → (is_digit b ≡ true) ⊎ (b ≡ 46)
unfolding begins_number
number_first b [] h = inl h
number_first b (c ∷ z) h = elim (or_cases (is_digit b) (b == 46 && is_digit c) h) [
  | inl d ↦ inl d
  | inr p ↦ inr (eqb-true b 46 (and_parts (b == 46) (is_digit c) p).0)
]

point_classes : (is_blank 46 ≡ false) × (begins_identifier 46 ≡ false)
unfolding is_blank
point_classes = (refl, refl)

number_classes : (b : ℕ) → (is_digit b ≡ true) ⊎ (b ≡ 46) → (is_blank b ≡ false) × (begins_identifier b ≡ false)
number_classes b (inl h) = (byte.digit-blank b h, byte.digit-word b h)
number_classes b (inr e) = rw e point_classes

number_scan : (b : ℕ) (z : Text) → begins_number (b ∷ z) ≡ true → scan (b ∷ z) ≡ number (b ∷ z)
unfolding scan
number_scan b z h =
    let c = number_classes b (number_first b z h) in
    let c1 = c.0 in let c2 = c.1 in
    rw (c1, c2, h) refl

number_found_Some : (o : Option TokenKind) (k : TokenKind) (r : Text) → o ≡ Some k → number_found o r ≡ Some (piece.Token k, r)
unfolding number_found
number_found_Some o k r e = rw e refl

number_covers : {k : TokenKind} {z w r : Text} → NumberWord z w r → Literal k w → Covers (piece.Token k) z r
number_covers {k = k} (number_word {b = b} {z = z} {w = w} {r = r} h t) l =
    exact (number_scan b z h ∙ number_is b z w r t ∙ number_found_Some (number_kind (b ∷ w)) k r (literal_read l))

word_covers : (b : ℕ) {z w q : Text} (k : TokenKind) → begins_identifier b ≡ true → Run in_identifier z w q → word_kind (b ∷ w) ≡ k → Covers (piece.Token k) (b ∷ z) q
word_covers b {z = z} {w = w} {q = q} k h g e =
    let s = run_of in_identifier z in
    let found_is = word_scan b z h ∙ ap (λ p. Some p) (word_is b z s.0 h s.1) in
    record {
      kind_found = piece.Token (word_kind (b ∷ s.0));
      rest = behind in_identifier z;
      is = found_is;
      near = run_most g;
      same = λ n.
          let r = same_rest s.0 w (behind in_identifier z) q (sym (run_split s.1) ∙ run_split g) n in
          let v = sym (before_is z s.0 (behind in_identifier z) (run_split s.1)) ∙ ap (before z) r ∙ before_is z w q (run_split g) in
          ap (λ y. piece.Token (word_kind (b ∷ y))) v ∙ ap (λ j. piece.Token j) e;
    }

-- a word of this kind at the front of a text
word_piece : (w r : Text) (k : TokenKind) → is_word w ≡ true → word_kind w ≡ k → Covers (piece.Token k) (w ++ r) r
word_piece [] r k h e = absurd (cc)
word_piece (b ∷ w) r k h e = let p = and_parts (begins_identifier b) (list_all in_identifier w) h in word_covers b k p.0 (all_run in_identifier w r p.1) e

identifier_kind : (w : Text) → is_identifier w ≡ true → word_kind w ≡ kind.Identifier
unfolding word_kind
identifier_kind w h = let n = identifier-reserved w h in rw n refl

reserved_kind : (w : Text) → is_reserved w ≡ true → word_kind w ≡ kind.Reserved
unfolding word_kind
reserved_kind w h = rw h refl

no_number : (b : ℕ) (z : Text) → is_digit b ≡ false → (b == 46) ≡ false → begins_number (b ∷ z) ≡ false
unfolding begins_number
no_number b [] h n = h
no_number b (c ∷ z) h n = rw (h, n) refl

-- ---- what is neither a blank, a word nor a number

record Other (b : ℕ) : Type 0 where
  no_blank : is_blank b ≡ false
  no_word : begins_identifier b ≡ false
  no_digit : is_digit b ≡ false

other_scan : (b : ℕ) (z : Text) → Other b → begins_number (b ∷ z) ≡ false → scan (b ∷ z) ≡ other b z
unfolding scan
other_scan b z o m = let h = o.no_blank in let g = o.no_word in rw (h, g, m) refl

quote_other : Other 34
unfolding is_blank
quote_other = record { no_blank = refl; no_word = refl; no_digit = refl }

apostrophe_other : Other 39
unfolding is_blank
apostrophe_other = record { no_blank = refl; no_word = refl; no_digit = refl }

slash_other : Other 47
unfolding is_blank
slash_other = record { no_blank = refl; no_word = refl; no_digit = refl }

string_scan : (z : Text) → scan (34 ∷ z) ≡ found (piece.Token kind.Str) (behind_quoted 34 false z)
unfolding other
string_scan z = other_scan 34 z quote_other (no_number 34 z quote_other.no_digit refl)

character_scan : (z : Text) → scan (39 ∷ z) ≡ found (piece.Token kind.Char) (behind_quoted 39 false z)
unfolding other
character_scan z = other_scan 39 z apostrophe_other (no_number 39 z apostrophe_other.no_digit refl)

slash_scan : (z : Text) → scan (47 ∷ z) ≡ slash (47 ∷ z) z
unfolding other
slash_scan z = other_scan 47 z slash_other (slash_number z)

found_Some : (k : PieceKind) (o : Option Text) (q : Text) → o ≡ Some q → found k o ≡ Some (k, q)
unfolding found
found_Some k o q e = rw e refl

line_slash : (z : Text) → slash (47 ∷ 47 ∷ z) (47 ∷ z) ≡ Some (piece.Comment, behind in_line z)
unfolding slash
line_slash z = refl

block_slash : (z : Text) → slash (47 ∷ 42 ∷ z) (42 ∷ z) ≡ found piece.Comment (behind_block z)
unfolding slash
block_slash z = refl

-- ---- separators and operators

abbrev starts_other : ℕ → Bool
starts_other b = not (is_blank b || begins_identifier b || is_digit b || b == 34 || b == 39 || b == 26)

-- a separator's first byte
is_separator_byte : ℕ → Bool
is_separator_byte b = b == 40 || b == 41 || b == 123 || b == 125 || b == 91 || b == 93 || b == 59 || b == 44 || b == 46 || b == 64

separators_start : all (first_is (λ b. starts_other b && (not (b == 47) && is_separator_byte b))) separators ≡ true
unfolding separators is_separator_byte is_blank
separators_start = refl

operators_start : all (first_is (λ b. starts_other b && not (is_separator_byte b || b == 46))) operators ≡ true
unfolding operators is_separator_byte is_blank
operators_start = refl

opens_line : Text → Bool
opens_line (b ∷ c ∷ w) = b == 47 && c == 47
opens_line _ = false

operators_close : all (λ w. not (opens_line w)) operators ≡ true
unfolding operators opens_line
operators_close = refl

not_true : (t : Bool) → not t ≡ true → t ≡ false
not_true true e = absurd (cc)
not_true false e = refl

record Starts (b : ℕ) : Type 0 where
  is_other : Other b
  no_quote : (b == 34) ≡ false
  no_apostrophe : (b == 39) ≡ false
  no_last : (b == 26) ≡ false

starts : (b : ℕ) → starts_other b ≡ true → Starts b
starts b h =
    let h0 = not_true (is_blank b || begins_identifier b || is_digit b || b == 34 || b == 39 || b == 26) h in
    let p5 = or_parts (is_blank b || begins_identifier b || is_digit b || b == 34 || b == 39) (b == 26) h0 in
    let p4 = or_parts (is_blank b || begins_identifier b || is_digit b || b == 34) (b == 39) p5.0 in
    let p3 = or_parts (is_blank b || begins_identifier b || is_digit b) (b == 34) p4.0 in
    let p2 = or_parts (is_blank b || begins_identifier b) (is_digit b) p3.0 in
    let p1 = or_parts (is_blank b) (begins_identifier b) p2.0 in
    record { is_other = record { no_blank = p1.0; no_word = p1.1; no_digit = p2.1 }; no_quote = p3.1; no_apostrophe = p4.1; no_last = p5.1 }

not_last : (b : ℕ) (z : Text) → (b == 26) ≡ false → is_last_blank b z ≡ false
unfolding is_last_blank
not_last b [] h = h
not_last b (c ∷ z) h = refl

symbol_other : (b : ℕ) (z : Text) → Starts b → (b == 47) ≡ false → other b z ≡ symbol (b ∷ z)
unfolding other
symbol_other b z s n =
    let h = s.no_quote in let g = s.no_apostrophe in let l = not_last b z s.no_last in rw (h, g, n, l) refl

symbol_scan : (b : ℕ) (z : Text) → Starts b → (b == 47) ≡ false → begins_number (b ∷ z) ≡ false → scan (b ∷ z) ≡ symbol (b ∷ z)
symbol_scan b z s n m = other_scan b z s.is_other m ∙ symbol_other b z s n

separator_symbol : (z r : Text) → behind_symbol None separators z ≡ Some r → symbol z ≡ Some (piece.Token kind.Separator, r)
unfolding symbol separator_or
separator_symbol z r e = rw e refl

separator_covers : (w : Text) {z q : Text} → Among separators w → z ≡ w ++ q → begins_number z ≡ false → Covers (piece.Token kind.Separator) z q
separator_covers [] a e m = absurd (let h = all_among (first_is (λ b. starts_other b && (not (b == 47) && is_separator_byte b))) separators_start a in cc)
separator_covers (b ∷ w) {z = z} {q = q} a e m =
    let h = all_among (first_is (λ b. starts_other b && (not (b == 47) && is_separator_byte b))) separators_start a in
    let p = and_parts (starts_other b) (not (b == 47) && is_separator_byte b) h in
    let n = not_true (b == 47) (and_parts (not (b == 47)) (is_separator_byte b) p.1).0 in
    let i = symbol_has None z q a e in
    let m2 : begins_number (b ∷ (w ++ q)) ≡ false = subst (λ y. begins_number y ≡ false) e m in
    let s : scan z ≡ symbol z = subst (λ y. scan y ≡ symbol y) (sym e) (symbol_scan b (w ++ q) (starts b p.0) n m2) in
    record { kind_found = piece.Token kind.Separator; rest = i.rest; is = s ∙ separator_symbol z i.rest i.is; near = i.near; same = λ x. refl }

-- no separator begins with an operator's first byte
separators_none : (b : ℕ) (z : Text) → is_separator_byte b ≡ false → behind_symbol None separators (b ∷ z) ≡ None
separators_none b z n = by (behind_symbol None separators (b ∷ z)) refl
  where
    first : (w : Text) (r : Text) → Among separators w → b ∷ z ≡ w ++ r → ⊥
    first [] r a e = let h = all_among (first_is (λ b. starts_other b && (not (b == 47) && is_separator_byte b))) separators_start a in absurd (cc (h))
    first (c ∷ w) r a e =
        let h = all_among (first_is (λ b. starts_other b && (not (b == 47) && is_separator_byte b))) separators_start a in
        let p = and_parts (starts_other c) (not (c == 47) && is_separator_byte c) h in
        let k = (and_parts (not (c == 47)) (is_separator_byte c) p.1).1 in
        let f : b ≡ c = cc in
        let g : is_separator_byte b ≡ true = ap is_separator_byte f ∙ k in
        absurd (cc (g, n))

    by : (o : Option Text) → behind_symbol None separators (b ∷ z) ≡ o → o ≡ None
    by None e = refl
    by (Some r) e = elim (symbol_sound None separators (b ∷ z) r e) [ inl g ↦ absurd (cc) | inr s ↦ absurd (first s.0 r s.1 s.2) ]

operator_symbol : (z r : Text) → behind_symbol None separators z ≡ None → behind_symbol None operators z ≡ Some r → symbol z ≡ Some (piece.Token kind.Operator, r)
unfolding symbol separator_or operator found
operator_symbol z r e f = rw (e, f) refl

both_slashes : (d : ℕ) (w : Text) → opens_line (47 ∷ d ∷ w) ≡ false → (d == 47) ≡ true → ⊥
unfolding opens_line
both_slashes d w n h = absurd (cc (n, h))

line_short : (z : Text) → length (behind in_line z) ≤ length z
line_short z = let s = run_of in_line z in omega (arith, ap length (run_split s.1), length-append s.0 (behind in_line z))

-- an operator that begins with `/`
slash_covers : (w : Text) (z q : Text) → Among operators (47 ∷ w) → z ≡ w ++ q → opens_comment (47 ∷ z) ≡ false → Within (behind_symbol None operators (47 ∷ z)) q → Covers (piece.Token kind.Operator) (47 ∷ z) q
unfolding slash opens_comment is_separator_byte
slash_covers w [] q a e m i =
    let s = operator_symbol (47 ∷ []) i.rest (separators_none 47 [] refl) i.is in
    record { kind_found = piece.Token kind.Operator; rest = i.rest; is = slash_scan [] ∙ s; near = i.near; same = λ x. refl }
slash_covers w (c ∷ z) q a e m i =
    elim (c == 47) as (λ t. (c == 47) ≡ t → slash (47 ∷ c ∷ z) (c ∷ z) ≡ cond t (Some (piece.Comment, behind in_line z)) (cond (c == 42) (found piece.Comment (behind_block z)) (symbol (47 ∷ c ∷ z))) → Covers (piece.Token kind.Operator) (47 ∷ c ∷ z) q) [
      | true ↦ λ h f.
          let near : length (behind in_line z) < length q = comment_near w h a e in
          record { kind_found = piece.Comment; rest = behind in_line z; is = slash_scan (c ∷ z) ∙ f; near = omega arith; same = λ x. absurd (omega arith) }
      | false ↦ λ h f.
          let s = operator_symbol (47 ∷ c ∷ z) i.rest (separators_none 47 (c ∷ z) refl) i.is in
          let g : slash (47 ∷ c ∷ z) (c ∷ z) ≡ symbol (47 ∷ c ∷ z) = f ∙ rw m refl in
          record { kind_found = piece.Token kind.Operator; rest = i.rest; is = slash_scan (c ∷ z) ∙ g ∙ s; near = i.near; same = λ x. refl }
    ] refl refl
  where
    comment_near : (w : Text) → (c == 47) ≡ true → Among operators (47 ∷ w) → c ∷ z ≡ w ++ q → length (behind in_line z) < length q
    comment_near [] h a e = omega (arith, ap length e, line_short z)
    comment_near (d ∷ w) h a e =
        let n = not_true (opens_line (47 ∷ d ∷ w)) (all_among (λ w. not (opens_line w)) operators_close a) in
        let f : c ≡ d = cc in
        absurd (both_slashes d w n (ap (λ x. x == 47) (sym f) ∙ h))

operator_covers : (w : Text) {z q : Text} → Among operators w → z ≡ w ++ q → opens_comment z ≡ false → Covers (piece.Token kind.Operator) z q
operator_covers [] a e m = absurd (let h = all_among (first_is (λ b. starts_other b && not (is_separator_byte b || b == 46))) operators_start a in cc)
operator_covers (b ∷ w) {z = z} {q = q} a e m =
    let h = all_among (first_is (λ b. starts_other b && not (is_separator_byte b || b == 46))) operators_start a in
    let p = and_parts (starts_other b) (not (is_separator_byte b || b == 46)) h in
    let n = or_parts (is_separator_byte b) (b == 46) (not_true (is_separator_byte b || b == 46) p.1) in
    let s = starts b p.0 in
    let m2 : opens_comment (b ∷ (w ++ q)) ≡ false = subst (λ y. opens_comment y ≡ false) e m in
    let i = subst (λ y. Within (behind_symbol None operators y) q) e (symbol_has None z q a e) in
    subst (λ y. Covers (piece.Token kind.Operator) y q) (sym e) (by_slash b w q a s n m2 i (b == 47) refl)
  where
    by_slash : (b : ℕ) (w q : Text) → Among operators (b ∷ w) → Starts b → (is_separator_byte b ≡ false) × ((b == 46) ≡ false) → opens_comment (b ∷ (w ++ q)) ≡ false
        → Within (behind_symbol None operators (b ∷ (w ++ q))) q → (t : Bool) → (b == 47) ≡ t → Covers (piece.Token kind.Operator) (b ∷ (w ++ q)) q
    by_slash b w q a s n m i true h =
        let e = eqb-true b 47 h in
        let a2 = subst (λ c. Among operators (c ∷ w)) e a in
        let m2 = subst (λ c. opens_comment (c ∷ (w ++ q)) ≡ false) e m in
        let i2 = subst (λ c. Within (behind_symbol None operators (c ∷ (w ++ q))) q) e i in
        subst (λ c. Covers (piece.Token kind.Operator) (c ∷ (w ++ q)) q) (sym e) (slash_covers w (w ++ q) q a2 refl m2 i2)
    by_slash b w q a s n m i false h =
        let at = operator_symbol (b ∷ (w ++ q)) i.rest (separators_none b (w ++ q) n.0) i.is in
        record { kind_found = piece.Token kind.Operator; rest = i.rest; is = symbol_scan b (w ++ q) s h (no_number b (w ++ q) s.is_other.no_digit n.1) ∙ at; near = i.near; same = λ x. refl }

pub covers : {k : PieceKind} {z q : Text} → Spells k z q → Covers k z q
covers (blank {b = b} {r = r} h) = exact (blank_scan b r h)
covers last_byte = exact last_scan
covers (line_comment {z = z} {r = r} g) =
    record { kind_found = piece.Comment; rest = behind in_line z; is = slash_scan (47 ∷ z) ∙ line_slash z; near = run_most g; same = λ n. refl }
covers (block_comment {z = z} {r = r} g) = exact (slash_scan (42 ∷ z) ∙ block_slash z ∙ found_Some piece.Comment (behind_block z) r (block_read g))
covers (identifier w {r = r} h e) = subst (λ y. Covers (piece.Token kind.Identifier) y r) (sym e) (word_piece w r kind.Identifier (identifier_word w h) (identifier_kind w h))
covers (reserved w {r = r} h e) = subst (λ y. Covers (piece.Token kind.Reserved) y r) (sym e) (word_piece w r kind.Reserved (reserved_word w h) (reserved_kind w h))
covers (number_piece w l) = number_covers w l
covers (string {z = z} {r = r} g) = exact (string_scan z ∙ found_Some (piece.Token kind.Str) (behind_quoted 34 false z) r (quoted_read 34 refl g))
covers (character {z = z} {r = r} g) = exact (character_scan z ∙ found_Some (piece.Token kind.Char) (behind_quoted 39 false z) r (quoted_read 39 refl g))
covers (separator w a e m) = separator_covers w a e m
covers (operator_piece w a e m) = operator_covers w a e m

-- ---- the longest piece is what the scan finds

pub scan_longest : (z : Text) (k : PieceKind) (r : Text) → scan z ≡ Some (k, r) → Longest k z r
scan_longest z k r e = record { spells = scan_sound z k r e; most = λ other q s. most other q (covers s) }
  where
    most : (other : PieceKind) (q : Text) → Covers other z q → length r ≤ length q
    most other q c =
        let f : ◌≡◌ {A = PieceKind × Text} (c.kind_found, c.rest) (k, r) = some_is (c.kind_found, c.rest) (k, r) (sym c.is ∙ e) in
        omega (arith, c.near, ap (λ p. length p.1) f)

pub longest_is : {k : PieceKind} {z r : Text} → Longest k z r → scan z ≡ Some (k, r)
longest_is {k = k} {z = z} {r = r} l =
    let c = covers l.spells in
    let s = scan_sound z c.kind_found c.rest c.is in
    let n : length c.rest ≡ length r = omega (arith, c.near, l.most c.kind_found c.rest s) in
    let e1 = c.same n in
    let e2 = same_end s l.spells n in
    c.is ∙ ap (λ j. Some (j, c.rest)) e1 ∙ ap (λ y. Some (k, y)) e2

pub scan_none : (z : Text) → scan z ≡ None → (k : PieceKind) (q : Text) → Spells k z q → ⊥
scan_none z e k q s = let c = covers s in absurd (let f = c.is in cc (e, f))
