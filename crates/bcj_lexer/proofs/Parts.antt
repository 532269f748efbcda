-- The parts of a piece: runs, comments, quotes and symbols, as families and as functions
use Rattle.std.proofs.Common.{◌≡◌, ℕ, ◌-◌, ◌≤◌, Bool, true, false, cond, ◌&&◌, ◌==◌, ◌⊎◌, inl, inr, List, [], ◌∷◌, ◌++◌, length, take, Option, Some, None, refl, sym, ◌∙◌, ap, subst, arith, eqb-true, eq-eqb, length-append}
use Rattle.std.specs.Prelude.{codes}
use Rattle.std.specs.List.{AllByRecursion}
use Rattle.std.proofs.lemmas.Bool.{and_parts, or_cases, leb-true, leb-false}
use Rattle.bcj_names.specs.Identifiers.{is_one_of}
use Rattle.std.proofs.lemmas.Bool.Decides.{nat_tests}
use Rattle.std.proofs.Math.Seq.{take-append_seam}
use Rattle.std.proofs.Math.Dec.{leb}
use Rattle.bcj_lexer.specs.Bytes.{Text, is_line_end, in_literal, is_escaped}
use Rattle.bcj_lexer.specs.Symbols.{Among, here, later, separators}
use Rattle.bcj_lexer.specs.declared.TokenKind.TheVariants as kind
use Rattle.bcj_lexer.specs.declared.piece.PieceKind.TheVariants as piece
use Rattle.bcj_lexer.specs.Numbers.{goes_on, NumberTail, ends, stops, takes}
use Rattle.bcj_lexer.specs.Pieces.{Run, stop, step, closes_comment, Block, closed, inside, Quoted, close, plain, escape}
use Rattle.bcj_lexer.specs.function.Scan.{behind, before, behind_tail, behind_block, behind_quoted, strip, shorter, behind_symbol, is_last_blank, is_separator, other, symbol, separator_or}

-- ---- the bytes before a rest

pub before_is : (z w r : Text) → z ≡ w ++ r → before z r ≡ w
before_is z w r e =
    let n : length z - length r ≡ length w = omega (arith, ap length e, length-append w r) in
    ap (λ k. take k z) n ∙ ap (λ y. take (length w) y) e ∙ take-append_seam w r

pub same_rest : (w v r q : Text) → w ++ r ≡ v ++ q → length r ≡ length q → r ≡ q
same_rest [] [] r q e n = e
same_rest [] (b ∷ v) r q e n = absurd (omega (arith, ap length e, length-append v q))
same_rest (b ∷ w) [] r q e n = absurd (omega (arith, ap length e, length-append w r))
same_rest (b ∷ w) (c ∷ v) r q e n = same_rest w v r q (cc) n

-- ---- runs

pub run_split : {test : ℕ → Bool} {z w r : Text} → Run test z w r → z ≡ w ++ r
run_split stop = refl
run_split (step {b = b} h g) = ap (λ y. b ∷ y) (run_split g)

pub run_of : (test : ℕ → Bool) (z : Text) → (w : Text) × Run test z w (behind test z)
unfolding behind
run_of test [] = ([], stop)
run_of test (b ∷ z) =
    elim (test b) as (λ t. test b ≡ t → (w : Text) × Run test (b ∷ z) w (cond t (behind test z) (b ∷ z))) [
      | true ↦ λ h. let s = run_of test z in (b ∷ s.0, step h s.1)
      | false ↦ λ h. ([], stop)
    ] refl

behind_len : (test : ℕ → Bool) (z : Text) → length (behind test z) ≤ length z
behind_len test z = let s = run_of test z in omega (arith, ap length (run_split s.1), length-append s.0 (behind test z))

pub run_most : {test : ℕ → Bool} {z w q : Text} → Run test z w q → length (behind test z) ≤ length q
unfolding behind
run_most {test = test} (stop {r = r}) = behind_len test r
run_most (step h g) = rw h (run_most g)

-- ---- number words

pub tail_split : {hex : Bool} {previous : ℕ} {z w r : Text} → NumberTail hex previous z w r → z ≡ w ++ r
tail_split ends = refl
tail_split (stops h) = refl
tail_split (takes {b = b} h g) = ap (λ y. b ∷ y) (tail_split g)

pub tail_of : (hex : Bool) (previous : ℕ) (z : Text) → (w : Text) × NumberTail hex previous z w (behind_tail hex previous z)
unfolding behind_tail
tail_of hex previous [] = ([], ends)
tail_of hex previous (b ∷ z) =
    elim (goes_on hex previous b) as (λ t. goes_on hex previous b ≡ t → (w : Text) × NumberTail hex previous (b ∷ z) w (cond t (behind_tail hex b z) (b ∷ z))) [
      | true ↦ λ h. let s = tail_of hex b z in (b ∷ s.0, takes h s.1)
      | false ↦ λ h. ([], stops h)
    ] refl

pub tail_is : {hex : Bool} {previous : ℕ} {z w r : Text} → NumberTail hex previous z w r → behind_tail hex previous z ≡ r
unfolding behind_tail
tail_is ends = refl
tail_is (stops h) = rw h refl
tail_is (takes h g) = rw h (tail_is g)

-- ---- comments

pub block_sound : (z r : Text) → behind_block z ≡ Some r → Block z r
unfolding behind_block closes_comment
block_sound [] r e = absurd (cc)
block_sound (b ∷ []) r e = absurd (cc)
block_sound (b ∷ c ∷ z) r e =
    elim (b == 42 && c == 47) as (λ t. (b == 42 && c == 47) ≡ t → cond t (Some z) (behind_block (c ∷ z)) ≡ Some r → Block (b ∷ c ∷ z) r) [
      | true ↦ λ h f.
          let both = and_parts (b == 42) (c == 47) h in
          let e1 = eqb-true b 42 both.0 in let e2 = eqb-true c 47 both.1 in
          let e3 : z ≡ r = cc in
          subst (λ a. Block (a ∷ c ∷ z) r) (sym e1) (subst (λ a. Block (42 ∷ a ∷ z) r) (sym e2) (subst (λ y. Block (42 ∷ 47 ∷ z) y) e3 closed))
      | false ↦ λ h f. inside h (block_sound (c ∷ z) r f)
    ] refl e

block_step : (b : ℕ) (z r : Text) → closes_comment (b ∷ z) ≡ false → behind_block z ≡ Some r → behind_block (b ∷ z) ≡ Some r
unfolding behind_block closes_comment
block_step b [] r h e = absurd (cc)
block_step b (c ∷ z) r h e = rw h e

pub block_read : {z r : Text} → Block z r → behind_block z ≡ Some r
unfolding behind_block
block_read closed = refl
block_read (inside {b = b} {z = z} {r = r} h d) = block_step b z r h (block_read d)

pub block_split : {z r : Text} → Block z r → (w : Text) × (z ≡ w ++ r)
block_split closed = (42 ∷ 47 ∷ [], refl)
block_split (inside {b = b} h d) = let s = block_split d in (b ∷ s.0, ap (λ y. b ∷ y) s.1)

-- ---- strings and characters

abbrev QuotedFrom : ℕ → Bool → Text → Text → Type 0
QuotedFrom quote false z r = Quoted quote z r
QuotedFrom quote true z r = Quoted quote (92 ∷ z) r

pub quoted_sound : (quote : ℕ) (escaped : Bool) (z r : Text) → behind_quoted quote escaped z ≡ Some r → QuotedFrom quote escaped z r
unfolding behind_quoted
quoted_sound quote false [] r e = absurd (cc)
quoted_sound quote true [] r e = absurd (cc)
quoted_sound quote true (b ∷ z) r e =
    elim (is_escaped b) as (λ t. is_escaped b ≡ t → cond t (behind_quoted quote false z) None ≡ Some r → Quoted quote (92 ∷ b ∷ z) r) [
      | true ↦ λ h f. escape h (quoted_sound quote false z r f)
      | false ↦ λ h f. absurd (cc)
    ] refl e
quoted_sound quote false (b ∷ z) r e =
    elim (b == quote) as (λ t. (b == quote) ≡ t → cond t (Some z) (cond (b == 92) (behind_quoted quote true z) (cond (in_literal b) (behind_quoted quote false z) None)) ≡ Some r → Quoted quote (b ∷ z) r) [
      | true ↦ λ h f.
          let e1 : z ≡ r = cc in
          subst (λ a. Quoted quote (a ∷ z) r) (sym (eqb-true b quote h)) (subst (λ y. Quoted quote (quote ∷ z) y) e1 close)
      | false ↦ λ n. elim (b == 92) as (λ t. (b == 92) ≡ t → cond t (behind_quoted quote true z) (cond (in_literal b) (behind_quoted quote false z) None) ≡ Some r → Quoted quote (b ∷ z) r) [
        | true ↦ λ h f. subst (λ a. Quoted quote (a ∷ z) r) (sym (eqb-true b 92 h)) (quoted_sound quote true z r f)
        | false ↦ λ m. elim (in_literal b) as (λ t. in_literal b ≡ t → cond t (behind_quoted quote false z) None ≡ Some r → Quoted quote (b ∷ z) r) [
          | true ↦ λ h f. plain n h (quoted_sound quote false z r f)
          | false ↦ λ h f. absurd (cc)
        ] refl
      ] refl
    ] refl e

literal-backslash : (b : ℕ) → in_literal b ≡ true → (b == 92) ≡ false
unfolding in_literal is_line_end
literal-backslash b h = grind (arith, nat_tests)

pub quoted_read : (quote : ℕ) → (92 == quote) ≡ false → {z r : Text} → Quoted quote z r → behind_quoted quote false z ≡ Some r
unfolding behind_quoted
quoted_read quote u close = let h = eq-eqb quote quote refl in rw h refl
quoted_read quote u (plain {b = b} n h d) = let m = literal-backslash b h in rw (n, m, h) (quoted_read quote u d)
quoted_read quote u (escape h d) = rw (u, h) (quoted_read quote u d)

pub quoted_split : {quote : ℕ} {z r : Text} → Quoted quote z r → (w : Text) × (z ≡ w ++ r)
quoted_split {quote = quote} close = (quote ∷ [], refl)
quoted_split (plain {b = b} n h d) = let s = quoted_split d in (b ∷ s.0, ap (λ y. b ∷ y) s.1)
quoted_split (escape {b = b} h d) = let s = quoted_split d in (92 ∷ b ∷ s.0, ap (λ y. 92 ∷ b ∷ y) s.1)

-- ---- tables

-- each word of the list passes the test
abbrev pub all : (Text → Bool) → List Text → Bool
all test [] = true
all test (w ∷ ws) = test w && all test ws

pub all_among : (test : Text → Bool) → {ws : List Text} {w : Text} → all test ws ≡ true → Among ws w → test w ≡ true
all_among test a (here {w = w} {ws = ws}) = (and_parts (test w) (all test ws) a).0
all_among test a (later {v = v} {ws = ws} h) = all_among test (and_parts (test v) (all test ws) a).1 h

pub strip_sound : (w z r : Text) → strip w z ≡ Some r → z ≡ w ++ r
unfolding strip
strip_sound [] z r e = cc
strip_sound (a ∷ w) [] r e = absurd (cc)
strip_sound (a ∷ w) (b ∷ z) r e =
    elim (a == b) as (λ t. (a == b) ≡ t → cond t (strip w z) None ≡ Some r → b ∷ z ≡ a ∷ (w ++ r)) [
      | true ↦ λ h f. let e1 = eqb-true a b h in let e2 = strip_sound w z r f in cc
      | false ↦ λ h f. absurd (cc)
    ] refl e

pub strip_read : (w r : Text) → strip w (w ++ r) ≡ Some r
unfolding strip
strip_read [] r = refl
strip_read (a ∷ w) r = let h = eq-eqb a a refl in rw h (strip_read w r)

-- the answer is a rest that is no longer than this one
pub record Within (o : Option Text) (q : Text) : Type 0 where
  pub rest : Text
  pub is : o ≡ Some rest
  pub near : length rest ≤ length q

within_Some : (r q : Text) → length r ≤ length q → Within (Some r) q
within_Some r q h = record { rest = r; is = refl; near = h }

shorter_left : (best o : Option Text) (q : Text) → Within best q → Within (shorter best o) q
unfolding shorter
shorter_left None o q w = absurd (let e = w.is in cc)
shorter_left (Some r) None q w = w
shorter_left (Some r) (Some s) q w =
    let e : r ≡ w.rest = let f = w.is in cc in
    let near : length r ≤ length q = rw e w.near in
    elim (leb (length r) (length s)) as (λ t. leb (length r) (length s) ≡ t → Within (cond t (Some r) (Some s)) q) [
      | true ↦ λ h. within_Some r q near
      | false ↦ λ h. within_Some s q (omega (arith, leb-false (length r) (length s) h))
    ] refl

shorter_right : (best o : Option Text) (q : Text) → Within o q → Within (shorter best o) q
unfolding shorter
shorter_right None o q w = w
shorter_right (Some r) None q w = absurd (let e = w.is in cc)
shorter_right (Some r) (Some s) q w =
    let e : s ≡ w.rest = let f = w.is in cc in
    let near : length s ≤ length q = rw e w.near in
    elim (leb (length r) (length s)) as (λ t. leb (length r) (length s) ≡ t → Within (cond t (Some r) (Some s)) q) [
      | true ↦ λ h. within_Some r q (omega (arith, leb-true (length r) (length s) h))
      | false ↦ λ h. within_Some s q near
    ] refl

symbol_keeps : (best : Option Text) (ws : List Text) (z q : Text) → Within best q → Within (behind_symbol best ws z) q
unfolding behind_symbol
symbol_keeps best [] z q w = w
symbol_keeps best (v ∷ ws) z q w = symbol_keeps (shorter best (strip v z)) ws z q (shorter_left best (strip v z) q w)

pub symbol_has : (best : Option Text) {ws : List Text} {w : Text} (z q : Text) → Among ws w → z ≡ w ++ q → Within (behind_symbol best ws z) q
unfolding behind_symbol
symbol_has best z q (here {w = w} {ws = ws}) e =
    let s : strip w z ≡ Some q = ap (strip w) e ∙ strip_read w q in
    symbol_keeps (shorter best (strip w z)) ws z q (shorter_right best (strip w z) q (record { rest = q; is = s; near = omega arith }))
symbol_has best z q (later {v = v} h) e = symbol_has (shorter best (strip v z)) z q h e

abbrev pub SymbolSound : Option Text → List Text → Text → Text → Type 0
SymbolSound best ws z r = (best ≡ Some r) ⊎ ((w : Text) × Among ws w × (z ≡ w ++ r))

shorter_sound : (best o : Option Text) (r : Text) → shorter best o ≡ Some r → (best ≡ Some r) ⊎ (o ≡ Some r)
unfolding shorter
shorter_sound None o r e = inr e
shorter_sound (Some q) None r e = inl e
shorter_sound (Some q) (Some s) r e =
    elim (leb (length q) (length s)) as (λ t. cond t (Some q) (Some s) ≡ Some r → (Some q ≡ Some r) ⊎ (Some s ≡ Some r)) [
      | true ↦ λ f. inl f
      | false ↦ λ f. inr f
    ] e

pub symbol_sound : (best : Option Text) (ws : List Text) (z r : Text) → behind_symbol best ws z ≡ Some r → SymbolSound best ws z r
unfolding behind_symbol
symbol_sound best [] z r e = inl e
symbol_sound best (v ∷ ws) z r e = elim (symbol_sound (shorter best (strip v z)) ws z r e) [
  | inl f ↦ elim (shorter_sound best (strip v z) r f) [
    | inl g ↦ inl g
    | inr g ↦ inr (v, here, strip_sound v z r g)
  ]
  | inr s ↦ inr (s.0, later s.1, s.2)
]

-- ---- shortcuts

single_last : (b : ℕ) (z : Text) → (b == 26) ≡ false → is_last_blank b z ≡ false
unfolding is_last_blank
single_last b [] h = h
single_last b (c ∷ z) h = refl

abbrev Single : ℕ → Text → Type 0
Single b z = other b z ≡ Some (piece.Token kind.Separator, z)

single : (b : ℕ) (z : Text) → (b == 34) ≡ false → (b == 39) ≡ false → (b == 47) ≡ false → (b == 26) ≡ false → symbol (b ∷ z) ≡ Some (piece.Token kind.Separator, z) → Single b z
unfolding other
single b z h34 h39 h47 h26 e = let l = single_last b z h26 in rw (h34, h39, h47, l) e

single_40 : (z : Text) → Single 40 z
unfolding symbol separator_or behind_symbol strip shorter separators
single_40 z = single 40 z refl refl refl refl refl

single_41 : (z : Text) → Single 41 z
unfolding symbol separator_or behind_symbol strip shorter separators
single_41 z = single 41 z refl refl refl refl refl

single_123 : (z : Text) → Single 123 z
unfolding symbol separator_or behind_symbol strip shorter separators
single_123 z = single 123 z refl refl refl refl refl

single_125 : (z : Text) → Single 125 z
unfolding symbol separator_or behind_symbol strip shorter separators
single_125 z = single 125 z refl refl refl refl refl

single_91 : (z : Text) → Single 91 z
unfolding symbol separator_or behind_symbol strip shorter separators
single_91 z = single 91 z refl refl refl refl refl

single_93 : (z : Text) → Single 93 z
unfolding symbol separator_or behind_symbol strip shorter separators
single_93 z = single 93 z refl refl refl refl refl

single_59 : (z : Text) → Single 59 z
unfolding symbol separator_or behind_symbol strip shorter separators
single_59 z = single 59 z refl refl refl refl refl

single_44 : (z : Text) → Single 44 z
unfolding symbol separator_or behind_symbol strip shorter separators
single_44 z = single 44 z refl refl refl refl refl

single_64 : (z : Text) → Single 64 z
unfolding symbol separator_or behind_symbol strip shorter separators
single_64 z = single 64 z refl refl refl refl refl

-- what holds of each byte of a list holds of one of them
each_one : (P : ℕ → Type 0) (b : ℕ) (bytes : List ℕ) → AllByRecursion P bytes → is_one_of bytes b ≡ true → P b
each_one P b [] a h = absurd (cc)
each_one P b (c ∷ bytes) a h = elim (or_cases (b == c) (is_one_of bytes b) h) [
  | inl e ↦ subst P (sym (eqb-true b c e)) a.0
  | inr t ↦ each_one P b bytes a.1 t
]

pub other_separator : (b : ℕ) (z : Text) → is_separator b ≡ true → Single b z
unfolding is_separator
other_separator b z h =
    each_one (λ c. Single c z) b (codes "(){}[];,@") (single_40 z, (single_41 z, (single_123 z, (single_125 z, (single_91 z, (single_93 z, (single_59 z, (single_44 z, (single_64 z, tt))))))))) h
