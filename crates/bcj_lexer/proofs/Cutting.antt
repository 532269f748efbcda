-- A text has at most one cutting, none where a run of pieces is stuck, and its tokens stand in order
use Rattle.std.proofs.Common.{◌≡◌, ◌≢◌, ℕ, ◌+◌, ◌-◌, ◌<◌, ◌≤◌, List, [], ◌∷◌, ◌++◌, length, Some, None, refl, sym, ◌∙◌, ap, subst, arith, append-nil}
use Rattle.bcj_lexer.specs.declared.Token.{Token}
use Rattle.bcj_lexer.specs.declared.TokenKind.{TokenKind}
use Rattle.bcj_lexer.specs.declared.piece.PieceKind.{PieceKind}
use Rattle.bcj_lexer.specs.declared.piece.PieceKind.TheVariants as piece
use Rattle.bcj_lexer.specs.Bytes.{Text}
use Rattle.bcj_lexer.specs.Pieces.{Spells, Longest, Piece, Cut, done, cut, tokens, TokensOf, InOrder}
use Rattle.bcj_lexer.specs.Answers.{IsBad}
use Rattle.bcj_lexer.specs.Laws.{OneCutting, AreWithin}
use Rattle.std.proofs.lemmas.List.Elements.{All-cons, All-nil}
use Rattle.bcj_lexer.specs.function.Scan.{scan}
use Rattle.bcj_lexer.proofs.Longest.{shrinks, scan_longest, longest_is, scan_none, some_is}

abbrev piece_at : ℕ → PieceKind → Text → Text → Piece
piece_at size k z m = record { kind = k; start = size - length z; end = size - length m }

-- the longest piece is one
pub one_piece : {k j : PieceKind} {z m q : Text} → Longest k z m → Longest j z q → ◌≡◌ {A = PieceKind × Text} (k, m) (j, q)
one_piece {k = k} {j = j} {m = m} {q = q} a b = some_is (k, m) (j, q) (sym (longest_is a) ∙ longest_is b)

cut_shrinks : {size : ℕ} {z r : Text} {ps : List Piece} → Cut size z r ps → length r ≤ length z
cut_shrinks done = omega arith
cut_shrinks (cut l c) = omega (arith, shrinks l.spells, cut_shrinks c)

no_piece : {k : PieceKind} {m : Text} → Longest k [] m → ⊥
no_piece l = absurd (omega (arith, shrinks l.spells))

pub one_cutting : {size : ℕ} {z : Text} {ps qs : List Piece} → Cut size z [] ps → Cut size z [] qs → ps ≡ qs
one_cutting done done = refl
one_cutting done (cut l c) = absurd (no_piece l)
one_cutting (cut l c) done = absurd (no_piece l)
one_cutting {size = size} {z = z} (cut {k = k} {m = m} {ps = ps} l c) (cut {k = j} {m = q} {ps = qs} l2 c2) =
    let e = one_piece l l2 in
    let m_is : m ≡ q = ap (λ p. p.1) e in
    let c3 = subst (λ y. Cut size y [] ps) m_is c in
    ap (λ p. piece_at size p.0 z p.1 ∷ ps) e ∙ ap (λ y. piece_at size j z q ∷ y) (one_cutting c3 c2)

-- where no piece begins at the end of a run of pieces, no cutting goes past it
pub stuck_none : {size : ℕ} {z rest : Text} {ps qs : List Piece} → Cut size z rest ps → rest ≢ [] → ((k : PieceKind) (q : Text) → Spells k rest q → ⊥) → Cut size z [] qs → ⊥
stuck_none done left none done = left refl
stuck_none done left none (cut {k = k} {m = m} l c) = none k m l.spells
stuck_none (cut l c) left none done = absurd (no_piece l)
stuck_none {size = size} (cut {m = m} l c) left none (cut {m = q} {ps = qs} l2 c2) =
    let m_is : m ≡ q = ap (λ p. p.1) (one_piece l l2) in
    stuck_none c left none (subst (λ y. Cut size y [] qs) (sym m_is) c2)

pub stuck_most : {size : ℕ} {z rest other : Text} {ps qs : List Piece} → Cut size z rest ps → ((k : PieceKind) (q : Text) → Spells k rest q → ⊥) → Cut size z other qs → length rest ≤ length other
stuck_most done none done = omega arith
stuck_most done none (cut {k = k} {m = m} l c) = absurd (none k m l.spells)
stuck_most (cut l c) none done = omega (arith, shrinks l.spells, cut_shrinks c)
stuck_most {size = size} {other = other} (cut {m = m} l c) none (cut {m = q} {ps = qs} l2 c2) =
    let m_is : m ≡ q = ap (λ p. p.1) (one_piece l l2) in
    stuck_most c none (subst (λ y. Cut size y other qs) (sym m_is) c2)

-- one more piece at the end
pub longer : {size : ℕ} {z r q : Text} {ps : List Piece} {k : PieceKind} → Cut size z r ps → Longest k r q → Cut size z q (ps ++ piece_at size k r q ∷ [])
longer done l = cut l done
longer (cut l c) l2 = cut l (longer c l2)

pub tokens-append : (ps qs : List Piece) → tokens (ps ++ qs) ≡ tokens ps ++ tokens qs
unfolding tokens
tokens-append [] qs = refl
tokens-append (p ∷ ps) qs = elim p.kind as (λ k. tokens (record p { kind = k } ∷ (ps ++ qs)) ≡ tokens (record p { kind = k } ∷ ps) ++ tokens qs) [
  | piece.Blank ↦ tokens-append ps qs
  | piece.Comment ↦ tokens-append ps qs
  | piece.Token k ↦ ap (λ ts. record { kind = k; start = p.start; end = p.end } ∷ ts) (tokens-append ps qs)
]

lower : (low mid high : ℕ) (ts : List Token) → low ≤ mid → InOrder mid high ts → InOrder low high ts
unfolding InOrder
lower low mid high [] h o = omega (arith, o)
lower low mid high (t ∷ ts) h o = (omega (arith, o.0), o.1, o.2)

pub cut_order : {size : ℕ} {z r : Text} {ps : List Piece} → length z ≤ size → Cut size z r ps → InOrder (size - length z) (size - length r) (tokens ps)
unfolding tokens InOrder
cut_order h done = omega arith
cut_order {size = size} {z = z} {r = r} h (cut {k = k} {m = m} {ps = ps} l c) =
    let s = shrinks l.spells in
    let o = cut_order (omega (arith, s)) c in
    by_kind k (omega (arith, s)) (omega (arith, s)) o
  where
    by_kind : (j : PieceKind) → size - length z ≤ size - length m → size - length z < size - length m → InOrder (size - length m) (size - length r) (tokens ps) → InOrder (size - length z) (size - length r) (tokens (piece_at size j z m ∷ ps))
    by_kind piece.Blank n p o = lower (size - length z) (size - length m) (size - length r) (tokens ps) n o
    by_kind piece.Comment n p o = lower (size - length z) (size - length m) (size - length r) (tokens ps) n o
    by_kind (piece.Token j) n p o = (omega arith, p, o)

pub tokens_order : (text : Text) (ts : List Token) → TokensOf text ts → InOrder 0 (length text) ts
tokens_order text ts t =
    let size = length text in
    let low : size - size ≡ 0 = omega arith in
    let high : size - 0 ≡ size = omega arith in
    let o = cut_order (omega arith) t.cutting in
    let o2 = subst (λ n. InOrder n (size - 0) (tokens t.pieces)) low o in
    let o3 = subst (λ n. InOrder 0 n (tokens t.pieces)) high o2 in
    subst (λ ys. InOrder 0 size ys) (sym t.are) o3

pub tokens_one : (text : Text) (ts us : List Token) → TokensOf text ts → TokensOf text us → ts ≡ us
tokens_one text ts us t u = t.are ∙ ap tokens (one_cutting t.cutting u.cutting) ∙ sym u.are

-- ---- the loop of `lex`

-- The text before `rest` is pieces, and these are its tokens.
pub record Reached (text rest : Text) (ts : List Token) : Type 0 where
  pub pieces : List Piece
  pub before : Cut (length text) text rest pieces
  pub are : ts ≡ tokens pieces

pub reached_start : (text : Text) → Reached text text []
unfolding tokens
reached_start text = record { pieces = []; before = done; are = refl }

grown : (text rest q : Text) (ts us : List Token) (k : PieceKind) → Reached text rest ts → scan rest ≡ Some (k, q) → tokens (piece_at (length text) k rest q ∷ []) ≡ us → Reached text q (ts ++ us)
grown text rest q ts us k r e f =
    let p = piece_at (length text) k rest q in
    record {
      pieces = r.pieces ++ p ∷ [];
      before = longer r.before (scan_longest rest k q e);
      are = ap (λ y. y ++ us) r.are ∙ ap (λ y. tokens r.pieces ++ y) (sym f) ∙ sym (tokens-append r.pieces (p ∷ []));
    }

reached_blank : (text rest q : Text) (ts : List Token) → Reached text rest ts → scan rest ≡ Some (piece.Blank, q) → Reached text q ts
unfolding tokens
reached_blank text rest q ts r e = subst (λ y. Reached text q y) (append-nil ts) (grown text rest q ts [] piece.Blank r e refl)

reached_comment : (text rest q : Text) (ts : List Token) → Reached text rest ts → scan rest ≡ Some (piece.Comment, q) → Reached text q ts
unfolding tokens
reached_comment text rest q ts r e = subst (λ y. Reached text q y) (append-nil ts) (grown text rest q ts [] piece.Comment r e refl)

-- a piece that is no token adds none
pub reached_other : (text rest q : Text) (ts : List Token) (k : PieceKind) → Reached text rest ts → scan rest ≡ Some (k, q) → ((j : TokenKind) → k ≡ piece.Token j → ⊥) → Reached text q ts
reached_other text rest q ts piece.Blank r e n = reached_blank text rest q ts r e
reached_other text rest q ts piece.Comment r e n = reached_comment text rest q ts r e
reached_other text rest q ts (piece.Token j) r e n = absurd (n j refl)

pub reached_token : (text rest q : Text) (ts : List Token) (k : TokenKind) → Reached text rest ts → scan rest ≡ Some (piece.Token k, q) → Reached text q (ts ++ record { kind = k; start = length text - length rest; end = length text - length q } ∷ [])
unfolding tokens
reached_token text rest q ts k r e = grown text rest q ts (record { kind = k; start = length text - length rest; end = length text - length q } ∷ []) (piece.Token k) r e refl

cut_count : {size : ℕ} {z r : Text} {ps : List Piece} → Cut size z r ps → length (tokens ps) + length r ≤ length z
unfolding tokens
cut_count done = omega arith
cut_count {size = size} {z = z} {r = r} (cut {k = k} {m = m} {ps = ps} l c) = by_kind k (shrinks l.spells) (cut_count c)
  where
    by_kind : (j : PieceKind) → length m < length z → length (tokens ps) + length r ≤ length m → length (tokens (piece_at size j z m ∷ ps)) + length r ≤ length z
    by_kind piece.Blank n o = omega arith
    by_kind piece.Comment n o = omega arith
    by_kind (piece.Token j) n o = omega arith

pub reached_count : (text rest : Text) (ts : List Token) → Reached text rest ts → length ts + length rest ≤ length text
reached_count text rest ts r = omega (arith, ap length r.are, cut_count r.before)

pub scan_shrinks : (z : Text) (k : PieceKind) (q : Text) → scan z ≡ Some (k, q) → length q < length z
scan_shrinks z k q e = let l = scan_longest z k q e in shrinks l.spells

pub reached_done : (text rest : Text) (ts : List Token) → Reached text rest ts → length rest ≤ 0 → TokensOf text ts
reached_done text [] ts r h = record { pieces = r.pieces; cutting = r.before; are = r.are }
reached_done text (b ∷ z) ts r h = absurd (omega (arith, h))

pub reached_bad : (text rest : Text) (ts : List Token) → Reached text rest ts → 0 < length rest → scan rest ≡ None → IsBad text (length text - length rest)
reached_bad text rest ts r n e =
    let left : rest ≢ [] = λ h. absurd (omega (arith, n, ap length h)) in
    let none = scan_none rest e in
    record {
      rest = rest;
      stuck = record { pieces = r.pieces; before = r.before; left = left; none = none; most = λ other qs c. stuck_most r.before none c };
      place = refl;
      within = omega (arith, n, reached_count text rest ts r);
      uncut = λ ps c. stuck_none r.before left none c;
    }

pub bad_none : (text : Text) (at : ℕ) (ts : List Token) → IsBad text at → TokensOf text ts → ⊥
bad_none text at ts b t = let f = b.uncut in f t.pieces t.cutting

order_le : (low high : ℕ) (ts : List Token) → InOrder low high ts → low ≤ high
unfolding InOrder
order_le low high [] o = o
order_le low high (t ∷ ts) o = omega (arith, o.0, o.1, order_le t.end high ts o.2)

order_within : (low high : ℕ) (ts : List Token) → InOrder low high ts → AreWithin high ts
unfolding InOrder
order_within low high [] o = All-nil (λ t. (t.start < t.end) × (t.end ≤ high))
order_within low high (t ∷ ts) o = All-cons (λ t. (t.start < t.end) × (t.end ≤ high)) t ts (o.1, order_le t.end high ts o.2) (order_within t.end high ts o.2)

pub tokens_within : (text : Text) (ts : List Token) → TokensOf text ts → AreWithin (length text) ts
tokens_within text ts t = order_within 0 (length text) ts (tokens_order text ts t)

-- ---- the laws

pub one_cutting_law : OneCutting
one_cutting_law text ps qs c d = one_cutting c d
