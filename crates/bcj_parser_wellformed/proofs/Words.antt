-- The word of each token that the grammar takes for an identifier is one.
use Rattle.std.proofs.Common.{◌≡◌, ℕ, ◌-◌, Bool, true, false, ◌&&◌, List, [], ◌∷◌, ◌++◌, length, take, drop, slice_range, refl, sym, ◌∙◌, ap, subst, arith, length-append, append_assoc, if◌then◌else◌}
use Rattle.std.specs.Str.{bytes_eq}
use Rattle.std.proofs.lemmas.Bool.{and_parts}
use Rattle.std.proofs.Math.Seq.{drop-append_seam, take-append_seam}
use Rattle.bcj_names.specs.Identifiers.{is_identifier}
use Rattle.bcj_lexer.specs.declared.Token.{Token}
use Rattle.bcj_lexer.specs.declared.TokenKind.{TokenKind}
use Rattle.bcj_lexer.specs.declared.TokenKind.TheVariants as kind
use Rattle.bcj_lexer.specs.declared.piece.PieceKind.{PieceKind}
use Rattle.bcj_lexer.specs.declared.piece.PieceKind.TheVariants as piece
use Rattle.bcj_lexer.specs.Bytes.{Text}
use Rattle.bcj_lexer.specs.Pieces.{Spells, identifier, number as number_piece, Longest, Piece, Cut, done, cut, tokens, TokensOf}
use Rattle.bcj_lexer.proofs.Longest.{piece_front}
use Rattle.bcj_parser_rules.specs.declared.terminal.Terminal.{Terminal}
use Rattle.bcj_parser_rules.specs.declared.terminal.Terminal.TheVariants as terminal
use Rattle.bcj_parser_rules.specs.Lexemes.{Lexeme, Lexemes, Entry, terminal_in, lexeme_of, lexemes_of, reserved_terminals, separator_terminals, operator_terminals}

-- a token of this kind has an identifier as its word
abbrev pub IsNamed : Lexeme → Type 0
IsNamed t = t.terminal ≡ terminal.Identifier → is_identifier t.word ≡ true

-- each token has
pub data AreNamed : Lexemes → Type 0 where
  none_named : AreNamed []
  more_named : {t : Lexeme} {i : Lexemes} → IsNamed t → AreNamed i → AreNamed (t ∷ i)

-- ---- no table names an identifier

-- an entry of a table is of another terminal
abbrev is_other : Terminal → Bool
is_other terminal.Identifier = false
is_other _ = true

-- each is
abbrev are_others : List Entry → Bool
are_others [] = true
are_others (e ∷ es) = is_other e.terminal && are_others es

-- no reserved word is an identifier
reserved_others : are_others reserved_terminals ≡ true
reserved_others = refl

-- no separator is one
separators_others : are_others separator_terminals ≡ true
separators_others = refl

-- no operator is one
operators_others : are_others operator_terminals ≡ true
operators_others = refl

-- another terminal is not an identifier
identifier_is_not : (k : Terminal) → is_other k ≡ true → k ≡ terminal.Identifier → ⊥
identifier_is_not k o e = cc

-- where the first entry is of another terminal, a later one is looked up
first_or_later : (b : Bool) (x k : Terminal) → is_other x ≡ true → (if b then x else k) ≡ terminal.Identifier → k ≡ terminal.Identifier
first_or_later true x k o e = absurd (identifier_is_not x o e)
first_or_later false x k o e = e

-- a table of other terminals gives no identifier
not_in : (es : List Entry) (word : List ℕ) → are_others es ≡ true → terminal_in es word ≡ terminal.Identifier → ⊥
not_in [] word o e = cc
not_in (x ∷ es) word o e =
    let p = and_parts (is_other x.terminal) (are_others es) o in not_in es word p.1 (first_or_later (bytes_eq word x.word) x.terminal (terminal_in es word) p.0 e)

-- ---- tokens

-- the bytes of the text between two of its tails
slice_is : (p w r : Text) → slice_range (p ++ (w ++ r)) (length (p ++ (w ++ r)) - length (w ++ r)) (length (p ++ (w ++ r)) - length r) ≡ w
slice_is p w r =
    let from : length (p ++ (w ++ r)) - length (w ++ r) ≡ length p = omega (arith, length-append p (w ++ r)) in
    let to : (length (p ++ (w ++ r)) - length r) - length p ≡ length w = omega (arith, length-append p (w ++ r), length-append w r) in
    ap (λ n. take ((length (p ++ (w ++ r)) - length r) - n) (drop n (p ++ (w ++ r)))) from ∙ ap (λ n. take n (drop (length p) (p ++ (w ++ r)))) to
    ∙ ap (take (length w)) (drop-append_seam p (w ++ r)) ∙ take-append_seam w r

-- the bytes from one tail of the text to another
abbrev word_at : Text → Text → Text → Text
word_at text z m = slice_range text (length text - length z) (length text - length m)

-- they are the word between the two tails
word_is : (text p z m w : Text) → text ≡ p ++ z → z ≡ w ++ m → word_at text z m ≡ w
word_is text p z m w e f =
    ap (λ x. slice_range x (length x - length z) (length x - length m)) (e ∙ ap (λ y. p ++ y) f)
    ∙ ap (λ y. slice_range (p ++ (w ++ m)) (length (p ++ (w ++ m)) - length y) (length (p ++ (w ++ m)) - length m)) f
    ∙ slice_is p w m

-- the token between two tails
abbrev token_at : Text → TokenKind → Text → Text → Token
token_at text k z m = record { kind = k; start = length text - length z; end = length text - length m }

-- a piece that is taken for an identifier spells one
token_named : (text p z m : Text) (k : TokenKind) → text ≡ p ++ z → Spells (piece.Token k) z m → IsNamed (lexeme_of text (token_at text k z m))
token_named text p z m kind.Identifier e (identifier w h f) n = subst (λ x. is_identifier x ≡ true) (sym (word_is text p z m w e f)) h
token_named text p z m kind.Identifier e (number_piece w l) n = elim l [ ]
token_named text p z m kind.Reserved e s n = absurd (not_in reserved_terminals (word_at text z m) reserved_others n)
token_named text p z m kind.Int e s n = absurd (cc)
token_named text p z m kind.Long e s n = absurd (cc)
token_named text p z m kind.Float e s n = absurd (cc)
token_named text p z m kind.Str e s n = absurd (cc)
token_named text p z m kind.Char e s n = absurd (cc)
token_named text p z m kind.Separator e s n = absurd (not_in separator_terminals (word_at text z m) separators_others n)
token_named text p z m kind.Operator e s n = absurd (not_in operator_terminals (word_at text z m) operators_others n)

-- the same of each token of a cutting
cut_named : (text p : Text) {z r : Text} {ps : List Piece} → text ≡ p ++ z → Cut (length text) z r ps → AreNamed (lexemes_of text (tokens ps))
unfolding tokens
cut_named text p e done = none_named
cut_named text p {z = z} e (cut {k = k} {m = m} {ps = ps} l c) =
    let f = piece_front l.spells in
    with_piece k l (cut_named text (p ++ (f.first ∷ f.others)) (e ∙ ap (λ y. p ++ y) f.is ∙ sym (append_assoc p (f.first ∷ f.others) m)) c)
  where
    with_piece : (j : PieceKind) → Longest j z m → AreNamed (lexemes_of text (tokens ps))
        → AreNamed (lexemes_of text (tokens (record { kind = j; start = length text - length z; end = length text - length m } ∷ ps)))
    with_piece piece.Blank l a = a
    with_piece piece.Comment l a = a
    with_piece (piece.Token j) l a = more_named (token_named text p z m j e l.spells) a

-- each identifier among the tokens of a text is one
pub words_named : (text : Text) (ts : List Token) → TokensOf text ts → AreNamed (lexemes_of text ts)
words_named text ts t = subst (λ us. AreNamed (lexemes_of text us)) (sym t.are) (cut_named text [] refl t.cutting)
