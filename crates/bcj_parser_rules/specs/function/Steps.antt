-- How the parser as a function takes tokens: an outcome has what was read or why nothing was, and the tokens that are left;
-- where it stops, these begin with the token that it stops at.
use Rattle.std.specs.Prelude.{◌≡◌, ℕ, Bool, List, [], ◌∷◌, Result, Ok, Err, if◌then◌else◌}
use Rattle.bcj_parser_rules.specs.declared.kind.Mark.{Mark}
use Rattle.bcj_parser_rules.specs.declared.kind.Mark.TheVariants as mark
use Rattle.bcj_parser_rules.specs.declared.terminal.Terminal.{Terminal}
use Rattle.bcj_parser_rules.specs.declared.stop.Site.{Site}
use Rattle.bcj_parser_rules.specs.declared.stop.Stop.{Stop}
use Rattle.bcj_parser_rules.specs.declared.stop.Stop.TheVariants.{Refused, TooDeep, NoMemory}
use Rattle.bcj_parser_rules.specs.Lexemes.{Lexeme, Lexemes, first, first_at, terminal_at}
use Rattle.bcj_parser_rules.specs.Marks.{is_mark}

abbrev pub Outcome : Type 0 → Type 0
Outcome A = Result A Stop × Lexemes

abbrev pub Parser : Type 0 → Type 0
Parser A = Lexemes → Outcome A

abbrev pub continued : {A B : Type 0} → Result A Stop → Lexemes → (A → Parser B) → Outcome B
continued (Ok x) a f = f x a
continued (Err e) a f = (Err e, a)

abbrev pub then_read : {A B : Type 0} → Outcome A → (A → Parser B) → Outcome B
then_read o f = continued o.0 o.1 f

infixr 10 ◌>>=◌
abbrev pub ◌>>=◌ : {A B : Type 0} → Parser A → (A → Parser B) → Parser B
p >>= f = λ i. then_read (p i) f

infixr 10 ◌>>◌
abbrev pub ◌>>◌ : {A B : Type 0} → Parser A → Parser B → Parser B
p >> q = p >>= (λ _. q)

abbrev pub pure : {A : Type 0} → A → Parser A
pure x = λ i. (Ok x, i)

abbrev pub refuse : {A : Type 0} → Site → Parser A
refuse w = λ i. (Err (Refused w), i)

abbrev pub deep : {A : Type 0} → Parser A
deep = λ i. (Err TooDeep, i)

-- ---- the next token

-- the tokens behind the next one
abbrev pub rest : Lexemes → Lexemes
rest [] = []
rest (t ∷ r) = r

-- whether the next token is the one of a mark
abbrev pub sees : Mark → Lexemes → Bool
sees k i = is_mark k (terminal_at i)

-- a choice by the next terminal, which stays
abbrev pub look : {A : Type 0} → (Terminal → Parser A) → Parser A
look f = λ i. f (terminal_at i) i

-- with the first byte of the next token
abbrev pub here : {A : Type 0} → (ℕ → Parser A) → Parser A
here f = λ i. f (first_at i) i

-- behind the next token
abbrev pub skip : {A : Type 0} → Parser A → Parser A
skip p = λ i. p (rest i)

abbrev pub taken : {A : Type 0} → (Lexeme → Parser A) → Parser A
taken f = λ i. f (first i) (rest i)

-- ---- small parsers

unfoldable pub expect : Mark → Site → Parser (Unit {0})
expect k w = λ i. if sees k i then (Ok tt, rest i) else (Err (Refused w), i)

unfoldable pub named : Site → Parser (List ℕ)
named w = λ i. if sees mark.Identifier i then (Ok (first i).word, rest i) else (Err (Refused w), i)

-- ---- what a Rust function ensures: the outcome, unless memory fails

abbrev pub Reads : {A B : Type 0} → (A → B) → Outcome B → Result A Stop → Lexemes → Type 0
Reads view outcome (Ok x) new = outcome ≡ (Ok (view x), new)
Reads view outcome (Err NoMemory) new = Unit {0}
Reads view outcome (Err e) new = outcome ≡ (Err e, new)

-- a name with these bytes
abbrev pub Copies : List ℕ → Result (List ℕ) Stop → Type 0
Copies word (Ok x) = x ≡ word
Copies word (Err NoMemory) = Unit {0}
Copies word (Err e) = ⊥
