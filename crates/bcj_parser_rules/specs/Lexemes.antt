-- Tokens as the grammar sees them: what each is, its first byte, and its bytes.
use Rattle.std.specs.Prelude.{◌≡◌, ℕ, Bool, true, not, ◌&&◌, ◌||◌, List, [], ◌∷◌, map, if◌then◌else◌, codes, slice_range, refl}
use Rattle.std.specs.List.{list_all, list_any}
use Rattle.std.specs.Str.{bytes_eq}
use Rattle.bcj_names.specs.Identifiers.{reserved_words, is_reserved}
use Rattle.bcj_lexer.specs.declared.Token.{Token}
use Rattle.bcj_lexer.specs.declared.TokenKind.{TokenKind}
use Rattle.bcj_lexer.specs.declared.TokenKind.TheVariants as kind
use Rattle.bcj_parser_trees.specs.declared.expression.BinOp.TheVariants as op
use Rattle.bcj_parser_rules.specs.declared.terminal.Terminal.{Terminal}
use Rattle.bcj_parser_rules.specs.declared.terminal.Terminal.TheVariants as terminal
use Rattle.bcj_parser_rules.specs.declared.construct.Construct.TheVariants as construct

pub record Lexeme : Type 0 where
  pub terminal : Terminal
  pub at : ℕ
  pub word : List ℕ

abbrev pub Lexemes : Type 0
Lexemes = List Lexeme

-- a word with what it is to the grammar
pub record Entry : Type 0 where
  pub word : List ℕ
  pub terminal : Terminal

-- the reserved words but `goto` and `const` (JLS 3.9)
abbrev pub reserved_terminals : List Entry
reserved_terminals =
    record { word = codes "abstract"; terminal = terminal.Abstract }
    ∷ record { word = codes "boolean"; terminal = terminal.Boolean }
    ∷ record { word = codes "break"; terminal = terminal.Break }
    ∷ record { word = codes "catch"; terminal = terminal.Catch }
    ∷ record { word = codes "class"; terminal = terminal.Class }
    ∷ record { word = codes "continue"; terminal = terminal.Continue }
    ∷ record { word = codes "do"; terminal = terminal.Do }
    ∷ record { word = codes "else"; terminal = terminal.Else }
    ∷ record { word = codes "extends"; terminal = terminal.Extends }
    ∷ record { word = codes "false"; terminal = terminal.False }
    ∷ record { word = codes "final"; terminal = terminal.Final }
    ∷ record { word = codes "for"; terminal = terminal.For }
    ∷ record { word = codes "if"; terminal = terminal.If }
    ∷ record { word = codes "implements"; terminal = terminal.Implements }
    ∷ record { word = codes "instanceof"; terminal = terminal.InstanceOf }
    ∷ record { word = codes "int"; terminal = terminal.IntType }
    ∷ record { word = codes "interface"; terminal = terminal.Interface }
    ∷ record { word = codes "new"; terminal = terminal.New }
    ∷ record { word = codes "null"; terminal = terminal.Null }
    ∷ record { word = codes "private"; terminal = terminal.Private }
    ∷ record { word = codes "protected"; terminal = terminal.Protected }
    ∷ record { word = codes "public"; terminal = terminal.Public }
    ∷ record { word = codes "return"; terminal = terminal.Return }
    ∷ record { word = codes "static"; terminal = terminal.Static }
    ∷ record { word = codes "super"; terminal = terminal.Super }
    ∷ record { word = codes "this"; terminal = terminal.This }
    ∷ record { word = codes "throw"; terminal = terminal.Throw }
    ∷ record { word = codes "throws"; terminal = terminal.Throws }
    ∷ record { word = codes "true"; terminal = terminal.True }
    ∷ record { word = codes "try"; terminal = terminal.Try }
    ∷ record { word = codes "void"; terminal = terminal.Void }
    ∷ record { word = codes "while"; terminal = terminal.While }
    ∷ record { word = codes "char"; terminal = terminal.LeftOut construct.Type }
    ∷ record { word = codes "byte"; terminal = terminal.LeftOut construct.Type }
    ∷ record { word = codes "short"; terminal = terminal.LeftOut construct.Type }
    ∷ record { word = codes "long"; terminal = terminal.LeftOut construct.Type }
    ∷ record { word = codes "float"; terminal = terminal.LeftOut construct.Type }
    ∷ record { word = codes "double"; terminal = terminal.LeftOut construct.Type }
    ∷ record { word = codes "package"; terminal = terminal.LeftOut construct.Package }
    ∷ record { word = codes "import"; terminal = terminal.LeftOut construct.Import }
    ∷ record { word = codes "enum"; terminal = terminal.LeftOut construct.Enum }
    ∷ record { word = codes "assert"; terminal = terminal.LeftOut construct.Assert }
    ∷ record { word = codes "synchronized"; terminal = terminal.LeftOut construct.Modifier }
    ∷ record { word = codes "native"; terminal = terminal.LeftOut construct.Modifier }
    ∷ record { word = codes "strictfp"; terminal = terminal.LeftOut construct.Modifier }
    ∷ record { word = codes "transient"; terminal = terminal.LeftOut construct.Modifier }
    ∷ record { word = codes "volatile"; terminal = terminal.LeftOut construct.Modifier }
    ∷ record { word = codes "switch"; terminal = terminal.LeftOut construct.Switch }
    ∷ record { word = codes "case"; terminal = terminal.LeftOut construct.Switch }
    ∷ record { word = codes "default"; terminal = terminal.LeftOut construct.Switch }
    ∷ record { word = codes "finally"; terminal = terminal.LeftOut construct.Finally }
    ∷ []

-- the separators (JLS 3.11), `...` and `@`
abbrev pub separator_terminals : List Entry
separator_terminals =
    record { word = codes "("; terminal = terminal.LeftParen }
    ∷ record { word = codes ")"; terminal = terminal.RightParen }
    ∷ record { word = codes "{"; terminal = terminal.LeftBrace }
    ∷ record { word = codes "}"; terminal = terminal.RightBrace }
    ∷ record { word = codes "["; terminal = terminal.LeftBracket }
    ∷ record { word = codes "]"; terminal = terminal.RightBracket }
    ∷ record { word = codes ";"; terminal = terminal.Semicolon }
    ∷ record { word = codes ","; terminal = terminal.Comma }
    ∷ record { word = codes "."; terminal = terminal.Dot }
    ∷ record { word = codes "..."; terminal = terminal.LeftOut construct.Varargs }
    ∷ record { word = codes "@"; terminal = terminal.LeftOut construct.Annotation }
    ∷ []

-- the operators (JLS 3.12)
abbrev pub operator_terminals : List Entry
operator_terminals =
    record { word = codes "="; terminal = terminal.Assign }
    ∷ record { word = codes "!"; terminal = terminal.Not }
    ∷ record { word = codes "~"; terminal = terminal.Flip }
    ∷ record { word = codes "?"; terminal = terminal.Question }
    ∷ record { word = codes ":"; terminal = terminal.Colon }
    ∷ record { word = codes "++"; terminal = terminal.Increment }
    ∷ record { word = codes "--"; terminal = terminal.Decrement }
    ∷ record { word = codes "||"; terminal = terminal.Operator op.OrElse }
    ∷ record { word = codes "&&"; terminal = terminal.Operator op.AndAlso }
    ∷ record { word = codes "|"; terminal = terminal.Operator op.Or }
    ∷ record { word = codes "^"; terminal = terminal.Operator op.Xor }
    ∷ record { word = codes "&"; terminal = terminal.Operator op.And }
    ∷ record { word = codes "=="; terminal = terminal.Operator op.Eq }
    ∷ record { word = codes "!="; terminal = terminal.Operator op.Ne }
    ∷ record { word = codes "<"; terminal = terminal.Operator op.Lt }
    ∷ record { word = codes ">"; terminal = terminal.Operator op.Gt }
    ∷ record { word = codes "<="; terminal = terminal.Operator op.Le }
    ∷ record { word = codes ">="; terminal = terminal.Operator op.Ge }
    ∷ record { word = codes "<<"; terminal = terminal.Operator op.Shl }
    ∷ record { word = codes ">>"; terminal = terminal.Operator op.Shr }
    ∷ record { word = codes ">>>"; terminal = terminal.Operator op.Ushr }
    ∷ record { word = codes "+"; terminal = terminal.Operator op.Add }
    ∷ record { word = codes "-"; terminal = terminal.Operator op.Sub }
    ∷ record { word = codes "*"; terminal = terminal.Operator op.Mul }
    ∷ record { word = codes "/"; terminal = terminal.Operator op.Div }
    ∷ record { word = codes "%"; terminal = terminal.Operator op.Rem }
    ∷ record { word = codes "|="; terminal = terminal.Compound op.Or }
    ∷ record { word = codes "^="; terminal = terminal.Compound op.Xor }
    ∷ record { word = codes "&="; terminal = terminal.Compound op.And }
    ∷ record { word = codes "<<="; terminal = terminal.Compound op.Shl }
    ∷ record { word = codes ">>="; terminal = terminal.Compound op.Shr }
    ∷ record { word = codes ">>>="; terminal = terminal.Compound op.Ushr }
    ∷ record { word = codes "+="; terminal = terminal.Compound op.Add }
    ∷ record { word = codes "-="; terminal = terminal.Compound op.Sub }
    ∷ record { word = codes "*="; terminal = terminal.Compound op.Mul }
    ∷ record { word = codes "/="; terminal = terminal.Compound op.Div }
    ∷ record { word = codes "%="; terminal = terminal.Compound op.Rem }
    ∷ []

abbrev pub terminal_in : List Entry → List ℕ → Terminal
terminal_in [] word = terminal.Unused
terminal_in (e ∷ rest) word = if bytes_eq word e.word then e.terminal else terminal_in rest word

abbrev pub terminal_of : TokenKind → List ℕ → Terminal
terminal_of kind.Identifier word = terminal.Identifier
terminal_of kind.Reserved word = terminal_in reserved_terminals word
terminal_of kind.Int word = terminal.Int
terminal_of kind.Long word = terminal.LeftOut construct.Type
terminal_of kind.Float word = terminal.LeftOut construct.Type
terminal_of kind.Str word = terminal.LeftOut construct.String
terminal_of kind.Char word = terminal.LeftOut construct.Type
terminal_of kind.Separator word = terminal_in separator_terminals word
terminal_of kind.Operator word = terminal_in operator_terminals word

abbrev pub lexeme_of : List ℕ → Token → Lexeme
lexeme_of text t = record {
  terminal = terminal_of t.kind (slice_range text t.start t.end);
  at = t.start;
  word = slice_range text t.start t.end;
}

abbrev pub lexemes_of : List ℕ → List Token → Lexemes
lexemes_of text ts = map (lexeme_of text) ts

-- ---- the next token

-- at the end of the tokens it is one that no production has
abbrev pub first : Lexemes → Lexeme
first [] = record { terminal = terminal.Unused; at = 0; word = [] }
first (t ∷ r) = t

abbrev pub terminal_at : Lexemes → Terminal
terminal_at i = (first i).terminal

-- its first byte, and 0 at the end
abbrev pub first_at : Lexemes → ℕ
first_at [] = 0
first_at (t ∷ rest) = t.at

-- ---- the table of reserved words has the ones of `bcj_names`

-- no text of the language has these two (JLS 3.9)
abbrev pub is_unused : List ℕ → Bool
is_unused word = bytes_eq word (codes "goto") || bytes_eq word (codes "const")

pub reserved_row : list_all (λ e. is_reserved e.word && not (is_unused e.word)) reserved_terminals ≡ true
unfolding is_reserved reserved_words
reserved_row = refl

pub each_reserved_row : list_all (λ word. is_unused word || list_any (λ e. bytes_eq e.word word) reserved_terminals) reserved_words ≡ true
unfolding reserved_words
each_reserved_row = refl
