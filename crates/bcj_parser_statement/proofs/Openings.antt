-- A declaration, or what is read as an expression, by what begins it.
use Rattle.std.proofs.Common.{◌≡◌, ℕ, zero, suc, Bool, true, false, List, refl, ap, ◌∙◌, Ok, Err}
use Rattle.bcj_parser_trees.specs.declared.names.Base.TheVariants as base
use Rattle.bcj_parser_rules.specs.declared.kind.Mark.TheVariants as mark
use Rattle.bcj_parser_rules.specs.declared.kind.TypeBeginning.{TypeBeginning}
use Rattle.bcj_parser_rules.specs.declared.kind.TypeBeginning.TheVariants as typed
use Rattle.bcj_parser_rules.specs.declared.stop.Site.{Site}
use Rattle.bcj_parser_rules.specs.declared.stop.Site.TheVariants as site
use Rattle.bcj_parser_rules.specs.declared.stop.Stop.{Stop}
use Rattle.bcj_parser_rules.specs.declared.stop.Stop.TheVariants.{Refused, TooDeep, TooMany, NoMemory}
use Rattle.bcj_parser_rules.specs.Lexemes.{Lexemes}
use Rattle.bcj_parser_rules.specs.Lexemes.{first_at}
use Rattle.bcj_parser_rules.specs.Lexemes.{first, terminal_at}
use Rattle.bcj_parser_rules.specs.function.Kinds.{type_beginning}
use Rattle.bcj_parser_rules.specs.function.Steps.{Outcome, Parser, Reads, then_read, rest, sees}
use Rattle.bcj_parser_rules.specs.function.Expressions.{Begin}
use Rattle.bcj_parser_rules.specs.function.Statements.{Nodes, Statements, block_statement, block_evaluation, local_or, local_by, named_local, bracket_local, typed_locals, array_locals, locals_of_type}
use Rattle.bcj_parser_statement.specs.function.Openings.{declaration, local_opening, opening_by, named_opening, bracket_opening, resumed}

declared_is : (p : Parser Nodes) (evaluation : Begin → Parser Nodes) (i : Lexemes) → p i ≡ then_read (declaration p i) (resumed evaluation)
declared_is p evaluation i = by (p i).0 refl where
  by : (r : _) → (p i).0 ≡ r → p i ≡ then_read (declaration p i) (resumed evaluation)
  by (Ok x) h = rw h refl
  by (Err e) h = rw h refl

bracket_is : (n : ℕ) (w : Site) (evaluation : Begin → Parser Nodes) (at : ℕ) (x : List ℕ) (i : Lexemes) → bracket_local n w evaluation at x i ≡ then_read (bracket_opening n w at x i) (resumed evaluation)
unfolding bracket_opening
bracket_is zero w evaluation at x i = refl
bracket_is (suc n) w evaluation at x i = by (sees mark.RightBracket (rest i)) refl where
  by : (b : Bool) → sees mark.RightBracket (rest i) ≡ b → bracket_local (suc n) w evaluation at x i ≡ then_read (bracket_opening (suc n) w at x i) (resumed evaluation)
  by true h = rw h (declared_is (array_locals n w at x) evaluation (rest (rest i)))
  by false h = rw h refl

named_is : (n : ℕ) (w : Site) (evaluation : Begin → Parser Nodes) (at : ℕ) (x : List ℕ) (i : Lexemes) → named_local n w evaluation at x i ≡ then_read (named_opening n w at x i) (resumed evaluation)
unfolding named_local named_opening
named_is n w evaluation at x i = by (sees mark.Identifier i) refl where
  otherwise : (b : Bool) → sees mark.Identifier i ≡ false → sees mark.LeftBracket i ≡ b → named_local n w evaluation at x i ≡ then_read (named_opening n w at x i) (resumed evaluation)
  otherwise true f h = rw f (rw h (bracket_is n w evaluation at x i))
  otherwise false f h = rw f (rw h refl)

  by : (b : Bool) → sees mark.Identifier i ≡ b → named_local n w evaluation at x i ≡ then_read (named_opening n w at x i) (resumed evaluation)
  by true h = rw h (declared_is (locals_of_type n w at (record { base = base.Named x; dims = 0 })) evaluation i)
  by false h = otherwise (sees mark.LeftBracket i) h refl

pub local_or_is : (n : ℕ) (w : Site) (evaluation : Begin → Parser Nodes) (i : Lexemes) → local_or n w evaluation i ≡ then_read (local_opening n w i) (resumed evaluation)
unfolding local_or local_opening
local_or_is n w evaluation i = by (type_beginning (terminal_at i)) where
  by : (k : TypeBeginning) → local_by n w evaluation (first_at i) k i ≡ then_read (opening_by n w (first_at i) k i) (resumed evaluation)
  by typed.Int = declared_is (typed_locals n w (first_at i)) evaluation i
  by typed.Bool = declared_is (typed_locals n w (first_at i)) evaluation i
  by typed.Name = named_is n w evaluation (first_at i) (first i).word (rest i)
  by typed.Nothing = refl

pub block_statement_is : (n m : ℕ) (statement : Statements) (i : Lexemes) → n ≡ suc m
    → block_statement n statement i ≡ then_read (local_opening m site.DeclaredName i) (resumed (block_evaluation m statement))
unfolding block_statement
block_statement_is n m statement i h = rw h (local_or_is m site.DeclaredName (block_evaluation m statement) i)

-- what stops the first part stops the whole
pub first_stop : {A B C D : Type 0} (part : C → A) (whole : D → B) (f : A → Parser B) (X : Outcome A) (Y : Outcome B) (e : Stop) (a : Lexemes) → Y ≡ then_read X f → Reads part X (Err e) a → Reads whole Y (Err e) a
first_stop part whole f X Y (Refused w) a h o = h ∙ ap (λ r. then_read r f) o
first_stop part whole f X Y TooDeep a h o = h ∙ ap (λ r. then_read r f) o
first_stop part whole f X Y TooMany a h o = h ∙ ap (λ r. then_read r f) o
first_stop part whole f X Y NoMemory a h o = tt
