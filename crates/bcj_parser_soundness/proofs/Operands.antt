-- What is read as an operand is one.
use Rattle.std.proofs.Common.{◌≡◌, ℕ, zero, suc, ◌+◌, ◌≤◌, ◌<◌, max, Bool, true, false, List, [], ◌∷◌, refl, sym, ◌∙◌, Some, Ok, Err, nat_le, if◌then◌else◌, arith}
use Rattle.std.proofs.lemmas.Bool.{leb-true}
use Rattle.bcj_parser_trees.specs.declared.names.Base.{Base}
use Rattle.bcj_parser_trees.specs.declared.names.Base.TheVariants as base
use Rattle.bcj_parser_trees.specs.declared.names.TypeName.{TypeName}
use Rattle.bcj_parser_trees.specs.declared.expression.UnaryOp.{UnaryOp}
use Rattle.bcj_parser_trees.specs.Trees as tree
use Rattle.bcj_parser_trees.specs.Trees.{PlainExpr, PlainExprs, exprs_from}
use Rattle.bcj_parser_rules.specs.declared.kind.Mark.TheVariants as mark
use Rattle.bcj_parser_rules.specs.declared.kind.Beginning.{Beginning}
use Rattle.bcj_parser_rules.specs.declared.kind.Beginning.TheVariants as begin
use Rattle.bcj_parser_rules.specs.declared.kind.TypeBeginning.{TypeBeginning}
use Rattle.bcj_parser_rules.specs.declared.kind.TypeBeginning.TheVariants as typed
use Rattle.bcj_parser_rules.specs.declared.terminal.Terminal.TheVariants as terminal
use Rattle.bcj_parser_rules.specs.declared.stop.Site.TheVariants as site
use Rattle.bcj_parser_rules.specs.declared.stop.Stop.TheVariants.{Refused}
use Rattle.bcj_parser_rules.specs.Lexemes.{Lexeme, Lexemes}
use Rattle.bcj_parser_rules.specs.Grammar as g
use Rattle.bcj_parser_rules.specs.Lexemes.{first_at}
use Rattle.bcj_parser_rules.specs.Grammar.{Derives, Arguments, MoreArguments, Brackets, IsBase, is_place, unary_operator, step_terminal, begins_unsigned}
use Rattle.bcj_parser_rules.specs.Lexemes.{terminal_at}
use Rattle.bcj_parser_rules.specs.function.Kinds.{joining, beginning, type_beginning}
use Rattle.bcj_parser_rules.specs.function.Steps.{Parser, pure, refuse}
use Rattle.bcj_parser_rules.specs.function.Expressions.{Begin, fresh, behind_name, behind_bracket, start_of, Read, Inner, binds, arguments, named_operand, super_member, super_operand, element_operand, first_length, array_creation, primitive_creation, object_creation, named_creation, creation_by, creation, cast_operand, primitive_cast, closed, class_cast, array_cast, bracket_paren, named_paren, paren_by, parenthesized, signed, stepped, operand_by, operand, operand_from}
use Rattle.bcj_parser_soundness.proofs.Terminals.{TypeBeginsSo, type_begins_so, BeginsSo, begins_so, goes_on_is_unsigned}
use Rattle.bcj_parser_soundness.proofs.Outcomes.{Meets, Failed, read, refused, roomless, bind, choose, choose_by, expect_terminal, expect_name, bind_terminal}
use Rattle.bcj_parser_soundness.proofs.Lists.{Separated, single, further, PairsRead, brackets_sound, all_pairs, pairs_behind, listed_sound}
use Rattle.bcj_parser_soundness.proofs.Derived.{Begun, from_start, from_name, from_bracket, from_this, from_super, tall, loosen}

-- an expression of a least level, at most n high, behind which nothing goes on that binds so tight
pub record Good (n least : ℕ) (i : Lexemes) (p : Read) (a : Lexemes) : Type 0 where
  pub derives : Derives least i a p.0 p.1
  pub low : p.1 ≤ n
  pub stops : binds (joining (terminal_at a)) < least

abbrev pub InnerSound : ℕ → Inner → Type 0
InnerSound n inner = (b : Begin) (least : ℕ) (j i : Lexemes) → least ≤ 14 → Begun b j i → Meets (Good n least j) Failed (inner b least i)

pub fresh_sound : (n : ℕ) (inner : Inner) → InnerSound n inner → (least : ℕ) → least ≤ 14 → (i : Lexemes) → Meets (Good n least i) Failed (inner fresh least i)
fresh_sound n inner h least e i = h fresh least i i e from_start

-- ---- arguments

pub record ArgumentsWithin (n : ℕ) (i : Lexemes) (p : PlainExprs × ℕ) (a : Lexemes) : Type 0 where
  pub read : Arguments i a p.0 p.1
  pub low : p.1 ≤ n

more_arguments_of : {n h : ℕ} {t : Lexeme} {i a : Lexemes} {es : List PlainExpr} → Separated (Good n 1) i (t ∷ a) es h → t.terminal ≡ terminal.RightParen → MoreArguments i a (exprs_from es) h
more_arguments_of (single d) e = g.last_argument d.derives e
more_arguments_of (further d c q) e = g.more_arguments d.derives c (more_arguments_of q e)

separated_low : {n least h : ℕ} {i a : Lexemes} {es : List PlainExpr} → Separated (Good n least) i a es h → h ≤ n
separated_low (single d) = d.low
separated_low (further d c q) = omega (arith, d.low, separated_low q)

pub arguments_sound : (n : ℕ) (inner : Inner) → InnerSound n inner → (i : Lexemes) → Meets (ArgumentsWithin n i) Failed (arguments inner i)
unfolding arguments
arguments_sound n inner h = expect_terminal (ArgumentsWithin n) mark.LeftParen _ _ (λ t e. choose (λ i. ArgumentsWithin n (t ∷ i)) mark.RightParen _ _
    (λ u f k. read (record { read = g.no_arguments e f; low = omega arith }))
    (λ k. bind_terminal mark.RightParen (λ _. site.Elsewhere) (listed_sound (inner fresh 1) (inner fresh 1) k k (fresh_sound n inner h 1 (omega arith) k) (fresh_sound n inner h 1 (omega arith)))
    (λ es u f a q. read (record { read = g.some_arguments e (more_arguments_of q f); low = separated_low q }))))

-- ---- operands

pub record Operand (n least : ℕ) (i : Lexemes) (p : Read) (a : Lexemes) : Type 0 where
  pub level : ℕ
  pub derives : Derives level i a p.0 p.1
  pub tight : 13 ≤ level
  pub high : least ≤ level
  pub low : p.1 ≤ suc n

primary : {n least : ℕ} {i a : Lexemes} {p : Read} → least ≤ 14 → Derives 14 i a p.0 p.1 → p.1 ≤ suc n → Operand n least i p a
primary l d e = record { level = 14; derives = d; tight = omega arith; high = l; low = e }

with_unary : {n least : ℕ} {i a : Lexemes} {p : Read} → least ≤ 13 → Derives 13 i a p.0 p.1 → p.1 ≤ suc n → Operand n least i p a
with_unary l d e = record { level = 13; derives = d; tight = omega arith; high = l; low = e }

named_operand_sound : (n least : ℕ) (inner : Inner) → InnerSound n inner → least ≤ 14 → (t : Lexeme) → t.terminal ≡ terminal.Identifier → (i : Lexemes) → Meets (Operand n least (t ∷ i)) Failed (named_operand inner t.at t.word i)
unfolding named_operand
named_operand_sound n least inner h l t e = choose (λ i. Operand n least (t ∷ i)) mark.LeftParen _ _
    (λ u f k. bind (arguments_sound n inner h (u ∷ k)) (λ es a q. read (primary l (g.call e q.read) (omega (arith, q.low)))))
    (λ i. read (primary l (g.name e) (omega arith)))

super_member_sound : (n least : ℕ) (inner : Inner) → InnerSound n inner → least ≤ 14 → (t u v : Lexeme) → t.terminal ≡ terminal.Super → u.terminal ≡ terminal.Dot → v.terminal ≡ terminal.Identifier → (i : Lexemes)
    → Meets (Operand n least (t ∷ u ∷ v ∷ i)) Failed (super_member inner t.at v.word i)
unfolding super_member
super_member_sound n least inner h l t u v e f k = choose (λ i. Operand n least (t ∷ u ∷ v ∷ i)) mark.LeftParen _ _
    (λ w q i. bind (arguments_sound n inner h (w ∷ i)) (λ es a q. read (primary l (g.super_call e f k q.read) (omega (arith, q.low)))))
    (λ i. read (primary l (g.super_field e f k) (omega arith)))

super_operand_sound : (n least : ℕ) (inner : Inner) → InnerSound n inner → least ≤ 14 → (t : Lexeme) → t.terminal ≡ terminal.Super → (i : Lexemes) → Meets (Operand n least (t ∷ i)) Failed (super_operand inner t.at i)
unfolding super_operand
super_operand_sound n least inner h l t e = expect_terminal (λ i. Operand n least (t ∷ i)) mark.Dot _ _ (λ u f. expect_name (λ i. Operand n least (t ∷ u ∷ i)) _ _ (λ v k. super_member_sound n least inner h l t u v e f k))

element_operand_sound : (n least : ℕ) (inner : Inner) → InnerSound n inner → least ≤ 14 → (t u : Lexeme) → t.terminal ≡ terminal.Identifier → u.terminal ≡ terminal.LeftBracket → (i : Lexemes)
    → Meets (Operand n least (t ∷ u ∷ i)) Failed (element_operand inner t.at t.word i)
unfolding element_operand
element_operand_sound n least inner h l t u e f i = bind_terminal mark.RightBracket (λ _. site.Elsewhere) (fresh_sound n inner h 1 (omega arith) i)
    (λ y v k a q. read (primary l (g.element (g.name e) refl f q.derives k) (omega (arith, q.low, tall q.derives))))

-- ---- creations

first_length_sound : (n : ℕ) (inner : Inner) → InnerSound n inner → (i : Lexemes) → Meets (Good n 1 i) Failed (first_length inner i)
unfolding first_length
first_length_sound n inner h = choose (λ i. Good n 1 i) mark.RightBracket _ _ (λ t e i. refused) (λ i. fresh_sound n inner h 1 (omega arith) i)

array_creation_sound : (n least : ℕ) (inner : Inner) → InnerSound n inner → least ≤ 14 → (t u : Lexeme) (b : Base) → t.terminal ≡ terminal.New → IsBase u b → (i : Lexemes)
    → Meets (Operand n least (t ∷ u ∷ i)) Failed (array_creation n inner t.at b i)
unfolding array_creation
array_creation_sound zero least inner h l t u b e f = choose (λ i. Operand zero least (t ∷ u ∷ i)) mark.LeftBracket _ _ (λ v k i. roomless) (λ i. refused)
array_creation_sound (suc n) least inner h l t u b e f = expect_terminal (λ i. Operand (suc n) least (t ∷ u ∷ i)) mark.LeftBracket _ _
    (λ v k i. bind_terminal mark.RightBracket (λ _. site.Elsewhere) (first_length_sound (suc n) inner h i)
    (λ x w q j r. bind (brackets_sound site.Dimension n 0 j) (λ d a p. read (primary l (g.new_array e f k r.derives q (all_pairs p)) (omega (arith, r.low, p.low))))))

primitive_creation_sound : (n least : ℕ) (inner : Inner) → InnerSound n inner → least ≤ 14 → (t u : Lexeme) (b : Base) → t.terminal ≡ terminal.New → IsBase u b → (i : Lexemes)
    → Meets (Operand n least (t ∷ u ∷ i)) Failed (primitive_creation n inner t.at b (u ∷ i))
unfolding primitive_creation
primitive_creation_sound zero least inner h l t u b e f i = roomless
primitive_creation_sound (suc n) least inner h l t u b e f i = array_creation_sound (suc n) least inner h l t u b e f i

object_creation_sound : (n least : ℕ) (inner : Inner) → InnerSound n inner → least ≤ 14 → (t u : Lexeme) → t.terminal ≡ terminal.New → u.terminal ≡ terminal.Identifier → (i : Lexemes)
    → Meets (Operand n least (t ∷ u ∷ i)) Failed (object_creation inner t.at u.word i)
unfolding object_creation
object_creation_sound n least inner h l t u e f i = bind (arguments_sound n inner h i) (λ es. choose_by (λ a. ArgumentsWithin n i es a) mark.LeftBrace _ _ (λ v k a q. refused)
    (λ a q. read (primary l (g.new_object e f q.read) (omega (arith, q.low)))))

named_creation_sound : (n least : ℕ) (inner : Inner) → InnerSound n inner → least ≤ 14 → (t u : Lexeme) → t.terminal ≡ terminal.New → u.terminal ≡ terminal.Identifier → (i : Lexemes)
    → Meets (Operand n least (t ∷ u ∷ i)) Failed (named_creation n inner t.at u.word i)
unfolding named_creation
named_creation_sound n least inner h l t u e f = choose (λ i. Operand n least (t ∷ u ∷ i)) mark.LeftParen _ _ (λ v k i. object_creation_sound n least inner h l t u e f (v ∷ i))
    (λ i. array_creation_sound n least inner h l t u (base.Named u.word) e (g.named_base f) i)

creation_sound : (n least : ℕ) (inner : Inner) → InnerSound n inner → least ≤ 14 → (t : Lexeme) → t.terminal ≡ terminal.New → (i : Lexemes) → Meets (Operand n least (t ∷ i)) Failed (creation n inner t.at i)
unfolding creation
creation_sound n least inner h l t e [] = refused
creation_sound n least inner h l t e (u ∷ i) = by (type_beginning u.terminal) (type_begins_so u.terminal) where
  by : (k : TypeBeginning) → TypeBeginsSo k u.terminal → Meets (Operand n least (t ∷ u ∷ i)) Failed (creation_by n inner t.at k (u ∷ i))
  by typed.Int f = primitive_creation_sound n least inner h l t u base.Int e (g.int_base f) i
  by typed.Bool f = primitive_creation_sound n least inner h l t u base.Bool e (g.boolean_base f) i
  by typed.Name f = named_creation_sound n least inner h l t u e f i
  by typed.Nothing f = refused

-- ---- parentheses and casts

abbrev MakesCast : Lexemes → Lexemes → ℕ → TypeName → Type 0
MakesCast j i at ty = (x : PlainExpr) (a : Lexemes) (h : ℕ) → Derives 13 i a x h → Derives 13 j a (tree.cast at ty x) (suc (max ty.dims h))

cast_sound : (n least : ℕ) (inner : Inner) → InnerSound n inner → least ≤ 13 → (j i : Lexemes) (at : ℕ) (ty : TypeName) → ty.dims ≤ n → MakesCast j i at ty
    → Meets (Operand n least j) Failed (cast_operand inner at ty i)
unfolding cast_operand
cast_sound n least inner h l j i at ty low make = bind (fresh_sound n inner h 13 (omega arith) i) (λ x a q. read (with_unary l (make x.0 a x.1 q.derives) (omega (arith, q.low))))

int_cast_sound : (n least : ℕ) (inner : Inner) → InnerSound n inner → least ≤ 13 → (t u : Lexeme) → t.terminal ≡ terminal.LeftParen → u.terminal ≡ terminal.IntType → (i : Lexemes)
    → Meets (Operand n least (t ∷ u ∷ i)) Failed (primitive_cast n inner t.at base.Int i)
unfolding primitive_cast
int_cast_sound n least inner h l t u e f i = bind_terminal mark.RightParen (λ _. site.Elsewhere) (brackets_sound site.Elsewhere n 0 i)
    (λ d v k j q. cast_sound n least inner h l (t ∷ u ∷ i) j t.at (record { base = base.Int; dims = d }) (omega (arith, q.low)) (λ x a h r. g.cast_to_int e f (all_pairs q) k r))

boolean_cast_sound : (n least : ℕ) (inner : Inner) → InnerSound n inner → least ≤ 13 → (t u : Lexeme) → t.terminal ≡ terminal.LeftParen → u.terminal ≡ terminal.Boolean → (i : Lexemes)
    → Meets (Operand n least (t ∷ u ∷ i)) Failed (primitive_cast n inner t.at base.Bool i)
unfolding primitive_cast
boolean_cast_sound n least inner h l t u e f i = bind_terminal mark.RightParen (λ _. site.Elsewhere) (brackets_sound site.Elsewhere n 0 i)
    (λ d v k j q. cast_sound n least inner h l (t ∷ u ∷ i) j t.at (record { base = base.Bool; dims = d }) (omega (arith, q.low)) (λ x a h r. g.cast_to_boolean e f (all_pairs q) k r))

closed_sound : (n least : ℕ) (p : Parser Read) → least ≤ 14 → (t : Lexeme) → t.terminal ≡ terminal.LeftParen → (j i : Lexemes) → Meets (Good n 1 j) Failed (p i) → Meets (Operand n least (t ∷ j)) Failed (closed t.at p i)
unfolding closed
closed_sound n least p l t e j i h = bind_terminal mark.RightParen (λ _. site.Elsewhere) h (λ x u f a q. read (primary l (g.paren e q.derives f) (omega (arith, q.low))))

class_cast_sound : (n least : ℕ) (inner : Inner) → InnerSound (suc n) inner → least ≤ 13 → (t u v : Lexeme) → t.terminal ≡ terminal.LeftParen → u.terminal ≡ terminal.Identifier → v.terminal ≡ terminal.RightParen → (i : Lexemes)
    → Meets (Operand (suc n) least (t ∷ u ∷ v ∷ i)) Failed (class_cast inner t.at u.at u.word i)
unfolding class_cast
class_cast_sound n least inner h l t u v e f k i = by (begins_unsigned (terminal_at i)) refl where
  by : (y : Bool) → begins_unsigned (terminal_at i) ≡ y → Meets (Operand (suc n) least (t ∷ u ∷ v ∷ i)) Failed
      (if y then cast_operand inner t.at (record { base = base.Named u.word; dims = 0 }) i else (Ok (tree.paren t.at (tree.simple_name u.at u.word), 2), i))
  by true q = cast_sound (suc n) least inner h l (t ∷ u ∷ v ∷ i) i t.at (record { base = base.Named u.word; dims = 0 }) (omega arith)
      (λ x a h r. g.cast_to_class e f g.no_pair k (sym (goes_on_is_unsigned i) ∙ q) r)
  by false q = read (primary (omega arith) (g.paren e (loosen 1 14 (omega arith) (g.name f)) k) (omega arith))

array_cast_sound : (n least : ℕ) (inner : Inner) → InnerSound (suc n) inner → least ≤ 13 → (t u v w : Lexeme) → t.terminal ≡ terminal.LeftParen → u.terminal ≡ terminal.Identifier → v.terminal ≡ terminal.LeftBracket
    → w.terminal ≡ terminal.RightBracket → (i : Lexemes) → Meets (Operand (suc n) least (t ∷ u ∷ v ∷ w ∷ i)) Failed (array_cast n inner t.at u.word i)
unfolding array_cast
array_cast_sound n least inner h l t u v w e f k p i = bind_terminal mark.RightParen (λ _. site.Elsewhere) (brackets_sound site.Elsewhere n 1 i)
    (λ d z r j q. by d z r j q (begins_unsigned (terminal_at j)) refl) where
      by : (d : ℕ) (z : Lexeme) → z.terminal ≡ terminal.RightParen → (j : Lexemes) → PairsRead 1 (n + 1) i d (z ∷ j) → (y : Bool) → begins_unsigned (terminal_at j) ≡ y
          → Meets (Operand (suc n) least (t ∷ u ∷ v ∷ w ∷ i)) Failed (if y then cast_operand inner t.at (record { base = base.Named u.word; dims = d }) j else (Err (Refused site.Elsewhere), j))
      by d z r j q true y = cast_sound (suc n) least inner h l (t ∷ u ∷ v ∷ w ∷ i) j t.at (record { base = base.Named u.word; dims = d }) (omega (arith, q.low))
          (λ x a h o. g.cast_to_class e f (pairs_behind k p q) r (sym (goes_on_is_unsigned j) ∙ y) o)
      by d z r j q false y = refused

bracket_paren_sound : (n least : ℕ) (inner : Inner) → InnerSound (suc n) inner → least ≤ 13 → (t u v : Lexeme) → t.terminal ≡ terminal.LeftParen → u.terminal ≡ terminal.Identifier → v.terminal ≡ terminal.LeftBracket → (i : Lexemes)
    → Meets (Operand (suc n) least (t ∷ u ∷ v ∷ i)) Failed (bracket_paren n inner t.at u.at u.word i)
unfolding bracket_paren
bracket_paren_sound n least inner h l t u v e f k = choose (λ i. Operand (suc n) least (t ∷ u ∷ v ∷ i)) mark.RightBracket _ _ (λ w p i. array_cast_sound n least inner h l t u v w e f k p i)
    (λ i. closed_sound (suc n) least (inner (behind_bracket u.at u.word) 1) (omega arith) t e (u ∷ v ∷ i) i (h (behind_bracket u.at u.word) 1 (u ∷ v ∷ i) i (omega arith) (from_bracket f k)))

named_paren_sound : (n least : ℕ) (inner : Inner) → InnerSound (suc n) inner → least ≤ 13 → (t u : Lexeme) → t.terminal ≡ terminal.LeftParen → u.terminal ≡ terminal.Identifier → (i : Lexemes)
    → Meets (Operand (suc n) least (t ∷ u ∷ i)) Failed (named_paren n inner t.at u.at u.word i)
unfolding named_paren
named_paren_sound n least inner h l t u e f = choose (λ i. Operand (suc n) least (t ∷ u ∷ i)) mark.RightParen _ _ (λ v k i. class_cast_sound n least inner h l t u v e f k i)
    (choose (λ i. Operand (suc n) least (t ∷ u ∷ i)) mark.LeftBracket _ _ (λ v k i. bracket_paren_sound n least inner h l t u v e f k i)
    (λ i. closed_sound (suc n) least (inner (behind_name u.at u.word) 1) (omega arith) t e (u ∷ i) i (h (behind_name u.at u.word) 1 (u ∷ i) i (omega arith) (from_name f))))

paren_by_sound : (n least : ℕ) (inner : Inner) → InnerSound (suc n) inner → least ≤ 13 → (t : Lexeme) → t.terminal ≡ terminal.LeftParen → (i : Lexemes)
    → Meets (Operand (suc n) least (t ∷ i)) Failed (paren_by n inner t.at (type_beginning (terminal_at i)) i)
paren_by_sound n least inner h l t e [] = closed_sound (suc n) least (inner fresh 1) (omega arith) t e [] [] (fresh_sound (suc n) inner h 1 (omega arith) [])
paren_by_sound n least inner h l t e (u ∷ i) = by (type_beginning u.terminal) (type_begins_so u.terminal) where
  by : (k : TypeBeginning) → TypeBeginsSo k u.terminal → Meets (Operand (suc n) least (t ∷ u ∷ i)) Failed (paren_by n inner t.at k (u ∷ i))
  by typed.Int f = int_cast_sound (suc n) least inner h l t u e f i
  by typed.Bool f = boolean_cast_sound (suc n) least inner h l t u e f i
  by typed.Name f = named_paren_sound n least inner h l t u e f i
  by typed.Nothing f = closed_sound (suc n) least (inner fresh 1) (omega arith) t e (u ∷ i) (u ∷ i) (fresh_sound (suc n) inner h 1 (omega arith) (u ∷ i))

parenthesized_sound : (n least : ℕ) (inner : Inner) → InnerSound n inner → least ≤ 14 → (t : Lexeme) → t.terminal ≡ terminal.LeftParen → (i : Lexemes) → (y : Bool) → nat_le least 13 ≡ y
    → Meets (Operand n least (t ∷ i)) Failed (parenthesized n inner y t.at (t ∷ i))
unfolding parenthesized
parenthesized_sound zero least inner h l t e i y q = roomless
parenthesized_sound (suc n) least inner h l t e i true q = paren_by_sound n least inner h (leb-true least 13 q) t e i
parenthesized_sound (suc n) least inner h l t e i false q = closed_sound (suc n) least (inner fresh 1) l t e i i (fresh_sound (suc n) inner h 1 (omega arith) i)

-- ---- unary operators

signed_sound : (n least : ℕ) (inner : Inner) → InnerSound n inner → least ≤ 13 → (t : Lexeme) (o : UnaryOp) → unary_operator t.terminal ≡ Some o → (i : Lexemes)
    → Meets (Operand n least (t ∷ i)) Failed (signed n inner t.at o (t ∷ i))
unfolding signed
signed_sound zero least inner h l t o e i = roomless
signed_sound (suc n) least inner h l t o e i = bind (fresh_sound (suc n) inner h 13 (omega arith) i) (λ x a q. read (with_unary l (g.signed e q.derives) (omega (arith, q.low))))

stepped_sound : (n least : ℕ) (inner : Inner) → InnerSound n inner → least ≤ 13 → (t : Lexeme) (plus : Bool) → step_terminal t.terminal ≡ Some plus → (i : Lexemes)
    → Meets (Operand n least (t ∷ i)) Failed (stepped n inner t.at plus (t ∷ i))
unfolding stepped
stepped_sound zero least inner h l t plus e i = roomless
stepped_sound (suc n) least inner h l t plus e i = bind (fresh_sound (suc n) inner h 14 (omega arith) i) (λ x a q. by x a q (is_place x.0) refl) where
  by : (x : Read) (a : Lexemes) → Good (suc n) 14 i x a → (y : Bool) → is_place x.0 ≡ y
      → Meets (Operand (suc n) least (t ∷ i)) Failed ((if y then pure (tree.step t.at plus false x.0, suc x.1) else refuse site.Elsewhere) a)
  by x a q true y = read (with_unary l (g.step_before e q.derives y) (omega (arith, q.low)))
  by x a q false y = refused

-- ---- all operands

literal : {n least : ℕ} {i a : Lexemes} {x : PlainExpr} → least ≤ 14 → Derives 14 i a x 1 → Meets (Operand n least i) Failed (Ok (x, 1), a)
literal l d = read (primary l d (omega arith))

operand_sound : (n least : ℕ) (inner : Inner) → InnerSound n inner → least ≤ 14 → (i : Lexemes) → Meets (Operand n least i) Failed (operand n inner least (first_at i) i)
unfolding operand
operand_sound n least inner h l [] = refused
operand_sound n least inner h l (t ∷ i) = by (beginning t.terminal) (begins_so t.terminal) where
  signed_by : (y : Bool) → nat_le least 13 ≡ y → (o : UnaryOp) → unary_operator t.terminal ≡ Some o
      → Meets (Operand n least (t ∷ i)) Failed ((if y then signed n inner t.at o else refuse site.Elsewhere) (t ∷ i))
  signed_by true q o e = signed_sound n least inner h (leb-true least 13 q) t o e i
  signed_by false q o e = refused

  stepped_by : (y : Bool) → nat_le least 13 ≡ y → (plus : Bool) → step_terminal t.terminal ≡ Some plus
      → Meets (Operand n least (t ∷ i)) Failed ((if y then stepped n inner t.at plus else refuse site.Elsewhere) (t ∷ i))
  stepped_by true q plus e = stepped_sound n least inner h (leb-true least 13 q) t plus e i
  stepped_by false q plus e = refused

  by : (k : Beginning) → BeginsSo k t.terminal → Meets (Operand n least (t ∷ i)) Failed (operand_by n inner least t.at k (t ∷ i))
  by begin.Name e = named_operand_sound n least inner h l t e i
  by begin.Int e = literal l (g.int_literal e)
  by (begin.Bool true) e = literal l (g.true_literal e)
  by (begin.Bool false) e = literal l (g.false_literal e)
  by begin.Null e = literal l (g.null_literal e)
  by begin.This e = literal l (g.this_value e)
  by begin.Super e = super_operand_sound n least inner h l t e i
  by begin.New e = creation_sound n least inner h l t e i
  by begin.Paren e = parenthesized_sound n least inner h l t e i (nat_le least 13) refl
  by (begin.Signed o) e = signed_by (nat_le least 13) refl o e
  by (begin.Stepped plus) e = stepped_by (nat_le least 13) refl plus e
  by begin.Nothing e = refused

pub operand_from_sound : (n least : ℕ) (inner : Inner) → InnerSound n inner → least ≤ 14 → {b : Begin} {j i : Lexemes} → Begun b j i
    → Meets (Operand n least j) Failed (operand_from n inner least (start_of b i) b i)
operand_from_sound n least inner h l (from_start {i}) = operand_sound n least inner h l i
operand_from_sound n least inner h l (from_name {t} {i} e) = named_operand_sound n least inner h l t e i
operand_from_sound n least inner h l (from_bracket {t} {u} {i} e f) = element_operand_sound n least inner h l t u e f i
operand_from_sound n least inner h l (from_this e) = literal l (g.this_value e)
operand_from_sound n least inner h l (from_super {t} {i} e) = super_operand_sound n least inner h l t e i
