-- The grammar (JLS 8, 9, 14, 15 in the profile): a family `F i a x h` says that the tokens from the list i up to its
-- rest a are x, and that x is h high. Each expression, statement, member and type is one level higher than its highest
-- part, and n pairs of brackets are n levels below the node that they are written in.
use Rattle.std.specs.Prelude.{◌≡◌, ℕ, suc, ◌+◌, ◌-◌, ◌*◌, max, min, length, drop, slice_index, Bool, true, false, ◌||◌, ◌==◌, nat_le, List, [], ◌∷◌, Option, None, Some, if◌then◌else◌, filter, not, codes}
use Rattle.std.specs.List.{fold}
use Rattle.bcj_parser_trees.specs.declared.names.Base.{Base}
use Rattle.bcj_parser_trees.specs.declared.names.Base.TheVariants as base
use Rattle.bcj_parser_trees.specs.declared.names.TypeName.{TypeName}
use Rattle.bcj_parser_trees.specs.declared.names.Access.TheVariants as access
use Rattle.bcj_parser_trees.specs.declared.names.Mods.{Mods}
use Rattle.bcj_parser_trees.specs.declared.names.Param.{Param}
use Rattle.bcj_parser_trees.specs.declared.expression.BinOp.{BinOp}
use Rattle.bcj_parser_trees.specs.declared.expression.BinOp.TheVariants as op
use Rattle.bcj_parser_trees.specs.declared.expression.UnaryOp.{UnaryOp}
use Rattle.bcj_parser_trees.specs.declared.expression.UnaryOp.TheVariants as unop
use Rattle.bcj_parser_trees.specs.Trees as tree
use Rattle.bcj_parser_trees.specs.Trees.{PlainExpr, PlainExprs, PlainOption, PlainStmt, PlainStmts, PlainElse, PlainCatches, PlainBody, PlainFirst, PlainMember, PlainType, PlainUnit}
use Rattle.bcj_lexer.specs.declared.Token.{Token}
use Rattle.bcj_parser_rules.specs.declared.terminal.Terminal.{Terminal}
use Rattle.bcj_parser_rules.specs.declared.terminal.Terminal.TheVariants as terminal
use Rattle.bcj_parser_rules.specs.Lexemes.{Lexeme, Lexemes, first_at, lexemes_of}
use Rattle.bcj_parser_rules.specs.Levels as level
use Rattle.bcj_parser_rules.specs.Levels.{operator_level}
use Rattle.bcj_parser_rules.specs.Limits.{max_value}

-- ---- tables

abbrev pub unary_operator : Terminal → Option UnaryOp
unary_operator (terminal.Operator op.Add) = Some unop.Plus
unary_operator (terminal.Operator op.Sub) = Some unop.Minus
unary_operator terminal.Not = Some unop.Not
unary_operator terminal.Flip = Some unop.Flip
unary_operator _ = None

-- whether `++`, where it is `++` or `--`
abbrev pub step_terminal : Terminal → Option Bool
step_terminal terminal.Increment = Some true
step_terminal terminal.Decrement = Some false
step_terminal _ = None

-- an operand may begin so without `+`, `-`, `++` and `--`
abbrev pub begins_unsigned : Terminal → Bool
begins_unsigned terminal.Identifier = true
begins_unsigned terminal.Int = true
begins_unsigned terminal.True = true
begins_unsigned terminal.False = true
begins_unsigned terminal.Null = true
begins_unsigned terminal.This = true
begins_unsigned terminal.Super = true
begins_unsigned terminal.New = true
begins_unsigned terminal.LeftParen = true
begins_unsigned terminal.Not = true
begins_unsigned terminal.Flip = true
begins_unsigned _ = false

-- an expression may begin so
abbrev pub begins_expression : Terminal → Bool
begins_expression (terminal.Operator op.Add) = true
begins_expression (terminal.Operator op.Sub) = true
begins_expression terminal.Increment = true
begins_expression terminal.Decrement = true
begins_expression k = begins_unsigned k

abbrev pub goes_on_unsigned : Lexemes → Bool
goes_on_unsigned [] = false
goes_on_unsigned (t ∷ rest) = begins_unsigned t.terminal

abbrev pub goes_on_with_else : Lexemes → Bool
goes_on_with_else [] = false
goes_on_with_else (t ∷ rest) = elim t.terminal [ terminal.Else ↦ true | _ ↦ false ]

-- what can be assigned to
abbrev pub is_place : PlainExpr → Bool
is_place (tree.simple_name at x) = true
is_place (tree.dot at e x) = true
is_place (tree.super_field at x) = true
is_place (tree.element at e i) = true
is_place _ = false

abbrev pub is_array_creation : PlainExpr → Bool
is_array_creation (tree.new_array at b e n) = true
is_array_creation _ = false

-- what may be a statement (JLS 14.8)
abbrev pub is_statement_expression : PlainExpr → Bool
is_statement_expression (tree.assign at o p v) = true
is_statement_expression (tree.step at plus post p) = true
is_statement_expression (tree.call at x args) = true
is_statement_expression (tree.dot_call at e x args) = true
is_statement_expression (tree.super_call at x args) = true
is_statement_expression (tree.new_object at x args) = true
is_statement_expression _ = false

-- ---- literals (JLS 3.10.1)

-- the one byte of a text
abbrev pub byte_of : List ℕ → ℕ
byte_of [] = 0
byte_of (b ∷ rest) = b

-- of a decimal digit, or of a letter from `A` or `a` on, which is 10
abbrev pub digit_value : ℕ → ℕ
digit_value b =
    if nat_le (byte_of (codes "a")) b then b - byte_of (codes "a") + 10 else (if nat_le (byte_of (codes "A")) b then b - byte_of (codes "A") + 10 else b - byte_of (codes "0"))

-- underscores between digits count for nothing
abbrev pub number_in : ℕ → List ℕ → ℕ
number_in radix digits = fold (λ n b. n * radix + digit_value b) 0 (filter (λ b. not (b == byte_of (codes "_"))) digits)

-- the radix of an integer literal
abbrev pub radix_of : List ℕ → ℕ
radix_of word =
    if slice_index word 0 == byte_of (codes "0")
    then (if slice_index word 1 == byte_of (codes "x") || slice_index word 1 == byte_of (codes "X")
    then 16
    else (if slice_index word 1 == byte_of (codes "b") || slice_index word 1 == byte_of (codes "B") then 2 else (if length word == 1 then 10 else 8)))
    else 10

-- the digits behind `0x` and `0b`
abbrev pub digits_of : List ℕ → List ℕ
digits_of word = if radix_of word == 16 || radix_of word == 2 then drop 2 word else word

abbrev pub int_value : List ℕ → ℕ
int_value word = min (number_in (radix_of word) (digits_of word)) max_value

abbrev pub is_decimal : List ℕ → Bool
is_decimal word = radix_of word == 10

-- ---- types (JLS 4)

-- pairs of empty brackets
pub data Brackets : Lexemes → Lexemes → ℕ → Type 0 where
  no_pair : {a : Lexemes} → Brackets a a 0
  pair : {t u : Lexeme} {m a : Lexemes} {n : ℕ} → t.terminal ≡ terminal.LeftBracket → u.terminal ≡ terminal.RightBracket → Brackets m a n → Brackets (t ∷ u ∷ m) a (suc n)

-- `int`, `boolean` or a name
pub data IsBase : Lexeme → Base → Type 0 where
  int_base : {t : Lexeme} → t.terminal ≡ terminal.IntType → IsBase t base.Int
  boolean_base : {t : Lexeme} → t.terminal ≡ terminal.Boolean → IsBase t base.Bool
  named_base : {t : Lexeme} → t.terminal ≡ terminal.Identifier → IsBase t (base.Named t.word)

pub data TypeRead : Lexemes → Lexemes → TypeName → Type 0 where
  type_read : {t : Lexeme} {m a : Lexemes} {b : Base} {n : ℕ} → IsBase t b → Brackets m a n → TypeRead (t ∷ m) a (record { base = b; dims = n })

-- ---- expressions (JLS 15)

mutual
  -- the least level stands first
  pub data Derives : ℕ → Lexemes → Lexemes → PlainExpr → ℕ → Type 0 where
    looser : {k h : ℕ} {i a : Lexemes} {x : PlainExpr} → Derives (suc k) i a x h → Derives k i a x h
    assign : {t : Lexeme} {i m a : Lexemes} {l r : PlainExpr} {g h : ℕ} → Derives level.primary i (t ∷ m) l g → is_place l ≡ true → t.terminal ≡ terminal.Assign → Derives level.assignment m a r h
        → Derives level.assignment i a (tree.assign (first_at i) None l r) (suc (max g h))
    compound : {o : BinOp} {t : Lexeme} {i m a : Lexemes} {l r : PlainExpr} {g h : ℕ} → Derives level.primary i (t ∷ m) l g → is_place l ≡ true → t.terminal ≡ terminal.Compound o → Derives level.assignment m a r h
        → Derives level.assignment i a (tree.assign (first_at i) (Some o) l r) (suc (max g h))
    conditional : {t u : Lexeme} {i m n a : Lexemes} {c l r : PlainExpr} {f g h : ℕ} → Derives level.conditional_or i (t ∷ m) c f → t.terminal ≡ terminal.Question → Derives level.assignment m (u ∷ n) l g → u.terminal ≡ terminal.Colon
        → Derives level.conditional n a r h → Derives level.conditional i a (tree.conditional (first_at i) c l r) (suc (max f (max g h)))
    binary : {o : BinOp} {t : Lexeme} {i m a : Lexemes} {l r : PlainExpr} {g h : ℕ} → Derives (operator_level o) i (t ∷ m) l g → t.terminal ≡ terminal.Operator o → Derives (suc (operator_level o)) m a r h
        → Derives (operator_level o) i a (tree.binary (first_at i) o l r) (suc (max g h))
    instance_of : {t : Lexeme} {i m a : Lexemes} {l : PlainExpr} {ty : TypeName} {g : ℕ} → Derives level.relational i (t ∷ m) l g → t.terminal ≡ terminal.InstanceOf → TypeRead m a ty
        → Derives level.relational i a (tree.instance_of (first_at i) l ty) (suc (max g ty.dims))
    signed : {o : UnaryOp} {t : Lexeme} {m a : Lexemes} {x : PlainExpr} {h : ℕ} → unary_operator t.terminal ≡ Some o → Derives level.unary m a x h → Derives level.unary (t ∷ m) a (tree.unary t.at o x) (suc h)
    step_before : {plus : Bool} {t : Lexeme} {m a : Lexemes} {x : PlainExpr} {h : ℕ} → step_terminal t.terminal ≡ Some plus → Derives level.primary m a x h → is_place x ≡ true
        → Derives level.unary (t ∷ m) a (tree.step t.at plus false x) (suc h)
    step_behind : {plus : Bool} {t : Lexeme} {i a : Lexemes} {x : PlainExpr} {h : ℕ} → Derives level.primary i (t ∷ a) x h → is_place x ≡ true → step_terminal t.terminal ≡ Some plus
        → Derives level.unary i a (tree.step (first_at i) plus true x) (suc h)
    cast_to_int : {t u v : Lexeme} {m n a : Lexemes} {d : ℕ} {x : PlainExpr} {h : ℕ} → t.terminal ≡ terminal.LeftParen → u.terminal ≡ terminal.IntType → Brackets m (v ∷ n) d → v.terminal ≡ terminal.RightParen → Derives level.unary n a x h
        → Derives level.unary (t ∷ u ∷ m) a (tree.cast t.at (record { base = base.Int; dims = d }) x) (suc (max d h))
    cast_to_boolean : {t u v : Lexeme} {m n a : Lexemes} {d : ℕ} {x : PlainExpr} {h : ℕ} → t.terminal ≡ terminal.LeftParen → u.terminal ≡ terminal.Boolean → Brackets m (v ∷ n) d → v.terminal ≡ terminal.RightParen → Derives level.unary n a x h
        → Derives level.unary (t ∷ u ∷ m) a (tree.cast t.at (record { base = base.Bool; dims = d }) x) (suc (max d h))
    cast_to_class : {t u v : Lexeme} {m n a : Lexemes} {d : ℕ} {x : PlainExpr} {h : ℕ} → t.terminal ≡ terminal.LeftParen → u.terminal ≡ terminal.Identifier → Brackets m (v ∷ n) d → v.terminal ≡ terminal.RightParen
        → goes_on_unsigned n ≡ true → Derives level.unary n a x h → Derives level.unary (t ∷ u ∷ m) a (tree.cast t.at (record { base = base.Named u.word; dims = d }) x) (suc (max d h))
    int_literal : {t : Lexeme} {a : Lexemes} → t.terminal ≡ terminal.Int → Derives level.primary (t ∷ a) a (tree.int_literal t.at (int_value t.word) (is_decimal t.word)) 1
    true_literal : {t : Lexeme} {a : Lexemes} → t.terminal ≡ terminal.True → Derives level.primary (t ∷ a) a (tree.bool_literal t.at true) 1
    false_literal : {t : Lexeme} {a : Lexemes} → t.terminal ≡ terminal.False → Derives level.primary (t ∷ a) a (tree.bool_literal t.at false) 1
    null_literal : {t : Lexeme} {a : Lexemes} → t.terminal ≡ terminal.Null → Derives level.primary (t ∷ a) a (tree.null_literal t.at) 1
    this_value : {t : Lexeme} {a : Lexemes} → t.terminal ≡ terminal.This → Derives level.primary (t ∷ a) a (tree.this_value t.at) 1
    paren : {t u : Lexeme} {m a : Lexemes} {x : PlainExpr} {h : ℕ} → t.terminal ≡ terminal.LeftParen → Derives level.assignment m (u ∷ a) x h → u.terminal ≡ terminal.RightParen → Derives level.primary (t ∷ m) a (tree.paren t.at x) (suc h)
    new_object : {t u : Lexeme} {m a : Lexemes} {es : PlainExprs} {h : ℕ} → t.terminal ≡ terminal.New → u.terminal ≡ terminal.Identifier → Arguments m a es h
        → Derives level.primary (t ∷ u ∷ m) a (tree.new_object t.at u.word es) (suc h)
    new_array : {t u v w : Lexeme} {m n a : Lexemes} {b : Base} {x : PlainExpr} {d h : ℕ} → t.terminal ≡ terminal.New → IsBase u b → v.terminal ≡ terminal.LeftBracket → Derives level.assignment m (w ∷ n) x h → w.terminal ≡ terminal.RightBracket
        → Brackets n a d → Derives level.primary (t ∷ u ∷ v ∷ m) a (tree.new_array t.at b x (suc d)) (suc (max h (suc d)))
    name : {t : Lexeme} {a : Lexemes} → t.terminal ≡ terminal.Identifier → Derives level.primary (t ∷ a) a (tree.simple_name t.at t.word) 1
    call : {t : Lexeme} {m a : Lexemes} {es : PlainExprs} {h : ℕ} → t.terminal ≡ terminal.Identifier → Arguments m a es h → Derives level.primary (t ∷ m) a (tree.call t.at t.word es) (suc h)
    super_field : {t u v : Lexeme} {a : Lexemes} → t.terminal ≡ terminal.Super → u.terminal ≡ terminal.Dot → v.terminal ≡ terminal.Identifier → Derives level.primary (t ∷ u ∷ v ∷ a) a (tree.super_field t.at v.word) 1
    super_call : {t u v : Lexeme} {m a : Lexemes} {es : PlainExprs} {h : ℕ} → t.terminal ≡ terminal.Super → u.terminal ≡ terminal.Dot → v.terminal ≡ terminal.Identifier → Arguments m a es h
        → Derives level.primary (t ∷ u ∷ v ∷ m) a (tree.super_call t.at v.word es) (suc h)
    dot : {t u : Lexeme} {i a : Lexemes} {x : PlainExpr} {h : ℕ} → Derives level.primary i (t ∷ u ∷ a) x h → t.terminal ≡ terminal.Dot → u.terminal ≡ terminal.Identifier → Derives level.primary i a (tree.dot (first_at i) x u.word) (suc h)
    dot_call : {t u : Lexeme} {i m a : Lexemes} {x : PlainExpr} {es : PlainExprs} {g h : ℕ} → Derives level.primary i (t ∷ u ∷ m) x g → t.terminal ≡ terminal.Dot → u.terminal ≡ terminal.Identifier → Arguments m a es h
        → Derives level.primary i a (tree.dot_call (first_at i) x u.word es) (suc (max g h))
    element : {t u : Lexeme} {i m a : Lexemes} {x y : PlainExpr} {g h : ℕ} → Derives level.primary i (t ∷ m) x g → is_array_creation x ≡ false → t.terminal ≡ terminal.LeftBracket → Derives level.assignment m (u ∷ a) y h
        → u.terminal ≡ terminal.RightBracket → Derives level.primary i a (tree.element (first_at i) x y) (suc (max g h))

  pub data Arguments : Lexemes → Lexemes → PlainExprs → ℕ → Type 0 where
    no_arguments : {t u : Lexeme} {a : Lexemes} → t.terminal ≡ terminal.LeftParen → u.terminal ≡ terminal.RightParen → Arguments (t ∷ u ∷ a) a tree.no_exprs 0
    some_arguments : {t : Lexeme} {m a : Lexemes} {es : PlainExprs} {h : ℕ} → t.terminal ≡ terminal.LeftParen → MoreArguments m a es h → Arguments (t ∷ m) a es h

  pub data MoreArguments : Lexemes → Lexemes → PlainExprs → ℕ → Type 0 where
    last_argument : {t : Lexeme} {i a : Lexemes} {x : PlainExpr} {h : ℕ} → Derives level.assignment i (t ∷ a) x h → t.terminal ≡ terminal.RightParen → MoreArguments i a (tree.more_exprs x tree.no_exprs) h
    more_arguments : {t : Lexeme} {i m a : Lexemes} {x : PlainExpr} {es : PlainExprs} {g h : ℕ} → Derives level.assignment i (t ∷ m) x g → t.terminal ≡ terminal.Comma → MoreArguments m a es h
        → MoreArguments i a (tree.more_exprs x es) (max g h)

-- ---- variables of a declaration (JLS 8.3, 14.4)

pub record Variable : Type 0 where
  pub name : List ℕ
  pub init : PlainOption

pub data VariableRead : Lexemes → Lexemes → Variable → ℕ → Type 0 where
  no_initialiser : {t : Lexeme} {a : Lexemes} → t.terminal ≡ terminal.Identifier → VariableRead (t ∷ a) a (record { name = t.word; init = tree.absent }) 0
  initialiser : {t u : Lexeme} {m a : Lexemes} {x : PlainExpr} {h : ℕ} → t.terminal ≡ terminal.Identifier → u.terminal ≡ terminal.Assign → Derives level.assignment m a x h
      → VariableRead (t ∷ u ∷ m) a (record { name = t.word; init = tree.present x }) h

-- one or more with commas between, and a semicolon
pub data Variables : Lexemes → Lexemes → List Variable → ℕ → Type 0 where
  last_variable : {t : Lexeme} {i a : Lexemes} {v : Variable} {h : ℕ} → VariableRead i (t ∷ a) v h → t.terminal ≡ terminal.Semicolon → Variables i a (v ∷ []) h
  more_variables : {t : Lexeme} {i m a : Lexemes} {v : Variable} {vs : List Variable} {g h : ℕ} → VariableRead i (t ∷ m) v g → t.terminal ≡ terminal.Comma → Variables m a vs h → Variables i a (v ∷ vs) (max g h)

-- a node for each variable, in front of the statements that follow
abbrev pub locals_of : ℕ → TypeName → List Variable → PlainStmts → PlainStmts
locals_of at ty [] rest = rest
locals_of at ty (v ∷ vs) rest = tree.more_stmts (tree.local_variable at ty v.name v.init) (locals_of at ty vs rest)

-- ---- statements (JLS 14)

-- one or more expression statements with commas between, up to a closing terminal
pub data Evaluations (closing : Terminal) : Lexemes → Lexemes → PlainExprs → ℕ → Type 0 where
  last_evaluation : {t : Lexeme} {i a : Lexemes} {x : PlainExpr} {h : ℕ} → Derives level.assignment i (t ∷ a) x h → is_statement_expression x ≡ true → t.terminal ≡ closing
      → Evaluations closing i a (tree.more_exprs x tree.no_exprs) h
  more_evaluations : {t : Lexeme} {i m a : Lexemes} {x : PlainExpr} {es : PlainExprs} {g h : ℕ} → Derives level.assignment i (t ∷ m) x g → is_statement_expression x ≡ true → t.terminal ≡ terminal.Comma
      → Evaluations closing m a es h → Evaluations closing i a (tree.more_exprs x es) (max g h)

abbrev pub at_of : PlainExpr → ℕ
at_of (tree.int_literal at v d) = at
at_of (tree.bool_literal at v) = at
at_of (tree.null_literal at) = at
at_of (tree.this_value at) = at
at_of (tree.simple_name at x) = at
at_of (tree.paren at x) = at
at_of (tree.dot at x n) = at
at_of (tree.super_field at n) = at
at_of (tree.call at n es) = at
at_of (tree.dot_call at x n es) = at
at_of (tree.super_call at n es) = at
at_of (tree.new_object at n es) = at
at_of (tree.new_array at b x d) = at
at_of (tree.element at x y) = at
at_of (tree.unary at o x) = at
at_of (tree.step at plus post x) = at
at_of (tree.cast at ty x) = at
at_of (tree.binary at o l r) = at
at_of (tree.instance_of at x ty) = at
at_of (tree.conditional at c l r) = at
at_of (tree.assign at o l r) = at

abbrev pub evaluations_of : PlainExprs → PlainStmts
evaluations_of tree.no_exprs = tree.no_stmts
evaluations_of (tree.more_exprs x es) = tree.more_stmts (tree.evaluate (at_of x) x) (evaluations_of es)

-- the first part of a `for` with its semicolon
pub data ForInit : Lexemes → Lexemes → PlainStmts → ℕ → Type 0 where
  init_none : {t : Lexeme} {a : Lexemes} → t.terminal ≡ terminal.Semicolon → ForInit (t ∷ a) a tree.no_stmts 0
  init_locals : {i m a : Lexemes} {ty : TypeName} {vs : List Variable} {h : ℕ} → TypeRead i m ty → Variables m a vs h
      → ForInit i a (locals_of (first_at i) ty vs tree.no_stmts) (suc (max ty.dims h))
  init_evaluations : {i a : Lexemes} {es : PlainExprs} {h : ℕ} → Evaluations terminal.Semicolon i a es h → ForInit i a (evaluations_of es) (suc h)

-- an expression that may be missing, up to a semicolon
pub data MaybeExpr : Lexemes → Lexemes → PlainOption → ℕ → Type 0 where
  no_expr : {t : Lexeme} {a : Lexemes} → t.terminal ≡ terminal.Semicolon → MaybeExpr (t ∷ a) a tree.absent 0
  an_expr : {t : Lexeme} {i a : Lexemes} {x : PlainExpr} {h : ℕ} → Derives level.assignment i (t ∷ a) x h → t.terminal ≡ terminal.Semicolon → MaybeExpr i a (tree.present x) h

pub data ForUpdate : Lexemes → Lexemes → PlainExprs → ℕ → Type 0 where
  update_none : {t : Lexeme} {a : Lexemes} → t.terminal ≡ terminal.RightParen → ForUpdate (t ∷ a) a tree.no_exprs 0
  update_some : {i a : Lexemes} {es : PlainExprs} {h : ℕ} → Evaluations terminal.RightParen i a es h → ForUpdate i a es h

mutual
  -- a statement that is no declaration of locals
  pub data Statement : Lexemes → Lexemes → PlainStmt → ℕ → Type 0 where
    block : {i a : Lexemes} {ss : PlainStmts} {h : ℕ} → Block i a ss h → Statement i a (tree.block (first_at i) ss) (suc h)
    empty : {t : Lexeme} {a : Lexemes} → t.terminal ≡ terminal.Semicolon → Statement (t ∷ a) a (tree.empty t.at) 1
    evaluate : {t : Lexeme} {i a : Lexemes} {x : PlainExpr} {h : ℕ} → Derives level.assignment i (t ∷ a) x h → is_statement_expression x ≡ true → t.terminal ≡ terminal.Semicolon
        → Statement i a (tree.evaluate (first_at i) x) (suc h)
    -- an `else` goes with the nearest `if`
    if_only : {t u v : Lexeme} {m n a : Lexemes} {c : PlainExpr} {x : PlainStmt} {g h : ℕ} → t.terminal ≡ terminal.If → u.terminal ≡ terminal.LeftParen → Derives level.assignment m (v ∷ n) c g → v.terminal ≡ terminal.RightParen
        → Statement n a x h → goes_on_with_else a ≡ false → Statement (t ∷ u ∷ m) a (tree.if_else t.at c x tree.no_else) (suc (max g h))
    if_else : {t u v w : Lexeme} {m n k a : Lexemes} {c : PlainExpr} {x y : PlainStmt} {f g h : ℕ} → t.terminal ≡ terminal.If → u.terminal ≡ terminal.LeftParen → Derives level.assignment m (v ∷ n) c f → v.terminal ≡ terminal.RightParen
        → Statement n (w ∷ k) x g → w.terminal ≡ terminal.Else → Statement k a y h → Statement (t ∷ u ∷ m) a (tree.if_else t.at c x (tree.else_with y)) (suc (max f (max g h)))
    while_loop : {t u v : Lexeme} {m n a : Lexemes} {c : PlainExpr} {x : PlainStmt} {g h : ℕ} → t.terminal ≡ terminal.While → u.terminal ≡ terminal.LeftParen → Derives level.assignment m (v ∷ n) c g → v.terminal ≡ terminal.RightParen
        → Statement n a x h → Statement (t ∷ u ∷ m) a (tree.while_loop t.at c x) (suc (max g h))
    do_loop : {t u v w z : Lexeme} {m n a : Lexemes} {c : PlainExpr} {x : PlainStmt} {g h : ℕ} → t.terminal ≡ terminal.Do → Statement m (u ∷ v ∷ n) x g → u.terminal ≡ terminal.While → v.terminal ≡ terminal.LeftParen
        → Derives level.assignment n (w ∷ z ∷ a) c h → w.terminal ≡ terminal.RightParen → z.terminal ≡ terminal.Semicolon → Statement (t ∷ m) a (tree.do_loop t.at x c) (suc (max g h))
    for_loop : {t u : Lexeme} {m n k l a : Lexemes} {is : PlainStmts} {c : PlainOption} {es : PlainExprs} {x : PlainStmt} {e f g h : ℕ} → t.terminal ≡ terminal.For → u.terminal ≡ terminal.LeftParen → ForInit m n is e
        → MaybeExpr n k c f → ForUpdate k l es g → Statement l a x h → Statement (t ∷ u ∷ m) a (tree.for_loop t.at is c es x) (suc (max e (max f (max g h))))
    return_with : {t : Lexeme} {m a : Lexemes} {v : PlainOption} {h : ℕ} → t.terminal ≡ terminal.Return → MaybeExpr m a v h → Statement (t ∷ m) a (tree.return_with t.at v) (suc h)
    throw : {t u : Lexeme} {m a : Lexemes} {x : PlainExpr} {h : ℕ} → t.terminal ≡ terminal.Throw → Derives level.assignment m (u ∷ a) x h → u.terminal ≡ terminal.Semicolon → Statement (t ∷ m) a (tree.throw t.at x) (suc h)
    break_loop : {t u : Lexeme} {a : Lexemes} → t.terminal ≡ terminal.Break → u.terminal ≡ terminal.Semicolon → Statement (t ∷ u ∷ a) a (tree.break_loop t.at) 1
    continue_loop : {t u : Lexeme} {a : Lexemes} → t.terminal ≡ terminal.Continue → u.terminal ≡ terminal.Semicolon → Statement (t ∷ u ∷ a) a (tree.continue_loop t.at) 1
    try_catch : {t : Lexeme} {m n a : Lexemes} {ss : PlainStmts} {cs : PlainCatches} {g h : ℕ} → t.terminal ≡ terminal.Try → Block m n ss g → Catches n a cs h → Statement (t ∷ m) a (tree.try_catch t.at ss cs) (suc (max g h))

  -- statements and declarations of locals in braces; its height is that of the highest statement in it
  pub data Block : Lexemes → Lexemes → PlainStmts → ℕ → Type 0 where
    braces : {t u : Lexeme} {m a : Lexemes} {ss : PlainStmts} {h : ℕ} → t.terminal ≡ terminal.LeftBrace → Statements m (u ∷ a) ss h → u.terminal ≡ terminal.RightBrace → Block (t ∷ m) a ss h

  pub data Statements : Lexemes → Lexemes → PlainStmts → ℕ → Type 0 where
    no_statement : {a : Lexemes} → Statements a a tree.no_stmts 0
    a_statement : {i m a : Lexemes} {x : PlainStmt} {ss : PlainStmts} {g h : ℕ} → Statement i m x g → Statements m a ss h → Statements i a (tree.more_stmts x ss) (max g h)
    locals : {i m n a : Lexemes} {ty : TypeName} {vs : List Variable} {ss : PlainStmts} {g h : ℕ} → TypeRead i m ty → Variables m n vs g → Statements n a ss h
        → Statements i a (locals_of (first_at i) ty vs ss) (max (suc (max ty.dims g)) h)

  -- one or more
  pub data Catches : Lexemes → Lexemes → PlainCatches → ℕ → Type 0 where
    last_catch : {t u v w z : Lexeme} {m a : Lexemes} {ss : PlainStmts} {h : ℕ} → t.terminal ≡ terminal.Catch → u.terminal ≡ terminal.LeftParen → v.terminal ≡ terminal.Identifier → w.terminal ≡ terminal.Identifier → z.terminal ≡ terminal.RightParen
        → Block m a ss h → Catches (t ∷ u ∷ v ∷ w ∷ z ∷ m) a (tree.more_catches (tree.catch_of_class v.word w.word ss) tree.no_catches) h
    more_catches : {t u v w z : Lexeme} {m n a : Lexemes} {ss : PlainStmts} {cs : PlainCatches} {g h : ℕ} → t.terminal ≡ terminal.Catch → u.terminal ≡ terminal.LeftParen → v.terminal ≡ terminal.Identifier → w.terminal ≡ terminal.Identifier
        → z.terminal ≡ terminal.RightParen → Block m n ss g → Catches n a cs h
        → Catches (t ∷ u ∷ v ∷ w ∷ z ∷ m) a (tree.more_catches (tree.catch_of_class v.word w.word ss) cs) (max g h)

-- ---- members (JLS 8.2 to 8.8, 9.3, 9.4)

abbrev pub no_mods : Mods
no_mods = record { access = access.Open; is_static = false; is_abstract = false; is_final = false }

-- the modifiers with one more, where it isn't there yet
abbrev pub with_access : Mods → Bool
with_access m = elim m.access [ access.Open ↦ true | _ ↦ false ]

abbrev pub with_modifier : Terminal → Mods → Option Mods
with_modifier terminal.Public m = if with_access m then Some (record m { access = access.Public }) else None
with_modifier terminal.Protected m = if with_access m then Some (record m { access = access.Protected }) else None
with_modifier terminal.Private m = if with_access m then Some (record m { access = access.Private }) else None
with_modifier terminal.Static m = if m.is_static then None else Some (record m { is_static = true })
with_modifier terminal.Abstract m = if m.is_abstract then None else Some (record m { is_abstract = true })
with_modifier terminal.Final m = if m.is_final then None else Some (record m { is_final = true })
with_modifier _ m = None

-- behind the modifiers that stand first
pub data Modifiers : Mods → Lexemes → Lexemes → Mods → Type 0 where
  no_modifier : {mods : Mods} {a : Lexemes} → Modifiers mods a a mods
  modifier : {t : Lexeme} {m a : Lexemes} {before more mods : Mods} → with_modifier t.terminal before ≡ Some more → Modifiers more m a mods → Modifiers before (t ∷ m) a mods

-- the number of brackets that the type with the most has stands last
mutual
  pub data Parameters : Lexemes → Lexemes → List Param → ℕ → Type 0 where
    no_parameters : {t u : Lexeme} {a : Lexemes} → t.terminal ≡ terminal.LeftParen → u.terminal ≡ terminal.RightParen → Parameters (t ∷ u ∷ a) a [] 0
    some_parameters : {t : Lexeme} {m a : Lexemes} {ps : List Param} {d : ℕ} → t.terminal ≡ terminal.LeftParen → MoreParameters m a ps d → Parameters (t ∷ m) a ps d

  pub data MoreParameters : Lexemes → Lexemes → List Param → ℕ → Type 0 where
    last_parameter : {t u : Lexeme} {i a : Lexemes} {ty : TypeName} → TypeRead i (t ∷ u ∷ a) ty → t.terminal ≡ terminal.Identifier → u.terminal ≡ terminal.RightParen
        → MoreParameters i a (record { ty = ty; name = t.word } ∷ []) ty.dims
    more_parameters : {t u : Lexeme} {i m a : Lexemes} {ty : TypeName} {ps : List Param} {d : ℕ} → TypeRead i (t ∷ u ∷ m) ty → t.terminal ≡ terminal.Identifier → u.terminal ≡ terminal.Comma → MoreParameters m a ps d
        → MoreParameters i a (record { ty = ty; name = t.word } ∷ ps) (max ty.dims d)

-- one or more names with commas between
pub data Names : Lexemes → Lexemes → List (List ℕ) → Type 0 where
  last_name : {t : Lexeme} {a : Lexemes} → t.terminal ≡ terminal.Identifier → Names (t ∷ a) a (t.word ∷ [])
  more_names : {t u : Lexeme} {m a : Lexemes} {ns : List (List ℕ)} → t.terminal ≡ terminal.Identifier → u.terminal ≡ terminal.Comma → Names m a ns → Names (t ∷ u ∷ m) a (t.word ∷ ns)

-- names behind a word, or none
pub data NamesBehind (word : Terminal) : Lexemes → Lexemes → List (List ℕ) → Type 0 where
  no_names : {a : Lexemes} → NamesBehind word a a []
  names : {t : Lexeme} {m a : Lexemes} {ns : List (List ℕ)} → t.terminal ≡ word → Names m a ns → NamesBehind word (t ∷ m) a ns

pub data ResultRead : Lexemes → Lexemes → TypeName → Type 0 where
  void_result : {t : Lexeme} {a : Lexemes} → t.terminal ≡ terminal.Void → ResultRead (t ∷ a) a (record { base = base.Void; dims = 0 })
  typed_result : {i a : Lexemes} {ty : TypeName} → TypeRead i a ty → ResultRead i a ty

-- a block, or a semicolon
pub data BodyRead : Lexemes → Lexemes → PlainBody → ℕ → Type 0 where
  no_block : {t : Lexeme} {a : Lexemes} → t.terminal ≡ terminal.Semicolon → BodyRead (t ∷ a) a tree.no_body 0
  a_block : {i a : Lexemes} {ss : PlainStmts} {h : ℕ} → Block i a ss h → BodyRead i a (tree.with_body ss) h

-- the first call of a constructor counts as a statement
pub data FirstRead : Lexemes → Lexemes → PlainFirst → ℕ → Type 0 where
  no_call : {a : Lexemes} → FirstRead a a tree.no_first 0
  to_this : {t u : Lexeme} {m a : Lexemes} {es : PlainExprs} {h : ℕ} → t.terminal ≡ terminal.This → Arguments m (u ∷ a) es h → u.terminal ≡ terminal.Semicolon → FirstRead (t ∷ m) a (tree.first_call t.at false es) (suc h)
  to_super : {t u : Lexeme} {m a : Lexemes} {es : PlainExprs} {h : ℕ} → t.terminal ≡ terminal.Super → Arguments m (u ∷ a) es h → u.terminal ≡ terminal.Semicolon → FirstRead (t ∷ m) a (tree.first_call t.at true es) (suc h)

-- a node for each variable, in front of the members that follow
abbrev pub fields_of : ℕ → Mods → TypeName → List Variable → List PlainMember → List PlainMember
fields_of at mods ty [] rest = rest
fields_of at mods ty (v ∷ vs) rest = tree.field_member at mods ty v.name v.init ∷ fields_of at mods ty vs rest

-- the members of a class, or of an interface, up to their closing brace
pub data Members (interface : Bool) : Lexemes → Lexemes → List PlainMember → ℕ → Type 0 where
  no_member : {t : Lexeme} {a : Lexemes} → t.terminal ≡ terminal.RightBrace → Members interface (t ∷ a) a [] 0
  semicolon : {t : Lexeme} {m a : Lexemes} {ms : List PlainMember} {h : ℕ} → t.terminal ≡ terminal.Semicolon → Members interface m a ms h → Members interface (t ∷ m) a ms h
  static_block : {t : Lexeme} {m n a : Lexemes} {ss : PlainStmts} {ms : List PlainMember} {g h : ℕ} → interface ≡ false → t.terminal ≡ terminal.Static → Block m n ss g → Members interface n a ms h
      → Members interface (t ∷ m) a (tree.static_member t.at ss ∷ ms) (max (suc g) h)
  fields : {i m n k a : Lexemes} {mods : Mods} {ty : TypeName} {vs : List Variable} {ms : List PlainMember} {g h : ℕ} → Modifiers no_mods i m mods → TypeRead m n ty → Variables n k vs g → Members interface k a ms h
      → Members interface i a (fields_of (first_at i) mods ty vs ms) (max (suc (max ty.dims g)) h)
  method : {t : Lexeme} {i m n k l o a : Lexemes} {mods : Mods} {ty : TypeName} {ps : List Param} {throws : List (List ℕ)} {body : PlainBody} {ms : List PlainMember} {d g h : ℕ}
      → Modifiers no_mods i m mods → mods.is_final ≡ false → ResultRead m (t ∷ n) ty → t.terminal ≡ terminal.Identifier → Parameters n k ps d → NamesBehind terminal.Throws k l throws → BodyRead l o body g
      → (interface ≡ true → body ≡ tree.no_body) → Members interface o a ms h
      → Members interface i a (tree.method_member (first_at i) mods ty t.word ps throws body ∷ ms) (max (suc (max ty.dims (max d g))) h)
  constructor : {t u v : Lexeme} {i n k l o p a : Lexemes} {mods : Mods} {ps : List Param} {throws : List (List ℕ)} {first : PlainFirst} {ss : PlainStmts} {ms : List PlainMember} {d f g h : ℕ}
      → interface ≡ false → Modifiers no_mods i (t ∷ n) mods → mods.is_final ≡ false → t.terminal ≡ terminal.Identifier → Parameters n k ps d → NamesBehind terminal.Throws k (u ∷ l) throws → u.terminal ≡ terminal.LeftBrace
      → FirstRead l o first f → Statements o (v ∷ p) ss g → v.terminal ≡ terminal.RightBrace → Members interface p a ms h
      → Members interface i a (tree.constructor_member (first_at i) mods t.word ps throws first ss ∷ ms) (max (suc (max d (max f g))) h)

-- ---- types and units (JLS 7.3, 8.1, 9.1)

-- `public` and `abstract`, any number of each; whether `abstract` is there
pub data TypeModifiers : Lexemes → Lexemes → Bool → Type 0 where
  no_type_modifier : {a : Lexemes} → TypeModifiers a a false
  public_type : {t : Lexeme} {m a : Lexemes} {b : Bool} → t.terminal ≡ terminal.Public → TypeModifiers m a b → TypeModifiers (t ∷ m) a b
  abstract_type : {t : Lexeme} {m a : Lexemes} {b : Bool} → t.terminal ≡ terminal.Abstract → TypeModifiers m a b → TypeModifiers (t ∷ m) a true

-- at most one superclass
pub data SuperclassRead : Lexemes → Lexemes → List (List ℕ) → Type 0 where
  no_superclass : {a : Lexemes} → SuperclassRead a a []
  a_superclass : {t u : Lexeme} {a : Lexemes} → t.terminal ≡ terminal.Extends → u.terminal ≡ terminal.Identifier → SuperclassRead (t ∷ u ∷ a) a (u.word ∷ [])

pub data TypeDeclaration : Lexemes → Lexemes → PlainType → ℕ → Type 0 where
  class : {t u v : Lexeme} {i m n k a : Lexemes} {b : Bool} {extends implements : List (List ℕ)} {ms : List PlainMember} {h : ℕ}
      → TypeModifiers i (t ∷ u ∷ m) b → t.terminal ≡ terminal.Class → u.terminal ≡ terminal.Identifier → SuperclassRead m n extends → NamesBehind terminal.Implements n (v ∷ k) implements → v.terminal ≡ terminal.LeftBrace
      → Members false k a ms h
      → TypeDeclaration i a (record { at = first_at i; interface = false; is_abstract = b; name = u.word; extends = extends; implements = implements; members = ms }) (suc h)
  interface_type : {t u v : Lexeme} {i m n a : Lexemes} {b : Bool} {extends : List (List ℕ)} {ms : List PlainMember} {h : ℕ}
      → TypeModifiers i (t ∷ u ∷ m) b → t.terminal ≡ terminal.Interface → u.terminal ≡ terminal.Identifier → NamesBehind terminal.Extends m (v ∷ n) extends → v.terminal ≡ terminal.LeftBrace → Members true n a ms h
      → TypeDeclaration i a (record { at = first_at i; interface = true; is_abstract = b; name = u.word; extends = extends; implements = []; members = ms }) (suc h)

-- a whole text
pub data UnitRead : Lexemes → PlainUnit → ℕ → Type 0 where
  no_type : UnitRead [] [] 0
  stray_semicolon : {t : Lexeme} {m : Lexemes} {u : PlainUnit} {h : ℕ} → t.terminal ≡ terminal.Semicolon → UnitRead m u h → UnitRead (t ∷ m) u h
  a_type : {i m : Lexemes} {d : PlainType} {u : PlainUnit} {g h : ℕ} → TypeDeclaration i m d g → UnitRead m u h → UnitRead i (d ∷ u) (max g h)

-- the tokens of the text derive the unit, which is so high
abbrev pub derives : List ℕ → List Token → PlainUnit → ℕ → Type 0
derives text tokens unit height = UnitRead (lexemes_of text tokens) unit height
