-- The typing of statements (JLS 6.3, 14). `Runs` has one case for each production, as `Composes` has for expressions. The types of all
-- locals of a body stand in text order, so that the next local has their number as its own.
use Rattle.std.specs.Prelude.{◌≡◌, ℕ, pos, Bool, true, false, List, [], ◌∷◌, ◌++◌, length, Option, None, Some, Decides}
use Rattle.bcj_parser_trees.specs.declared.names.TypeName.{TypeName}
use Rattle.bcj_parser_trees.specs.Trees as source
use Rattle.bcj_symbolic_trees.specs.Trees as tree
use Rattle.bcj_symbolic_trees.specs.Types.{PlainTy, int_type, bool_type, void_type, class_type, PlainArg, given}
use Rattle.bcj_symbolic_trees.specs.Units.{PlainPair}
use Rattle.bcj_symbolic_trees.specs.Names.{throwable_name}
use Rattle.bcj_decl_rules.specs.World.{Named, has_type, type_of}
use Rattle.bcj_decl_rules.specs.Subtypes.{Fits}
use Rattle.bcj_typing_rules.specs.declared.kind.Kind.TheVariants as kind
use Rattle.bcj_typing_rules.specs.Premises.{Need, need, earliest_missing}
use Rattle.bcj_typing_rules.specs.Context.{Local, Context, world_at, in_a_loop, with_local, with_locals, is_new_local, is_known}
use Rattle.bcj_typing_rules.specs.Operators.{is_bool}
use Rattle.bcj_typing_rules.specs.Casting.{uses}
use Rattle.bcj_typing_rules.specs.Expressions.{Typing, steps_in, trees_in, Types, TypesAll}

-- what a statement does: the locals in scope behind it, the types of all locals through it, the symbolic tree, and the steps
pub record Effect : Type 0 where
  pub locals : List Local
  pub types : List PlainTy
  pub tree : tree.PlainStmt
  pub steps : List PlainPair

-- the same of several statements
pub record Effects : Type 0 where
  pub locals : List Local
  pub types : List PlainTy
  pub trees : List tree.PlainStmt
  pub steps : List PlainPair

-- of the catches of a `try`, which the whole needs something of
pub record Caught : Type 0 where
  pub types : List PlainTy
  pub catches : List tree.PlainCatch
  pub steps : List PlainPair
  pub needs : List Need

-- a statement that declares nothing
abbrev pub plainly : Context → List PlainTy → tree.PlainStmt → List PlainPair → Effect
plainly c types s steps = record { locals = c.locals; types = types; tree = s; steps = steps }

abbrev pub block_of : List tree.PlainStmt → tree.PlainStmt
block_of ss = tree.block (tree.stmts_from ss)

abbrev pub empty_block : tree.PlainStmt
empty_block = tree.block tree.no_stmts

-- ---- locals

-- what a local without an initialiser starts as
abbrev pub first_value : PlainTy → tree.PlainExpr
first_value int_type = tree.int_value (pos 0)
first_value bool_type = tree.bool_value false
first_value _ = tree.null_value

-- the next local
abbrev pub next_local : List PlainTy → Named → PlainTy → Local
next_local types name ty = record { name = name; ty = ty; number = length types }

abbrev pub declares : Context → List PlainTy → Named → PlainTy → tree.PlainExpr → List PlainPair → Effect
declares c types name ty v steps =
    record {
      locals = next_local types name ty ∷ c.locals;
      types = types ++ ty ∷ [];
      tree = tree.evaluate (tree.set_local (length types) v);
      steps = steps;
    }

-- ---- loops and results

-- a `for` with a first part is a block of its statements and the loop
abbrev pub for_tree : List tree.PlainStmt → tree.PlainStmt → tree.PlainStmt
for_tree [] turns = turns
for_tree (s ∷ ss) turns = block_of (s ∷ ss ++ turns ∷ [])

abbrev pub returns_nothing : Option PlainTy → Bool
returns_nothing (Some void_type) = true
returns_nothing _ = false

abbrev pub returns_value : Option PlainTy → Bool
returns_value None = false
returns_value (Some void_type) = false
returns_value (Some t) = true

abbrev pub result_steps : PlainArg → Option PlainTy → List PlainPair
result_steps s None = []
result_steps s (Some t) = uses s t

abbrev pub throwable : PlainTy
throwable = class_type throwable_name

-- ---- the productions

-- the condition of a `for`, which is true where none is written
pub data Condition (c : Context) : source.PlainOption → List Need → tree.PlainExpr → List PlainPair → Type 0 where
  no_condition : Condition c source.absent [] (tree.bool_value true) []
  a_condition : {e : source.PlainExpr} {t : Typing} → Types c e t → Condition c (source.present e) (need kind.Condition (is_bool t.type) ∷ []) t.tree t.steps

-- The context stands first, then the types of the locals before the statement.
mutual
  pub data Runs : Context → List PlainTy → source.PlainStmt → List Need → Effect → Type 0 where
    -- JLS 14.4; the scope of a local has its own initialiser (JLS 6.3)
    local_with : {c : Context} {types : List PlainTy} {at : ℕ} {ty : TypeName} {name : Named} {e : source.PlainExpr} {t : Typing} {fits : Bool}
        → Types (with_local c (next_local types name (type_of ty))) e t → Decides fits (Fits (world_at c) t.type (type_of ty))
        → Runs c types (source.local_variable at ty name (source.present e))
        (need kind.Name (is_known c ty) ∷ need kind.Assign fits ∷ need kind.Local (is_new_local c name) ∷ [])
        (declares c types name (type_of ty) t.tree (t.steps ++ uses t.type (type_of ty)))
    local_without : {c : Context} {types : List PlainTy} {at : ℕ} {ty : TypeName} {name : Named}
        → Runs c types (source.local_variable at ty name source.absent) (need kind.Name (is_known c ty) ∷ need kind.Local (is_new_local c name) ∷ [])
        (declares c types name (type_of ty) (first_value (type_of ty)) [])
    -- JLS 14.2, 14.6, 14.8
    block : {c : Context} {types : List PlainTy} {at : ℕ} {body : source.PlainStmts} {b : Effects} → RunAll c types body b
        → Runs c types (source.block at body) [] (plainly c b.types (block_of b.trees) b.steps)
    empty : {c : Context} {types : List PlainTy} {at : ℕ} → Runs c types (source.empty at) [] (plainly c types empty_block [])
    evaluate : {c : Context} {types : List PlainTy} {at : ℕ} {e : source.PlainExpr} {t : Typing} → Types c e t
        → Runs c types (source.evaluate at e) [] (plainly c types (tree.evaluate t.tree) t.steps)
    -- JLS 14.9
    if_else : {c : Context} {types : List PlainTy} {at : ℕ} {e : source.PlainExpr} {first : source.PlainStmt} {second : source.PlainElse} {t : Typing} {a b : Effect}
        → Types c e t → HasEffect c types first a → ElseHasEffect c a.types second b
        → Runs c types (source.if_else at e first second) (need kind.Condition (is_bool t.type) ∷ [])
        (plainly c b.types (tree.if_else t.tree a.tree b.tree) (t.steps ++ (a.steps ++ b.steps)))
    -- JLS 14.12, 14.13, 14.14
    while_loop : {c : Context} {types : List PlainTy} {at : ℕ} {e : source.PlainExpr} {body : source.PlainStmt} {t : Typing} {b : Effect}
        → Types c e t → HasEffect (in_a_loop c) types body b
        → Runs c types (source.while_loop at e body) (need kind.Condition (is_bool t.type) ∷ [])
        (plainly c b.types (tree.loop false t.tree b.tree tree.no_exprs) (t.steps ++ b.steps))
    do_loop : {c : Context} {types : List PlainTy} {at : ℕ} {e : source.PlainExpr} {body : source.PlainStmt} {t : Typing} {b : Effect}
        → HasEffect (in_a_loop c) types body b → Types c e t
        → Runs c types (source.do_loop at body e) (need kind.Condition (is_bool t.type) ∷ [])
        (plainly c b.types (tree.loop true t.tree b.tree tree.no_exprs) (b.steps ++ t.steps))
    for_loop : {c : Context} {types : List PlainTy} {at : ℕ} {init : source.PlainStmts} {condition : source.PlainOption} {update : source.PlainExprs} {body : source.PlainStmt}
        {i : Effects} {needs : List Need} {test : tree.PlainExpr} {steps : List PlainPair} {us : List Typing} {b : Effect} → RunAll c types init i
        → Condition (with_locals c i.locals) condition needs test steps → TypesAll (with_locals c i.locals) update us
        → HasEffect (in_a_loop (with_locals c i.locals)) i.types body b
        → Runs c types (source.for_loop at init condition update body) needs
        (plainly c b.types (for_tree i.trees (tree.loop false test b.tree (trees_in us))) (i.steps ++ (steps ++ (steps_in us ++ b.steps))))
    -- JLS 14.17
    return_nothing : {c : Context} {types : List PlainTy} {at : ℕ}
        → Runs c types (source.return_with at source.absent) (need kind.Return (returns_nothing c.result) ∷ []) (plainly c types (tree.return_with tree.absent) [])
    return_value : {c : Context} {types : List PlainTy} {at : ℕ} {e : source.PlainExpr} {t : Typing} {fits : Bool}
        → Types c e t → Decides fits ((r : PlainTy) → c.result ≡ Some r → returns_value (Some r) ≡ true → Fits (world_at c) t.type r)
        → Runs c types (source.return_with at (source.present e)) (need kind.Assign fits ∷ need kind.Return (returns_value c.result) ∷ [])
        (plainly c types (tree.return_with (tree.present t.tree)) (t.steps ++ result_steps t.type c.result))
    -- JLS 14.18
    throw : {c : Context} {types : List PlainTy} {at : ℕ} {e : source.PlainExpr} {t : Typing} {fits : Bool} → Types c e t → Decides fits (Fits (world_at c) t.type throwable)
        → Runs c types (source.throw at e) (need kind.Throwable fits ∷ []) (plainly c types (tree.throw t.tree) (t.steps ++ uses t.type throwable))
    -- JLS 14.15, 14.16
    break_loop : {c : Context} {types : List PlainTy} {at : ℕ} → Runs c types (source.break_loop at) (need kind.Jump c.in_loop ∷ []) (plainly c types tree.break_loop [])
    continue_loop : {c : Context} {types : List PlainTy} {at : ℕ}
        → Runs c types (source.continue_loop at) (need kind.Jump c.in_loop ∷ []) (plainly c types tree.continue_loop [])
    -- JLS 14.20
    try_catch : {c : Context} {types : List PlainTy} {at : ℕ} {body : source.PlainStmts} {catches : source.PlainCatches} {b : Effects} {k : Caught} → RunAll c types body b
        → Catches c b.types catches k
        → Runs c types (source.try_catch at body catches) k.needs
        (plainly c k.types (tree.try_catch (tree.stmts_from b.trees) (tree.catches_from k.catches)) (b.steps ++ k.steps))

  -- a statement whose parts have rules and which lacks nothing
  pub data HasEffect : Context → List PlainTy → source.PlainStmt → Effect → Type 0 where
    has_effect : {c : Context} {types : List PlainTy} {s : source.PlainStmt} {needs : List Need} {e : Effect} → Runs c types s needs e → earliest_missing needs ≡ None
        → HasEffect c types s e

  pub data ElseHasEffect : Context → List PlainTy → source.PlainElse → Effect → Type 0 where
    no_else : {c : Context} {types : List PlainTy} → ElseHasEffect c types source.no_else (plainly c types empty_block [])
    else_with : {c : Context} {types : List PlainTy} {s : source.PlainStmt} {e : Effect} → HasEffect c types s e → ElseHasEffect c types (source.else_with s) e

  -- statements one behind the other, each in the scope of the locals before it
  pub data RunAll : Context → List PlainTy → source.PlainStmts → Effects → Type 0 where
    no_stmts : {c : Context} {types : List PlainTy} → RunAll c types source.no_stmts (record { locals = c.locals; types = types; trees = []; steps = [] })
    more_stmts : {c : Context} {types : List PlainTy} {s : source.PlainStmt} {rest : source.PlainStmts} {e : Effect} {r : Effects} → HasEffect c types s e
        → RunAll (with_locals c e.locals) e.types rest r
        → RunAll c types (source.more_stmts s rest) (record { locals = r.locals; types = r.types; trees = e.tree ∷ r.trees; steps = e.steps ++ r.steps })

  -- a caught class is known, its local new, and its objects can be thrown; the class is used before its block
  pub data Catches : Context → List PlainTy → source.PlainCatches → Caught → Type 0 where
    no_catches : {c : Context} {types : List PlainTy} → Catches c types source.no_catches (record { types = types; catches = []; steps = []; needs = [] })
    more_catches : {c : Context} {types : List PlainTy} {class name : Named} {body : source.PlainStmts} {rest : source.PlainCatches} {fits : Bool} {b : Effects} {k : Caught}
        → Decides fits (Fits (world_at c) (given (class_type class)) throwable)
        → RunAll (with_local c (next_local types name (class_type class))) (types ++ class_type class ∷ []) body b → Catches c b.types rest k
        → Catches c types (source.more_catches (source.catch_of_class class name body) rest)
        (record {
          types = k.types;
          catches = record { class = class; local = length types; body = tree.stmts_from b.trees } ∷ k.catches;
          steps = uses (given (class_type class)) throwable ++ (b.steps ++ k.steps);
          needs = need kind.Name (has_type (world_at c) class) ∷ need kind.Local (is_new_local c name) ∷ need kind.Throwable fits ∷ k.needs;
        })
