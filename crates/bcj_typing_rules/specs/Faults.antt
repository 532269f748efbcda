-- What is at fault in a unit, with its place and its kind. Nodes are taken in text order, the parts of a node before it: the first node
-- that lacks something although its parts have rules is at fault, with the earliest kind of what it lacks.
use Rattle.std.specs.Prelude.{◌≡◌, ℕ, Bool, true, false, List, [], ◌∷◌, ◌++◌, Some, if◌then◌else◌, slice_get}
use Rattle.std.specs.List.{AllZip}
use Rattle.std.specs.Option.{is_some}
use Rattle.bcj_parser_trees.specs.declared.names.TypeName.{TypeName}
use Rattle.bcj_parser_trees.specs.declared.names.Mods.{Mods}
use Rattle.bcj_parser_trees.specs.declared.names.Param.{Param}
use Rattle.bcj_parser_trees.specs.Trees as source
use Rattle.bcj_symbolic_trees.specs.Trees as tree
use Rattle.bcj_symbolic_trees.specs.Types.{PlainTy}
use Rattle.bcj_symbolic_trees.specs.Units.{PlainPair, PlainClass}
use Rattle.bcj_decl_rules.specs.World.{Named, Field, Method, type_of, param_types, field_in, method_in}
use Rattle.bcj_decl_rules.specs.Faults.{is_static}
use Rattle.bcj_decl_rules.specs.function.Constants.{spells_least}
use Rattle.bcj_typing_rules.specs.declared.kind.Kind.{Kind}
use Rattle.bcj_typing_rules.specs.Premises.{Need, earliest_missing}
use Rattle.bcj_typing_rules.specs.Context.{Context, type_before_dot, in_a_loop, with_local, with_locals}
use Rattle.bcj_symbolic_trees.specs.Types.{class_type}
use Rattle.bcj_typing_rules.specs.Expressions.{Typing, Placing, is_place, Composes, Types, TypesAll, Places, TypesPlace}
use Rattle.bcj_typing_rules.specs.Statements.{Effect, Effects, next_local, Condition, Runs, HasEffect, RunAll}
use Rattle.bcj_typing_rules.specs.Members.{Added, nothing_added, Made, Initialises, HasInitialiser, initialiser_context, constructor_context, method_context, before_this, first_types, Starts, HasStart, ConstructorBecomes, MethodBecomes, constructor_members, BecomesClass}

-- ---- first bytes

abbrev pub expr_at : source.PlainExpr → ℕ
expr_at (source.int_literal at n decimal) = at
expr_at (source.bool_literal at b) = at
expr_at (source.null_literal at) = at
expr_at (source.this_value at) = at
expr_at (source.simple_name at x) = at
expr_at (source.paren at e) = at
expr_at (source.dot at e name) = at
expr_at (source.super_field at name) = at
expr_at (source.call at name args) = at
expr_at (source.dot_call at e name args) = at
expr_at (source.super_call at name args) = at
expr_at (source.new_object at class args) = at
expr_at (source.new_array at b e dims) = at
expr_at (source.element at a i) = at
expr_at (source.unary at o e) = at
expr_at (source.step at plus post e) = at
expr_at (source.cast at ty e) = at
expr_at (source.binary at o a b) = at
expr_at (source.instance_of at e ty) = at
expr_at (source.conditional at test a b) = at
expr_at (source.assign at o place e) = at

abbrev pub stmt_at : source.PlainStmt → ℕ
stmt_at (source.local_variable at ty name init) = at
stmt_at (source.block at body) = at
stmt_at (source.empty at) = at
stmt_at (source.evaluate at e) = at
stmt_at (source.if_else at e first second) = at
stmt_at (source.while_loop at e body) = at
stmt_at (source.do_loop at body e) = at
stmt_at (source.for_loop at init condition update body) = at
stmt_at (source.return_with at e) = at
stmt_at (source.throw at e) = at
stmt_at (source.break_loop at) = at
stmt_at (source.continue_loop at) = at
stmt_at (source.try_catch at body _) = at

-- ---- expressions

-- an expression of which the value is taken, or a variable that is assigned
pub data Part : Type 0 where
  a_value : source.PlainExpr → Part
  a_place : source.PlainExpr → Part

abbrev pub values : source.PlainExprs → List Part
values source.no_exprs = []
values (source.more_exprs e es) = a_value e ∷ values es

-- the parts of an expression in text order; a type's name before a dot is none, and a literal with its sign is one literal
abbrev pub parts_of : Context → source.PlainExpr → List Part
parts_of c (source.paren at e) = a_value e ∷ []
parts_of c (source.dot at e name) = if is_some (type_before_dot c e) then [] else a_value e ∷ []
parts_of c (source.call at name args) = values args
parts_of c (source.dot_call at e name args) = if is_some (type_before_dot c e) then values args else a_value e ∷ values args
parts_of c (source.super_call at name args) = values args
parts_of c (source.new_object at class args) = values args
parts_of c (source.new_array at b e dims) = a_value e ∷ []
parts_of c (source.element at a i) = a_value a ∷ a_value i ∷ []
parts_of c (source.unary at o e) = if spells_least o e then [] else a_value e ∷ []
parts_of c (source.step at plus post e) = a_place e ∷ []
parts_of c (source.cast at ty e) = a_value e ∷ []
parts_of c (source.binary at o a b) = a_value a ∷ a_value b ∷ []
parts_of c (source.instance_of at e ty) = a_value e ∷ []
parts_of c (source.conditional at test a b) = a_value test ∷ a_value a ∷ a_value b ∷ []
parts_of c (source.assign at o place e) = a_place place ∷ a_value e ∷ []
parts_of c _ = []

abbrev pub tree_of : Part → source.PlainExpr
tree_of (a_value e) = e
tree_of (a_place e) = e

abbrev pub parts : Context → Part → List Part
parts c (a_value e) = parts_of c e
parts c (a_place e) = if is_place e then parts_of c e else []

-- the part has a rule
pub data HasRule (c : Context) : Part → Type 0 where
  has_value : {e : source.PlainExpr} (t : Typing) → Types c e t → HasRule c (a_value e)
  has_place : {e : source.PlainExpr} (p : Placing) → TypesPlace c e p → HasRule c (a_place e)

-- each of them
pub data HaveRules (c : Context) : List Part → Type 0 where
  none_have : HaveRules c []
  more_have : {p : Part} {ps : List Part} → HasRule c p → HaveRules c ps → HaveRules c (p ∷ ps)

-- the node lacks something, `k` being the earliest kind, although its parts have rules
pub data Lacks (c : Context) : Part → Kind → Type 0 where
  lacks_value : {e : source.PlainExpr} {needs : List Need} {t : Typing} {k : Kind} → Composes c e needs t → earliest_missing needs ≡ Some k → Lacks c (a_value e) k
  lacks_place : {e : source.PlainExpr} {needs : List Need} {p : Placing} {k : Kind} → Places c e needs p → earliest_missing needs ≡ Some k → Lacks c (a_place e) k

pub data ExprFault (c : Context) : Part → ℕ → Kind → Type 0 where
  itself : {p : Part} {k : Kind} → Lacks c p k → ExprFault c p (expr_at (tree_of p)) k
  in_part : {p q : Part} {at : ℕ} {k : Kind} (before behind : List Part) → parts c p ≡ before ++ q ∷ behind → HaveRules c before → ExprFault c q at k → ExprFault c p at k

-- the first fault among parts in text order
pub data PartsFault (c : Context) : List Part → ℕ → Kind → Type 0 where
  among_parts : {ps : List Part} {at : ℕ} {k : Kind} {q : Part} (before behind : List Part) → ps ≡ before ++ q ∷ behind → HaveRules c before → ExprFault c q at k → PartsFault c ps at k

-- ---- statements

-- The context stands first, then the types of the locals before the statement.
mutual
  pub data StmtFault : Context → List PlainTy → source.PlainStmt → ℕ → Kind → Type 0 where
    statement_itself : {c : Context} {types : List PlainTy} {s : source.PlainStmt} {needs : List Need} {e : Effect} {k : Kind} → Runs c types s needs e → earliest_missing needs ≡ Some k
        → StmtFault c types s (stmt_at s) k
    in_initialiser : {c : Context} {types : List PlainTy} {place at : ℕ} {ty : TypeName} {name : Named} {e : source.PlainExpr} {k : Kind}
        → ExprFault (with_local c (next_local types name (type_of ty))) (a_value e) at k → StmtFault c types (source.local_variable place ty name (source.present e)) at k
    in_block : {c : Context} {types : List PlainTy} {place at : ℕ} {body : source.PlainStmts} {k : Kind} → StmtsFault c types body at k → StmtFault c types (source.block place body) at k
    in_expression : {c : Context} {types : List PlainTy} {place at : ℕ} {e : source.PlainExpr} {k : Kind} → ExprFault c (a_value e) at k → StmtFault c types (source.evaluate place e) at k
    if_condition : {c : Context} {types : List PlainTy} {place at : ℕ} {e : source.PlainExpr} {first : source.PlainStmt} {second : source.PlainElse} {k : Kind} → ExprFault c (a_value e) at k
        → StmtFault c types (source.if_else place e first second) at k
    if_first : {c : Context} {types : List PlainTy} {place at : ℕ} {e : source.PlainExpr} {first : source.PlainStmt} {second : source.PlainElse} {k : Kind} (t : Typing) → Types c e t
        → StmtFault c types first at k → StmtFault c types (source.if_else place e first second) at k
    if_second : {c : Context} {types : List PlainTy} {place at : ℕ} {e : source.PlainExpr} {first second : source.PlainStmt} {k : Kind} (t : Typing) (a : Effect) → Types c e t
        → HasEffect c types first a → StmtFault c a.types second at k → StmtFault c types (source.if_else place e first (source.else_with second)) at k
    while_condition : {c : Context} {types : List PlainTy} {place at : ℕ} {e : source.PlainExpr} {body : source.PlainStmt} {k : Kind} → ExprFault c (a_value e) at k
        → StmtFault c types (source.while_loop place e body) at k
    while_body : {c : Context} {types : List PlainTy} {place at : ℕ} {e : source.PlainExpr} {body : source.PlainStmt} {k : Kind} (t : Typing) → Types c e t
        → StmtFault (in_a_loop c) types body at k → StmtFault c types (source.while_loop place e body) at k
    do_body : {c : Context} {types : List PlainTy} {place at : ℕ} {e : source.PlainExpr} {body : source.PlainStmt} {k : Kind} → StmtFault (in_a_loop c) types body at k
        → StmtFault c types (source.do_loop place body e) at k
    do_condition : {c : Context} {types : List PlainTy} {place at : ℕ} {e : source.PlainExpr} {body : source.PlainStmt} {k : Kind} (b : Effect) → HasEffect (in_a_loop c) types body b
        → ExprFault c (a_value e) at k → StmtFault c types (source.do_loop place body e) at k
    for_first : {c : Context} {types : List PlainTy} {place at : ℕ} {init : source.PlainStmts} {condition : source.PlainOption} {update : source.PlainExprs} {body : source.PlainStmt} {k : Kind}
        → StmtsFault c types init at k → StmtFault c types (source.for_loop place init condition update body) at k
    for_condition : {c : Context} {types : List PlainTy} {place at : ℕ} {init : source.PlainStmts} {e : source.PlainExpr} {update : source.PlainExprs} {body : source.PlainStmt} {k : Kind}
        (i : Effects) → RunAll c types init i → ExprFault (with_locals c i.locals) (a_value e) at k → StmtFault c types (source.for_loop place init (source.present e) update body) at k
    for_update : {c : Context} {types : List PlainTy} {place at : ℕ} {init : source.PlainStmts} {condition : source.PlainOption} {update : source.PlainExprs} {body : source.PlainStmt} {k : Kind}
        (i : Effects) (needs : List Need) (test : tree.PlainExpr) (steps : List PlainPair) → RunAll c types init i → Condition (with_locals c i.locals) condition needs test steps
        → PartsFault (with_locals c i.locals) (values update) at k → StmtFault c types (source.for_loop place init condition update body) at k
    for_body : {c : Context} {types : List PlainTy} {place at : ℕ} {init : source.PlainStmts} {condition : source.PlainOption} {update : source.PlainExprs} {body : source.PlainStmt} {k : Kind}
        (i : Effects) (needs : List Need) (test : tree.PlainExpr) (steps : List PlainPair) (us : List Typing) → RunAll c types init i
        → Condition (with_locals c i.locals) condition needs test steps → TypesAll (with_locals c i.locals) update us
        → StmtFault (in_a_loop (with_locals c i.locals)) i.types body at k → StmtFault c types (source.for_loop place init condition update body) at k
    in_result : {c : Context} {types : List PlainTy} {place at : ℕ} {e : source.PlainExpr} {k : Kind} → ExprFault c (a_value e) at k
        → StmtFault c types (source.return_with place (source.present e)) at k
    in_thrown : {c : Context} {types : List PlainTy} {place at : ℕ} {e : source.PlainExpr} {k : Kind} → ExprFault c (a_value e) at k → StmtFault c types (source.throw place e) at k
    in_try : {c : Context} {types : List PlainTy} {place at : ℕ} {body : source.PlainStmts} {catches : source.PlainCatches} {k : Kind} → StmtsFault c types body at k
        → StmtFault c types (source.try_catch place body catches) at k
    in_catches : {c : Context} {types : List PlainTy} {place at : ℕ} {body : source.PlainStmts} {catches : source.PlainCatches} {k : Kind} (b : Effects) → RunAll c types body b
        → CatchesFault c b.types catches at k → StmtFault c types (source.try_catch place body catches) at k

  pub data StmtsFault : Context → List PlainTy → source.PlainStmts → ℕ → Kind → Type 0 where
    in_first : {c : Context} {types : List PlainTy} {at : ℕ} {s : source.PlainStmt} {rest : source.PlainStmts} {k : Kind} → StmtFault c types s at k
        → StmtsFault c types (source.more_stmts s rest) at k
    in_rest : {c : Context} {types : List PlainTy} {at : ℕ} {s : source.PlainStmt} {rest : source.PlainStmts} {k : Kind} (e : Effect) → HasEffect c types s e
        → StmtsFault (with_locals c e.locals) e.types rest at k → StmtsFault c types (source.more_stmts s rest) at k

  -- the blocks of catches are parts of their `try`, and what their classes and locals lack it lacks itself
  pub data CatchesFault : Context → List PlainTy → source.PlainCatches → ℕ → Kind → Type 0 where
    in_first_catch : {c : Context} {types : List PlainTy} {at : ℕ} {class name : Named} {body : source.PlainStmts} {rest : source.PlainCatches} {k : Kind}
        → StmtsFault (with_local c (next_local types name (class_type class))) (types ++ class_type class ∷ []) body at k
        → CatchesFault c types (source.more_catches (source.catch_of_class class name body) rest) at k
    in_later_catch : {c : Context} {types : List PlainTy} {at : ℕ} {class name : Named} {body : source.PlainStmts} {rest : source.PlainCatches} {k : Kind} (b : Effects)
        → RunAll (with_local c (next_local types name (class_type class))) (types ++ class_type class ∷ []) body b → CatchesFault c b.types rest at k
        → CatchesFault c types (source.more_catches (source.catch_of_class class name body) rest) at k

-- ---- members, the types of the locals of the class initialiser standing before each

pub data MemberFault (units : List source.PlainUnit) (t : source.PlainType) (types : List PlainTy) : source.PlainMember → ℕ → Kind → Type 0 where
  -- JLS 8.3.2: the initialiser, and the field that takes it
  in_field : {place at : ℕ} {mods : Mods} {ty : TypeName} {name : Named} {e : source.PlainExpr} {f : Field} {k : Kind}
      → field_in t.interface t.name (source.field_member place mods ty name (source.present e)) ≡ Some f → ExprFault (initialiser_context units t.name f.is_static) (a_value e) at k
      → MemberFault units t types (source.field_member place mods ty name (source.present e)) at k
  field_itself : {place : ℕ} {mods : Mods} {ty : TypeName} {name : Named} {e : source.PlainExpr} {f : Field} {needs : List Need} {a : Added} {k : Kind}
      → field_in t.interface t.name (source.field_member place mods ty name (source.present e)) ≡ Some f → Initialises units f e needs a → earliest_missing needs ≡ Some k
      → MemberFault units t types (source.field_member place mods ty name (source.present e)) place k
  -- JLS 8.7
  in_static : {place at : ℕ} {body : source.PlainStmts} {k : Kind} → StmtsFault (initialiser_context units t.name true) types body at k → MemberFault units t types (source.static_member place body) at k
  -- JLS 8.4.7
  in_method : {place at : ℕ} {mods : Mods} {result : TypeName} {name : Named} {params : List Param} {throws : List Named} {body : source.PlainStmts} {m : Method} {k : Kind}
      → method_in t.interface t.name (source.method_member place mods result name params throws (source.with_body body)) ≡ Some m
      → StmtsFault (method_context units m params) (first_types t.name (is_static m) (param_types params)) body at k
      → MemberFault units t types (source.method_member place mods result name params throws (source.with_body body)) at k
  -- JLS 8.8.7: the arguments of the first call, the first call, the statements, and the whole where the call isn't written
  in_arguments : {place at first_at : ℕ} {mods : Mods} {name : Named} {params : List Param} {throws : List Named} {to_super : Bool} {args : source.PlainExprs} {body : source.PlainStmts} {k : Kind}
      → PartsFault (before_this (constructor_context units t.name params)) (values args) at k
      → MemberFault units t types (source.constructor_member place mods name params throws (source.first_call first_at to_super args) body) at k
  in_first_call : {place first_at : ℕ} {mods : Mods} {name : Named} {params : List Param} {throws : List Named} {to_super : Bool} {args : source.PlainExprs} {body : source.PlainStmts}
      {needs : List Need} {a : Added} {s : Bool} {k : Kind} → Starts (constructor_context units t.name params) (source.first_call first_at to_super args) needs a s
      → earliest_missing needs ≡ Some k → MemberFault units t types (source.constructor_member place mods name params throws (source.first_call first_at to_super args) body) first_at k
  in_statements : {place at first_at : ℕ} {mods : Mods} {name : Named} {params : List Param} {throws : List Named} {to_super : Bool} {args : source.PlainExprs} {body : source.PlainStmts} {k : Kind}
      {a : Added} {s : Bool} → HasStart (constructor_context units t.name params) (source.first_call first_at to_super args) a s
      → StmtsFault (constructor_context units t.name params) (first_types t.name false (param_types params)) body at k
      → MemberFault units t types (source.constructor_member place mods name params throws (source.first_call first_at to_super args) body) at k
  in_all_statements : {place at : ℕ} {mods : Mods} {name : Named} {params : List Param} {throws : List Named} {body : source.PlainStmts} {k : Kind}
      → StmtsFault (constructor_context units t.name params) (first_types t.name false (param_types params)) body at k
      → MemberFault units t types (source.constructor_member place mods name params throws source.no_first body) at k
  constructor_itself : {place : ℕ} {mods : Mods} {name : Named} {params : List Param} {throws : List Named} {body : source.PlainStmts} {b : Effects} {needs : List Need} {a : Added} {s : Bool} {k : Kind}
      → RunAll (constructor_context units t.name params) (first_types t.name false (param_types params)) body b → Starts (constructor_context units t.name params) source.no_first needs a s
      → earliest_missing needs ≡ Some k → MemberFault units t types (source.constructor_member place mods name params throws source.no_first body) place k

-- a member without fault, and the types of the locals of the class initialiser behind it
pub data MemberHolds (units : List source.PlainUnit) (t : source.PlainType) : List PlainTy → source.PlainMember → List PlainTy → Type 0 where
  field_holds : {types : List PlainTy} {at : ℕ} {mods : Mods} {ty : TypeName} {name : Named} {e : source.PlainExpr} {f : Field} {a : Added}
      → field_in t.interface t.name (source.field_member at mods ty name (source.present e)) ≡ Some f → HasInitialiser units f e a
      → MemberHolds units t types (source.field_member at mods ty name (source.present e)) types
  bare_field_holds : {types : List PlainTy} {at : ℕ} {mods : Mods} {ty : TypeName} {name : Named} → MemberHolds units t types (source.field_member at mods ty name source.absent) types
  static_holds : {types : List PlainTy} {at : ℕ} {body : source.PlainStmts} {b : Effects} → RunAll (initialiser_context units t.name true) types body b
      → MemberHolds units t types (source.static_member at body) b.types
  method_holds : {types : List PlainTy} {m : source.PlainMember} (made : Made) → MethodBecomes units t m made → MemberHolds units t types m types
  constructor_holds : {types : List PlainTy} {m : source.PlainMember} (made : Made) → ConstructorBecomes units t nothing_added m made → MemberHolds units t types m types

pub data MembersHold (units : List source.PlainUnit) (t : source.PlainType) : List PlainTy → List source.PlainMember → List PlainTy → Type 0 where
  none_hold : {types : List PlainTy} → MembersHold units t types [] types
  more_hold : {types between later : List PlainTy} {m : source.PlainMember} {ms : List source.PlainMember} → MemberHolds units t types m between → MembersHold units t between ms later
      → MembersHold units t types (m ∷ ms) later

-- ---- types and units

-- the first call of the constructor that a class has where it writes none
abbrev pub DefaultStarts : List source.PlainUnit → source.PlainType → List Need → Added → Type 0
DefaultStarts units t needs a = Starts (constructor_context units t.name []) source.no_first needs a true

pub data TypeFault (units : List source.PlainUnit) (t : source.PlainType) : ℕ → Kind → Type 0 where
  in_member : {at : ℕ} {k : Kind} (before behind : List source.PlainMember) (m : source.PlainMember) (types : List PlainTy) → t.members ≡ before ++ m ∷ behind
      → MembersHold units t [] before types → MemberFault units t types m at k → TypeFault units t at k
  -- JLS 8.8.9
  type_itself : {k : Kind} (types : List PlainTy) (needs : List Need) (a : Added) → t.interface ≡ false → constructor_members t ≡ [] → MembersHold units t [] t.members types
      → DefaultStarts units t needs a → earliest_missing needs ≡ Some k → TypeFault units t t.at k

-- `Untyped`: the place and the kind of the first fault of the unit with the number `own`, its types being taken in text order
pub record IsUntyped (units : List source.PlainUnit) (own at : ℕ) (k : Kind) : Type 0 where
  pub before : List source.PlainType
  pub type : source.PlainType
  pub behind : List source.PlainType
  pub is_own : slice_get units own ≡ Some (before ++ type ∷ behind)
  pub earlier : List PlainClass
  pub earlier_hold : AllZip (BecomesClass units) before earlier
  pub fault : TypeFault units type at k
