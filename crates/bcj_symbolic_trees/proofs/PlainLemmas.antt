-- One equation a variant: the plain form of a tree is made of those of its parts.
use Rattle.std.proofs.Common.{◌≡◌, refl, ap, sym, ◌∙◌, ℕ, ℤ, Bool, List, [], ◌∷◌, map, Option}
use Rattle.bcj_symbolic_trees.specs.declared.expression.UnaryOp.{UnaryOp}
use Rattle.bcj_symbolic_trees.specs.declared.expression.BinaryOp.{BinaryOp}
use Rattle.bcj_symbolic_trees.specs.declared.expression.PrintKind.{PrintKind}
use Rattle.bcj_symbolic_trees.specs.declared.type_tree.Ty.{Ty, fold-roll-Ty}
use Rattle.bcj_symbolic_trees.specs.declared.type_tree.Ty.TheVariants as ty
use Rattle.bcj_symbolic_trees.specs.declared.type_tree.Ty.TheOpen as open_ty
use Rattle.bcj_symbolic_trees.specs.declared.symbol_reference.FieldRef.{FieldRef}
use Rattle.bcj_symbolic_trees.specs.declared.symbol_reference.MethodRef.{MethodRef}
use Rattle.bcj_symbolic_trees.specs.declared.expression.SymExpr.{SymExpr, fold-roll-SymExpr}
use Rattle.bcj_symbolic_trees.specs.declared.expression.SymExpr.TheVariants as expr
use Rattle.bcj_symbolic_trees.specs.declared.expression.SymExpr.TheOpen as open_expr
use Rattle.bcj_symbolic_trees.specs.declared.expression.UpdatePlace.{UpdatePlace, fold-roll-UpdatePlace}
use Rattle.bcj_symbolic_trees.specs.declared.expression.UpdatePlace.TheVariants as place
use Rattle.bcj_symbolic_trees.specs.declared.statement.SymStmt.{SymStmt, fold-roll-SymStmt}
use Rattle.bcj_symbolic_trees.specs.declared.statement.SymStmt.TheVariants as stmt
use Rattle.bcj_symbolic_trees.specs.declared.statement.SymStmt.TheOpen as open_stmt
use Rattle.bcj_symbolic_trees.specs.declared.statement.SymCatch.{SymCatch, fold-SymCatch, fold_out-SymCatch}
use Rattle.bcj_symbolic_trees.specs.Types.{PlainTy, int_type, bool_type, void_type, class_type, array_type, ty_step, ty_of, field_ref_of, method_ref_of}
use Rattle.bcj_symbolic_trees.specs.Trees.{PlainExpr, PlainPlace, PlainStmt, PlainCatch, int_value, bool_value, null_value, get_local, set_local, get_static, set_static, get_field, set_field, get_element, set_element, array_length, update_place, unary, binary, and_also, or_else, conditional, new_object, new_array, call_static, call_virtual, call_interface, call_special, cast, widen, instance_of, first_then, print, local_place, static_place, field_place, element_place, evaluate, if_else, loop, break_loop, continue_loop, return_with, throw, try_catch, block, catches_from}
use Rattle.bcj_symbolic_trees.specs.Plain.{expr_step, place_step, expr_of, place_of, exprs_of, option_of, stmt_step, catch_step, stmt_of, stmts_of, catch_of, catches_of}

pub ty-Int : ty_of ty.Int ≡ int_type
unfolding ty_of
ty-Int =
    ap ty_of (sym ty.rolls-Int) ∙ fold-roll-Ty PlainTy ty_step open_ty.Int

pub ty-Bool : ty_of ty.Bool ≡ bool_type
unfolding ty_of
ty-Bool =
    ap ty_of (sym ty.rolls-Bool) ∙ fold-roll-Ty PlainTy ty_step open_ty.Bool

pub ty-Void : ty_of ty.Void ≡ void_type
unfolding ty_of
ty-Void =
    ap ty_of (sym ty.rolls-Void) ∙ fold-roll-Ty PlainTy ty_step open_ty.Void

pub ty-Class : (n : List ℕ) → ty_of (ty.Class n) ≡ class_type n
unfolding ty_of
ty-Class n =
    ap ty_of (sym (ty.rolls-Class n)) ∙ fold-roll-Ty PlainTy ty_step (open_ty.Class n)

pub ty-Array : (t : Ty) → ty_of (ty.Array t) ≡ array_type (ty_of t)
unfolding ty_of
ty-Array t =
    ap ty_of (sym (ty.rolls-Array t)) ∙ fold-roll-Ty PlainTy ty_step (open_ty.Array t)

pub expr-Int : (n : ℤ) → expr_of (expr.Int n) ≡ int_value n
unfolding expr_of
expr-Int n =
    ap expr_of (sym (expr.rolls-Int n)) ∙ fold-roll-SymExpr PlainExpr PlainPlace expr_step place_step (open_expr.Int n)

pub expr-Bool : (b : Bool) → expr_of (expr.Bool b) ≡ bool_value b
unfolding expr_of
expr-Bool b =
    ap expr_of (sym (expr.rolls-Bool b)) ∙ fold-roll-SymExpr PlainExpr PlainPlace expr_step place_step (open_expr.Bool b)

pub expr-Null : expr_of expr.Null ≡ null_value
unfolding expr_of
expr-Null =
    ap expr_of (sym expr.rolls-Null) ∙ fold-roll-SymExpr PlainExpr PlainPlace expr_step place_step open_expr.Null

pub expr-Local : (n : ℕ) → expr_of (expr.Local n) ≡ get_local n
unfolding expr_of
expr-Local n =
    ap expr_of (sym (expr.rolls-Local n)) ∙ fold-roll-SymExpr PlainExpr PlainPlace expr_step place_step (open_expr.«SymExpr::Local» n)

pub expr-SetLocal : (n : ℕ) (v : SymExpr) → expr_of (expr.SetLocal n v) ≡ set_local n (expr_of v)
unfolding expr_of
expr-SetLocal n v =
    ap expr_of (sym (expr.rolls-SetLocal n v)) ∙ fold-roll-SymExpr PlainExpr PlainPlace expr_step place_step (open_expr.SetLocal n v)

pub expr-GetStatic : (f : FieldRef) → expr_of (expr.GetStatic f) ≡ get_static (field_ref_of f)
unfolding expr_of
expr-GetStatic f =
    ap expr_of (sym (expr.rolls-GetStatic f)) ∙ fold-roll-SymExpr PlainExpr PlainPlace expr_step place_step (open_expr.GetStatic f)

pub expr-SetStatic : (f : FieldRef) (v : SymExpr) → expr_of (expr.SetStatic f v) ≡ set_static (field_ref_of f) (expr_of v)
unfolding expr_of
expr-SetStatic f v =
    ap expr_of (sym (expr.rolls-SetStatic f v)) ∙ fold-roll-SymExpr PlainExpr PlainPlace expr_step place_step (open_expr.SetStatic f v)

pub expr-GetField : (t : SymExpr) (f : FieldRef) → expr_of (expr.GetField t f) ≡ get_field (expr_of t) (field_ref_of f)
unfolding expr_of
expr-GetField t f =
    ap expr_of (sym (expr.rolls-GetField t f)) ∙ fold-roll-SymExpr PlainExpr PlainPlace expr_step place_step (open_expr.GetField t f)

pub expr-SetField : (t : SymExpr) (f : FieldRef) (v : SymExpr) → expr_of (expr.SetField t f v) ≡ set_field (expr_of t) (field_ref_of f) (expr_of v)
unfolding expr_of
expr-SetField t f v =
    ap expr_of (sym (expr.rolls-SetField t f v)) ∙ fold-roll-SymExpr PlainExpr PlainPlace expr_step place_step (open_expr.SetField t f v)

pub expr-GetElem : (a : SymExpr) (i : SymExpr) → expr_of (expr.GetElem a i) ≡ get_element (expr_of a) (expr_of i)
unfolding expr_of
expr-GetElem a i =
    ap expr_of (sym (expr.rolls-GetElem a i)) ∙ fold-roll-SymExpr PlainExpr PlainPlace expr_step place_step (open_expr.GetElem a i)

pub expr-SetElem : (a : SymExpr) (i : SymExpr) (v : SymExpr) → expr_of (expr.SetElem a i v) ≡ set_element (expr_of a) (expr_of i) (expr_of v)
unfolding expr_of
expr-SetElem a i v =
    ap expr_of (sym (expr.rolls-SetElem a i v)) ∙ fold-roll-SymExpr PlainExpr PlainPlace expr_step place_step (open_expr.SetElem a i v)

pub expr-Length : (a : SymExpr) → expr_of (expr.Length a) ≡ array_length (expr_of a)
unfolding expr_of
expr-Length a =
    ap expr_of (sym (expr.rolls-Length a)) ∙ fold-roll-SymExpr PlainExpr PlainPlace expr_step place_step (open_expr.Length a)

pub expr-Update : (p : UpdatePlace) (op : BinaryOp) (v : SymExpr) (post : Bool) → expr_of (expr.Update p op v post) ≡ update_place (place_of p) op (expr_of v) post
unfolding expr_of place_of
expr-Update p op v post =
    ap expr_of (sym (expr.rolls-Update p op v post)) ∙ fold-roll-SymExpr PlainExpr PlainPlace expr_step place_step (open_expr.Update p op v post)

pub expr-Unary : (op : UnaryOp) (a : SymExpr) → expr_of (expr.Unary op a) ≡ unary op (expr_of a)
unfolding expr_of
expr-Unary op a =
    ap expr_of (sym (expr.rolls-Unary op a)) ∙ fold-roll-SymExpr PlainExpr PlainPlace expr_step place_step (open_expr.Unary op a)

pub expr-Binary : (op : BinaryOp) (a : SymExpr) (b : SymExpr) → expr_of (expr.Binary op a b) ≡ binary op (expr_of a) (expr_of b)
unfolding expr_of
expr-Binary op a b =
    ap expr_of (sym (expr.rolls-Binary op a b)) ∙ fold-roll-SymExpr PlainExpr PlainPlace expr_step place_step (open_expr.Binary op a b)

pub expr-And : (a : SymExpr) (b : SymExpr) → expr_of (expr.And a b) ≡ and_also (expr_of a) (expr_of b)
unfolding expr_of
expr-And a b =
    ap expr_of (sym (expr.rolls-And a b)) ∙ fold-roll-SymExpr PlainExpr PlainPlace expr_step place_step (open_expr.And a b)

pub expr-Or : (a : SymExpr) (b : SymExpr) → expr_of (expr.Or a b) ≡ or_else (expr_of a) (expr_of b)
unfolding expr_of
expr-Or a b =
    ap expr_of (sym (expr.rolls-Or a b)) ∙ fold-roll-SymExpr PlainExpr PlainPlace expr_step place_step (open_expr.Or a b)

pub expr-Cond : (a : SymExpr) (b : SymExpr) (c : SymExpr) → expr_of (expr.Cond a b c) ≡ conditional (expr_of a) (expr_of b) (expr_of c)
unfolding expr_of
expr-Cond a b c =
    ap expr_of (sym (expr.rolls-Cond a b c)) ∙ fold-roll-SymExpr PlainExpr PlainPlace expr_step place_step (open_expr.Cond a b c)

pub expr-New : (m : MethodRef) (args : List SymExpr) → expr_of (expr.New m args) ≡ new_object (method_ref_of m) (exprs_of args)
unfolding expr_of
expr-New m args =
    ap expr_of (sym (expr.rolls-New m args)) ∙ fold-roll-SymExpr PlainExpr PlainPlace expr_step place_step (open_expr.New m args)

pub expr-NewArray : (t : Ty) (n : SymExpr) → expr_of (expr.NewArray t n) ≡ new_array (ty_of t) (expr_of n)
unfolding expr_of
expr-NewArray t n =
    ap expr_of (sym (expr.rolls-NewArray t n)) ∙ fold-roll-SymExpr PlainExpr PlainPlace expr_step place_step (open_expr.NewArray t n)

pub expr-CallStatic : (m : MethodRef) (args : List SymExpr) → expr_of (expr.CallStatic m args) ≡ call_static (method_ref_of m) (exprs_of args)
unfolding expr_of
expr-CallStatic m args =
    ap expr_of (sym (expr.rolls-CallStatic m args)) ∙ fold-roll-SymExpr PlainExpr PlainPlace expr_step place_step (open_expr.CallStatic m args)

pub expr-CallVirtual : (t : SymExpr) (m : MethodRef) (args : List SymExpr) → expr_of (expr.CallVirtual t m args) ≡ call_virtual (expr_of t) (method_ref_of m) (exprs_of args)
unfolding expr_of
expr-CallVirtual t m args =
    ap expr_of (sym (expr.rolls-CallVirtual t m args)) ∙ fold-roll-SymExpr PlainExpr PlainPlace expr_step place_step (open_expr.CallVirtual t m args)

pub expr-CallInterface : (t : SymExpr) (m : MethodRef) (args : List SymExpr) → expr_of (expr.CallInterface t m args) ≡ call_interface (expr_of t) (method_ref_of m) (exprs_of args)
unfolding expr_of
expr-CallInterface t m args =
    ap expr_of (sym (expr.rolls-CallInterface t m args)) ∙ fold-roll-SymExpr PlainExpr PlainPlace expr_step place_step (open_expr.CallInterface t m args)

pub expr-CallSpecial : (m : MethodRef) (args : List SymExpr) → expr_of (expr.CallSpecial m args) ≡ call_special (method_ref_of m) (exprs_of args)
unfolding expr_of
expr-CallSpecial m args =
    ap expr_of (sym (expr.rolls-CallSpecial m args)) ∙ fold-roll-SymExpr PlainExpr PlainPlace expr_step place_step (open_expr.CallSpecial m args)

pub expr-Cast : (t : Ty) (a : SymExpr) → expr_of (expr.Cast t a) ≡ cast (ty_of t) (expr_of a)
unfolding expr_of
expr-Cast t a =
    ap expr_of (sym (expr.rolls-Cast t a)) ∙ fold-roll-SymExpr PlainExpr PlainPlace expr_step place_step (open_expr.Cast t a)

pub expr-Widen : (t : Ty) (a : SymExpr) → expr_of (expr.Widen t a) ≡ widen (ty_of t) (expr_of a)
unfolding expr_of
expr-Widen t a =
    ap expr_of (sym (expr.rolls-Widen t a)) ∙ fold-roll-SymExpr PlainExpr PlainPlace expr_step place_step (open_expr.Widen t a)

pub expr-InstanceOf : (a : SymExpr) (t : Ty) → expr_of (expr.InstanceOf a t) ≡ instance_of (expr_of a) (ty_of t)
unfolding expr_of
expr-InstanceOf a t =
    ap expr_of (sym (expr.rolls-InstanceOf a t)) ∙ fold-roll-SymExpr PlainExpr PlainPlace expr_step place_step (open_expr.InstanceOf a t)

pub expr-Then : (a : SymExpr) (null_test : Bool) (b : SymExpr) → expr_of (expr.Then a null_test b) ≡ first_then (expr_of a) null_test (expr_of b)
unfolding expr_of
expr-Then a null_test b =
    ap expr_of (sym (expr.rolls-Then a null_test b)) ∙ fold-roll-SymExpr PlainExpr PlainPlace expr_step place_step (open_expr.Then a null_test b)

pub expr-Print : (k : PrintKind) (args : List SymExpr) → expr_of (expr.Print k args) ≡ print k (exprs_of args)
unfolding expr_of
expr-Print k args =
    ap expr_of (sym (expr.rolls-Print k args)) ∙ fold-roll-SymExpr PlainExpr PlainPlace expr_step place_step (open_expr.Print k args)

pub place-Local : (n : ℕ) → place_of (place.Local n) ≡ local_place n
unfolding place_of expr_of
place-Local n =
    ap place_of (sym (place.rolls-Local n)) ∙ fold-roll-UpdatePlace PlainExpr PlainPlace expr_step place_step (open_expr.«UpdatePlace::Local» n)

pub place-Static : (f : FieldRef) → place_of (place.Static f) ≡ static_place (field_ref_of f)
unfolding place_of expr_of
place-Static f =
    ap place_of (sym (place.rolls-Static f)) ∙ fold-roll-UpdatePlace PlainExpr PlainPlace expr_step place_step (open_expr.Static f)

pub place-Field : (t : SymExpr) (f : FieldRef) → place_of (place.Field t f) ≡ field_place (expr_of t) (field_ref_of f)
unfolding place_of expr_of
place-Field t f =
    ap place_of (sym (place.rolls-Field t f)) ∙ fold-roll-UpdatePlace PlainExpr PlainPlace expr_step place_step (open_expr.Field t f)

pub place-Elem : (a : SymExpr) (i : SymExpr) → place_of (place.Elem a i) ≡ element_place (expr_of a) (expr_of i)
unfolding place_of expr_of
place-Elem a i =
    ap place_of (sym (place.rolls-Elem a i)) ∙ fold-roll-UpdatePlace PlainExpr PlainPlace expr_step place_step (open_expr.Elem a i)

-- a catch's fold is its plain form
catch-is : (c : SymCatch) → fold-SymCatch PlainStmt PlainCatch stmt_step catch_step c ≡ catch_of c
unfolding stmt_of
catch-is c = fold_out-SymCatch PlainStmt PlainCatch stmt_step catch_step c

catches-are : (cs : List SymCatch) → map (fold-SymCatch PlainStmt PlainCatch stmt_step catch_step) cs ≡ map catch_of cs
catches-are [] = refl
catches-are (c ∷ cs) = λ i. catch-is c i ∷ catches-are cs i

pub stmt-Expr : (e : SymExpr) → stmt_of (stmt.Expr e) ≡ evaluate (expr_of e)
unfolding stmt_of
stmt-Expr e =
    ap stmt_of (sym (stmt.rolls-Expr e)) ∙ fold-roll-SymStmt PlainStmt PlainCatch stmt_step catch_step (open_stmt.Expr e)

pub stmt-If : (c : SymExpr) (a : SymStmt) (b : SymStmt) → stmt_of (stmt.If c a b) ≡ if_else (expr_of c) (stmt_of a) (stmt_of b)
unfolding stmt_of
stmt-If c a b =
    ap stmt_of (sym (stmt.rolls-If c a b)) ∙ fold-roll-SymStmt PlainStmt PlainCatch stmt_step catch_step (open_stmt.If c a b)

pub stmt-Loop : (test_last : Bool) (c : SymExpr) (body : SymStmt) (again : List SymExpr) → stmt_of (stmt.Loop test_last c body again) ≡ loop test_last (expr_of c) (stmt_of body) (exprs_of again)
unfolding stmt_of
stmt-Loop test_last c body again =
    ap stmt_of (sym (stmt.rolls-Loop test_last c body again)) ∙ fold-roll-SymStmt PlainStmt PlainCatch stmt_step catch_step (open_stmt.Loop test_last c body again)

pub stmt-Break : stmt_of stmt.Break ≡ break_loop
unfolding stmt_of
stmt-Break =
    ap stmt_of (sym stmt.rolls-Break) ∙ fold-roll-SymStmt PlainStmt PlainCatch stmt_step catch_step open_stmt.Break

pub stmt-Continue : stmt_of stmt.Continue ≡ continue_loop
unfolding stmt_of
stmt-Continue =
    ap stmt_of (sym stmt.rolls-Continue) ∙ fold-roll-SymStmt PlainStmt PlainCatch stmt_step catch_step open_stmt.Continue

pub stmt-Return : (v : Option SymExpr) → stmt_of (stmt.Return v) ≡ return_with (option_of v)
unfolding stmt_of
stmt-Return v =
    ap stmt_of (sym (stmt.rolls-Return v)) ∙ fold-roll-SymStmt PlainStmt PlainCatch stmt_step catch_step (open_stmt.Return v)

pub stmt-Throw : (v : SymExpr) → stmt_of (stmt.Throw v) ≡ throw (expr_of v)
unfolding stmt_of
stmt-Throw v =
    ap stmt_of (sym (stmt.rolls-Throw v)) ∙ fold-roll-SymStmt PlainStmt PlainCatch stmt_step catch_step (open_stmt.Throw v)

pub stmt-Try : (body : List SymStmt) (handlers : List SymCatch) → stmt_of (stmt.Try body handlers) ≡ try_catch (stmts_of body) (catches_of handlers)
unfolding stmt_of
stmt-Try body handlers =
    ap stmt_of (sym (stmt.rolls-Try body handlers)) ∙ fold-roll-SymStmt PlainStmt PlainCatch stmt_step catch_step (open_stmt.Try body handlers) ∙ ap (λ l. try_catch (stmts_of body) (catches_from l)) (catches-are handlers)

pub stmt-Block : (body : List SymStmt) → stmt_of (stmt.Block body) ≡ block (stmts_of body)
unfolding stmt_of
stmt-Block body =
    ap stmt_of (sym (stmt.rolls-Block body)) ∙ fold-roll-SymStmt PlainStmt PlainCatch stmt_step catch_step (open_stmt.Block body)

pub ruleset tree_rules = (ty-Int, ty-Bool, ty-Void, ty-Class, ty-Array, expr-Int, expr-Bool, expr-Null, expr-Local, expr-SetLocal, expr-GetStatic, expr-SetStatic, expr-GetField, expr-SetField, expr-GetElem, expr-SetElem, expr-Length, expr-Update, expr-Unary, expr-Binary, expr-And, expr-Or, expr-Cond, expr-New, expr-NewArray, expr-CallStatic, expr-CallVirtual, expr-CallInterface, expr-CallSpecial, expr-Cast, expr-Widen, expr-InstanceOf, expr-Then, expr-Print, place-Local, place-Static, place-Field, place-Elem, stmt-Expr, stmt-If, stmt-Loop, stmt-Break, stmt-Continue, stmt-Return, stmt-Throw, stmt-Try, stmt-Block)
