-- The first node, in text order with parts before the whole, that the language that runs today lacks, or that breaks a
-- rule on names, numbers, nesting or locals. A node is judged behind its parts.
use Rattle.std.specs.Prelude.{ℕ, ◌-◌, Bool, true, false, not, ◌&&◌, nat_le, nat_lt, List, [], ◌∷◌, Option, None, Some, if◌then◌else◌, codes, bytes_eq}
use Rattle.bcj_parser_trees.specs.declared.names.TypeName.{TypeName}
use Rattle.bcj_parser_trees.specs.Trees.{PlainExpr, int_literal, bool_literal, null_literal, this_value, simple_name, paren, dot, super_field, call, dot_call, super_call, new_object, new_array, element, unary, step, cast, binary, instance_of, conditional, assign, PlainExprs, no_exprs, more_exprs, PlainOption, absent, present, PlainStmt, local_variable, block, empty, evaluate, if_else, while_loop, do_loop, for_loop, return_with, throw, break_loop, continue_loop, try_catch, PlainStmts, no_stmts, more_stmts, PlainElse, no_else, else_with, PlainCatches, no_catches, more_catches, PlainCatch, catch_of_class, PlainBody, no_body, with_body, PlainFirst, no_first, first_call, PlainMember, field_member, method_member, constructor_member, static_member, PlainUnit}
use Rattle.bcj_cli_language.specs.Bounds.{max_int, max_blocks, max_locals}
use Rattle.bcj_cli_unit.specs.Limits.{max_parentheses}
use Rattle.bcj_cli_unit.specs.Kinds.{is_among, is_sum, joins, is_test, is_out, is_print, assigns, is_evaluation, is_present_sum, is_int, is_block, is_choice, is_main, is_main_class}

abbrev pub first_of : Option ℕ → Option ℕ → Option ℕ
first_of None other = other
first_of (Some at) other = Some at

-- the node at this place, unless it is in order
abbrev pub unless : Bool → ℕ → Option ℕ
unless true at = None
unless false at = Some at

-- ---- expressions: these locals are in scope, and parentheses may nest d deep

module _ (names : List (List ℕ)) where
  abbrev mutual
    pub lacking : ℕ → PlainExpr → Option ℕ
    lacking d (int_literal at n decimal) = unless (nat_le n max_int) at
    lacking d (bool_literal at b) = Some at
    lacking d (null_literal at) = Some at
    lacking d (this_value at) = Some at
    lacking d (simple_name at x) = unless (is_among names x) at
    lacking d (paren at e) = first_of (lacking (d - 1) e) (unless (nat_lt 0 d && is_sum e) at)
    lacking d (dot at e x) = first_of (lacking d e) (Some at)
    lacking d (super_field at x) = Some at
    lacking d (call at x es) = first_of (all_lacking d es) (Some at)
    lacking d (dot_call at e x es) = first_of (if is_out e then None else lacking d e) (first_of (all_lacking d es) (unless (is_print e x es) at))
    lacking d (super_call at x es) = first_of (all_lacking d es) (Some at)
    lacking d (new_object at x es) = first_of (all_lacking d es) (Some at)
    lacking d (new_array at b e n) = first_of (lacking d e) (Some at)
    lacking d (element at a e) = first_of (lacking d a) (first_of (lacking d e) (Some at))
    lacking d (unary at o e) = first_of (lacking d e) (Some at)
    lacking d (step at plus post e) = first_of (lacking d e) (Some at)
    lacking d (cast at ty e) = first_of (lacking d e) (Some at)
    lacking d (binary at o l r) = first_of (lacking d l) (first_of (lacking d r) (unless (joins o l r) at))
    lacking d (instance_of at e ty) = first_of (lacking d e) (Some at)
    lacking d (conditional at t a b) = first_of (lacking d t) (first_of (lacking d a) (first_of (lacking d b) (Some at)))
    lacking d (assign at o place e) = first_of (lacking d place) (first_of (lacking d e) (unless (assigns o place e) at))

    pub all_lacking : ℕ → PlainExprs → Option ℕ
    all_lacking d no_exprs = None
    all_lacking d (more_exprs e es) = first_of (lacking d e) (all_lacking d es)

abbrev pub lacking_in : List (List ℕ) → PlainExpr → Option ℕ
lacking_in names e = lacking names max_parentheses e

abbrev pub option_lacking : List (List ℕ) → PlainOption → Option ℕ
option_lacking names absent = None
option_lacking names (present e) = lacking_in names e

-- ---- statements

-- the locals in scope before a statement, the one declared last first, and how many more may be declared
pub record ScopeState : Type 0 where
  pub names : List (List ℕ)
  pub left : ℕ

-- at a body's begin
abbrev pub start : ScopeState
start = record { names = []; left = max_locals }

-- behind a block its own locals are gone
abbrev pub leave : ScopeState → ScopeState → ScopeState
leave p q = record { names = p.names; left = q.left }

-- behind a statement of the language, and behind statements
abbrev mutual
  pub behind : ScopeState → PlainStmt → ScopeState
  behind p (local_variable at ty x init) = record { names = x ∷ p.names; left = p.left - 1 }
  behind p (block at ss) = leave p (behind_all p ss)
  behind p (if_else at c first second) = else_behind (behind p first) second
  behind p (while_loop at c s) = behind p s
  behind p _ = p

  pub behind_all : ScopeState → PlainStmts → ScopeState
  behind_all p no_stmts = p
  behind_all p (more_stmts s ss) = behind_all (behind p s) ss

  pub else_behind : ScopeState → PlainElse → ScopeState
  else_behind p no_else = p
  else_behind p (else_with s) = behind p s

-- `int x = e`, where x is new in its scope, and isn't the class with the standard output
abbrev pub may_declare : ScopeState → TypeName → List ℕ → PlainOption → Bool
may_declare p ty x init =
    is_int ty && (is_present_sum init && (not (is_among p.names x) && (not (bytes_eq x (codes "System")) && nat_lt 0 p.left)))

-- Blocks may nest b deep further. A block stands only as a body of another statement, which `body` says of this one.
abbrev mutual
  pub lacks : Bool → ℕ → ScopeState → PlainStmt → Option ℕ
  lacks body b p (local_variable at ty x init) = first_of (option_lacking p.names init) (unless (may_declare p ty x init) at)
  lacks body b p (block at ss) = first_of (all_lacks (b - 1) p ss) (unless (body && nat_lt 0 b) at)
  lacks body b p (empty at) = Some at
  lacks body b p (evaluate at e) = first_of (lacking_in p.names e) (unless (is_evaluation e) at)
  lacks body b p (if_else at c first second) = first_of (lacking_in p.names c)
      (first_of (lacks true b p first) (first_of (else_lacks b (behind p first) second) (unless (is_choice c first second) at)))
  lacks body b p (while_loop at c s) = first_of (lacking_in p.names c) (first_of (lacks true b p s) (unless (is_test c && is_block s) at))
  lacks body b p (do_loop at s c) = first_of (lacks true b p s) (first_of (lacking_in (behind p s).names c) (Some at))
  lacks body b p (for_loop at init c update s) = first_of (all_lacks b p init) (first_of (option_lacking (behind_all p init).names c)
      (first_of (all_lacking (behind_all p init).names max_parentheses update) (first_of (lacks true b (behind_all p init) s) (Some at))))
  lacks body b p (return_with at e) = first_of (option_lacking p.names e) (Some at)
  lacks body b p (throw at e) = first_of (lacking_in p.names e) (Some at)
  lacks body b p (break_loop at) = Some at
  lacks body b p (continue_loop at) = Some at
  lacks body b p (try_catch at ss catches) = first_of (all_lacks b p ss) (first_of (catches_lack b (leave p (behind_all p ss)) catches) (Some at))

  pub all_lacks : ℕ → ScopeState → PlainStmts → Option ℕ
  all_lacks b p no_stmts = None
  all_lacks b p (more_stmts s ss) = first_of (lacks false b p s) (all_lacks b (behind p s) ss)

  pub else_lacks : ℕ → ScopeState → PlainElse → Option ℕ
  else_lacks b p no_else = None
  else_lacks b p (else_with s) = lacks true b p s

  pub catches_lack : ℕ → ScopeState → PlainCatches → Option ℕ
  catches_lack b p no_catches = None
  catches_lack b p (more_catches c cs) = first_of (catch_lacks b p c) (catches_lack b (catch_behind p c) cs)

  pub catch_lacks : ℕ → ScopeState → PlainCatch → Option ℕ
  catch_lacks b p (catch_of_class class x ss) = all_lacks b p ss

  pub catch_behind : ScopeState → PlainCatch → ScopeState
  catch_behind p (catch_of_class class x ss) = leave p (behind_all p ss)

-- ---- members, classes and units

abbrev pub body_lacks : PlainStmts → Option ℕ
body_lacks ss = all_lacks max_blocks start ss

abbrev pub method_lacks : PlainBody → Option ℕ
method_lacks no_body = None
method_lacks (with_body ss) = body_lacks ss

abbrev pub first_lacks : PlainFirst → Option ℕ
first_lacks no_first = None
first_lacks (first_call at to_super es) = first_of (all_lacking [] max_parentheses es) (Some at)

abbrev pub member_lacks : PlainMember → Option ℕ
member_lacks (field_member at mods ty x init) = first_of (option_lacking [] init) (Some at)
member_lacks (method_member at mods ty x params throws body) = first_of (method_lacks body) (unless (is_main mods ty x params throws body) at)
member_lacks (constructor_member at mods x params throws first ss) = first_of (first_lacks first) (first_of (body_lacks ss) (Some at))
member_lacks (static_member at ss) = first_of (body_lacks ss) (Some at)

abbrev pub members_lack : List PlainMember → Option ℕ
members_lack [] = None
members_lack (m ∷ ms) = first_of (member_lacks m) (members_lack ms)

-- there is no second type
abbrev pub others_lack : PlainUnit → Option ℕ
others_lack [] = None
others_lack (t ∷ ts) = first_of (members_lack t.members) (Some t.at)

-- a unit without types lacks its class at 0
abbrev pub first_lacking : List ℕ → PlainUnit → Option ℕ
first_lacking main [] = Some 0
first_lacking main (t ∷ ts) = first_of (members_lack t.members) (first_of (unless (is_main_class main t) t.at) (others_lack ts))
