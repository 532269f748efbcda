-- What a node is worth as a constant by what its parts are, and that a result is valued.
use Rattle.std.proofs.Common.{◌≡◌, refl, sym, ◌∙◌, ap, ℕ, Bool, true, false, ◌&&◌, ◌||◌, cond, List, [], ◌∷◌, Option, None, Some, if◌then◌else◌}
use Rattle.std.specs.Option.{option_and_then, is_none}
use Rattle.std.specs.List.{find, list_any, flat_map}
use Rattle.bcj_parser_trees.specs.declared.names.TypeName.{TypeName}
use Rattle.bcj_parser_trees.specs.declared.expression.UnaryOp.{UnaryOp}
use Rattle.bcj_parser_trees.specs.declared.expression.UnaryOp.TheVariants as unop
use Rattle.bcj_parser_trees.specs.declared.expression.BinOp.{BinOp}
use Rattle.bcj_parser_trees.specs.Trees as source
use Rattle.bcj_decl_rules.specs.declared.value.Value.{Value}
use Rattle.bcj_decl_rules.specs.World.{Named, Field, Declared, World, is_named, type_named, has_type, type_of}
use Rattle.bcj_decl_rules.specs.Members.{fields_at, visits, field_of}
use Rattle.bcj_decl_rules.specs.Constants.{unary_value, binary_value, chosen_value, of_type}
use Rattle.bcj_decl_rules.specs.function.Constants.{least_int, spells_least, value_in}
use Rattle.bcj_typing_rules.specs.Context.{Context, world_at, Meaning, a_local, a_field, no_variable, Local, local_named, field_or_none, meaning_in, meaning_of, is_no_variable, type_before_dot, names_no_local}
use Rattle.bcj_typing_rules.specs.function.Expressions.{Answers, value_here}

-- ---- by parts

-- a value that hangs on whether a name is a local
one_part : (f : Value → Option Value) (b : Bool) (v : Option Value) → (if b then option_and_then f v else None) ≡ option_and_then f (if b then v else None)
one_part f true v = refl
one_part f false v = refl

-- the same of two
two_parts : (f : Value → Value → Option Value) (b d : Bool) (v w : Option Value)
    → (if b && d then option_and_then (λ x. option_and_then (f x) w) v else None)
    ≡ option_and_then (λ x. option_and_then (f x) (if d then w else None)) (if b then v else None)
two_parts f true true v w = refl
two_parts f true false None w = refl
two_parts f true false (Some x) w = refl
two_parts f false d v w = refl

-- and of three
three_parts : (f : Value → Value → Value → Option Value) (b d e : Bool) (u v w : Option Value)
    → (if b && (d && e) then option_and_then (λ t. option_and_then (λ x. option_and_then (f t x) w) v) u else None)
    ≡ option_and_then (λ t. option_and_then (λ x. option_and_then (f t x) (if e then w else None)) (if d then v else None)) (if b then u else None)
three_parts f true true true u v w = refl
three_parts f true true false None v w = refl
three_parts f true true false (Some t) None w = refl
three_parts f true true false (Some t) (Some x) w = refl
three_parts f true false e None v w = refl
three_parts f true false e (Some t) v w = refl
three_parts f false d e u v w = refl

-- no value hangs on nothing
none_either : (b : Bool) → let none : Option Value = None in (if b then none else none) ≡ none
none_either true = refl
none_either false = refl

-- ---- names

-- what a name is worth by what it means
abbrev pub meaning_value : Answers → Meaning → Option Value
meaning_value a (a_field f) = a.constant f
meaning_value a _ = None

-- a local has none, and a field its own
name_value : (a : Answers) (l : Option Local) (f : Option Field) → (if is_none l then option_and_then a.constant f else None) ≡ meaning_value a (meaning_in l f)
name_value a None None = refl
name_value a None (Some f) = refl
name_value a (Some l) f = refl

-- a type that is not there is not found
not_found : (w : List Declared) (x : Named) → list_any (is_named x) w ≡ false → find (is_named x) w ≡ None
not_found [] x h = refl
not_found (t ∷ w) x h = by (is_named x t) (not_found w x) h
  where
    by : (b : Bool) → (list_any (is_named x) w ≡ false → find (is_named x) w ≡ None) → (b || list_any (is_named x) w) ≡ false → cond b (Some t) (find (is_named x) w) ≡ None
    by true rest k = cc
    by false rest k = rest k

-- and has no fields
no_field : (w : World) (x name : Named) → has_type w x ≡ false → field_of w x name ≡ None
unfolding field_of
no_field w x name h = ap (option_and_then (λ t. find (λ f. true) (flat_map (fields_at name) (visits w t)))) (not_found w x h)

-- what a name behind a simple one is worth, where a type has the simple name
behind_type : (w : World) (a : Answers) (x name class : Named) (l : Option Local) (f : Option Field) (b : Bool)
    → (if is_no_variable (meaning_in l f) && b then Some x else None) ≡ Some class
    → (if is_none l then (if is_none f then option_and_then a.constant (field_of w x name) else None) else None) ≡ option_and_then a.constant (field_of w class name)
behind_type w a x name class None None true h = let same : x ≡ class = cc in ap (λ n. option_and_then a.constant (field_of w n name)) same
behind_type w a x name class None None false h = cc
behind_type w a x name class None (Some f) b h = cc
behind_type w a x name class (Some l) f b h = cc

-- what it is worth where no type has it
behind_value : (w : World) (a : Answers) (x name : Named) (l : Option Local) (f : Option Field) (b : Bool) → has_type w x ≡ b
    → (if is_no_variable (meaning_in l f) && b then Some x else None) ≡ None
    → (if is_none l then (if is_none f then option_and_then a.constant (field_of w x name) else None) else None) ≡ None
behind_value w a x name None None true t h = cc
behind_value w a x name None None false t h = ap (option_and_then a.constant) (no_field w x name t)
behind_value w a x name None (Some f) b t h = refl
behind_value w a x name (Some l) f b t h = refl

module _ (a : Answers) (c : Context) where
  -- the least int with its sign
  pub least_worth : (at : ℕ) (o : UnaryOp) (e : source.PlainExpr) → spells_least o e ≡ true → value_here a c (source.unary at o e) ≡ Some least_int
  least_worth at unop.Minus (source.int_literal from n decimal) h = ap (λ b. if b then Some least_int else option_and_then (unary_value unop.Minus) (value_in (world_at c) a.constant c.class (source.int_literal from n decimal))) h
  least_worth at unop.Minus e h = cc
  least_worth at o e h = cc

  -- another operator before its operand
  pub unary_worth : (at : ℕ) (o : UnaryOp) (e : source.PlainExpr) → spells_least o e ≡ false
      → value_here a c (source.unary at o e) ≡ option_and_then (unary_value o) (value_here a c e)
  unary_worth at o e h =
      ap (λ b. if names_no_local c e then (if b then Some least_int else option_and_then (unary_value o) (value_in (world_at c) a.constant c.class e)) else None) h
      ∙ one_part (unary_value o) (names_no_local c e) (value_in (world_at c) a.constant c.class e)

  -- an operator between operands
  pub binary_worth : (at : ℕ) (o : BinOp) (x y : source.PlainExpr)
      → value_here a c (source.binary at o x y) ≡ option_and_then (λ v. option_and_then (binary_value o v) (value_here a c y)) (value_here a c x)
  binary_worth at o x y =
      two_parts (binary_value o) (names_no_local c x) (names_no_local c y) (value_in (world_at c) a.constant c.class x) (value_in (world_at c) a.constant c.class y)

  -- a cast
  pub cast_worth : (at : ℕ) (ty : TypeName) (e : source.PlainExpr) → value_here a c (source.cast at ty e) ≡ option_and_then (of_type (type_of ty)) (value_here a c e)
  cast_worth at ty e = one_part (of_type (type_of ty)) (names_no_local c e) (value_in (world_at c) a.constant c.class e)

  -- a choice of two values
  pub conditional_worth : (at : ℕ) (t x y : source.PlainExpr)
      → value_here a c (source.conditional at t x y)
      ≡ option_and_then (λ u. option_and_then (λ v. option_and_then (chosen_value u v) (value_here a c y)) (value_here a c x)) (value_here a c t)
  conditional_worth at t x y =
      three_parts chosen_value (names_no_local c t) (names_no_local c x) (names_no_local c y) (value_in (world_at c) a.constant c.class t)
      (value_in (world_at c) a.constant c.class x) (value_in (world_at c) a.constant c.class y)

  -- a simple name
  pub name_worth : (at : ℕ) (x : Named) → value_here a c (source.simple_name at x) ≡ meaning_value a (meaning_of c x)
  name_worth at x = name_value a (local_named c.locals x) (field_of (world_at c) c.class x)

  -- a name behind the name of a type
  pub type_dot_worth : (at : ℕ) (e : source.PlainExpr) (name class : Named) → type_before_dot c e ≡ Some class
      → value_here a c (source.dot at e name) ≡ option_and_then a.constant (field_of (world_at c) class name)
  type_dot_worth at (source.simple_name from x) name class h =
      behind_type (world_at c) a x name class (local_named c.locals x) (field_of (world_at c) c.class x) (has_type (world_at c) x) h
  type_dot_worth at e name class h = cc

  -- a name behind a value
  pub dot_worth : (at : ℕ) (e : source.PlainExpr) (name : Named) → type_before_dot c e ≡ None → value_here a c (source.dot at e name) ≡ None
  dot_worth at (source.simple_name from x) name h =
      behind_value (world_at c) a x name (local_named c.locals x) (field_of (world_at c) c.class x) (has_type (world_at c) x) refl h
  dot_worth at e name h = none_either (names_no_local c e)
