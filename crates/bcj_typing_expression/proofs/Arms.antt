-- What a node is by its typed parts.
use Rattle.std.proofs.Common.{◌≡◌, refl, sym, ◌∙◌, ap, subst, ℕ, pos, Bool, true, false, not, ◌&&◌, ◌||◌, List, [], ◌∷◌, ◌++◌, Option, None, Some, option_map, Result, Ok, Err, IfOk, if◌then◌else◌}
use Rattle.std.specs.Option.{option_and_then, is_some}
use Rattle.bcj_parser_trees.specs.declared.names.Base.{Base}
use Rattle.bcj_parser_trees.specs.declared.names.TypeName.{TypeName}
use Rattle.bcj_parser_trees.specs.declared.expression.UnaryOp.{UnaryOp}
use Rattle.bcj_parser_trees.specs.declared.expression.BinOp.{BinOp}
use Rattle.bcj_parser_trees.specs.Trees as source
use Rattle.bcj_symbolic_trees.specs.Trees as tree
use Rattle.bcj_symbolic_trees.specs.Types.{PlainTy, int_type, bool_type, class_type, PlainArg, given, null_arg, arg_of}
use Rattle.bcj_symbolic_trees.specs.Plain.{expr_of}
use Rattle.bcj_symbolic_trees.specs.Names.{constructor_name}
use Rattle.bcj_decl_rules.specs.declared.value.Value.{Value}
use Rattle.bcj_decl_rules.specs.declared.value.Value.TheVariants as value
use Rattle.bcj_decl_rules.specs.World.{Named, Field, has_type, type_of}
use Rattle.bcj_decl_rules.specs.Subtypes.{is_reference}
use Rattle.bcj_decl_rules.specs.Members.{field_of}
use Rattle.bcj_decl_rules.specs.Methods.{Choice}
use Rattle.bcj_decl_rules.specs.Faults.{is_static}
use Rattle.bcj_decl_rules.specs.Constants.{literal_value, unary_value, binary_value, chosen_value, of_type}
use Rattle.bcj_decl_rules.specs.function.Constants.{least_int, spells_least}
use Rattle.bcj_typing_rules.specs.declared.kind.Kind.{Kind}
use Rattle.bcj_typing_rules.specs.declared.kind.Kind.TheVariants as kind
use Rattle.bcj_typing_rules.specs.Premises.{Need, need, earliest_missing}
use Rattle.bcj_typing_rules.specs.Context.{Context, world_at, has_this, Meaning, meaning_of, type_before_dot, is_known, superclass_at, is_interface, is_abstract_type, is_open, Way, otherwise, way_behind, is_assignable}
use Rattle.bcj_typing_rules.specs.Operators.{is_int, is_bool, is_object, unary_takes, unary_gives, unary_tree, binary_takes, binary_gives, type_or_void, node_operator, binary_tree, compound_takes}
use Rattle.bcj_typing_rules.specs.Casting.{CastForm, Join, uses}
use Rattle.bcj_typing_rules.specs.Expressions as rules
use Rattle.bcj_typing_rules.specs.Expressions.{typing, valued, this_tree, field_ref, name_needs, name_typing, name_placing, type_field_typing, behind_field_typing, array_size, of_class, no_member, member_of, super_field_typing, choice_needs, choice_typing, type_call_needs, type_call, method_ref, called, behind_call_tree, trees_in, steps_in, super_call_needs, super_method_call, class_step, new_typing, class_of_value, cast_tree, cast_steps, is_cast, is_joined, joined_type, joined_steps, element_type, element_or_void, array_of, array_name, literal_tree, least_tree, set_place, behind, place_needs, step_operator, update, compound_tree}
use Rattle.bcj_typing_rules.specs.function.Expressions.{Outcome, result, fault, and_then, settled, Answers, fits, join_of, go_together, cast_form, value_here, chosen, together, type_expr, type_exprs, type_place}
use Rattle.bcj_typing_node.specs.declared.miss.Miss.{Miss}
use Rattle.bcj_typing_node.specs.declared.miss.Miss.TheVariants.{Untyped, NoMemory}
use Rattle.bcj_typing_node.specs.declared.typing.Typing.{Typing}
use Rattle.bcj_typing_node.specs.declared.typing.Placing.{Placing}
use Rattle.bcj_typing_node.specs.Outcomes.{Tells, Judges, Places}
use Rattle.bcj_typing_node.specs.Typings.{pairs_of, typing_of, typings_of, placing_of}
use Rattle.bcj_typing_expression.specs.Typed.{IsTyped, AreTyped, IsPlaced, Types, TypesPlace}
use Rattle.bcj_typing_expression.proofs.Worths.{meaning_value, name_worth, least_worth, unary_worth, binary_worth, cast_worth, conditional_worth, type_dot_worth, dot_worth}
use Rattle.bcj_typing_expression.proofs.Valued.{paren_typing}

-- what a node is judged by
pub record Judged (at : ℕ) (needs : List Need) (v : Option Value) (t : rules.Typing) (r : Result Typing Miss) : Type 0 where
  pub judges : Judges at needs v t r

-- the same of a variable that is assigned
pub record Placed (at : ℕ) (needs : List Need) (p : rules.Placing) (r : Result Placing Miss) : Type 0 where
  pub places : Places at needs p r

-- a part at fault is that of the whole
pub fails : {R S A B : Type 0} (of : R → A) (into : S → B) (o : Outcome A) (f : A → Outcome B) (m : Miss) → Tells of o (Err m) → Tells into (and_then o f) (Err m)
fails of into o f (Untyped at k) h = ap (λ p. and_then p f) h
fails of into o f NoMemory h = tt

module _ (a : Answers) (c : Context) where
  -- a node that is judged by what it needs is typed
  pub judged : (e : source.PlainExpr) (at : ℕ) {needs : List Need} {v : Option Value} {t : rules.Typing} {r : Result Typing Miss}
      → Judged at needs v t r → type_expr a c e ≡ settled at (earliest_missing needs) (valued (value_here a c e) t) → value_here a c e ≡ v → Types a c e r
  judged e at {needs} {v} {t} {r} j is worth = record {
    typing = subst (λ (o : Outcome rules.Typing). Tells typing_of o r) (sym (is ∙ ap (λ (w : Option Value). settled at (earliest_missing needs) (valued w t)) worth)) j.judges.0;
    worth = subst (λ (w : Option Value). IfOk r (λ (x : Typing). x.value ≡ w)) (sym worth) j.judges.1;
  }

  -- a node at fault
  pub lacking : (e : source.PlainExpr) (at : ℕ) (k : Kind) → type_expr a c e ≡ fault at k → Types a c e (Err (Untyped at k))
  lacking e at k is = record { typing = is; worth = tt }

  -- the same of a variable that is assigned
  pub placed : (e : source.PlainExpr) (at : ℕ) {needs : List Need} {p : rules.Placing} {r : Result Placing Miss}
      → Placed at needs p r → type_place a c e ≡ settled at (earliest_missing needs) p → TypesPlace a c e r
  placed e at {needs} {p} {r} j is = record { placing = subst (λ (o : Outcome rules.Placing). Tells placing_of o r) (sym is) j.places }

  -- ---- literals and names

  -- an integer literal
  pub int_types : (at n : ℕ) (decimal : Bool) (r : Result Typing Miss)
      → Judged at (need kind.Literal (is_some (literal_value n decimal)) ∷ []) (option_map value.Int (literal_value n decimal)) (typing (literal_tree (literal_value n decimal)) (given int_type) []) r
      → Types a c (source.int_literal at n decimal) r
  int_types at n decimal r j = judged (source.int_literal at n decimal) at j refl refl

  -- a boolean literal
  pub bool_types : (at : ℕ) (b : Bool) (r : Result Typing Miss)
      → Judged at ([]) (Some (value.Bool b)) (typing (tree.bool_value b) (given bool_type) []) r
      → Types a c (source.bool_literal at b) r
  bool_types at b r j = judged (source.bool_literal at b) at j refl refl

  -- the null literal
  pub null_types : (at : ℕ) (r : Result Typing Miss)
      → Judged at ([]) (None) (typing tree.null_value null_arg []) r
      → Types a c (source.null_literal at) r
  null_types at r j = judged (source.null_literal at) at j refl refl

  -- `this`
  pub this_types : (at : ℕ) (class : Named) (k : Bool) (r : Result Typing Miss)
      → class ≡ c.class → k ≡ has_this c
      → Judged at (need kind.Static k ∷ []) (None) (typing this_tree (given (class_type class)) []) r
      → Types a c (source.this_value at) r
  this_types at class k r ec ek j = judged (source.this_value at) at j (simp (ec, ek) refl) refl

  -- a simple name by what it means
  pub name_types : (at : ℕ) (x : Named) (m : Meaning) (v : Option Value) (r : Result Typing Miss)
      → m ≡ meaning_of c x → v ≡ meaning_value a m
      → Judged at (name_needs c m) (v) (name_typing c m) r
      → Types a c (source.simple_name at x) r
  name_types at x m v r em ev j = judged (source.simple_name at x) at j (simp em refl) (name_worth a c at x ∙ simp (ev, em) refl)

  -- parentheses change nothing
  pub paren_types : (at : ℕ) (e : source.PlainExpr) (r : Result Typing Miss) → Types a c e r → Types a c (source.paren at e) r
  paren_types at e r h = record { typing = subst (λ (o : Outcome rules.Typing). Tells typing_of o r) (sym (paren_typing a c at e)) h.typing; worth = h.worth }

  -- ---- fields

  -- a field behind the name of a type
  pub type_field_types : (at : ℕ) (e : source.PlainExpr) (name class : Named) (f : Field) (k : Bool) (v : Option Value) (r : Result Typing Miss)
      → type_before_dot c e ≡ Some class → field_of (world_at c) class name ≡ Some f → k ≡ is_open c f → v ≡ a.constant f
      → Judged at (need kind.Static f.is_static ∷ need kind.Access k ∷ []) (v) (type_field_typing class f) r
      → Types a c (source.dot at e name) r
  type_field_types at e name class f k v r d ef ek ev j = judged (source.dot at e name) at j (simp (d, ef, ek) refl) (type_dot_worth a c at e name class d ∙ simp (ef, ev) refl)

  -- none is there
  pub no_type_field : (at : ℕ) (e : source.PlainExpr) (name class : Named)
      → type_before_dot c e ≡ Some class → field_of (world_at c) class name ≡ None → Types a c (source.dot at e name) (Err (Untyped at kind.Name))
  no_type_field at e name class d ef = lacking (source.dot at e name) at kind.Name (simp (d, ef) refl)

  -- a field behind a value
  pub behind_field_types : (at : ℕ) (e : source.PlainExpr) (name class : Named) (t : Typing) (f : Field) (k : Bool) (v : Option Value) (r : Result Typing Miss)
      → type_before_dot c e ≡ None → IsTyped a c e t → member_of (arg_of t.ty) name ≡ of_class class → field_of (world_at c) class name ≡ Some f → k ≡ is_open c f → v ≡ a.constant f
      → Judged at (need kind.Access k ∷ []) (None) (behind_field_typing (typing_of t) class v f) r
      → Types a c (source.dot at e name) r
  behind_field_types at e name class t f k v r d h em ef ek ev j = judged (source.dot at e name) at j (simp (d, h.typing, em, ef, ek, ev) refl) (dot_worth a c at e name d)

  -- none is there
  pub no_behind_field : (at : ℕ) (e : source.PlainExpr) (name class : Named) (t : Typing)
      → type_before_dot c e ≡ None → IsTyped a c e t → member_of (arg_of t.ty) name ≡ of_class class → field_of (world_at c) class name ≡ None → Types a c (source.dot at e name) (Err (Untyped at kind.Name))
  no_behind_field at e name class t d h em ef = lacking (source.dot at e name) at kind.Name (simp (d, h.typing, em, ef) refl)

  -- the length of an array
  pub array_length_types : (at : ℕ) (e : source.PlainExpr) (name : Named) (t : Typing) (r : Result Typing Miss)
      → type_before_dot c e ≡ None → IsTyped a c e t → member_of (arg_of t.ty) name ≡ array_size
      → Judged at ([]) (None) (typing (tree.array_length (expr_of t.tree)) (given int_type) (pairs_of t.steps)) r
      → Types a c (source.dot at e name) r
  array_length_types at e name t r d h em j = judged (source.dot at e name) at j (simp (d, h.typing, em) refl) (dot_worth a c at e name d)

  -- a value without members
  pub no_member_types : (at : ℕ) (e : source.PlainExpr) (name : Named) (t : Typing)
      → type_before_dot c e ≡ None → IsTyped a c e t → member_of (arg_of t.ty) name ≡ no_member → Types a c (source.dot at e name) (Err (Untyped at kind.Name))
  no_member_types at e name t d h em = lacking (source.dot at e name) at kind.Name (simp (d, h.typing, em) refl)

  -- a field of the superclass
  pub super_field_types : (at : ℕ) (name class : Named) (f : Field) (k : Bool) (v : Option Value) (r : Result Typing Miss)
      → superclass_at c ≡ Some class → field_of (world_at c) class name ≡ Some f → k ≡ is_open c f → v ≡ a.constant f
      → Judged at (need kind.Static (has_this c) ∷ need kind.Access k ∷ []) (None) (super_field_typing c class v f) r
      → Types a c (source.super_field at name) r
  super_field_types at name class f k v r s ef ek ev j = judged (source.super_field at name) at j (simp (s, ef, ek, ev) refl) refl

  -- none is there
  pub no_super_field : (at : ℕ) (name class : Named)
      → superclass_at c ≡ Some class → field_of (world_at c) class name ≡ None → Types a c (source.super_field at name) (Err (Untyped at kind.Name))
  no_super_field at name class s ef = lacking (source.super_field at name) at kind.Name (simp (s, ef) refl)

  -- an interface has no superclass
  pub no_superclass_field : (at : ℕ) (name : Named)
      → superclass_at c ≡ None → Types a c (source.super_field at name) (Err (Untyped at kind.Name))
  no_superclass_field at name s = lacking (source.super_field at name) at kind.Name (simp s refl)

  -- ---- calls

  -- a call by a simple name
  pub own_call_types : (at : ℕ) (name class : Named) (es : source.PlainExprs) (ts : List Typing) (m : Choice) (k : Bool) (r : Result Typing Miss)
      → AreTyped a c es ts → class ≡ c.class → k ≡ has_this c → m ≡ chosen a c c.class name (typings_of ts)
      → Judged at (choice_needs (λ n. need kind.Static (is_static n || k) ∷ []) m) (None) (choice_typing (λ n. called (if is_static n then tree.call_static (method_ref class n) (trees_in (typings_of ts)) else tree.call_virtual this_tree (method_ref class n) (trees_in (typings_of ts))) n (typings_of ts) (steps_in (typings_of ts))) m) r
      → Types a c (source.call at name es) r
  own_call_types at name class es ts m k r hs ec ek em j = judged (source.call at name es) at j (simp (hs.typings, ec, ek, em) refl) refl

  -- a call behind the name of a type
  pub type_call_types : (at : ℕ) (e : source.PlainExpr) (name class : Named) (es : source.PlainExprs) (ts : List Typing) (m : Choice) (r : Result Typing Miss)
      → type_before_dot c e ≡ Some class → AreTyped a c es ts → m ≡ chosen a c class name (typings_of ts)
      → Judged at (choice_needs type_call_needs m) (None) (choice_typing (type_call class (typings_of ts)) m) r
      → Types a c (source.dot_call at e name es) r
  type_call_types at e name class es ts m r d hs em j = judged (source.dot_call at e name es) at j (simp (d, hs.typings, em) refl) refl

  -- a call behind a value
  pub behind_call_types : (at : ℕ) (e : source.PlainExpr) (name class : Named) (t : Typing) (es : source.PlainExprs) (ts : List Typing) (m : Choice) (k : Bool) (r : Result Typing Miss)
      → type_before_dot c e ≡ None → IsTyped a c e t → AreTyped a c es ts → class_of_value (arg_of t.ty) ≡ Some class → m ≡ chosen a c class name (typings_of ts) → k ≡ is_interface c class
      → Judged at (choice_needs (λ n. []) m) (None) (choice_typing (λ n. called (behind_call_tree k (expr_of t.tree) class (typings_of ts) n) n (typings_of ts) (pairs_of t.steps ++ steps_in (typings_of ts))) m) r
      → Types a c (source.dot_call at e name es) r
  behind_call_types at e name class t es ts m k r d h hs ec em ek j = judged (source.dot_call at e name es) at j (simp (d, h.typing, hs.typings, ec, em, ek) refl) refl

  -- a value without methods
  pub no_class_call : (at : ℕ) (e : source.PlainExpr) (name : Named) (t : Typing) (es : source.PlainExprs) (ts : List Typing)
      → type_before_dot c e ≡ None → IsTyped a c e t → AreTyped a c es ts → class_of_value (arg_of t.ty) ≡ None → Types a c (source.dot_call at e name es) (Err (Untyped at kind.Method))
  no_class_call at e name t es ts d h hs ec = lacking (source.dot_call at e name es) at kind.Method (simp (d, h.typing, hs.typings, ec) refl)

  -- a call of a method of the superclass
  pub super_call_types : (at : ℕ) (name class : Named) (es : source.PlainExprs) (ts : List Typing) (m : Choice) (r : Result Typing Miss)
      → superclass_at c ≡ Some class → AreTyped a c es ts → m ≡ chosen a c class name (typings_of ts)
      → Judged at (choice_needs (super_call_needs c) m) (None) (choice_typing (super_method_call c class (typings_of ts)) m) r
      → Types a c (source.super_call at name es) r
  super_call_types at name class es ts m r s hs em j = judged (source.super_call at name es) at j (simp (s, hs.typings, em) refl) refl

  -- an interface has no superclass
  pub no_superclass_call : (at : ℕ) (name : Named) (es : source.PlainExprs) (ts : List Typing)
      → superclass_at c ≡ None → AreTyped a c es ts → Types a c (source.super_call at name es) (Err (Untyped at kind.Method))
  no_superclass_call at name es ts s hs = lacking (source.super_call at name es) at kind.Method (simp (s, hs.typings) refl)

  -- a new object
  pub new_object_types : (at : ℕ) (class : Named) (es : source.PlainExprs) (ts : List Typing) (m : Choice) (k b : Bool) (r : Result Typing Miss)
      → AreTyped a c es ts → m ≡ chosen a c class constructor_name (typings_of ts) → k ≡ has_type (world_at c) class → b ≡ is_abstract_type c class
      → Judged at (need kind.Name k ∷ choice_needs (λ n. need kind.Abstract (not b) ∷ []) m) (None) (choice_typing (new_typing class (typings_of ts)) m) r
      → Types a c (source.new_object at class es) r
  new_object_types at class es ts m k b r hs em ek eb j = judged (source.new_object at class es) at j (simp (hs.typings, em, ek, eb) refl) refl

  -- ---- operators and arrays

  -- a new array
  pub new_array_types : (at : ℕ) (b : Base) (e : source.PlainExpr) (dims : ℕ) (t : Typing) (k : Bool) (u : PlainTy) (r : Result Typing Miss)
      → IsTyped a c e t → k ≡ is_known c (array_name b dims) → u ≡ array_of b dims
      → Judged at (need kind.Name k ∷ need kind.Operand (is_int (arg_of t.ty)) ∷ []) (None) (typing (tree.new_array u (expr_of t.tree)) (given u) (pairs_of t.steps)) r
      → Types a c (source.new_array at b e dims) r
  new_array_types at b e dims t k u r h ek eu j = judged (source.new_array at b e dims) at j (simp (h.typing, ek, eu) refl) refl

  -- an element of an array
  pub element_types : (at : ℕ) (x i : source.PlainExpr) (s t : Typing) (r : Result Typing Miss)
      → IsTyped a c x s → IsTyped a c i t
      → Judged at (need kind.Operand (is_some (element_type (arg_of s.ty)) && is_int (arg_of t.ty)) ∷ []) (None) (typing (tree.get_element (expr_of s.tree) (expr_of t.tree)) (given (element_or_void (arg_of s.ty))) (pairs_of s.steps ++ pairs_of t.steps)) r
      → Types a c (source.element at x i) r
  element_types at x i s t r h l j = judged (source.element at x i) at j (simp (h.typing, l.typing) refl) refl

  -- the least int with its sign
  pub least_types : (at : ℕ) (o : UnaryOp) (e : source.PlainExpr) (r : Result Typing Miss)
      → spells_least o e ≡ true
      → Judged at ([]) (Some least_int) (typing least_tree (given int_type) []) r
      → Types a c (source.unary at o e) r
  least_types at o e r l j = judged (source.unary at o e) at j (simp l refl) (least_worth a c at o e l)

  -- an operator before its operand
  pub unary_types : (at : ℕ) (o : UnaryOp) (e : source.PlainExpr) (t : Typing) (r : Result Typing Miss)
      → spells_least o e ≡ false → IsTyped a c e t
      → Judged at (need kind.Operand (unary_takes o (arg_of t.ty)) ∷ []) (option_and_then (unary_value o) t.value) (typing (unary_tree o (expr_of t.tree)) (given (unary_gives o)) (pairs_of t.steps)) r
      → Types a c (source.unary at o e) r
  unary_types at o e t r l h j = judged (source.unary at o e) at j (simp (l, h.typing) refl) (unary_worth a c at o e l ∙ simp h.worth refl)

  -- a cast
  pub cast_types : (at : ℕ) (ty : TypeName) (e : source.PlainExpr) (t : Typing) (k : Bool) (f : CastForm) (u : PlainTy) (r : Result Typing Miss)
      → IsTyped a c e t → k ≡ is_known c ty → f ≡ cast_form a c (arg_of t.ty) u → u ≡ type_of ty
      → Judged at (need kind.Name k ∷ need kind.Cast (is_cast f) ∷ []) (option_and_then (of_type u) t.value) (typing (cast_tree f u (expr_of t.tree)) (given u) (pairs_of t.steps ++ cast_steps f (arg_of t.ty) u)) r
      → Types a c (source.cast at ty e) r
  cast_types at ty e t k f u r h ek ef eu j = judged (source.cast at ty e) at j (simp (h.typing, ek, ef, eu) refl) (simp (cast_worth, h.worth, eu) refl)

  -- an operator between operands
  pub binary_types : (at : ℕ) (o : BinOp) (x y : source.PlainExpr) (s t : Typing) (k : Bool) (r : Result Typing Miss)
      → IsTyped a c x s → IsTyped a c y t → k ≡ together a c o (arg_of s.ty) (arg_of t.ty)
      → Judged at (need kind.Operand (binary_takes o (arg_of s.ty) (arg_of t.ty)) ∷ need kind.Cast k ∷ []) (option_and_then (λ v. option_and_then (binary_value o v) t.value) s.value) (typing (binary_tree o (expr_of s.tree) (expr_of t.tree)) (given (type_or_void (binary_gives o (arg_of s.ty) (arg_of t.ty)))) (pairs_of s.steps ++ pairs_of t.steps)) r
      → Types a c (source.binary at o x y) r
  binary_types at o x y s t k r h l ek j = judged (source.binary at o x y) at j (simp (h.typing, l.typing, ek) refl) (binary_worth a c at o x y ∙ simp (h.worth, l.worth) refl)

  -- an instance test
  pub instance_of_types : (at : ℕ) (e : source.PlainExpr) (ty : TypeName) (t : Typing) (k g : Bool) (u : PlainTy) (r : Result Typing Miss)
      → IsTyped a c e t → k ≡ is_known c ty → g ≡ go_together a c (arg_of t.ty) (given u) → u ≡ type_of ty
      → Judged at (need kind.Name k ∷ need kind.Operand (is_object (arg_of t.ty) && is_reference u) ∷ need kind.Cast g ∷ []) (None) (typing (tree.instance_of (expr_of t.tree) u) (given bool_type) (pairs_of t.steps)) r
      → Types a c (source.instance_of at e ty) r
  instance_of_types at e ty t k g u r h ek eg eu j = judged (source.instance_of at e ty) at j (simp (h.typing, ek, eg, eu) refl) refl

  -- a choice of two values
  pub conditional_types : (at : ℕ) (test x y : source.PlainExpr) (q s t : Typing) (n : Join) (r : Result Typing Miss)
      → IsTyped a c test q → IsTyped a c x s → IsTyped a c y t → n ≡ join_of a (arg_of s.ty) (arg_of t.ty)
      → Judged at (need kind.Operand (is_joined n) ∷ need kind.Condition (is_bool (arg_of q.ty)) ∷ []) (option_and_then (λ u. option_and_then (λ v. option_and_then (chosen_value u v) t.value) s.value) q.value) (typing (tree.conditional (expr_of q.tree) (expr_of s.tree) (expr_of t.tree)) (joined_type n (arg_of s.ty) (arg_of t.ty)) (pairs_of q.steps ++ (pairs_of s.steps ++ (pairs_of t.steps ++ joined_steps n (arg_of s.ty) (arg_of t.ty))))) r
      → Types a c (source.conditional at test x y) r
  conditional_types at test x y q s t n r g h l en j = judged (source.conditional at test x y) at j (simp (g.typing, h.typing, l.typing, en) refl) (conditional_worth a c at test x y ∙ simp (g.worth, h.worth, l.worth) refl)

  -- ---- assignments

  -- a value put into a variable
  pub assigned_types : (at : ℕ) (x e : source.PlainExpr) (p : Placing) (t : Typing) (k : Bool) (r : Result Typing Miss)
      → IsPlaced a c x p → IsTyped a c e t → k ≡ fits a (arg_of t.ty) (placing_of p).type
      → Judged at (need kind.Assign k ∷ place_needs (placing_of p)) (None) (typing (behind (placing_of p).first (set_place (placing_of p).place (expr_of t.tree))) (given (placing_of p).type) ((placing_of p).steps ++ (pairs_of t.steps ++ uses (arg_of t.ty) (placing_of p).type))) r
      → Types a c (source.assign at None x e) r
  assigned_types at x e p t k r h l ek j = judged (source.assign at None x e) at j (simp (h.placing, l.typing, ek) refl) refl

  -- a compound assignment
  pub compound_types : (at : ℕ) (o : BinOp) (x e : source.PlainExpr) (p : Placing) (t : Typing) (r : Result Typing Miss)
      → IsPlaced a c x p → IsTyped a c e t
      → Judged at (need kind.Operand (compound_takes o (placing_of p).type (arg_of t.ty)) ∷ place_needs (placing_of p)) (None) (typing (compound_tree (node_operator o) (placing_of p) (expr_of t.tree)) (given (placing_of p).type) ((placing_of p).steps ++ pairs_of t.steps)) r
      → Types a c (source.assign at (Some o) x e) r
  compound_types at o x e p t r h l j = judged (source.assign at (Some o) x e) at j (simp (h.placing, l.typing) refl) refl

  -- a step by one
  pub step_types : (at : ℕ) (plus post : Bool) (x : source.PlainExpr) (p : Placing) (r : Result Typing Miss)
      → IsPlaced a c x p
      → Judged at (need kind.Operand (is_int (given (placing_of p).type)) ∷ place_needs (placing_of p)) (None) (typing (update (placing_of p) (step_operator plus) (tree.int_value (pos 1)) post) (given (placing_of p).type) (placing_of p).steps) r
      → Types a c (source.step at plus post x) r
  step_types at plus post x p r h j = judged (source.step at plus post x) at j (simp h.placing refl) refl

  -- ---- variables that are assigned

  -- a simple name by what it means
  pub name_place_types : (at : ℕ) (x : Named) (m : Meaning) (r : Result Placing Miss)
      → m ≡ meaning_of c x
      → Placed at (name_needs c m) (name_placing c m) r
      → TypesPlace a c (source.simple_name at x) r
  name_place_types at x m r em j = placed (source.simple_name at x) at j (simp em refl)

  -- a field behind the name of a type
  pub type_place_types : (at : ℕ) (e : source.PlainExpr) (name class : Named) (f : Field) (g k : Bool) (r : Result Placing Miss)
      → type_before_dot c e ≡ Some class → field_of (world_at c) class name ≡ Some f → g ≡ is_assignable c otherwise f → k ≡ is_open c f
      → Placed at (need kind.Static f.is_static ∷ []) (record (rules.placing (tree.static_place (field_ref class f)) f.ty) { assignable = g; open_here = k }) r
      → TypesPlace a c (source.dot at e name) r
  type_place_types at e name class f g k r d ef eg ek j = placed (source.dot at e name) at j (simp (d, ef, eg, ek) refl)

  -- none is there
  pub no_type_place : (at : ℕ) (e : source.PlainExpr) (name class : Named)
      → type_before_dot c e ≡ Some class → field_of (world_at c) class name ≡ None → TypesPlace a c (source.dot at e name) (Err (Untyped at kind.Name))
  no_type_place at e name class d ef = record { placing = simp (d, ef) refl }

  -- a field behind a value
  pub behind_place_types : (at : ℕ) (e : source.PlainExpr) (name class : Named) (t : Typing) (f : Field) (w : Way) (g k : Bool) (r : Result Placing Miss)
      → type_before_dot c e ≡ None → IsTyped a c e t → member_of (arg_of t.ty) name ≡ of_class class → field_of (world_at c) class name ≡ Some f → w ≡ (if f.is_static then otherwise else way_behind e) → g ≡ is_assignable c w f → k ≡ is_open c f
      → Placed at ([]) (record { first = if f.is_static then Some (expr_of t.tree) else None; place = if f.is_static then tree.static_place (field_ref class f) else tree.field_place (expr_of t.tree) (field_ref class f); type = f.ty; steps = pairs_of t.steps; assignable = g; open_here = k }) r
      → TypesPlace a c (source.dot at e name) r
  behind_place_types at e name class t f w g k r d h em ef ew eg ek j = placed (source.dot at e name) at j (simp (d, h.typing, em, ef, eg, ew, ek) refl)

  -- none is there
  pub no_behind_place : (at : ℕ) (e : source.PlainExpr) (name class : Named) (t : Typing)
      → type_before_dot c e ≡ None → IsTyped a c e t → member_of (arg_of t.ty) name ≡ of_class class → field_of (world_at c) class name ≡ None → TypesPlace a c (source.dot at e name) (Err (Untyped at kind.Name))
  no_behind_place at e name class t d h em ef = record { placing = simp (d, h.typing, em, ef) refl }

  -- the length of an array
  pub length_place_types : (at : ℕ) (e : source.PlainExpr) (name : Named) (t : Typing) (r : Result Placing Miss)
      → type_before_dot c e ≡ None → IsTyped a c e t → member_of (arg_of t.ty) name ≡ array_size
      → Placed at ([]) (record rules.no_placing { type = int_type; assignable = false }) r
      → TypesPlace a c (source.dot at e name) r
  length_place_types at e name t r d h em j = placed (source.dot at e name) at j (simp (d, h.typing, em) refl)

  -- a value without members
  pub no_member_place : (at : ℕ) (e : source.PlainExpr) (name : Named) (t : Typing)
      → type_before_dot c e ≡ None → IsTyped a c e t → member_of (arg_of t.ty) name ≡ no_member → TypesPlace a c (source.dot at e name) (Err (Untyped at kind.Name))
  no_member_place at e name t d h em = record { placing = simp (d, h.typing, em) refl }

  -- a field of the superclass
  pub super_place_types : (at : ℕ) (name class : Named) (f : Field) (g k : Bool) (r : Result Placing Miss)
      → superclass_at c ≡ Some class → field_of (world_at c) class name ≡ Some f → g ≡ is_assignable c otherwise f → k ≡ is_open c f
      → Placed at (need kind.Static (has_this c) ∷ []) (record { first = None; place = if f.is_static then tree.static_place (field_ref class f) else tree.field_place this_tree (field_ref class f); type = f.ty; steps = class_step c class; assignable = g; open_here = k }) r
      → TypesPlace a c (source.super_field at name) r
  super_place_types at name class f g k r s ef eg ek j = placed (source.super_field at name) at j (simp (s, ef, eg, ek) refl)

  -- none is there
  pub no_super_place : (at : ℕ) (name class : Named)
      → superclass_at c ≡ Some class → field_of (world_at c) class name ≡ None → TypesPlace a c (source.super_field at name) (Err (Untyped at kind.Name))
  no_super_place at name class s ef = record { placing = simp (s, ef) refl }

  -- an interface has no superclass
  pub no_superclass_place : (at : ℕ) (name : Named)
      → superclass_at c ≡ None → TypesPlace a c (source.super_field at name) (Err (Untyped at kind.Name))
  no_superclass_place at name s = record { placing = simp s refl }

  -- an element of an array
  pub element_place_types : (at : ℕ) (x i : source.PlainExpr) (s t : Typing) (r : Result Placing Miss)
      → IsTyped a c x s → IsTyped a c i t
      → Placed at (need kind.Operand (is_some (element_type (arg_of s.ty)) && is_int (arg_of t.ty)) ∷ []) (record (rules.placing (tree.element_place (expr_of s.tree) (expr_of t.tree)) (element_or_void (arg_of s.ty))) { steps = pairs_of s.steps ++ pairs_of t.steps }) r
      → TypesPlace a c (source.element at x i) r
  element_place_types at x i s t r h l j = placed (source.element at x i) at j (simp (h.typing, l.typing) refl)
