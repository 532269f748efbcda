-- Operators, casts, choices and arrays are typed.
use Rattle.std.proofs.Common.{◌≡◌, refl, sym, ap, subst, ◌∙◌, ◌⊎◌, inl, inr, Bool, true, false, cond, ◌&&◌, ◌||◌, Option, Some, None, is_some}
use Rattle.std.specs.Option.{option_map_or}
use Rattle.std.proofs.lemmas.Bool.{cases_Bool, and_parts}
use Rattle.bcj_parser_trees.specs.declared.expression.UnaryOp.{UnaryOp}
use Rattle.bcj_parser_trees.specs.declared.expression.UnaryOp.TheVariants as unop
use Rattle.bcj_parser_trees.specs.declared.expression.BinOp.{BinOp}
use Rattle.bcj_parser_trees.specs.declared.expression.BinOp.TheVariants as op
use Rattle.bcj_symbolic_trees.specs.declared.expression.BinaryOp.{BinaryOp}
use Rattle.bcj_symbolic_trees.specs.declared.expression.BinaryOp.TheVariants as node_op
use Rattle.bcj_symbolic_trees.specs.Trees as tree
use Rattle.bcj_symbolic_trees.specs.Types.{PlainTy, int_type, bool_type, void_type, class_type, array_type, PlainArg, given, null_arg}
use Rattle.bcj_symbolic_check.specs.Judgements.{Frame}
use Rattle.bcj_symbolic_check.specs.Typing as typing
use Rattle.bcj_symbolic_check.specs.Typing.{IsReference, IsReferenceOrNull, reference, null_reference, class_reference, array_reference, Step, HasType, UnaryTakes, Operates, on_numbers, on_bits, on_truth_values, orders_numbers, equates_numbers, equates_truth_values, equates_references, IsAssigning, arithmetic_assigns, bitwise_assigns}
use Rattle.bcj_decl_rules.specs.World.{World}
use Rattle.bcj_decl_rules.specs.Subtypes.{is_reference, Subtype, itself, of_class, of_component, of_array}
use Rattle.bcj_typing_rules.specs.Operators.{is_int, is_bool, is_object, unary_takes, unary_gives, unary_tree, two_ints, two_truths, two_bits, two_alike, binary_gives, type_or_void, binary_takes, node_operator, logic_tree, binary_tree, is_same_primitive, compound_takes}
use Rattle.bcj_typing_rules.specs.Casting.{Castable, up, down, to_interface, from_interface, of_components, GoTogether, two_types, null_first}
use Rattle.bcj_typing_soundness.proofs.Steps.{reference_of, object_of}

-- ---- types by their tests

pub int_of : (s : PlainArg) → is_int s ≡ true → s ≡ given int_type
int_of (given int_type) h = refl
int_of (given bool_type) h = cc
int_of (given void_type) h = cc
int_of (given (class_type n)) h = cc
int_of (given (array_type t)) h = cc
int_of null_arg h = cc

pub bool_of : (s : PlainArg) → is_bool s ≡ true → s ≡ given bool_type
bool_of (given bool_type) h = refl
bool_of (given int_type) h = cc
bool_of (given void_type) h = cc
bool_of (given (class_type n)) h = cc
bool_of (given (array_type t)) h = cc
bool_of null_arg h = cc

-- ---- unary operators

module _ {frame : Frame} where
  as_type : {e : tree.PlainExpr} {s t : PlainArg} → s ≡ t → HasType frame e s → HasType frame e t
  as_type {e} is h = subst (λ (x : PlainArg). HasType frame e x) is h

  -- a unary operator's node
  pub unary_typed : (o : UnaryOp) {e : tree.PlainExpr} (s : PlainArg) → unary_takes o s ≡ true → HasType frame e s → HasType frame (unary_tree o e) (given (unary_gives o))
  unary_typed unop.Plus s h x = as_type (int_of s h) x
  unary_typed unop.Minus s h x = typing.unary typing.minus (as_type (int_of s h) x)
  unary_typed unop.Flip s h x = typing.unary typing.flip (as_type (int_of s h) x)
  unary_typed unop.Not s h x = typing.unary typing.«not» (as_type (bool_of s h) x)

-- ---- what two operands are

data AreInts : PlainArg → PlainArg → Type 0 where
  ints : AreInts (given int_type) (given int_type)

data AreTruths : PlainArg → PlainArg → Type 0 where
  truths : AreTruths (given bool_type) (given bool_type)

are_ints : (s t : PlainArg) → (is_int s && is_int t) ≡ true → AreInts s t
are_ints s t h =
    let p = and_parts (is_int s) (is_int t) h in
    subst (λ (x : PlainArg). AreInts x t) (sym (int_of s p.0)) (subst (λ (y : PlainArg). AreInts (given int_type) y) (sym (int_of t p.1)) ints)

are_truths : (s t : PlainArg) → (is_bool s && is_bool t) ≡ true → AreTruths s t
are_truths s t h =
    let p = and_parts (is_bool s) (is_bool t) h in
    subst (λ (x : PlainArg). AreTruths x t) (sym (bool_of s p.0)) (subst (λ (y : PlainArg). AreTruths (given bool_type) y) (sym (bool_of t p.1)) truths)

given_if : (b : Bool) (t u : PlainTy) → cond b (Some t) None ≡ Some u → (b ≡ true) × (t ≡ u)
given_if true t u h = (refl, cc)
given_if false t u h = cc

-- two numbers, and the type that they give
ints_give : (s t : PlainArg) (r u : PlainTy) → two_ints s t r ≡ Some u → AreInts s t × (r ≡ u)
ints_give s t r u h = let p = given_if (is_int s && is_int t) r u h in (are_ints s t p.0, p.1)

truths_give : (s t : PlainArg) (u : PlainTy) → two_truths s t ≡ Some u → AreTruths s t × (bool_type ≡ u)
truths_give s t u h = let p = given_if (is_bool s && is_bool t) bool_type u h in (are_truths s t p.0, p.1)

bits_give : (s t : PlainArg) (u : PlainTy) → two_bits s t ≡ Some u → (AreInts s t × (int_type ≡ u)) ⊎ (AreTruths s t × (bool_type ≡ u))
bits_give s t u h =
    elim (cases_Bool (is_int s && is_int t)) [
      | inl e ↦ let k : Some int_type ≡ Some u = ap (λ b. cond b (Some int_type) (two_truths s t)) (sym e) ∙ h in inl (are_ints s t e, cc)
      | inr e ↦ inr (truths_give s t u (ap (λ b. cond b (Some int_type) (two_truths s t)) (sym e) ∙ h))
    ]

alike : (s t : PlainArg) (a b d : Bool) (u : PlainTy) → (is_int s && is_int t) ≡ a → (is_bool s && is_bool t) ≡ b → (is_object s && is_object t) ≡ d → cond (a || (b || d)) (Some bool_type) None ≡ Some u
    → (AreInts s t ⊎ (AreTruths s t ⊎ (IsReferenceOrNull s × IsReferenceOrNull t))) × (bool_type ≡ u)
alike s t true b d u e f g h = (inl (are_ints s t e), cc)
alike s t false true d u e f g h = (inr (inl (are_truths s t f)), cc)
alike s t false false true u e f g h = let p = and_parts (is_object s) (is_object t) g in (inr (inr (object_of s p.0, object_of t p.1)), cc)
alike s t false false false u e f g h = cc

alike_give : (s t : PlainArg) (u : PlainTy) → two_alike s t ≡ Some u → (AreInts s t ⊎ (AreTruths s t ⊎ (IsReferenceOrNull s × IsReferenceOrNull t))) × (bool_type ≡ u)
alike_give s t u h = alike s t (is_int s && is_int t) (is_bool s && is_bool t) (is_object s && is_object t) u refl refl refl h

-- ---- operators of nodes

some_of : (o : Option PlainTy) → is_some o ≡ true → (t : PlainTy) × (o ≡ Some t)
some_of None h = cc
some_of (Some t) h = (t, refl)

-- an operation gives another name of its type
gives_as : {o : BinaryOp} {s t : PlainArg} {u v : PlainTy} → u ≡ v → Operates o s t u → Operates o s t v
gives_as {o} {s} {t} is h = subst (λ (x : PlainTy). Operates o s t x) is h

arithmetic : {o : BinaryOp} {s t : PlainArg} {u : PlainTy} → typing.group_of o ≡ typing.arithmetic_group → AreInts s t × (int_type ≡ u) → Operates o s t u
arithmetic g (ints, e) = gives_as e (on_numbers g)

orders : {o : BinaryOp} {s t : PlainArg} {u : PlainTy} → typing.group_of o ≡ typing.ordering_group → AreInts s t × (bool_type ≡ u) → Operates o s t u
orders g (ints, e) = gives_as e (orders_numbers g)

bitwise : {o : BinaryOp} {s t : PlainArg} {u : PlainTy} → typing.group_of o ≡ typing.bitwise_group → (AreInts s t × (int_type ≡ u)) ⊎ (AreTruths s t × (bool_type ≡ u)) → Operates o s t u
bitwise g (inl (ints, e)) = gives_as e (on_bits g)
bitwise g (inr (truths, e)) = gives_as e (on_truth_values g)

equates : {o : BinaryOp} {s t : PlainArg} {u : PlainTy} → typing.group_of o ≡ typing.equality_group → (AreInts s t ⊎ (AreTruths s t ⊎ (IsReferenceOrNull s × IsReferenceOrNull t))) × (bool_type ≡ u)
    → Operates o s t u
equates g (inl ints, e) = gives_as e (equates_numbers g)
equates g (inr (inl truths), e) = gives_as e (equates_truth_values g)
equates g (inr (inr p), e) = gives_as e (equates_references g p.0 p.1)

at_node : (m n : BinaryOp) → Some m ≡ Some n → {s t : PlainArg} {u : PlainTy} → Operates m s t u → Operates n s t u
at_node m n e {s} {t} {u} h = let is : m ≡ n = cc in subst (λ (x : BinaryOp). Operates x s t u) is h

operates : (o : BinOp) (n : BinaryOp) (s t : PlainArg) (u : PlainTy) → node_operator o ≡ Some n → binary_gives o s t ≡ Some u → Operates n s t u
operates op.OrElse n s t u e h = cc
operates op.AndAlso n s t u e h = cc
operates op.Or n s t u e h = at_node node_op.Or n e (bitwise refl (bits_give s t u h))
operates op.Xor n s t u e h = at_node node_op.Xor n e (bitwise refl (bits_give s t u h))
operates op.And n s t u e h = at_node node_op.And n e (bitwise refl (bits_give s t u h))
operates op.Eq n s t u e h = at_node node_op.Eq n e (equates refl (alike_give s t u h))
operates op.Ne n s t u e h = at_node node_op.Ne n e (equates refl (alike_give s t u h))
operates op.Lt n s t u e h = at_node node_op.Lt n e (orders refl (ints_give s t bool_type u h))
operates op.Gt n s t u e h = at_node node_op.Gt n e (orders refl (ints_give s t bool_type u h))
operates op.Le n s t u e h = at_node node_op.Le n e (orders refl (ints_give s t bool_type u h))
operates op.Ge n s t u e h = at_node node_op.Ge n e (orders refl (ints_give s t bool_type u h))
operates op.Shl n s t u e h = at_node node_op.Shl n e (arithmetic refl (ints_give s t int_type u h))
operates op.Shr n s t u e h = at_node node_op.Shr n e (arithmetic refl (ints_give s t int_type u h))
operates op.Ushr n s t u e h = at_node node_op.Ushr n e (arithmetic refl (ints_give s t int_type u h))
operates op.Add n s t u e h = at_node node_op.Add n e (arithmetic refl (ints_give s t int_type u h))
operates op.Sub n s t u e h = at_node node_op.Sub n e (arithmetic refl (ints_give s t int_type u h))
operates op.Mul n s t u e h = at_node node_op.Mul n e (arithmetic refl (ints_give s t int_type u h))
operates op.Div n s t u e h = at_node node_op.Div n e (arithmetic refl (ints_give s t int_type u h))
operates op.Rem n s t u e h = at_node node_op.Rem n e (arithmetic refl (ints_give s t int_type u h))

-- ---- binary operators

module _ {frame : Frame} where
  logic_typed : (o : BinOp) {a b : tree.PlainExpr} (s t : PlainArg) (u : PlainTy) → node_operator o ≡ None → binary_gives o s t ≡ Some u → HasType frame a s → HasType frame b t
      → HasType frame (logic_tree o a b) (given u)
  logic_typed op.OrElse s t u e h x y = by_or (truths_give s t u h) x y
    where
      by_or : {a b : tree.PlainExpr} {s t : PlainArg} {u : PlainTy} → AreTruths s t × (bool_type ≡ u) → HasType frame a s → HasType frame b t → HasType frame (tree.or_else a b) (given u)
      by_or (truths, e) x y = as_type (ap given e) (typing.or_else x y)
  logic_typed op.AndAlso s t u e h x y = by_and (truths_give s t u h) x y
    where
      by_and : {a b : tree.PlainExpr} {s t : PlainArg} {u : PlainTy} → AreTruths s t × (bool_type ≡ u) → HasType frame a s → HasType frame b t → HasType frame (tree.and_also a b) (given u)
      by_and (truths, e) x y = as_type (ap given e) (typing.and_also x y)
  logic_typed _ s t u e h x y = cc

  binary_by : (o : BinOp) {a b : tree.PlainExpr} (s t : PlainArg) (u : PlainTy) (n : Option BinaryOp) → node_operator o ≡ n → binary_gives o s t ≡ Some u → HasType frame a s → HasType frame b t
      → HasType frame (option_map_or (λ n. tree.binary n a b) n (logic_tree o a b)) (given u)
  binary_by o s t u None e h x y = logic_typed o s t u e h x y
  binary_by o s t u (Some n) e h x y = typing.binary x y (operates o n s t u e h)

  -- a binary operator's node
  pub binary_typed : (o : BinOp) {a b : tree.PlainExpr} (s t : PlainArg) → binary_takes o s t ≡ true → HasType frame a s → HasType frame b t
      → HasType frame (binary_tree o a b) (given (type_or_void (binary_gives o s t)))
  binary_typed o s t h x y =
      let k = some_of (binary_gives o s t) h in
      as_type (ap (λ (r : Option PlainTy). given (type_or_void r)) (sym k.1)) (binary_by o s t k.0 (node_operator o) refl k.1 x y)

-- a binary operator gives a number or a truth value
pub data IsPrimitive : PlainTy → Type 0 where
  a_number : IsPrimitive int_type
  a_truth : IsPrimitive bool_type

int_given : (s t : PlainArg) (u : PlainTy) → two_ints s t int_type ≡ Some u → IsPrimitive u
int_given s t u h = subst IsPrimitive (ints_give s t int_type u h).1 a_number

order_given : (s t : PlainArg) (u : PlainTy) → two_ints s t bool_type ≡ Some u → IsPrimitive u
order_given s t u h = subst IsPrimitive (ints_give s t bool_type u h).1 a_truth

bits_given : (s t : PlainArg) (u : PlainTy) → two_bits s t ≡ Some u → IsPrimitive u
bits_given s t u h = elim (bits_give s t u h) [ inl p ↦ subst IsPrimitive p.1 a_number | inr p ↦ subst IsPrimitive p.1 a_truth ]

primitive_of : (o : BinOp) (s t : PlainArg) (u : PlainTy) → binary_gives o s t ≡ Some u → IsPrimitive u
primitive_of op.OrElse s t u h = subst IsPrimitive (truths_give s t u h).1 a_truth
primitive_of op.AndAlso s t u h = subst IsPrimitive (truths_give s t u h).1 a_truth
primitive_of op.Or s t u h = bits_given s t u h
primitive_of op.Xor s t u h = bits_given s t u h
primitive_of op.And s t u h = bits_given s t u h
primitive_of op.Eq s t u h = subst IsPrimitive (alike_give s t u h).1 a_truth
primitive_of op.Ne s t u h = subst IsPrimitive (alike_give s t u h).1 a_truth
primitive_of op.Lt s t u h = order_given s t u h
primitive_of op.Gt s t u h = order_given s t u h
primitive_of op.Le s t u h = order_given s t u h
primitive_of op.Ge s t u h = order_given s t u h
primitive_of op.Shl s t u h = int_given s t u h
primitive_of op.Shr s t u h = int_given s t u h
primitive_of op.Ushr s t u h = int_given s t u h
primitive_of op.Add s t u h = int_given s t u h
primitive_of op.Sub s t u h = int_given s t u h
primitive_of op.Mul s t u h = int_given s t u h
primitive_of op.Div s t u h = int_given s t u h
primitive_of op.Rem s t u h = int_given s t u h

pub binary_primitive : (o : BinOp) (s t : PlainArg) → binary_takes o s t ≡ true → IsPrimitive (type_or_void (binary_gives o s t))
binary_primitive o s t h =
    let k = some_of (binary_gives o s t) h in
    subst (λ (r : Option PlainTy). IsPrimitive (type_or_void r)) (sym k.1) (primitive_of o s t k.0 k.1)

pub unary_primitive : (o : UnaryOp) → IsPrimitive (unary_gives o)
unary_primitive unop.Plus = a_number
unary_primitive unop.Minus = a_number
unary_primitive unop.Flip = a_number
unary_primitive unop.Not = a_truth

-- ---- compound assignment

-- the node's operator, which takes the variable and gives its type
pub record Compounds (o : Option BinaryOp) (t : PlainTy) (s : PlainArg) : Type 0 where
  pub operator : BinaryOp
  pub is_it : o ≡ Some operator
  pub assigns : IsAssigning operator
  pub operates : Operates operator (given t) s t

same_primitive : (t : PlainTy) (o : Option PlainTy) → is_same_primitive t o ≡ true → o ≡ Some t
same_primitive int_type (Some int_type) h = refl
same_primitive bool_type (Some bool_type) h = refl
same_primitive int_type None h = cc
same_primitive bool_type None h = cc
same_primitive int_type (Some bool_type) h = cc
same_primitive int_type (Some void_type) h = cc
same_primitive int_type (Some (class_type n)) h = cc
same_primitive int_type (Some (array_type t)) h = cc
same_primitive bool_type (Some int_type) h = cc
same_primitive bool_type (Some void_type) h = cc
same_primitive bool_type (Some (class_type n)) h = cc
same_primitive bool_type (Some (array_type t)) h = cc
same_primitive void_type o h = cc
same_primitive (class_type n) o h = cc
same_primitive (array_type t) o h = cc

compounded : (o : BinOp) (n : BinaryOp) (t : PlainTy) (s : PlainArg) → node_operator o ≡ Some n → IsAssigning n → is_same_primitive t (binary_gives o (given t) s) ≡ true → Compounds (node_operator o) t s
compounded o n t s e g h =
    record { operator = n; is_it = e; assigns = g; operates = operates o n (given t) s t e (same_primitive t (binary_gives o (given t) s) h) }

-- what a compound assignment takes
pub compounds : (o : BinOp) (t : PlainTy) (s : PlainArg) → compound_takes o t s ≡ true → Compounds (node_operator o) t s
compounds op.OrElse t s h = cc
compounds op.AndAlso t s h = cc
compounds op.Or t s h = compounded op.Or node_op.Or t s refl (bitwise_assigns refl) h
compounds op.Xor t s h = compounded op.Xor node_op.Xor t s refl (bitwise_assigns refl) h
compounds op.And t s h = compounded op.And node_op.And t s refl (bitwise_assigns refl) h
compounds op.Eq t s h = cc
compounds op.Ne t s h = cc
compounds op.Lt t s h = cc
compounds op.Gt t s h = cc
compounds op.Le t s h = cc
compounds op.Ge t s h = cc
compounds op.Shl t s h = compounded op.Shl node_op.Shl t s refl (arithmetic_assigns refl) h
compounds op.Shr t s h = compounded op.Shr node_op.Shr t s refl (arithmetic_assigns refl) h
compounds op.Ushr t s h = compounded op.Ushr node_op.Ushr t s refl (arithmetic_assigns refl) h
compounds op.Add t s h = compounded op.Add node_op.Add t s refl (arithmetic_assigns refl) h
compounds op.Sub t s h = compounded op.Sub node_op.Sub t s refl (arithmetic_assigns refl) h
compounds op.Mul t s h = compounded op.Mul node_op.Mul t s refl (arithmetic_assigns refl) h
compounds op.Div t s h = compounded op.Div node_op.Div t s refl (arithmetic_assigns refl) h
compounds op.Rem t s h = compounded op.Rem node_op.Rem t s refl (arithmetic_assigns refl) h

-- ---- casts

-- a supertype of a reference is one
pub reference_above : {w : World} {s t : PlainTy} → Subtype w s t → is_reference s ≡ true → is_reference t ≡ true
reference_above itself h = h
reference_above (of_class k) h = refl
reference_above (of_component r k) h = refl
reference_above of_array h = refl

castable_references : {w : World} {s t : PlainTy} → Castable w s t → (is_reference s ≡ true) × (is_reference t ≡ true)
castable_references (up r k) = (r, reference_above k r)
castable_references (down r k) = (reference_above k r, r)
castable_references (to_interface d f i) = (refl, refl)
castable_references (from_interface d f i) = (refl, refl)
castable_references (of_components k) = (refl, refl)

-- types that go together are of references
pub together_references : {w : World} {s : PlainArg} {t : PlainTy} → GoTogether w s (given t) → IsReferenceOrNull s × (is_reference t ≡ true)
together_references (two_types k) = let p = castable_references k in (reference (reference_of _ p.0), p.1)
together_references (null_first h) = (null_reference, h)
