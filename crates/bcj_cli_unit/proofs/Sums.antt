-- A unit is a program exactly where no node of it is lacking, and one program at most.
use Rattle.std.proofs.Common.{◌≡◌, ℕ, zero, suc, ◌+◌, ◌-◌, ◌<◌, ◌≤◌, Bool, true, false, ◌&&◌, nat_le, nat_lt, if◌then◌else◌, List, [], ◌∷◌, Option, None, Some, sym, ap, ◌∙◌, refl, subst, arith, bytes_eq, Contains, ◌⊎◌, inl, inr}
use Rattle.std.proofs.lemmas.Bool.{false≢true, and_parts, and_from, or_cases, or_left, or_right, ltb-true, lt-ltb, leb-true, le-leb}
use Rattle.std.proofs.lemmas.List.Elements.{Contains-push, Contains-push_cases, Contains-append_left, Contains-append_right, Contains-append_cases}
use Rattle.std.proofs.lemmas.Slice.Eq.{bytes_eq-Decides}
use Rattle.bcj_cli_language.specs.declared.tree.Operator.{Operator}
use Rattle.bcj_cli_language.specs.declared.tree.Operator.TheVariants as operators
use Rattle.bcj_cli_language.specs.declared.tree.Comparison.{Comparison}
use Rattle.bcj_cli_language.specs.declared.tree.Comparison.TheVariants as comparisons
use Rattle.bcj_cli_language.specs.Tree.{Sum, number, local, binary as binary_sum, Test}
use Rattle.bcj_cli_language.specs.Scopes.{Scope, IsScopedSum, IsScopedTest}
use Rattle.bcj_parser_trees.specs.declared.expression.BinOp.{BinOp}
use Rattle.bcj_parser_trees.specs.declared.expression.BinOp.TheVariants as op
use Rattle.bcj_parser_trees.specs.Trees.{PlainExpr, int_literal, bool_literal, null_literal, this_value, simple_name, paren, dot, super_field, call, dot_call, super_call, new_object, new_array, element, unary, step, cast, binary, instance_of, conditional, assign}
use Rattle.bcj_cli_language.specs.Bounds.{max_int}
use Rattle.bcj_cli_unit.specs.Limits.{max_parentheses}
use Rattle.bcj_cli_unit.specs.Kinds.{operator, comparison, tightness, is_arithmetic, is_comparison, is_operand, is_sum, joins, is_test, is_among}
use Rattle.bcj_cli_unit.specs.Program.{IsSum, a_number, a_local, grouped, joined, IsTest, compared}
use Rattle.bcj_cli_unit.specs.Lacking.{first_of, unless, lacking, lacking_in}
use Rattle.bcj_cli_unit.specs.function.Built.{with_operator, with_comparison, sum_built, test_built}

-- ---- answers

pub some_none : {A : Type 0} {x : A} → Some x ≡ None → ⊥
some_none h = cc

pub first_none : (a b : Option ℕ) → first_of a b ≡ None → (a ≡ None) × (b ≡ None)
first_none None b h = (refl, h)
first_none (Some n) b h = absurd (some_none h)

pub first_both : (a b : Option ℕ) → a ≡ None → b ≡ None → first_of a b ≡ None
first_both a b h k = ap (λ o. first_of o b) h ∙ k

pub never_first : (a : Option ℕ) (n : ℕ) → first_of a (Some n) ≡ None → ⊥
never_first None n h = some_none h
never_first (Some m) n h = some_none h

pub unless_true : (b : Bool) (at : ℕ) → unless b at ≡ None → b ≡ true
unless_true true at h = refl
unless_true false at h = absurd (some_none h)

pub unless_none : (b : Bool) (at : ℕ) → b ≡ true → unless b at ≡ None
unless_none b at h = ap (λ b. unless b at) h

-- ---- names

pub bytes_same : (x : List ℕ) → bytes_eq x x ≡ true
bytes_same x = (bytes_eq-Decides x x).1 refl

pub bytes_equal : (x y : List ℕ) → bytes_eq x y ≡ true → x ≡ y
bytes_equal x y h = (bytes_eq-Decides x y).0 h

contains_nothing : (x : List ℕ) → Contains [] x → ⊥
contains_nothing x c = let h : c.0 < 0 = c.1 in omega arith

contains_one : (n x : List ℕ) → Contains (n ∷ []) x → n ≡ x
contains_one n x c = elim (Contains-push_cases [] n x c) [ inl e ↦ absurd (contains_nothing x e) | inr e ↦ e ]

contains_head : (n x : List ℕ) (names : Scope) → n ≡ x → Contains (n ∷ names) x
contains_head n x names e = let P : List ℕ → Type 0 = λ x. Contains (n ∷ names) x in subst P e (Contains-append_left (n ∷ []) names n (Contains-push [] n))

contains_cases : (n x : List ℕ) (names : Scope) → Contains (n ∷ names) x → (n ≡ x) ⊎ Contains names x
contains_cases n x names c = elim (Contains-append_cases (n ∷ []) names x c) [ inl e ↦ inl (contains_one n x e) | inr e ↦ inr e ]

pub among_contains : (names : Scope) (x : List ℕ) → is_among names x ≡ true → Contains names x
among_contains [] x h = absurd (false≢true h)
among_contains (n ∷ names) x h = elim (or_cases (bytes_eq n x) (is_among names x) h) [
  | inl e ↦ contains_head n x names (bytes_equal n x e)
  | inr e ↦ Contains-append_right (n ∷ []) names x (among_contains names x e)
]

pub contains_among : (names : Scope) (x : List ℕ) → Contains names x → is_among names x ≡ true
contains_among [] x c = absurd (contains_nothing x c)
contains_among (n ∷ names) x c = elim (contains_cases n x names c) [
  | inl e ↦ or_left (bytes_eq n x) (is_among names x) (ap (bytes_eq n) (sym e) ∙ bytes_same n)
  | inr e ↦ or_right (bytes_eq n x) (is_among names x) (contains_among names x e)
]

-- ---- operators

arithmetic_has : (o : BinOp) → is_arithmetic o ≡ true → (p : Operator) × (operator o ≡ Some p)
arithmetic_has op.Add h = (operators.Add, refl)
arithmetic_has op.Sub h = (operators.Sub, refl)
arithmetic_has op.Mul h = (operators.Mul, refl)
arithmetic_has op.OrElse h = absurd (false≢true h)
arithmetic_has op.AndAlso h = absurd (false≢true h)
arithmetic_has op.Or h = absurd (false≢true h)
arithmetic_has op.Xor h = absurd (false≢true h)
arithmetic_has op.And h = absurd (false≢true h)
arithmetic_has op.Eq h = absurd (false≢true h)
arithmetic_has op.Ne h = absurd (false≢true h)
arithmetic_has op.Lt h = absurd (false≢true h)
arithmetic_has op.Gt h = absurd (false≢true h)
arithmetic_has op.Le h = absurd (false≢true h)
arithmetic_has op.Ge h = absurd (false≢true h)
arithmetic_has op.Shl h = absurd (false≢true h)
arithmetic_has op.Shr h = absurd (false≢true h)
arithmetic_has op.Ushr h = absurd (false≢true h)
arithmetic_has op.Div h = absurd (false≢true h)
arithmetic_has op.Rem h = absurd (false≢true h)

has_arithmetic : (o : BinOp) (p : Operator) → operator o ≡ Some p → is_arithmetic o ≡ true
has_arithmetic op.Add p h = refl
has_arithmetic op.Sub p h = refl
has_arithmetic op.Mul p h = refl
has_arithmetic op.OrElse p h = absurd (some_none (sym h))
has_arithmetic op.AndAlso p h = absurd (some_none (sym h))
has_arithmetic op.Or p h = absurd (some_none (sym h))
has_arithmetic op.Xor p h = absurd (some_none (sym h))
has_arithmetic op.And p h = absurd (some_none (sym h))
has_arithmetic op.Eq p h = absurd (some_none (sym h))
has_arithmetic op.Ne p h = absurd (some_none (sym h))
has_arithmetic op.Lt p h = absurd (some_none (sym h))
has_arithmetic op.Gt p h = absurd (some_none (sym h))
has_arithmetic op.Le p h = absurd (some_none (sym h))
has_arithmetic op.Ge p h = absurd (some_none (sym h))
has_arithmetic op.Shl p h = absurd (some_none (sym h))
has_arithmetic op.Shr p h = absurd (some_none (sym h))
has_arithmetic op.Ushr p h = absurd (some_none (sym h))
has_arithmetic op.Div p h = absurd (some_none (sym h))
has_arithmetic op.Rem p h = absurd (some_none (sym h))

comparison_has : (o : BinOp) → is_comparison o ≡ true → (p : Comparison) × (comparison o ≡ Some p)
comparison_has op.Lt h = (comparisons.Less, refl)
comparison_has op.Le h = (comparisons.LessEqual, refl)
comparison_has op.Gt h = (comparisons.Greater, refl)
comparison_has op.Ge h = (comparisons.GreaterEqual, refl)
comparison_has op.Eq h = (comparisons.Equal, refl)
comparison_has op.Ne h = (comparisons.NotEqual, refl)
comparison_has op.OrElse h = absurd (false≢true h)
comparison_has op.AndAlso h = absurd (false≢true h)
comparison_has op.Or h = absurd (false≢true h)
comparison_has op.Xor h = absurd (false≢true h)
comparison_has op.And h = absurd (false≢true h)
comparison_has op.Shl h = absurd (false≢true h)
comparison_has op.Shr h = absurd (false≢true h)
comparison_has op.Ushr h = absurd (false≢true h)
comparison_has op.Add h = absurd (false≢true h)
comparison_has op.Sub h = absurd (false≢true h)
comparison_has op.Mul h = absurd (false≢true h)
comparison_has op.Div h = absurd (false≢true h)
comparison_has op.Rem h = absurd (false≢true h)

has_comparison : (o : BinOp) (p : Comparison) → comparison o ≡ Some p → is_comparison o ≡ true
has_comparison op.Lt p h = refl
has_comparison op.Le p h = refl
has_comparison op.Gt p h = refl
has_comparison op.Ge p h = refl
has_comparison op.Eq p h = refl
has_comparison op.Ne p h = refl
has_comparison op.OrElse p h = absurd (some_none (sym h))
has_comparison op.AndAlso p h = absurd (some_none (sym h))
has_comparison op.Or p h = absurd (some_none (sym h))
has_comparison op.Xor p h = absurd (some_none (sym h))
has_comparison op.And p h = absurd (some_none (sym h))
has_comparison op.Shl p h = absurd (some_none (sym h))
has_comparison op.Shr p h = absurd (some_none (sym h))
has_comparison op.Ushr p h = absurd (some_none (sym h))
has_comparison op.Add p h = absurd (some_none (sym h))
has_comparison op.Sub p h = absurd (some_none (sym h))
has_comparison op.Mul p h = absurd (some_none (sym h))
has_comparison op.Div p h = absurd (some_none (sym h))
has_comparison op.Rem p h = absurd (some_none (sym h))

not_both : (o : BinOp) → is_arithmetic o ≡ true → is_comparison o ≡ true → ⊥
not_both op.Add h k = false≢true k
not_both op.Sub h k = false≢true k
not_both op.Mul h k = false≢true k
not_both op.OrElse h k = false≢true h
not_both op.AndAlso h k = false≢true h
not_both op.Or h k = false≢true h
not_both op.Xor h k = false≢true h
not_both op.And h k = false≢true h
not_both op.Eq h k = false≢true h
not_both op.Ne h k = false≢true h
not_both op.Lt h k = false≢true h
not_both op.Gt h k = false≢true h
not_both op.Le h k = false≢true h
not_both op.Ge h k = false≢true h
not_both op.Shl h k = false≢true h
not_both op.Shr h k = false≢true h
not_both op.Ushr h k = false≢true h
not_both op.Div h k = false≢true h
not_both op.Rem h k = false≢true h

operands_of : (o : BinOp) (l r : PlainExpr) → is_arithmetic o ≡ true → joins o l r ≡ true → (is_operand (tightness o) l ≡ true) × (is_operand (tightness o + 1) r ≡ true)
operands_of o l r h j =
    let left = is_operand (tightness o) l in
    let right = is_operand (tightness o + 1) r in
    elim (or_cases (is_arithmetic o && (left && right)) (is_comparison o && (is_sum l && is_sum r)) j) [
      | inl e ↦ and_parts left right (and_parts (is_arithmetic o) (left && right) e).1
      | inr e ↦ absurd (not_both o h (and_parts (is_comparison o) (is_sum l && is_sum r) e).0)
    ]

sums_of : (o : BinOp) (l r : PlainExpr) → is_comparison o ≡ true → joins o l r ≡ true → (is_sum l ≡ true) × (is_sum r ≡ true)
sums_of o l r h j =
    let left = is_operand (tightness o) l in
    let right = is_operand (tightness o + 1) r in
    elim (or_cases (is_arithmetic o && (left && right)) (is_comparison o && (is_sum l && is_sum r)) j) [
      | inl e ↦ absurd (not_both o (and_parts (is_arithmetic o) (left && right) e).0 h)
      | inr e ↦ and_parts (is_sum l) (is_sum r) (and_parts (is_comparison o) (is_sum l && is_sum r) e).1
    ]

-- ---- sums

pub record SumFits (names : Scope) (d v : ℕ) (e : PlainExpr) : Type 0 where
  pub sum : Sum
  pub built : sum_built e ≡ Some sum
  pub is : IsSum v d e sum
  pub scoped : IsScopedSum names sum

group_sum : (names : Scope) (d at v : ℕ) (e : PlainExpr) → 0 < d → SumFits names (d - 1) 0 e → SumFits names d v (paren at e)
group_sum names zero at v e h f = absurd (omega arith)
group_sum names (suc d) at v e h f = record {
  sum = f.sum;
  built = f.built;
  is = grouped (let P : ℕ → Type 0 = λ k. IsSum 0 k e f.sum in subst P (let less : suc d - 1 ≡ d = omega arith in less) f.is);
  scoped = f.scoped;
}

join_sums : (names : Scope) (d at v : ℕ) (o : BinOp) (l r : PlainExpr) → is_arithmetic o ≡ true → v ≤ tightness o → SumFits names d (tightness o) l → SumFits names d (tightness o + 1) r → SumFits names d v (binary at o l r)
join_sums names d at v o l r h le f g =
    let has = arithmetic_has o h in
    record {
      sum = binary_sum has.0 f.sum g.sum;
      built = ap (λ a. with_operator (operator o) a (sum_built r)) f.built ∙ ap (λ b. with_operator (operator o) (Some f.sum) b) g.built ∙ ap (λ p. with_operator p (Some f.sum) (Some g.sum)) has.1;
      is = joined has.1 le f.is g.is;
      scoped = (f.scoped, g.scoped);
    }

module _ (names : Scope) where
  pub sum_sound : (d v : ℕ) (e : PlainExpr) → lacking names d e ≡ None → is_operand v e ≡ true → SumFits names d v e
  sum_sound d v (int_literal at n decimal) h k =
      let t : nat_le n max_int ≡ true = unless_true (nat_le n max_int) at h in
      record { sum = number n; built = ap (λ b. if b then Some (number n) else None) t; is = a_number (leb-true n max_int t); scoped = tt }
  sum_sound d v (simple_name at x) h k = record { sum = local x; built = refl; is = a_local; scoped = among_contains names x (unless_true (is_among names x) at h) }
  sum_sound d v (paren at e) h k =
      let parts = first_none (lacking names (d - 1) e) (unless (nat_lt 0 d && is_sum e) at) h in
      let both = and_parts (nat_lt 0 d) (is_sum e) (unless_true (nat_lt 0 d && is_sum e) at parts.1) in
      group_sum names d at v e (ltb-true 0 d both.0) (sum_sound (d - 1) 0 e parts.0 both.1)
  sum_sound d v (binary at o l r) h k =
      let parts = first_none (lacking names d l) (first_of (lacking names d r) (unless (joins o l r) at)) h in
      let rest = first_none (lacking names d r) (unless (joins o l r) at) parts.1 in
      let both = and_parts (is_arithmetic o) (nat_le v (tightness o)) k in
      let fit = operands_of o l r both.0 (unless_true (joins o l r) at rest.1) in
      join_sums names d at v o l r both.0 (leb-true v (tightness o) both.1) (sum_sound d (tightness o) l parts.0 fit.0) (sum_sound d (tightness o + 1) r rest.0 fit.1)
  sum_sound d v (bool_literal at b) h k = absurd (false≢true k)
  sum_sound d v (null_literal at) h k = absurd (false≢true k)
  sum_sound d v (this_value at) h k = absurd (false≢true k)
  sum_sound d v (dot at e x) h k = absurd (false≢true k)
  sum_sound d v (super_field at x) h k = absurd (false≢true k)
  sum_sound d v (call at x es) h k = absurd (false≢true k)
  sum_sound d v (dot_call at e x es) h k = absurd (false≢true k)
  sum_sound d v (super_call at x es) h k = absurd (false≢true k)
  sum_sound d v (new_object at x es) h k = absurd (false≢true k)
  sum_sound d v (new_array at b e n) h k = absurd (false≢true k)
  sum_sound d v (element at a e) h k = absurd (false≢true k)
  sum_sound d v (unary at o e) h k = absurd (false≢true k)
  sum_sound d v (step at p q e) h k = absurd (false≢true k)
  sum_sound d v (cast at ty e) h k = absurd (false≢true k)
  sum_sound d v (instance_of at e ty) h k = absurd (false≢true k)
  sum_sound d v (conditional at t a b) h k = absurd (false≢true k)
  sum_sound d v (assign at o p e) h k = absurd (false≢true k)

  pub record SumHolds (d v : ℕ) (e : PlainExpr) (s : Sum) : Type 0 where
    pub none : lacking names d e ≡ None
    pub operand : is_operand v e ≡ true
    pub built : sum_built e ≡ Some s

  pub sum_holds : {d v : ℕ} {e : PlainExpr} {s : Sum} → IsSum v d e s → IsScopedSum names s → SumHolds d v e s
  sum_holds (a_number {at = at} {n = n} lt) c =
      let t : nat_le n max_int ≡ true = le-leb n max_int lt in
      record { none = unless_none (nat_le n max_int) at t; operand = refl; built = ap (λ b. if b then Some (number n) else None) t }
  sum_holds (a_local {at = at} {x = x}) c = record { none = unless_none (is_among names x) at (contains_among names x c); operand = refl; built = refl }
  sum_holds (grouped {d = d} {at = at} {e = e} i) c =
      let f = sum_holds i c in
      let less : suc d - 1 ≡ d = omega arith in
      record {
        none = first_both (lacking names (suc d - 1) e) (unless (nat_lt 0 (suc d) && is_sum e) at) (ap (λ k. lacking names k e) less ∙ f.none)
            (unless_none (nat_lt 0 (suc d) && is_sum e) at (and_from (nat_lt 0 (suc d)) (is_sum e) (lt-ltb 0 (suc d) (omega arith)) f.operand));
        operand = refl;
        built = f.built;
      }
  sum_holds (joined {v = v} {d = d} {at = at} {o = o} {op = p} {l = l} {r = r} {a = a} {b = b} e le i j) c =
      let f = sum_holds i c.0 in
      let g = sum_holds j c.1 in
      let h = has_arithmetic o p e in
      let left = is_operand (tightness o) l in
      let right = is_operand (tightness o + 1) r in
      record {
        none = first_both (lacking names d l) (first_of (lacking names d r) (unless (joins o l r) at)) f.none (first_both (lacking names d r) (unless (joins o l r) at) g.none
            (unless_none (joins o l r) at (or_left (is_arithmetic o && (left && right)) (is_comparison o && (is_sum l && is_sum r)) (and_from (is_arithmetic o) (left && right) h (and_from left right f.operand g.operand)))));
        operand = and_from (is_arithmetic o) (nat_le v (tightness o)) h (le-leb v (tightness o) le);
        built = ap (λ x. with_operator (operator o) x (sum_built r)) f.built ∙ ap (λ x. with_operator (operator o) (Some a) x) g.built ∙ ap (λ x. with_operator x (Some a) (Some b)) e;
      }

  -- ---- tests

  pub record TestFits (e : PlainExpr) : Type 0 where
    pub test : Test
    pub built : test_built e ≡ Some test
    pub is : IsTest e test
    pub scoped : IsScopedTest names test

  pub test_sound : (e : PlainExpr) → lacking_in names e ≡ None → is_test e ≡ true → TestFits e
  test_sound (binary at o l r) h k =
      let parts = first_none (lacking_in names l) (first_of (lacking_in names r) (unless (joins o l r) at)) h in
      let rest = first_none (lacking_in names r) (unless (joins o l r) at) parts.1 in
      let fit = sums_of o l r k (unless_true (joins o l r) at rest.1) in
      let f = sum_sound max_parentheses 0 l parts.0 fit.0 in
      let g = sum_sound max_parentheses 0 r rest.0 fit.1 in
      let has = comparison_has o k in
      record {
        test = record { comparison = has.0; left = f.sum; right = g.sum };
        built = ap (λ a. with_comparison (comparison o) a (sum_built r)) f.built ∙ ap (λ b. with_comparison (comparison o) (Some f.sum) b) g.built ∙ ap (λ p. with_comparison p (Some f.sum) (Some g.sum)) has.1;
        is = compared has.1 f.is g.is;
        scoped = (f.scoped, g.scoped);
      }
  test_sound (int_literal at n d) h k = absurd (false≢true k)
  test_sound (bool_literal at b) h k = absurd (false≢true k)
  test_sound (null_literal at) h k = absurd (false≢true k)
  test_sound (this_value at) h k = absurd (false≢true k)
  test_sound (simple_name at x) h k = absurd (false≢true k)
  test_sound (paren at e) h k = absurd (false≢true k)
  test_sound (dot at e x) h k = absurd (false≢true k)
  test_sound (super_field at x) h k = absurd (false≢true k)
  test_sound (call at x es) h k = absurd (false≢true k)
  test_sound (dot_call at e x es) h k = absurd (false≢true k)
  test_sound (super_call at x es) h k = absurd (false≢true k)
  test_sound (new_object at x es) h k = absurd (false≢true k)
  test_sound (new_array at b e n) h k = absurd (false≢true k)
  test_sound (element at a e) h k = absurd (false≢true k)
  test_sound (unary at o e) h k = absurd (false≢true k)
  test_sound (step at p q e) h k = absurd (false≢true k)
  test_sound (cast at ty e) h k = absurd (false≢true k)
  test_sound (instance_of at e ty) h k = absurd (false≢true k)
  test_sound (conditional at t a b) h k = absurd (false≢true k)
  test_sound (assign at o p e) h k = absurd (false≢true k)

  pub record TestHolds (e : PlainExpr) (t : Test) : Type 0 where
    pub none : lacking_in names e ≡ None
    pub test : is_test e ≡ true
    pub built : test_built e ≡ Some t

  pub test_holds : {e : PlainExpr} {t : Test} → IsTest e t → IsScopedTest names t → TestHolds e t
  test_holds (compared {at = at} {o = o} {c = p} {l = l} {r = r} {a = a} {b = b} e i j) c =
      let f = sum_holds i c.0 in
      let g = sum_holds j c.1 in
      let h = has_comparison o p e in
      let left = is_operand (tightness o) l in
      let right = is_operand (tightness o + 1) r in
      record {
        none = first_both (lacking_in names l) (first_of (lacking_in names r) (unless (joins o l r) at)) f.none (first_both (lacking_in names r) (unless (joins o l r) at) g.none
            (unless_none (joins o l r) at (or_right (is_arithmetic o && (left && right)) (is_comparison o && (is_sum l && is_sum r)) (and_from (is_comparison o) (is_sum l && is_sum r) h (and_from (is_sum l) (is_sum r) f.operand g.operand)))));
        test = h;
        built = ap (λ x. with_comparison (comparison o) x (sum_built r)) f.built ∙ ap (λ x. with_comparison (comparison o) (Some a) x) g.built ∙ ap (λ x. with_comparison x (Some a) (Some b)) e;
      }
