-- The same of statements.
use Rattle.std.proofs.Common.{◌≡◌, ℕ, ◌+◌, ◌-◌, ◌<◌, ◌≤◌, true, false, not, ◌&&◌, nat_lt, nat_eq, option_and_then, if◌then◌else◌, List, Option, None, Some, sym, ap, ◌∙◌, refl, subst, arith, codes, bytes_eq}
use Rattle.std.proofs.lemmas.Bool.{true≢false, false≢true, and_parts, and_from, not-true, not_from_false, ltb-true, lt-ltb, eqb-true, false_from_ne_true}
use Rattle.bcj_cli_language.specs.Tree.{Sum, Act, print, declare, assign as assign_act, choose, repeat, Acts, nil, cons}
use Rattle.bcj_cli_language.specs.Scopes.{Scope, IsScopedSum, names_after, IsScoped, AreScoped, declared_by, declared_in, blocks_of, blocks_in}
use Rattle.bcj_parser_trees.specs.declared.names.Base.{Base}
use Rattle.bcj_parser_trees.specs.declared.names.Base.TheVariants as base
use Rattle.bcj_parser_trees.specs.declared.names.TypeName.{TypeName}
use Rattle.bcj_parser_trees.specs.declared.expression.BinOp.{BinOp}
use Rattle.bcj_parser_trees.specs.Trees.{PlainExpr, int_literal, bool_literal, null_literal, this_value, simple_name, paren, dot, super_field, call, dot_call, super_call, new_object, new_array, element, unary, step, cast, binary, instance_of, conditional, assign, PlainExprs, no_exprs, more_exprs, PlainOption, absent, present, PlainStmt, local_variable, block, empty, evaluate, if_else, while_loop, do_loop, for_loop, return_with, throw, break_loop, continue_loop, try_catch, PlainStmts, no_stmts, more_stmts, PlainElse, no_else, else_with}
use Rattle.bcj_cli_unit.specs.Limits.{max_parentheses}
use Rattle.bcj_cli_unit.specs.Kinds.{is_among, is_sum, is_test, is_name_of, is_out, is_one_sum, is_print, is_name, is_none, assigns as assigns_well, is_evaluation, is_int, is_int_base, is_block, is_block_or_none, is_choice}
use Rattle.bcj_cli_unit.specs.Program.{IsWholeSum, standard_output, int_type, IsStatement, prints, declares, assigns, chooses, repeats, AreStatements, none, more, IsBlock, a_block, IsElse, without, with_block}
use Rattle.bcj_cli_unit.specs.Lacking.{first_of, unless, lacking, all_lacking, lacking_in, option_lacking, ScopeState, leave, behind, behind_all, else_behind, may_declare, lacks, all_lacks, else_lacks, catches_lack}
use Rattle.bcj_cli_unit.specs.function.Built.{with_both, evaluation_built, choice_built, loop_built, act_built, acts_built, block_built, else_built}
use Rattle.bcj_cli_unit.proofs.Sums.{some_none, first_none, first_both, never_first, unless_true, unless_none, bytes_same, bytes_equal, among_contains, contains_among, SumFits, sum_sound, sum_holds, TestFits, test_sound, test_holds}

-- ---- forms

name_of_is : (x : List ℕ) (e : PlainExpr) → is_name_of x e ≡ true → (j : ℕ) × (e ≡ simple_name j x)
name_of_is x (simple_name at y) h = (at, ap (simple_name at) (bytes_equal y x h))
name_of_is x (int_literal at n d) h = absurd (false≢true h)
name_of_is x (bool_literal at b) h = absurd (false≢true h)
name_of_is x (null_literal at) h = absurd (false≢true h)
name_of_is x (this_value at) h = absurd (false≢true h)
name_of_is x (paren at e) h = absurd (false≢true h)
name_of_is x (dot at e y) h = absurd (false≢true h)
name_of_is x (super_field at y) h = absurd (false≢true h)
name_of_is x (call at y es) h = absurd (false≢true h)
name_of_is x (dot_call at e y es) h = absurd (false≢true h)
name_of_is x (super_call at y es) h = absurd (false≢true h)
name_of_is x (new_object at y es) h = absurd (false≢true h)
name_of_is x (new_array at b e n) h = absurd (false≢true h)
name_of_is x (element at a e) h = absurd (false≢true h)
name_of_is x (unary at o e) h = absurd (false≢true h)
name_of_is x (step at p q e) h = absurd (false≢true h)
name_of_is x (cast at ty e) h = absurd (false≢true h)
name_of_is x (binary at o l r) h = absurd (false≢true h)
name_of_is x (instance_of at e ty) h = absurd (false≢true h)
name_of_is x (conditional at t a b) h = absurd (false≢true h)
name_of_is x (assign at o p e) h = absurd (false≢true h)

out_is : (e : PlainExpr) → is_out e ≡ true → (i : ℕ) × (j : ℕ) × (e ≡ standard_output i j)
out_is (dot at e x) h =
    let both = and_parts (is_name_of (codes "System") e) (bytes_eq x (codes "out")) h in
    let name = name_of_is (codes "System") e both.0 in
    (at, name.0, ap (λ y. dot at y x) name.1 ∙ ap (dot at (simple_name name.0 (codes "System"))) (bytes_equal x (codes "out") both.1))
out_is (int_literal at n d) h = absurd (false≢true h)
out_is (bool_literal at b) h = absurd (false≢true h)
out_is (null_literal at) h = absurd (false≢true h)
out_is (this_value at) h = absurd (false≢true h)
out_is (simple_name at x) h = absurd (false≢true h)
out_is (paren at e) h = absurd (false≢true h)
out_is (super_field at x) h = absurd (false≢true h)
out_is (call at x es) h = absurd (false≢true h)
out_is (dot_call at e x es) h = absurd (false≢true h)
out_is (super_call at x es) h = absurd (false≢true h)
out_is (new_object at x es) h = absurd (false≢true h)
out_is (new_array at b e n) h = absurd (false≢true h)
out_is (element at a e) h = absurd (false≢true h)
out_is (unary at o e) h = absurd (false≢true h)
out_is (step at p q e) h = absurd (false≢true h)
out_is (cast at ty e) h = absurd (false≢true h)
out_is (binary at o l r) h = absurd (false≢true h)
out_is (instance_of at e ty) h = absurd (false≢true h)
out_is (conditional at t a b) h = absurd (false≢true h)
out_is (assign at o p e) h = absurd (false≢true h)

name_is : (e : PlainExpr) → is_name e ≡ true → (j : ℕ) × (x : List ℕ) × (e ≡ simple_name j x)
name_is (simple_name at x) h = (at, x, refl)
name_is (int_literal at n d) h = absurd (false≢true h)
name_is (bool_literal at b) h = absurd (false≢true h)
name_is (null_literal at) h = absurd (false≢true h)
name_is (this_value at) h = absurd (false≢true h)
name_is (paren at e) h = absurd (false≢true h)
name_is (dot at e x) h = absurd (false≢true h)
name_is (super_field at x) h = absurd (false≢true h)
name_is (call at x es) h = absurd (false≢true h)
name_is (dot_call at e x es) h = absurd (false≢true h)
name_is (super_call at x es) h = absurd (false≢true h)
name_is (new_object at x es) h = absurd (false≢true h)
name_is (new_array at b e n) h = absurd (false≢true h)
name_is (element at a e) h = absurd (false≢true h)
name_is (unary at o e) h = absurd (false≢true h)
name_is (step at p q e) h = absurd (false≢true h)
name_is (cast at ty e) h = absurd (false≢true h)
name_is (binary at o l r) h = absurd (false≢true h)
name_is (instance_of at e ty) h = absurd (false≢true h)
name_is (conditional at t a b) h = absurd (false≢true h)
name_is (assign at o p e) h = absurd (false≢true h)

base_is : (b : Base) → is_int_base b ≡ true → b ≡ base.Int
base_is base.Int h = refl
base_is base.Bool h = absurd (false≢true h)
base_is base.Void h = absurd (false≢true h)
base_is (base.Named x) h = absurd (false≢true h)

int_is : (ty : TypeName) → is_int ty ≡ true → ty ≡ int_type
int_is ty h =
    let both = and_parts (is_int_base ty.base) (nat_eq ty.dims 0) h in
    let same_base : ty.base ≡ base.Int = base_is ty.base both.0 in
    let same_dims : ty.dims ≡ 0 = eqb-true ty.dims 0 both.1 in
    λ i. record { base = same_base i; dims = same_dims i }

none_is : (o : Option BinOp) → is_none o ≡ true → o ≡ None
none_is None h = refl
none_is (Some o) h = absurd (false≢true h)

-- ---- evaluations

pub record EvaluationFits (names : Scope) (e : PlainExpr) : Type 0 where
  pub act : Act
  pub built : evaluation_built e ≡ Some act
  pub is : (at : ℕ) → IsStatement (evaluate at e) act
  pub scoped : IsScoped names act
  pub flat : blocks_of act ≡ 0
  pub adds : declared_by act ≡ 0
  pub keeps : names_after names act ≡ names

module _ (names : Scope) where
  print_sound : (i : ℕ) (t : PlainExpr) (x : List ℕ) (es : PlainExprs) → all_lacking names max_parentheses es ≡ None → is_print t x es ≡ true → EvaluationFits names (dot_call i t x es)
  print_sound i t x no_exprs h k =
      let rest = and_parts (is_out t) (bytes_eq x (codes "println") && is_one_sum no_exprs) k in
      absurd (false≢true (and_parts (bytes_eq x (codes "println")) (is_one_sum no_exprs) rest.1).1)
  print_sound i t x (more_exprs e (more_exprs f fs)) h k =
      let rest = and_parts (is_out t) (bytes_eq x (codes "println") && is_one_sum (more_exprs e (more_exprs f fs))) k in
      absurd (false≢true (and_parts (bytes_eq x (codes "println")) (is_one_sum (more_exprs e (more_exprs f fs))) rest.1).1)
  print_sound i t x (more_exprs e no_exprs) h k =
      let parts = and_parts (is_out t) (bytes_eq x (codes "println") && is_sum e) k in
      let rest = and_parts (bytes_eq x (codes "println")) (is_sum e) parts.1 in
      let out = out_is t parts.0 in
      let f = sum_sound names max_parentheses 0 e (first_none (lacking_in names e) None h).0 rest.1 in
      record {
        act = print f.sum;
        built = ap (λ o. option_and_then (λ s. Some (print s)) o) f.built;
        is = λ at.
            subst (λ y. IsStatement (evaluate at (dot_call i t y (more_exprs e no_exprs))) (print f.sum)) (sym (bytes_equal x (codes "println") rest.0))
            (subst (λ u. IsStatement (evaluate at (dot_call i u (codes "println") (more_exprs e no_exprs))) (print f.sum)) (sym out.2) (prints f.is));
        scoped = f.scoped;
        flat = refl;
        adds = refl;
        keeps = refl;
      }

  assign_named : (i j : ℕ) (x : List ℕ) (e : PlainExpr) → is_among names x ≡ true → SumFits names max_parentheses 0 e → EvaluationFits names (assign i None (simple_name j x) e)
  assign_named i j x e h f = record {
    act = assign_act x f.sum;
    built = ap (λ o. option_and_then (λ s. Some (assign_act x s)) o) f.built;
    is = λ at. assigns f.is;
    scoped = (among_contains names x h, f.scoped);
    flat = refl;
    adds = refl;
    keeps = refl;
  }

  assign_sound : (i : ℕ) (o : Option BinOp) (place e : PlainExpr) → lacking_in names place ≡ None → lacking_in names e ≡ None → assigns_well o place e ≡ true → EvaluationFits names (assign i o place e)
  assign_sound i o place e h g k =
      let parts = and_parts (is_none o) (is_name place && is_sum e) k in
      let rest = and_parts (is_name place) (is_sum e) parts.1 in
      let named = name_is place rest.0 in
      let known : is_among names named.1 ≡ true = unless_true (is_among names named.1) named.0 (subst (λ y. lacking_in names y ≡ None) named.2 h) in
      let f = sum_sound names max_parentheses 0 e g rest.1 in
      subst (λ q. EvaluationFits names (assign i q place e)) (sym (none_is o parts.0))
      (subst (λ y. EvaluationFits names (assign i None y e)) (sym named.2) (assign_named i named.0 named.1 e known f))

  evaluation_sound : (e : PlainExpr) → lacking_in names e ≡ None → is_evaluation e ≡ true → EvaluationFits names e
  evaluation_sound (dot_call i t x es) h k =
      let parts = first_none (if is_out t then None else lacking names max_parentheses t) (first_of (all_lacking names max_parentheses es) (unless (is_print t x es) i)) h in
      let rest = first_none (all_lacking names max_parentheses es) (unless (is_print t x es) i) parts.1 in
      print_sound i t x es rest.0 (unless_true (is_print t x es) i rest.1)
  evaluation_sound (assign i o place e) h k =
      let parts = first_none (lacking_in names place) (first_of (lacking_in names e) (unless (assigns_well o place e) i)) h in
      let rest = first_none (lacking_in names e) (unless (assigns_well o place e) i) parts.1 in
      assign_sound i o place e parts.0 rest.0 (unless_true (assigns_well o place e) i rest.1)
  evaluation_sound (int_literal at n d) h k = absurd (false≢true k)
  evaluation_sound (bool_literal at b) h k = absurd (false≢true k)
  evaluation_sound (null_literal at) h k = absurd (false≢true k)
  evaluation_sound (this_value at) h k = absurd (false≢true k)
  evaluation_sound (simple_name at x) h k = absurd (false≢true k)
  evaluation_sound (paren at e) h k = absurd (false≢true k)
  evaluation_sound (dot at e x) h k = absurd (false≢true k)
  evaluation_sound (super_field at x) h k = absurd (false≢true k)
  evaluation_sound (call at x es) h k = absurd (false≢true k)
  evaluation_sound (super_call at x es) h k = absurd (false≢true k)
  evaluation_sound (new_object at x es) h k = absurd (false≢true k)
  evaluation_sound (new_array at b e n) h k = absurd (false≢true k)
  evaluation_sound (element at a e) h k = absurd (false≢true k)
  evaluation_sound (unary at o e) h k = absurd (false≢true k)
  evaluation_sound (step at p q e) h k = absurd (false≢true k)
  evaluation_sound (cast at ty e) h k = absurd (false≢true k)
  evaluation_sound (binary at o l r) h k = absurd (false≢true k)
  evaluation_sound (instance_of at e ty) h k = absurd (false≢true k)
  evaluation_sound (conditional at t a b) h k = absurd (false≢true k)

-- ---- what is known of statements that lack nothing

pub record ActFits (p : ScopeState) (b : ℕ) (s : PlainStmt) : Type 0 where
  pub act : Act
  pub built : act_built s ≡ Some act
  pub is : IsStatement s act
  pub scoped : IsScoped p.names act
  pub depth : blocks_of act ≤ b
  pub names : (behind p s).names ≡ names_after p.names act
  pub left : (behind p s).left + declared_by act ≡ p.left

pub record AllFit (p : ScopeState) (b : ℕ) (ss : PlainStmts) : Type 0 where
  pub acts : Acts
  pub built : acts_built ss ≡ Some acts
  pub are : AreStatements ss acts
  pub scoped : AreScoped p.names acts
  pub depth : blocks_in acts ≤ b
  pub left : (behind_all p ss).left + declared_in acts ≡ p.left

pub record BlockFits (p : ScopeState) (b : ℕ) (s : PlainStmt) : Type 0 where
  pub acts : Acts
  pub built : block_built s ≡ Some acts
  pub is : IsBlock s acts
  pub scoped : AreScoped p.names acts
  pub depth : blocks_in acts + 1 ≤ b
  pub names : (behind p s).names ≡ p.names
  pub left : (behind p s).left + declared_in acts ≡ p.left

pub record ElseFits (p : ScopeState) (b : ℕ) (e : PlainElse) : Type 0 where
  pub acts : Acts
  pub built : else_built e ≡ Some acts
  pub is : IsElse e acts
  pub scoped : AreScoped p.names acts
  pub depth : blocks_in acts ≤ b - 1
  pub names : (else_behind p e).names ≡ p.names
  pub left : (else_behind p e).left + declared_in acts ≡ p.left

declare_sound : (p : ScopeState) (b at : ℕ) (ty : TypeName) (x : List ℕ) (init : PlainOption) → option_lacking p.names init ≡ None → may_declare p ty x init ≡ true → ActFits p b (local_variable at ty x init)
declare_sound p b at ty x absent h k =
    let a = and_parts (is_int ty) (false && (not (is_among p.names x) && (not (bytes_eq x (codes "System")) && nat_lt 0 p.left))) k in
    absurd (false≢true a.1)
declare_sound p b at ty x (present e) h k =
    let room = nat_lt 0 p.left in
    let other = not (bytes_eq x (codes "System")) in
    let new = not (is_among p.names x) in
    let a = and_parts (is_int ty) (is_sum e && (new && (other && room))) k in
    let b1 = and_parts (is_sum e) (new && (other && room)) a.1 in
    let c = and_parts new (other && room) b1.1 in
    let d = and_parts other room c.1 in
    let f = sum_sound p.names max_parentheses 0 e h b1.0 in
    let above : 0 < p.left = ltb-true 0 p.left d.1 in
    record {
      act = declare x f.sum;
      built = ap (λ o. option_and_then (λ s. Some (declare x s)) o) f.built;
      is = subst (λ t. IsStatement (local_variable at t x (present e)) (declare x f.sum)) (sym (int_is ty a.0)) (declares f.is);
      scoped = (
        f.scoped,
        (λ m. true≢false (sym (contains_among p.names x m) ∙ not-true (is_among p.names x) c.0)),
        (λ m. true≢false (sym (bytes_same x) ∙ ap (bytes_eq x) m ∙ not-true (bytes_eq x (codes "System")) d.0)),
      );
      depth = omega arith;
      names = refl;
      left = omega (arith, above);
    }

evaluate_fits : (p : ScopeState) (b at : ℕ) (e : PlainExpr) → EvaluationFits p.names e → ActFits p b (evaluate at e)
evaluate_fits p b at e f = record {
  act = f.act;
  built = f.built;
  is = f.is at;
  scoped = f.scoped;
  depth = omega (arith, f.flat);
  names = sym f.keeps;
  left = omega (arith, f.adds);
}

choose_fits : (p : ScopeState) (b at : ℕ) (c : PlainExpr) (first : PlainStmt) (second : PlainElse) → TestFits p.names c → BlockFits p b first → ElseFits (behind p first) b second → ActFits p b (if_else at c first second)
choose_fits p b at c first second t f g = record {
  act = choose t.test f.acts g.acts;
  built = ap (λ o. choice_built o (block_built first) (else_built second)) t.built ∙ ap (λ o. choice_built (Some t.test) o (else_built second)) f.built ∙ ap (λ o. choice_built (Some t.test) (Some f.acts) o) g.built;
  is = chooses t.is f.is g.is;
  scoped = (t.scoped, f.scoped, subst (λ n. AreScoped n g.acts) f.names g.scoped);
  depth = omega (arith, f.depth, g.depth);
  names = g.names ∙ f.names;
  left = omega (arith, f.left, g.left);
}

repeat_fits : (p : ScopeState) (b at : ℕ) (c : PlainExpr) (s : PlainStmt) → TestFits p.names c → BlockFits p b s → ActFits p b (while_loop at c s)
repeat_fits p b at c s t f = record {
  act = repeat t.test f.acts;
  built = ap (λ o. loop_built o (block_built s)) t.built ∙ ap (λ o. loop_built (Some t.test) o) f.built;
  is = repeats t.is f.is;
  scoped = (t.scoped, f.scoped);
  depth = omega (arith, f.depth);
  names = f.names;
  left = omega (arith, f.left);
}

block_fits : (p : ScopeState) (b at : ℕ) (ss : PlainStmts) → 0 < b → AllFit p (b - 1) ss → BlockFits p b (block at ss)
block_fits p b at ss h f = record {
  acts = f.acts;
  built = f.built;
  is = a_block f.are;
  scoped = f.scoped;
  depth = omega (arith, h, f.depth);
  names = refl;
  left = f.left;
}

cons_fits : (p : ScopeState) (b : ℕ) (s : PlainStmt) (ss : PlainStmts) → ActFits p b s → AllFit (behind p s) b ss → AllFit p b (more_stmts s ss)
cons_fits p b s ss f g = record {
  acts = cons f.act g.acts;
  built = ap (λ o. with_both cons o (acts_built ss)) f.built ∙ ap (λ o. with_both cons (Some f.act) o) g.built;
  are = more f.is g.are;
  scoped = (f.scoped, subst (λ n. AreScoped n g.acts) f.names g.scoped);
  depth = omega (arith, f.depth, g.depth);
  left = omega (arith, f.left, g.left);
}

mutual
  act_sound : (p : ScopeState) (b : ℕ) (s : PlainStmt) → lacks false b p s ≡ None → ActFits p b s
  act_sound p b (local_variable at ty x init) h =
      let parts = first_none (option_lacking p.names init) (unless (may_declare p ty x init) at) h in
      declare_sound p b at ty x init parts.0 (unless_true (may_declare p ty x init) at parts.1)
  act_sound p b (evaluate at e) h =
      let parts = first_none (lacking_in p.names e) (unless (is_evaluation e) at) h in
      evaluate_fits p b at e (evaluation_sound p.names e parts.0 (unless_true (is_evaluation e) at parts.1))
  act_sound p b (if_else at c first second) h =
      let end = first_of (else_lacks b (behind p first) second) (unless (is_choice c first second) at) in
      let parts = first_none (lacking_in p.names c) (first_of (lacks true b p first) end) h in
      let branch = first_none (lacks true b p first) end parts.1 in
      let rest = first_none (else_lacks b (behind p first) second) (unless (is_choice c first second) at) branch.1 in
      let kinds = and_parts (is_test c) (is_block first && is_block_or_none second) (unless_true (is_choice c first second) at rest.1) in
      let blocks = and_parts (is_block first) (is_block_or_none second) kinds.1 in
      choose_fits p b at c first second (test_sound p.names c parts.0 kinds.0) (block_sound p b first branch.0 blocks.0) (else_sound (behind p first) b second rest.0 blocks.1)
  act_sound p b (while_loop at c s) h =
      let parts = first_none (lacking_in p.names c) (first_of (lacks true b p s) (unless (is_test c && is_block s) at)) h in
      let rest = first_none (lacks true b p s) (unless (is_test c && is_block s) at) parts.1 in
      let kinds = and_parts (is_test c) (is_block s) (unless_true (is_test c && is_block s) at rest.1) in
      repeat_fits p b at c s (test_sound p.names c parts.0 kinds.0) (block_sound p b s rest.0 kinds.1)
  act_sound p b (block at ss) h = absurd (never_first (all_lacks (b - 1) p ss) at h)
  act_sound p b (empty at) h = absurd (some_none h)
  act_sound p b (break_loop at) h = absurd (some_none h)
  act_sound p b (continue_loop at) h = absurd (some_none h)
  act_sound p b (return_with at e) h = absurd (never_first (option_lacking p.names e) at h)
  act_sound p b (throw at e) h = absurd (never_first (lacking_in p.names e) at h)
  act_sound p b (do_loop at s c) h =
      absurd (never_first (lacking_in (behind p s).names c) at (first_none (lacks true b p s) (first_of (lacking_in (behind p s).names c) (Some at)) h).1)
  act_sound p b (for_loop at init c update s) h =
      let q = behind_all p init in
      let last = first_of (lacks true b q s) (Some at) in
      let middle = first_of (all_lacking q.names max_parentheses update) last in
      let parts = first_none (all_lacks b p init) (first_of (option_lacking q.names c) middle) h in
      let rest = first_none (option_lacking q.names c) middle parts.1 in
      absurd (never_first (lacks true b q s) at (first_none (all_lacking q.names max_parentheses update) last rest.1).1)
  act_sound p b (try_catch at ss cs) h =
      let others = catches_lack b (leave p (behind_all p ss)) cs in
      absurd (never_first others at (first_none (all_lacks b p ss) (first_of others (Some at)) h).1)

  pub all_sound : (p : ScopeState) (b : ℕ) (ss : PlainStmts) → all_lacks b p ss ≡ None → AllFit p b ss
  all_sound p b no_stmts h = record { acts = nil; built = refl; are = none; scoped = tt; depth = omega arith; left = omega arith }
  all_sound p b (more_stmts s ss) h =
      let parts = first_none (lacks false b p s) (all_lacks b (behind p s) ss) h in
      cons_fits p b s ss (act_sound p b s parts.0) (all_sound (behind p s) b ss parts.1)

  block_sound : (p : ScopeState) (b : ℕ) (s : PlainStmt) → lacks true b p s ≡ None → is_block s ≡ true → BlockFits p b s
  block_sound p b (block at ss) h k =
      let parts = first_none (all_lacks (b - 1) p ss) (unless (true && nat_lt 0 b) at) h in
      block_fits p b at ss (ltb-true 0 b (unless_true (nat_lt 0 b) at parts.1)) (all_sound p (b - 1) ss parts.0)
  block_sound p b (local_variable at ty x init) h k = absurd (false≢true k)
  block_sound p b (empty at) h k = absurd (false≢true k)
  block_sound p b (evaluate at e) h k = absurd (false≢true k)
  block_sound p b (if_else at c x y) h k = absurd (false≢true k)
  block_sound p b (while_loop at c s) h k = absurd (false≢true k)
  block_sound p b (do_loop at s c) h k = absurd (false≢true k)
  block_sound p b (for_loop at i c u s) h k = absurd (false≢true k)
  block_sound p b (return_with at e) h k = absurd (false≢true k)
  block_sound p b (throw at e) h k = absurd (false≢true k)
  block_sound p b (break_loop at) h k = absurd (false≢true k)
  block_sound p b (continue_loop at) h k = absurd (false≢true k)
  block_sound p b (try_catch at ss cs) h k = absurd (false≢true k)

  else_sound : (p : ScopeState) (b : ℕ) (e : PlainElse) → else_lacks b p e ≡ None → is_block_or_none e ≡ true → ElseFits p b e
  else_sound p b no_else h k = record { acts = nil; built = refl; is = without; scoped = tt; depth = omega arith; names = refl; left = omega arith }
  else_sound p b (else_with s) h k =
      let f = block_sound p b s h k in
      record { acts = f.acts; built = f.built; is = with_block f.is; scoped = f.scoped; depth = omega (arith, f.depth); names = f.names; left = f.left }

-- ---- what is known of statements that mean something

pub record ActHolds (p : ScopeState) (b : ℕ) (s : PlainStmt) (a : Act) : Type 0 where
  pub nothing : lacks false b p s ≡ None
  pub built : act_built s ≡ Some a
  pub names : (behind p s).names ≡ names_after p.names a
  pub left : (behind p s).left + declared_by a ≡ p.left

pub record AllHold (p : ScopeState) (b : ℕ) (ss : PlainStmts) (q : Acts) : Type 0 where
  pub nothing : all_lacks b p ss ≡ None
  pub built : acts_built ss ≡ Some q
  pub left : (behind_all p ss).left + declared_in q ≡ p.left

pub record BlockHolds (p : ScopeState) (b : ℕ) (s : PlainStmt) (q : Acts) : Type 0 where
  pub nothing : lacks true b p s ≡ None
  pub kind : is_block s ≡ true
  pub built : block_built s ≡ Some q
  pub names : (behind p s).names ≡ p.names
  pub left : (behind p s).left + declared_in q ≡ p.left

pub record ElseHolds (p : ScopeState) (b : ℕ) (e : PlainElse) (q : Acts) : Type 0 where
  pub nothing : else_lacks b p e ≡ None
  pub kind : is_block_or_none e ≡ true
  pub built : else_built e ≡ Some q
  pub names : (else_behind p e).names ≡ p.names
  pub left : (else_behind p e).left + declared_in q ≡ p.left

declare_holds : (p : ScopeState) (b at : ℕ) (x : List ℕ) (e : PlainExpr) (s : Sum) → IsWholeSum e s → IsScoped p.names (declare x s) → 1 ≤ p.left → ActHolds p b (local_variable at int_type x (present e)) (declare x s)
declare_holds p b at x e s i c d =
    let f = sum_holds p.names i c.0 in
    let room = nat_lt 0 p.left in
    let other = not (bytes_eq x (codes "System")) in
    let new = not (is_among p.names x) in
    let is_new : new ≡ true = not_from_false (is_among p.names x) (false_from_ne_true (is_among p.names x) (λ m. c.1 (among_contains p.names x m))) in
    let is_other : other ≡ true = not_from_false (bytes_eq x (codes "System")) (false_from_ne_true (bytes_eq x (codes "System")) (λ m. c.2 (bytes_equal x (codes "System") m))) in
    record {
      nothing = first_both (lacking_in p.names e) (unless (may_declare p int_type x (present e)) at) f.none
          (unless_none (is_sum e && (new && (other && room))) at (and_from (is_sum e) (new && (other && room)) f.operand (and_from new (other && room) is_new (and_from other room is_other (lt-ltb 0 p.left (omega (arith, d)))))));
      built = ap (λ o. option_and_then (λ s. Some (declare x s)) o) f.built;
      names = refl;
      left = omega (arith, d);
    }

print_holds : (p : ScopeState) (b at i j k : ℕ) (e : PlainExpr) (s : Sum) → IsWholeSum e s → IsScopedSum p.names s → ActHolds p b (evaluate at (dot_call i (standard_output j k) (codes "println") (more_exprs e no_exprs))) (print s)
print_holds p b at i j k e s is c =
    let f = sum_holds p.names is c in
    record {
      nothing = first_both (lacking_in p.names (dot_call i (standard_output j k) (codes "println") (more_exprs e no_exprs))) (unless true at)
          (first_both (first_of (lacking_in p.names e) None) (unless (is_sum e) i) (first_both (lacking_in p.names e) None f.none refl) (unless_none (is_sum e) i f.operand)) refl;
      built = ap (λ o. option_and_then (λ s. Some (print s)) o) f.built;
      names = refl;
      left = omega arith;
    }

assign_holds : (p : ScopeState) (b at i j : ℕ) (x : List ℕ) (e : PlainExpr) (s : Sum) → IsWholeSum e s → IsScoped p.names (assign_act x s) → ActHolds p b (evaluate at (assign i None (simple_name j x) e)) (assign_act x s)
assign_holds p b at i j x e s is c =
    let f = sum_holds p.names is c.1 in
    record {
      nothing = first_both (lacking_in p.names (assign i None (simple_name j x) e)) (unless true at)
          (first_both (unless (is_among p.names x) j) (first_of (lacking_in p.names e) (unless (is_sum e) i)) (unless_none (is_among p.names x) j (contains_among p.names x c.0))
          (first_both (lacking_in p.names e) (unless (is_sum e) i) f.none (unless_none (is_sum e) i f.operand))) refl;
      built = ap (λ o. option_and_then (λ s. Some (assign_act x s)) o) f.built;
      names = refl;
      left = omega arith;
    }

mutual
  act_holds : {s : PlainStmt} {a : Act} → IsStatement s a → (p : ScopeState) (b : ℕ) → IsScoped p.names a → declared_by a ≤ p.left → blocks_of a ≤ b → ActHolds p b s a
  act_holds (prints {at = at} {i = i} {j = j} {k = k} {e = e} {s = s} is) p b c d n = print_holds p b at i j k e s is c
  act_holds (declares {at = at} {x = x} {e = e} {s = s} is) p b c d n = declare_holds p b at x e s is c d
  act_holds (assigns {at = at} {i = i} {j = j} {x = x} {e = e} {s = s} is) p b c d n = assign_holds p b at i j x e s is c
  act_holds (chooses {at = at} {c = c} {first = first} {second = second} {t = t} {p = q} {q = r} i j k) p b s d n =
      let t1 = test_holds p.names i s.0 in
      let f = block_holds j p b s.1 (omega (arith, d)) (omega (arith, n)) in
      let g = else_holds k (behind p first) b (subst (λ l. AreScoped l r) (sym f.names) s.2) (omega (arith, d, f.left)) (omega (arith, n)) in
      let end = first_of (else_lacks b (behind p first) second) (unless (is_choice c first second) at) in
      record {
        nothing = first_both (lacking_in p.names c) (first_of (lacks true b p first) end) t1.none
            (first_both (lacks true b p first) end f.nothing (first_both (else_lacks b (behind p first) second) (unless (is_choice c first second) at) g.nothing
            (unless_none (is_choice c first second) at (and_from (is_test c) (is_block first && is_block_or_none second) t1.test (and_from (is_block first) (is_block_or_none second) f.kind g.kind)))));
        built = ap (λ o. choice_built o (block_built first) (else_built second)) t1.built ∙ ap (λ o. choice_built (Some t) o (else_built second)) f.built ∙ ap (λ o. choice_built (Some t) (Some q) o) g.built;
        names = g.names ∙ f.names;
        left = omega (arith, f.left, g.left);
      }
  act_holds (repeats {at = at} {c = c} {body = s} {t = t} {p = q} i j) p b sc d n =
      let t1 = test_holds p.names i sc.0 in
      let f = block_holds j p b sc.1 d (omega (arith, n)) in
      record {
        nothing = first_both (lacking_in p.names c) (first_of (lacks true b p s) (unless (is_test c && is_block s) at)) t1.none
            (first_both (lacks true b p s) (unless (is_test c && is_block s) at) f.nothing (unless_none (is_test c && is_block s) at (and_from (is_test c) (is_block s) t1.test f.kind)));
        built = ap (λ o. loop_built o (block_built s)) t1.built ∙ ap (λ o. loop_built (Some t) o) f.built;
        names = f.names;
        left = f.left;
      }

  pub all_hold : {ss : PlainStmts} {q : Acts} → AreStatements ss q → (p : ScopeState) (b : ℕ) → AreScoped p.names q → declared_in q ≤ p.left → blocks_in q ≤ b → AllHold p b ss q
  all_hold none p b c d n = record { nothing = refl; built = refl; left = omega arith }
  all_hold (more {s = s} {ss = ss} {a = a} {p = q} i j) p b c d n =
      let f = act_holds i p b c.0 (omega (arith, d)) (omega (arith, n)) in
      let g = all_hold j (behind p s) b (subst (λ l. AreScoped l q) (sym f.names) c.1) (omega (arith, d, f.left)) (omega (arith, n)) in
      record {
        nothing = first_both (lacks false b p s) (all_lacks b (behind p s) ss) f.nothing g.nothing;
        built = ap (λ o. with_both cons o (acts_built ss)) f.built ∙ ap (λ o. with_both cons (Some a) o) g.built;
        left = omega (arith, f.left, g.left);
      }

  block_holds : {s : PlainStmt} {q : Acts} → IsBlock s q → (p : ScopeState) (b : ℕ) → AreScoped p.names q → declared_in q ≤ p.left → blocks_in q + 1 ≤ b → BlockHolds p b s q
  block_holds (a_block {at = at} {ss = ss} i) p b c d n =
      let f = all_hold i p (b - 1) c d (omega (arith, n)) in
      record {
        nothing = first_both (all_lacks (b - 1) p ss) (unless (nat_lt 0 b) at) f.nothing (unless_none (nat_lt 0 b) at (lt-ltb 0 b (omega (arith, n))));
        kind = refl;
        built = f.built;
        names = refl;
        left = f.left;
      }

  else_holds : {e : PlainElse} {q : Acts} → IsElse e q → (p : ScopeState) (b : ℕ) → AreScoped p.names q → declared_in q ≤ p.left → blocks_in q + 1 ≤ b → ElseHolds p b e q
  else_holds without p b c d n = record { nothing = refl; kind = refl; built = refl; names = refl; left = omega arith }
  else_holds (with_block i) p b c d n =
      let f = block_holds i p b c d n in
      record { nothing = f.nothing; kind = f.kind; built = f.built; names = f.names; left = f.left }
