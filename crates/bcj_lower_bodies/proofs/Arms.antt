-- Lines and labels of calls, by those of their parts.
use Rattle.std.proofs.Common.{◌≡◌, ap, sym, ◌∙◌, ℕ, suc, ◌+◌, List, [], ◌++◌, length, append_assoc, append-nil, add_assoc, Bool, true, if◌then◌else◌, Result, OnOk, IfOk}
use Rattle.std.proofs.lemmas.Result.{on_ok_weaker, IfOk-weaker}
use Rattle.rv_steps.specs.Services as services
use Rattle.bcj_symbolic_trees.specs.declared.symbol_reference.MethodRef.{MethodRef}
use Rattle.bcj_symbolic_trees.specs.declared.expression.SymExpr.{SymExpr}
use Rattle.bcj_symbolic_trees.specs.declared.expression.SymExpr.TheVariants as expr
use Rattle.bcj_symbolic_trees.specs.Types.{PlainMethodRef, method_ref_of}
use Rattle.bcj_symbolic_trees.specs.Plain.{expr_of, exprs_of}
use Rattle.bcj_symbolic_trees.proofs.PlainLemmas.{expr-CallVirtual, expr-CallInterface, expr-CallSpecial}
use Rattle.bcj_symbolic_check.specs.Judgements.{this_local}
use Rattle.bcj_symbolic_measure.specs.Entries.{new_entry, method_offset, interface_method, special_method}
use Rattle.bcj_symbolic_measure.specs.Scheme.{count, is_object_class}
use Rattle.bcj_symbolic_measure.proofs.CountLemmas.{count-length}
use Rattle.bcj_lower_rules.specs.Lines.{Line}
use Rattle.bcj_lower_rules.specs.Words.{save, get_local_word, initialised, take_entry, service, use_entry, select_method, select_interface_method, copy, call}
use Rattle.bcj_lower_rules.specs.Nodes.{Context, expr_lines, args_lines, made, expr_labels, exprs_labels}

-- a class without a constructor ends with the object that is made
pub made_alone : (cx : Context) (m : PlainMethodRef) (w u rest : List Line) (b : Bool)
    → u ≡ w ++ (initialised (new_entry m.class) ++ (take_entry ++ service services.new)) → b ≡ is_object_class m.class → b ≡ true
    → u ≡ w ++ (made cx m ++ (if is_object_class m.class then [] else rest))
unfolding made
made_alone cx m w u rest b eu eb is =
    eu ∙ ap (λ (l : List Line). w ++ l) (sym (append-nil (made cx m)) ∙ ap (λ (a : Bool). made cx m ++ (if a then [] else rest)) (sym is ∙ eb))

-- what stands behind the first lines of a node makes the whole
ended : {T E : Type 0} (r : Result T E) (w v u m t whole : List Line) → v ≡ w ++ m → m ++ t ≡ whole → OnOk r (u ≡ v ++ t) → OnOk r (u ≡ w ++ whole)
ended r w v u m t whole ev ew p =
    on_ok_weaker r (λ (e : u ≡ v ++ t). e ∙ ap (λ (l : List Line). l ++ t) ev ∙ append_assoc w m t ∙ ap (λ (l : List Line). w ++ l) ew) p

counted : {E : Type 0} (r : Result ℕ E) (n u : ℕ) → n ≡ u → IfOk r (λ x. x ≡ n) → IfOk r (λ x. x ≡ u)
counted r n u e p = IfOk-weaker r (λ x. x ≡ n) (λ x. x ≡ u) (λ x (h : x ≡ n). h ∙ e) p

copied : (d len : ℕ) (args : List SymExpr) → len ≡ length args → copy d (suc len) ≡ copy d (suc (count (exprs_of args)))
copied d len args e = ap (λ n. copy d (suc n)) (e ∙ sym (count-length args))

-- a target that is saved, and the arguments behind it
module _ (cx : Context) (d k : ℕ) (t : SymExpr) (args : List SymExpr) where
  placed : List Line
  placed = expr_lines cx d k (expr_of t) ++ (save d ++ args_lines cx (d + 1) (k + expr_labels (expr_of t)) (exprs_of args))

  placed-behind : (w v q : List Line) (t2 : SymExpr) (s : List SymExpr) (f n : ℕ) → t2 ≡ t → s ≡ args → f ≡ d + 1
      → v ≡ w ++ (expr_lines cx d k (expr_of t2) ++ save d) → n ≡ k + expr_labels (expr_of t2) → q ≡ v ++ args_lines cx f n (exprs_of s) → q ≡ w ++ placed
  unfolding placed
  placed-behind w v q t2 s f n et es ef ev en eq =
      eq
      ∙ (λ i. (ev ∙ ap (λ (x : SymExpr). w ++ (expr_lines cx d k (expr_of x) ++ save d)) et) i
      ++ args_lines cx (ef i) ((en ∙ ap (λ (x : SymExpr). k + expr_labels (expr_of x)) et) i) (exprs_of (es i)))
      ∙ append_assoc w (expr_lines cx d k (expr_of t) ++ save d) (args_lines cx (d + 1) (k + expr_labels (expr_of t)) (exprs_of args))
      ∙ ap (λ (l : List Line). w ++ l) (append_assoc (expr_lines cx d k (expr_of t)) (save d) (args_lines cx (d + 1) (k + expr_labels (expr_of t)) (exprs_of args)))

  placed-split : (rest : List Line) → placed ++ rest ≡ expr_lines cx d k (expr_of t) ++ (save d ++ (args_lines cx (d + 1) (k + expr_labels (expr_of t)) (exprs_of args) ++ rest))
  unfolding placed
  placed-split rest = simp append_assoc

  pub virtual_lines : {T E : Type 0} (r : Result T E) (e : SymExpr) (m : MethodRef) (w v q u : List Line) (t2 : SymExpr) (s : List SymExpr) (f n len : ℕ) → e ≡ expr.CallVirtual t m args
      → t2 ≡ t → s ≡ args → f ≡ d + 1 → v ≡ w ++ (expr_lines cx d k (expr_of t2) ++ save d) → n ≡ k + expr_labels (expr_of t2) → q ≡ v ++ args_lines cx f n (exprs_of s) → len ≡ length args
      → OnOk r (u ≡ q ++ (use_entry (method_offset (method_ref_of m)) ++ (select_method d ++ (copy d (suc len) ++ call)))) → OnOk r (u ≡ w ++ expr_lines cx d k (expr_of e))
  virtual_lines r e m w v q u t2 s f n len is et es ef ev en eq el p =
      ended r w q u placed (use_entry (method_offset (method_ref_of m)) ++ (select_method d ++ (copy d (suc len) ++ call))) (expr_lines cx d k (expr_of e))
      (placed-behind w v q t2 s f n et es ef ev en eq)
      (ap (λ (l : List Line). placed ++ (use_entry (method_offset (method_ref_of m)) ++ (select_method d ++ (l ++ call)))) (copied d len args el)
      ∙ placed-split (use_entry (method_offset (method_ref_of m)) ++ (select_method d ++ (copy d (suc (count (exprs_of args))) ++ call)))
      ∙ ap (expr_lines cx d k) (sym (ap expr_of is ∙ expr-CallVirtual t m args)))
      p

  pub interface_lines : {T E : Type 0} (r : Result T E) (e : SymExpr) (m : MethodRef) (w v q u : List Line) (t2 : SymExpr) (s : List SymExpr) (f n len : ℕ) → e ≡ expr.CallInterface t m args
      → t2 ≡ t → s ≡ args → f ≡ d + 1 → v ≡ w ++ (expr_lines cx d k (expr_of t2) ++ save d) → n ≡ k + expr_labels (expr_of t2) → q ≡ v ++ args_lines cx f n (exprs_of s) → len ≡ length args
      → OnOk r (u ≡ q ++ (use_entry (interface_method (method_ref_of m)) ++ (select_interface_method d ++ (copy d (suc len) ++ call)))) → OnOk r (u ≡ w ++ expr_lines cx d k (expr_of e))
  interface_lines r e m w v q u t2 s f n len is et es ef ev en eq el p =
      ended r w q u placed (use_entry (interface_method (method_ref_of m)) ++ (select_interface_method d ++ (copy d (suc len) ++ call))) (expr_lines cx d k (expr_of e))
      (placed-behind w v q t2 s f n et es ef ev en eq)
      (ap (λ (l : List Line). placed ++ (use_entry (interface_method (method_ref_of m)) ++ (select_interface_method d ++ (l ++ call)))) (copied d len args el)
      ∙ placed-split (use_entry (interface_method (method_ref_of m)) ++ (select_interface_method d ++ (copy d (suc (count (exprs_of args))) ++ call)))
      ∙ ap (expr_lines cx d k) (sym (ap expr_of is ∙ expr-CallInterface t m args)))
      p

-- and their labels
module _ (k : ℕ) (t : SymExpr) (args : List SymExpr) where
  two_labels : (t2 : SymExpr) (s : List SymExpr) (n g : ℕ) → t2 ≡ t → s ≡ args → n ≡ k + expr_labels (expr_of t2) → g ≡ n + exprs_labels (exprs_of s)
      → g ≡ k + (expr_labels (expr_of t) + exprs_labels (exprs_of args))
  two_labels t2 s n g et es en eg =
      eg
      ∙ (λ i. (en ∙ ap (λ (x : SymExpr). k + expr_labels (expr_of x)) et) i + exprs_labels (exprs_of (es i)))
      ∙ add_assoc k (expr_labels (expr_of t)) (exprs_labels (exprs_of args))

  pub virtual_labels : {E : Type 0} (r : Result ℕ E) (e : SymExpr) (m : MethodRef) (t2 : SymExpr) (s : List SymExpr) (n g : ℕ) → e ≡ expr.CallVirtual t m args
      → t2 ≡ t → s ≡ args → n ≡ k + expr_labels (expr_of t2) → g ≡ n + exprs_labels (exprs_of s) → IfOk r (λ x. x ≡ g) → IfOk r (λ x. x ≡ k + expr_labels (expr_of e))
  virtual_labels r e m t2 s n g is et es en eg p =
      counted r g (k + expr_labels (expr_of e)) (two_labels t2 s n g et es en eg ∙ ap (λ x. k + expr_labels x) (sym (ap expr_of is ∙ expr-CallVirtual t m args))) p

  pub interface_labels : {E : Type 0} (r : Result ℕ E) (e : SymExpr) (m : MethodRef) (t2 : SymExpr) (s : List SymExpr) (n g : ℕ) → e ≡ expr.CallInterface t m args
      → t2 ≡ t → s ≡ args → n ≡ k + expr_labels (expr_of t2) → g ≡ n + exprs_labels (exprs_of s) → IfOk r (λ x. x ≡ g) → IfOk r (λ x. x ≡ k + expr_labels (expr_of e))
  interface_labels r e m t2 s n g is et es en eg p =
      counted r g (k + expr_labels (expr_of e)) (two_labels t2 s n g et es en eg ∙ ap (λ x. k + expr_labels x) (sym (ap expr_of is ∙ expr-CallInterface t m args))) p

-- `this` is saved, and the arguments behind it
module _ (cx : Context) (d k : ℕ) (args : List SymExpr) where
  before : List Line
  before = get_local_word cx.frame this_local ++ (save d ++ args_lines cx (d + 1) k (exprs_of args))

  before-behind : (w a v q : List Line) (s : List SymExpr) (f : ℕ) → s ≡ args → f ≡ d + 1
      → a ≡ w ++ get_local_word cx.frame this_local → v ≡ a ++ save d → q ≡ v ++ args_lines cx f k (exprs_of s) → q ≡ w ++ before
  unfolding before
  before-behind w a v q s f es ef ea ev eq =
      eq
      ∙ (λ i. (ev ∙ ap (λ (l : List Line). l ++ save d) ea) i ++ args_lines cx (ef i) k (exprs_of (es i)))
      ∙ simp append_assoc

  before-split : (rest : List Line) → before ++ rest ≡ get_local_word cx.frame this_local ++ (save d ++ (args_lines cx (d + 1) k (exprs_of args) ++ rest))
  unfolding before
  before-split rest = simp append_assoc

  pub special_lines : {T E : Type 0} (r : Result T E) (e : SymExpr) (m : MethodRef) (w a v q u : List Line) (s : List SymExpr) (f len : ℕ) → e ≡ expr.CallSpecial m args
      → s ≡ args → f ≡ d + 1 → a ≡ w ++ get_local_word cx.frame this_local → v ≡ a ++ save d → q ≡ v ++ args_lines cx f k (exprs_of s) → len ≡ length args
      → OnOk r (u ≡ q ++ (use_entry (special_method (method_ref_of m)) ++ (copy d (suc len) ++ call))) → OnOk r (u ≡ w ++ expr_lines cx d k (expr_of e))
  special_lines r e m w a v q u s f len is es ef ea ev eq el p =
      ended r w q u before (use_entry (special_method (method_ref_of m)) ++ (copy d (suc len) ++ call)) (expr_lines cx d k (expr_of e))
      (before-behind w a v q s f es ef ea ev eq)
      (ap (λ (l : List Line). before ++ (use_entry (special_method (method_ref_of m)) ++ (l ++ call))) (copied d len args el)
      ∙ before-split (use_entry (special_method (method_ref_of m)) ++ (copy d (suc (count (exprs_of args))) ++ call))
      ∙ ap (expr_lines cx d k) (sym (ap expr_of is ∙ expr-CallSpecial m args)))
      p

pub special_labels : {E : Type 0} (r : Result ℕ E) (k : ℕ) (args : List SymExpr) (e : SymExpr) (m : MethodRef) (s : List SymExpr) (g : ℕ) → e ≡ expr.CallSpecial m args
    → s ≡ args → g ≡ k + exprs_labels (exprs_of s) → IfOk r (λ x. x ≡ g) → IfOk r (λ x. x ≡ k + expr_labels (expr_of e))
special_labels r k args e m s g is es eg p =
    counted r g (k + expr_labels (expr_of e))
    (eg ∙ ap (λ (l : List SymExpr). k + exprs_labels (exprs_of l)) es ∙ ap (λ x. k + expr_labels x) (sym (ap expr_of is ∙ expr-CallSpecial m args))) p
