-- The function decides the conditions on heads and members.
use Rattle.std.proofs.Common.{◌≡◌, refl, sym, ap, subst, ◌∙◌, ◌⊎◌, inl, inr, ℕ, zero, suc, ℤ, pos, negsuc, Bool, true, false, not, ◌&&◌, ◌||◌, List, [], ◌∷◌, length, Option, Some, None, is_some, if◌then◌else◌, arith}
use Rattle.std.specs.Bool.{Decides}
use Rattle.std.proofs.lemmas.Bool.{and_parts, and_from, or_cases, or_left, or_right, ltb-true, lt-ltb}
use Rattle.std.proofs.lemmas.Bool.Decides.{Decides-and, Decides-or, Decides-not, Decides-like, not_from_Decides}
use Rattle.std.proofs.lemmas.Slice.Eq.{bytes_eq-Decides}
use Rattle.bcj_symbolic_trees.specs.declared.class_tree.ClassHead.{ClassHead}
use Rattle.bcj_symbolic_trees.specs.declared.class_tree.MethodKind.{MethodKind}
use Rattle.bcj_symbolic_trees.specs.declared.class_tree.MethodKind.TheVariants as kind
use Rattle.bcj_symbolic_trees.specs.Names.{object_name, constructor_name}
use Rattle.bcj_symbolic_trees.specs.Types.{PlainTy, int_type, bool_type, void_type, class_type, array_type}
use Rattle.bcj_symbolic_trees.specs.Trees.{PlainStmts, no_stmts, more_stmts}
use Rattle.bcj_symbolic_trees.specs.Units.{PlainField, PlainMethod, PlainPair, PlainClass}
use Rattle.bcj_symbolic_trees.proofs.SameLemmas.{same_type-Decides, same_types-Decides}
use Rattle.bcj_names.specs.Identifiers.{is_identifier}
use Rattle.bcj_symbolic_check.specs.Judgements.{is_constructor_name}
use Rattle.bcj_symbolic_check.specs.Classes as rule
use Rattle.bcj_symbolic_check.specs.Typing.{IsResultType, AreValueTypes, Each, each_of_none, each_of_more, Differ, none_differ, more_differ, Begins, begins_at_all, begins_longer, HasRightSuperclass, topmost, below, HeadFits, ConstantFits, no_constant, int_constant, false_constant, true_constant, FieldFits, SameField, NamedByKind, constructor_named, method_named, first_locals, MethodFits, SameMethod, ConstructorsFirst, constructor_first, methods_behind, PairFits, ClassFits}
use Rattle.bcj_symbolic_soundness.proofs.Tests.{of_more, each-Decides, none-Decides, Decides-neither, is_void-Decides, is_value_type-Decides, are_value_types-Decides, is_result_type-Decides, in_range-Decides}
use Rattle.bcj_symbolic_soundness.proofs.Operations.{Decides-if}

-- ---- tests

-- one of two conditions, by a test
Decides-choice : (b x y : Bool) {P Q R : Type 0} → Decides b P → Decides x Q → Decides y R → Decides (if b then x else y) ((P × Q) ⊎ ((¬ P) × R))
Decides-choice true x y {P} {Q} {R} d k l = (λ e. inl (d.0 refl, k.0 e), by)
  where
    by : (P × Q) ⊎ ((¬ P) × R) → x ≡ true
    by (inl h) = k.1 h.1
    by (inr h) = absurd (h.0 (d.0 refl))
Decides-choice false x y {P} {Q} {R} d k l = (λ e. inr ((Decides-not false d).0 refl, l.0 e), by)
  where
    by : (P × Q) ⊎ ((¬ P) × R) → y ≡ true
    by (inl h) = absurd ((Decides-not false d).0 refl h.0)
    by (inr h) = l.1 h.1

is_constructor-Decides : (k : MethodKind) → Decides (rule.is_constructor k) (k ≡ kind.Constructor)
is_constructor-Decides kind.Static = (λ e. cc, λ e. cc)
is_constructor-Decides kind.Instance = (λ e. cc, λ e. cc)
is_constructor-Decides kind.Abstract = (λ e. cc, λ e. cc)
is_constructor-Decides kind.Constructor = (λ e. refl, λ e. refl)

is_abstract-Decides : (k : MethodKind) → Decides (rule.is_abstract k) (k ≡ kind.Abstract)
is_abstract-Decides kind.Static = (λ e. cc, λ e. cc)
is_abstract-Decides kind.Instance = (λ e. cc, λ e. cc)
is_abstract-Decides kind.Abstract = (λ e. refl, λ e. refl)
is_abstract-Decides kind.Constructor = (λ e. cc, λ e. cc)

-- ---- heads

named : (o : Option (List ℕ)) → Decides (rule.superclass_named o) ((name : List ℕ) → o ≡ Some name → is_identifier name ≡ true)
unfolding rule.superclass_named
named None = (λ e name f. cc, λ h. refl)
named (Some x) = (λ e name f. let i : x ≡ name = cc in subst (λ (y : List ℕ). is_identifier y ≡ true) i e, λ h. h x refl)

none_there : (o : Option (List ℕ)) → Decides (not (is_some o)) (o ≡ None)
none_there None = (λ e. refl, λ e. refl)
none_there (Some x) = (λ e. cc, λ e. cc)

one_there : (o : Option (List ℕ)) → Decides (is_some o) ((name : List ℕ) × (o ≡ Some name))
one_there None = (λ e. cc, λ h. let e = h.1 in cc)
one_there (Some x) = (λ e. (x, refl), λ h. refl)

abbrev IsTop : ClassHead → Type 0
IsTop h = (h.interface ≡ true) ⊎ (h.name ≡ object_name)

false_from : (b : Bool) → ¬ (b ≡ true) → b ≡ false
false_from true n = absurd (n refl)
false_from false n = refl

abbrev OneOrNone : ClassHead → Type 0
OneOrNone h = (IsTop h × (h.superclass ≡ None)) ⊎ ((¬ IsTop h) × ((name : List ℕ) × (h.superclass ≡ Some name)))

right_from : (h : ClassHead) → ((name : List ℕ) → h.superclass ≡ Some name → is_identifier name ≡ true) → OneOrNone h → HasRightSuperclass h
right_from h i (inl p) = topmost p.0 p.1
right_from h i (inr p) = below p.1.0 (false_from h.interface (λ e. p.0 (inl e))) (λ e. p.0 (inr e)) p.1.1 (i p.1.0 p.1.1)

right_to : (h : ClassHead) → HasRightSuperclass h → OneOrNone h
right_to h (topmost t e) = inl (t, e)
right_to h (below name i n e k) = inr (by, (name, e))
  where
    by : ¬ IsTop h
    by (inl f) = absurd (let c : true ≡ false = sym f ∙ i in cc)
    by (inr f) = n f

superclass_name : (h : ClassHead) → HasRightSuperclass h → (name : List ℕ) → h.superclass ≡ Some name → is_identifier name ≡ true
superclass_name h (topmost t e) name f = cc
superclass_name h (below x i n e k) name f =
    let j : x ≡ name = cc in subst (λ (y : List ℕ). is_identifier y ≡ true) j k

head-Decides : (h : ClassHead) → Decides (rule.head_holds h) (HeadFits h)
unfolding rule.head_holds rule.are_identifiers rule.has_right_superclass
head-Decides h =
    Decides-like (rule.head_holds h)
    (λ p. record { name = p.0; superclass = right_from h p.1.0 p.1.1.1; interfaces = p.1.1.0 })
    (λ p. (p.name, (superclass_name h p.superclass, (p.interfaces, right_to h p.superclass))))
    (Decides-and _ _ (λ e. e, λ e. e)
    (Decides-and _ _ (named h.superclass)
    (Decides-and _ _ (each-Decides (λ name. (λ e. e, λ e. e)) h.interfaces)
    (Decides-choice _ _ _ (Decides-or _ _ (λ e. e, λ e. e) (bytes_eq-Decides h.name object_name)) (none_there h.superclass) (one_there h.superclass)))))

-- ---- fields

truth_value : (n : ℤ) → rule.is_truth_value n ≡ true → ConstantFits bool_type true (Some n)
truth_value (pos zero) e = false_constant
truth_value (pos (suc zero)) e = true_constant
truth_value (pos (suc (suc n))) e = let l = ltb-true (suc (suc n)) 2 e in absurd (omega arith)
truth_value (negsuc n) e = cc

constant_from : (t : PlainTy) (is_static : Bool) (o : Option ℤ) → rule.constant_holds t is_static o ≡ true → ConstantFits t is_static o
unfolding rule.constant_holds rule.constant_fits
constant_from t is_static None e = no_constant
constant_from t false (Some n) e = cc
constant_from int_type true (Some n) e = int_constant ((in_range-Decides n).0 e)
constant_from bool_type true (Some n) e = truth_value n e
constant_from void_type true (Some n) e = cc
constant_from (class_type name) true (Some n) e = cc
constant_from (array_type component) true (Some n) e = cc

constant_to : {t : PlainTy} {is_static : Bool} {o : Option ℤ} → ConstantFits t is_static o → rule.constant_holds t is_static o ≡ true
unfolding rule.constant_holds rule.constant_fits
constant_to no_constant = refl
constant_to (int_constant {n = n} h) = (in_range-Decides n).1 h
constant_to false_constant = refl
constant_to true_constant = refl

-- what is private doesn't stand where this holds
private-Decides : (a b : Bool) → Decides (not (a && b)) (a ≡ true → b ≡ false)
private-Decides true true = (λ e. cc, λ f. let c = f refl in cc)
private-Decides true false = (λ e f. refl, λ f. refl)
private-Decides false b = (λ e f. cc, λ f. refl)

field-Decides : (interface : Bool) (f : PlainField) → Decides (rule.field_holds interface f) (FieldFits interface f)
unfolding rule.field_holds rule.field_access_holds
field-Decides interface f =
    Decides-like (rule.field_holds interface f)
    (λ p. record { name = p.0; ty = p.1.0; static_in_interface = p.1.1.0; private_in_class = p.1.1.1.0; constant = p.1.1.1.1 })
    (λ p. (p.name, (p.ty, (p.static_in_interface, (p.private_in_class, p.constant)))))
    (Decides-and _ _ (λ e. e, λ e. e)
    (Decides-and _ _ (is_value_type-Decides f.ty)
    (Decides-and _ _ (Decides-if interface f.is_static (λ e. e, λ e. e) (λ e. e, λ e. e))
    (Decides-and _ _ (private-Decides f.is_private interface) (constant_from f.ty f.is_static f.constant, constant_to)))))

same_field-Decides : (f g : PlainField) → Decides (rule.same_field f g) (SameField f g)
unfolding rule.same_field
same_field-Decides f g = Decides-and _ _ (bytes_eq-Decides f.name g.name) (same_type-Decides f.ty g.ty)

of_differ : {A : Type 0} {Alike : A → A → Type 0} {x : A} {xs : List A} → Differ Alike (x ∷ xs) → Each (λ y. ¬ Alike x y) xs × Differ Alike xs
of_differ (more_differ h k) = (h, k)

fields_differ-Decides : (fs : List PlainField) → Decides (rule.fields_differ fs) (Differ SameField fs)
unfolding rule.fields_differ rule.has_field
fields_differ-Decides [] = (λ e. none_differ, λ h. refl)
fields_differ-Decides (f ∷ fs) =
    Decides-like (rule.fields_differ (f ∷ fs)) (λ p. more_differ p.0 p.1) of_differ
    (Decides-and _ _ (none-Decides (same_field-Decides f) fs) (fields_differ-Decides fs))

-- ---- methods

named_from : (m : PlainMethod) → ((m.kind ≡ kind.Constructor) × ((m.name ≡ constructor_name) × (m.result ≡ void_type)))
    ⊎ ((¬ (m.kind ≡ kind.Constructor)) × ((is_identifier m.name ≡ true) × IsResultType m.result)) → NamedByKind m
named_from m (inl p) = constructor_named p.0 p.1.0 p.1.1
named_from m (inr p) = method_named p.0 p.1.0 p.1.1

named_to : (m : PlainMethod) → NamedByKind m → ((m.kind ≡ kind.Constructor) × ((m.name ≡ constructor_name) × (m.result ≡ void_type)))
    ⊎ ((¬ (m.kind ≡ kind.Constructor)) × ((is_identifier m.name ≡ true) × IsResultType m.result))
named_to m (constructor_named k n r) = inl (k, (n, r))
named_to m (method_named k n r) = inr (k, (n, r))

named_by_kind-Decides : (m : PlainMethod) → Decides (rule.named_by_kind m) (NamedByKind m)
unfolding rule.named_by_kind is_constructor_name
named_by_kind-Decides m =
    Decides-like (rule.named_by_kind m) (named_from m) (named_to m)
    (Decides-choice _ _ _ (is_constructor-Decides m.kind)
    (Decides-and _ _ (bytes_eq-Decides m.name constructor_name) (is_void-Decides m.result))
    (Decides-and _ _ (λ e. e, λ e. e) (is_result_type-Decides m.result)))

longer_from : {s t : PlainTy} {ss ts : List PlainTy} → (s ≡ t) × Begins ss ts → Begins (s ∷ ss) (t ∷ ts)
longer_from {s} {t} {ss} {ts} p = subst (λ (x : PlainTy). Begins (s ∷ ss) (x ∷ ts)) p.0 (begins_longer p.1)

longer_to : {s t : PlainTy} {ss ts : List PlainTy} → Begins (s ∷ ss) (t ∷ ts) → (s ≡ t) × Begins ss ts
longer_to (begins_longer h) = (refl, h)

begins-Decides : (ss ts : List PlainTy) → Decides (rule.begins_with ss ts) (Begins ss ts)
begins-Decides [] ts = (λ e. begins_at_all, λ h. refl)
begins-Decides (s ∷ ss) [] = (λ e. cc, λ h. elim h [ ])
begins-Decides (s ∷ ss) (t ∷ ts) =
    Decides-like (rule.begins_with (s ∷ ss) (t ∷ ts)) longer_from longer_to
    (Decides-and _ _ (same_type-Decides s t) (begins-Decides ss ts))

first_locals-Decides : (class : List ℕ) (this : Bool) (params locals : List PlainTy)
    → Decides (rule.locals_hold class this params locals) (Begins (if this then class_type class ∷ params else params) locals)
unfolding rule.locals_hold
first_locals-Decides class true params locals = begins-Decides (class_type class ∷ params) locals
first_locals-Decides class false params locals = begins-Decides params locals

is_empty-Decides : (body : PlainStmts) → Decides (rule.is_empty body) (body ≡ no_stmts)
is_empty-Decides no_stmts = (λ e. refl, λ e. refl)
is_empty-Decides (more_stmts s rest) = (λ e. cc, λ e. cc)

-- with `this` first nothing but the parameters is behind
only_params : (class : List ℕ) (params locals : List PlainTy) → Begins (class_type class ∷ params) locals → rule.are_behind_first params locals ≡ true → locals ≡ class_type class ∷ params
unfolding rule.are_behind_first
only_params class params [] b e = cc
only_params class params (t ∷ ts) b e =
    let p = longer_to b in λ i. sym p.0 i ∷ (same_types-Decides ts params).0 e i

behind_first : (class : List ℕ) (params locals : List PlainTy) → locals ≡ class_type class ∷ params → rule.are_behind_first params locals ≡ true
unfolding rule.are_behind_first
behind_first class params locals e =
    ap (rule.are_behind_first params) e ∙ (same_types-Decides params params).1 refl

-- an abstract method has `this`
with_this : (class : List ℕ) (m : PlainMethod) → m.kind ≡ kind.Abstract → first_locals class m ≡ class_type class ∷ m.params
with_this class m e = ap (λ (k : MethodKind). if rule.has_this k then class_type class ∷ m.params else m.params) e

abbrev BareIfAbstract : List ℕ → PlainMethod → Type 0
BareIfAbstract class m = m.kind ≡ kind.Abstract → (m.body ≡ no_stmts) × (m.locals ≡ class_type class ∷ m.params)

bare_from : (class : List ℕ) (m : PlainMethod) → Begins (first_locals class m) m.locals → rule.body_by_kind m ≡ true → BareIfAbstract class m
unfolding rule.body_by_kind
bare_from class m b h e =
    let p = (Decides-if (rule.is_abstract m.kind) _ (is_abstract-Decides m.kind) (Decides-and _ _ (is_empty-Decides m.body) (λ e. e, λ e. e))).0 h e in
    (p.0, only_params class m.params m.locals (subst (λ (l : List PlainTy). Begins l m.locals) (with_this class m e) b) p.1)

bare_to : (class : List ℕ) (m : PlainMethod) → BareIfAbstract class m → rule.body_by_kind m ≡ true
unfolding rule.body_by_kind
bare_to class m f =
    (Decides-if (rule.is_abstract m.kind) _ (is_abstract-Decides m.kind) (Decides-and _ _ (is_empty-Decides m.body) (λ e. e, λ e. e))).1
    (λ e. let p = f e in (p.0, behind_first class m.params m.locals p.1))

-- an interface has no private method, and no abstract method is private
private_method-Decides : (p interface : Bool) (k : MethodKind) → Decides (not (p && (interface || rule.is_abstract k))) (p ≡ true → (interface ≡ false) × ¬ (k ≡ kind.Abstract))
private_method-Decides false interface k = (λ e f. cc, λ f. refl)
private_method-Decides true interface k =
    Decides-like (not (interface || rule.is_abstract k)) (λ h e. h) (λ f. f refl)
    (Decides-neither interface _ (not_true interface) (Decides-not _ (is_abstract-Decides k)))
  where
    not_true : (b : Bool) → Decides (not b) (b ≡ false)
    not_true true = (λ e. cc, λ e. cc)
    not_true false = (λ e. refl, λ e. refl)

method_from : (interface : Bool) (class : List ℕ) (m : PlainMethod) → rule.method_holds interface class m ≡ true → MethodFits interface class m
unfolding rule.method_holds rule.method_access_holds
method_from interface class m h =
    let p = and_parts _ _ h in
    let q = and_parts _ _ p.1 in
    let r = and_parts _ _ q.1 in
    let u = and_parts _ _ r.1 in
    let v = and_parts _ _ u.1 in
    let w = and_parts _ _ v.1 in
    let first = (first_locals-Decides class (rule.has_this m.kind) m.params m.locals).0 u.0 in
    record {
      named = (named_by_kind-Decides m).0 p.0;
      params = (are_value_types-Decides m.params).0 q.0;
      locals = (are_value_types-Decides m.locals).0 r.0;
      first = first;
      bare_if_abstract = bare_from class m first v.0;
      abstract_in_interface = (Decides-if interface _ (λ e. e, λ e. e) (is_abstract-Decides m.kind)).0 w.0;
      private_in_class = (private_method-Decides m.is_private interface m.kind).0 w.1;
    }

method_to : (interface : Bool) (class : List ℕ) (m : PlainMethod) → MethodFits interface class m → rule.method_holds interface class m ≡ true
unfolding rule.method_holds rule.method_access_holds
method_to interface class m x =
    and_from _ _ ((named_by_kind-Decides m).1 x.named)
    (and_from _ _ ((are_value_types-Decides m.params).1 x.params)
    (and_from _ _ ((are_value_types-Decides m.locals).1 x.locals)
    (and_from _ _ ((first_locals-Decides class (rule.has_this m.kind) m.params m.locals).1 x.first)
    (and_from _ _ (bare_to class m x.bare_if_abstract)
    (and_from _ _ ((Decides-if interface _ (λ e. e, λ e. e) (is_abstract-Decides m.kind)).1 x.abstract_in_interface)
    ((private_method-Decides m.is_private interface m.kind).1 x.private_in_class))))))

same_method-Decides : (m n : PlainMethod) → Decides (rule.same_method m n) (SameMethod m n)
unfolding rule.same_method
same_method-Decides m n =
    Decides-like (rule.same_method m n)
    (λ p. record { name = p.0; params = p.1.0; result = p.1.1 })
    (λ p. (p.name, (p.params, p.result)))
    (Decides-and _ _ (bytes_eq-Decides m.name n.name)
    (Decides-and _ _ (same_types-Decides m.params n.params) (same_type-Decides m.result n.result)))

methods_differ-Decides : (ms : List PlainMethod) → Decides (rule.methods_differ ms) (Differ SameMethod ms)
unfolding rule.methods_differ rule.has_method
methods_differ-Decides [] = (λ e. none_differ, λ h. refl)
methods_differ-Decides (m ∷ ms) =
    Decides-like (rule.methods_differ (m ∷ ms)) (λ p. more_differ p.0 p.1) of_differ
    (Decides-and _ _ (none-Decides (same_method-Decides m) ms) (methods_differ-Decides ms))

-- ---- the order of methods

abbrev IsOther : PlainMethod → Type 0
IsOther m = ¬ (m.kind ≡ kind.Constructor)

no_constructor-Decides : (ms : List PlainMethod) → Decides (not (rule.has_constructor ms)) (Each IsOther ms)
unfolding rule.has_constructor
no_constructor-Decides [] = (λ e. each_of_none, λ h. refl)
no_constructor-Decides (m ∷ ms) =
    Decides-like (not (rule.has_constructor (m ∷ ms))) (λ p. each_of_more p.0 p.1) of_more
    (Decides-neither (rule.is_constructor m.kind) _ (Decides-not _ (is_constructor-Decides m.kind)) (no_constructor-Decides ms))

order_from : (ms : List PlainMethod) → rule.constructors_first ms ≡ true → ConstructorsFirst ms
unfolding rule.constructors_first
order_from [] h = methods_behind each_of_none
order_from (m ∷ ms) h =
    let p = and_parts _ _ h in by (rule.is_constructor m.kind) refl (or_cases _ _ p.0) (order_from ms p.1)
  where
    by : (b : Bool) → rule.is_constructor m.kind ≡ b → (rule.is_constructor m.kind ≡ true) ⊎ (not (rule.has_constructor ms) ≡ true) → ConstructorsFirst ms → ConstructorsFirst (m ∷ ms)
    by true e o x = constructor_first ((is_constructor-Decides m.kind).0 e) x
    by false e (inl f) x = constructor_first ((is_constructor-Decides m.kind).0 f) x
    by false e (inr n) x = methods_behind (each_of_more (not_from_Decides _ (is_constructor-Decides m.kind) e) ((no_constructor-Decides ms).0 n))

others_in_order : {ms : List PlainMethod} → Each IsOther ms → rule.constructors_first ms ≡ true
unfolding rule.constructors_first
others_in_order each_of_none = refl
others_in_order (each_of_more {x = m} {xs = ms} n h) =
    and_from _ _ (or_right _ _ ((no_constructor-Decides ms).1 h)) (others_in_order h)

order_to : {ms : List PlainMethod} → ConstructorsFirst ms → rule.constructors_first ms ≡ true
unfolding rule.constructors_first
order_to (constructor_first {m = m} e h) = and_from _ _ (or_left _ _ ((is_constructor-Decides m.kind).1 e)) (order_to h)
order_to (methods_behind h) = others_in_order h

-- ---- classes

pair-Decides : (p : PlainPair) → Decides (rule.pair_holds p) (PairFits p)
unfolding rule.pair_holds
pair-Decides p =
    Decides-like (rule.pair_holds p) (λ h. record { from = h.0; to = h.1 }) (λ h. (h.from, h.to))
    (Decides-and _ _ (is_value_type-Decides p.from) (is_value_type-Decides p.to))

members-Decides : (c : PlainClass)
    → Decides (rule.members_hold c) (Each (FieldFits c.head.interface) c.fields × (Differ SameField c.fields × (AreValueTypes c.init.locals
    × (Each (MethodFits c.head.interface c.head.name) c.methods × (Differ SameMethod c.methods × (ConstructorsFirst c.methods × Each PairFits c.pairs))))))
unfolding rule.members_hold rule.fields_hold rule.methods_hold rule.pairs_hold
members-Decides c =
    Decides-and _ _ (each-Decides (field-Decides c.head.interface) c.fields)
    (Decides-and _ _ (fields_differ-Decides c.fields)
    (Decides-and _ _ (are_value_types-Decides c.init.locals)
    (Decides-and _ _ (each-Decides (λ m. (method_from c.head.interface c.head.name m, method_to c.head.interface c.head.name m)) c.methods)
    (Decides-and _ _ (methods_differ-Decides c.methods)
    (Decides-and _ _ (order_from c.methods, order_to) (each-Decides pair-Decides c.pairs))))))

pub class-Decides : (before : List PlainClass) (c : PlainClass) → Decides (rule.class_holds (length before) before c) (ClassFits before c)
unfolding rule.class_holds rule.has_class
class-Decides before c =
    Decides-like (rule.class_holds (length before) before c)
    (λ p. record {
      few = p.0;
      named_once = p.1.0;
      head = p.1.1.0;
      fields = p.1.1.1.0;
      fields_differ = p.1.1.1.1.0;
      init_locals = p.1.1.1.1.1.0;
      methods = p.1.1.1.1.1.1.0;
      methods_differ = p.1.1.1.1.1.1.1.0;
      constructors_first = p.1.1.1.1.1.1.1.1.0;
      pairs = p.1.1.1.1.1.1.1.1.1;
    })
    (λ x. (x.few, (x.named_once, (x.head, (x.fields, (x.fields_differ, (x.init_locals, (x.methods, (x.methods_differ, (x.constructors_first, x.pairs))))))))))
    (Decides-and _ _ (ltb-true _ _, lt-ltb _ _)
    (Decides-and _ _ (none-Decides (λ b. bytes_eq-Decides c.head.name b.head.name) before)
    (Decides-and _ _ (head-Decides c.head) (members-Decides c))))
