-- What operators take and give.
use Rattle.std.proofs.Common.{◌≡◌, refl, sym, ap, subst, ◌∙◌, ◌⊎◌, inl, inr, Bool, true, false, not, ◌&&◌, Some}
use Rattle.std.specs.Bool.{Decides}
use Rattle.std.proofs.lemmas.Bool.Decides.{Decides-and, Decides-or, Decides-like}
use Rattle.bcj_symbolic_trees.specs.declared.expression.UnaryOp.{UnaryOp}
use Rattle.bcj_symbolic_trees.specs.declared.expression.UnaryOp.TheVariants as unop
use Rattle.bcj_symbolic_trees.specs.declared.expression.BinaryOp.{BinaryOp}
use Rattle.bcj_symbolic_trees.specs.declared.expression.BinaryOp.TheVariants as op
use Rattle.bcj_symbolic_trees.specs.Types.{PlainTy, int_type, bool_type, PlainArg, given}
use Rattle.bcj_symbolic_check.specs.Judgements.{int_part, bool_part, same_group, takes_groups, takes, is_comparison, operator_gives, unary_takes, unary_gives}
use Rattle.bcj_symbolic_check.specs.Typing as typing
use Rattle.bcj_symbolic_check.specs.Typing.{IsReferenceOrNull, UnaryTakes, OperatorGroup, arithmetic_group, bitwise_group, ordering_group, equality_group, group_of, Operates, on_numbers, on_bits, on_truth_values, orders_numbers, equates_numbers, equates_truth_values, equates_references, IsAssigning, arithmetic_assigns, bitwise_assigns}
use Rattle.bcj_symbolic_soundness.proofs.Tests.{is_type-Decides, is_object-Decides}

-- ---- parts

pub int_part-Decides : (s : PlainArg) → Decides (int_part (Some s)) (s ≡ given int_type)
unfolding int_part
int_part-Decides s = is_type-Decides int_type s

pub bool_part-Decides : (s : PlainArg) → Decides (bool_part (Some s)) (s ≡ given bool_type)
unfolding bool_part
bool_part-Decides s = is_type-Decides bool_type s

-- ---- one operand

pub unary-Decides : (o : UnaryOp) (s : PlainArg) → Decides (unary_takes o (Some s)) (UnaryTakes o (unary_gives o) × (s ≡ given (unary_gives o)))
unfolding unary_takes unary_gives
unary-Decides unop.Minus s = Decides-like _ (λ e. (typing.minus, e)) (λ h. h.1) (int_part-Decides s)
unary-Decides unop.Flip s = Decides-like _ (λ e. (typing.flip, e)) (λ h. h.1) (int_part-Decides s)
unary-Decides unop.Not s = Decides-like _ (λ e. (typing.«not», e)) (λ h. h.1) (bool_part-Decides s)

pub gives_taken : {o : UnaryOp} {t : PlainTy} → UnaryTakes o t → unary_gives o ≡ t
unfolding unary_gives
gives_taken typing.minus = refl
gives_taken typing.flip = refl
gives_taken typing.«not» = refl

-- ---- two operands

-- what a group takes and gives
abbrev Takes : OperatorGroup → PlainArg → PlainArg → Bool
Takes arithmetic_group s t = int_part (Some s) && int_part (Some t)
Takes bitwise_group s t = takes_groups false (Some s) (Some t)
Takes ordering_group s t = int_part (Some s) && int_part (Some t)
Takes equality_group s t = takes_groups true (Some s) (Some t)

abbrev Gives : OperatorGroup → PlainArg → PlainArg
Gives arithmetic_group s = given int_type
Gives bitwise_group s = s
Gives ordering_group s = given bool_type
Gives equality_group s = given bool_type

takes_by_group : (o : BinaryOp) (s t : PlainArg) → takes o (Some s) (Some t) ≡ Takes (group_of o) s t
unfolding takes
takes_by_group op.Or s t = refl
takes_by_group op.Xor s t = refl
takes_by_group op.And s t = refl
takes_by_group op.Eq s t = refl
takes_by_group op.Ne s t = refl
takes_by_group _ s t = refl

gives_by_group : (o : BinaryOp) (s : PlainArg) → operator_gives o (Some s) ≡ Some (Gives (group_of o) s)
unfolding operator_gives
gives_by_group op.Or s = refl
gives_by_group _ s = refl

-- two numbers, two truth values, and where said two references
pub groups-Decides : (references : Bool) (s t : PlainArg)
    → Decides (takes_groups references (Some s) (Some t)) (((s ≡ given int_type) × (t ≡ given int_type))
    ⊎ (((s ≡ given bool_type) × (t ≡ given bool_type)) ⊎ ((references ≡ true) × (IsReferenceOrNull s × IsReferenceOrNull t))))
unfolding takes_groups same_group
groups-Decides references s t =
    Decides-or _ _ (Decides-and _ _ (is_type-Decides int_type s) (is_type-Decides int_type t))
    (Decides-or _ _ (Decides-and _ _ (is_type-Decides bool_type s) (is_type-Decides bool_type t))
    (Decides-and _ _ (λ e. e, λ e. e) (Decides-and _ _ (is_object-Decides s) (is_object-Decides t))))

numbers-Decides : (s t : PlainArg) → Decides (int_part (Some s) && int_part (Some t)) ((s ≡ given int_type) × (t ≡ given int_type))
numbers-Decides s t = Decides-and _ _ (int_part-Decides s) (int_part-Decides t)

placed : {o : BinaryOp} {s t a b : PlainArg} {r : PlainTy} → s ≡ a → t ≡ b → Operates o a b r → Operates o s t r
placed {o} {s} {t} {a} {b} {r} e f h =
    subst (λ (x : PlainArg). Operates o x t r) (sym e) (subst (λ (y : PlainArg). Operates o a y r) (sym f) h)

-- what is taken is operated on
Operated : BinaryOp → PlainArg → PlainArg → PlainArg → Type 0
Operated o s t u = (r : PlainTy) × Operates o s t r × (u ≡ given r)

by_group : (o : BinaryOp) (g : OperatorGroup) → group_of o ≡ g → (s t : PlainArg) → Takes g s t ≡ true → Operated o s t (Gives g s)
unfolding Operated
by_group o arithmetic_group e s t h = let p = (numbers-Decides s t).0 h in (int_type, placed p.0 p.1 (on_numbers e), refl)
by_group o ordering_group e s t h = let p = (numbers-Decides s t).0 h in (bool_type, placed p.0 p.1 (orders_numbers e), refl)
by_group o bitwise_group e s t h = by ((groups-Decides false s t).0 h)
  where
    by : ((s ≡ given int_type) × (t ≡ given int_type))
        ⊎ (((s ≡ given bool_type) × (t ≡ given bool_type)) ⊎ ((false ≡ true) × (IsReferenceOrNull s × IsReferenceOrNull t))) → (r : PlainTy) × Operates o s t r × (s ≡ given r)
    by (inl p) = (int_type, placed p.0 p.1 (on_bits e), p.0)
    by (inr (inl p)) = (bool_type, placed p.0 p.1 (on_truth_values e), p.0)
    by (inr (inr p)) = let f = p.0 in absurd (cc)
by_group o equality_group e s t h = by ((groups-Decides true s t).0 h)
  where
    by : ((s ≡ given int_type) × (t ≡ given int_type))
        ⊎ (((s ≡ given bool_type) × (t ≡ given bool_type)) ⊎ ((true ≡ true) × (IsReferenceOrNull s × IsReferenceOrNull t)))
        → (r : PlainTy) × Operates o s t r × (◌≡◌ {A = PlainArg} (given bool_type) (given r))
    by (inl p) = (bool_type, placed p.0 p.1 (equates_numbers e), refl)
    by (inr (inl p)) = (bool_type, placed p.0 p.1 (equates_truth_values e), refl)
    by (inr (inr p)) = (bool_type, equates_references e p.1.0 p.1.1, refl)

pub operates : (o : BinaryOp) (s t : PlainArg) → takes o (Some s) (Some t) ≡ true → (r : PlainTy) × Operates o s t r × (operator_gives o (Some s) ≡ Some (given r))
unfolding Operated
operates o s t h =
    let p = by_group o (group_of o) refl s t (sym (takes_by_group o s t) ∙ h) in
    (p.0, p.1, gives_by_group o s ∙ ap Some p.2)

at_group : (o : BinaryOp) (g : OperatorGroup) (s t : PlainArg) → group_of o ≡ g → Takes g s t ≡ true → takes o (Some s) (Some t) ≡ true
at_group o g s t e h = takes_by_group o s t ∙ ap (λ (x : OperatorGroup). Takes x s t) e ∙ h

gives_at_group : (o : BinaryOp) (g : OperatorGroup) (s : PlainArg) → group_of o ≡ g → operator_gives o (Some s) ≡ Some (Gives g s)
gives_at_group o g s e = gives_by_group o s ∙ ap (λ (x : OperatorGroup). Some (Gives x s)) e

pub operator_takes : {o : BinaryOp} {s t : PlainArg} {r : PlainTy} → Operates o s t r → takes o (Some s) (Some t) ≡ true
operator_takes (on_numbers e) = at_group _ arithmetic_group _ _ e ((numbers-Decides _ _).1 (refl, refl))
operator_takes (on_bits e) = at_group _ bitwise_group _ _ e ((groups-Decides false _ _).1 (inl (refl, refl)))
operator_takes (on_truth_values e) = at_group _ bitwise_group _ _ e ((groups-Decides false _ _).1 (inr (inl (refl, refl))))
operator_takes (orders_numbers e) = at_group _ ordering_group _ _ e ((numbers-Decides _ _).1 (refl, refl))
operator_takes (equates_numbers e) = at_group _ equality_group _ _ e ((groups-Decides true _ _).1 (inl (refl, refl)))
operator_takes (equates_truth_values e) = at_group _ equality_group _ _ e ((groups-Decides true _ _).1 (inr (inl (refl, refl))))
operator_takes (equates_references {s = s} {t = t} e h k) = at_group _ equality_group s t e ((groups-Decides true s t).1 (inr (inr (refl, (h, k)))))

pub operator_result : {o : BinaryOp} {s t : PlainArg} {r : PlainTy} → Operates o s t r → operator_gives o (Some s) ≡ Some (given r)
operator_result (on_numbers e) = gives_at_group _ arithmetic_group _ e
operator_result (on_bits e) = gives_at_group _ bitwise_group _ e
operator_result (on_truth_values e) = gives_at_group _ bitwise_group _ e
operator_result (orders_numbers e) = gives_at_group _ ordering_group _ e
operator_result (equates_numbers e) = gives_at_group _ equality_group _ e
operator_result (equates_truth_values e) = gives_at_group _ equality_group _ e
operator_result (equates_references e h k) = gives_at_group _ equality_group _ e

-- ---- compound assignments

not_equality : {o : BinaryOp} → IsAssigning o → ¬ (group_of o ≡ equality_group)
not_equality (arithmetic_assigns e) f = cc
not_equality (bitwise_assigns e) f = cc

not_ordering : {o : BinaryOp} → IsAssigning o → ¬ (group_of o ≡ ordering_group)
not_ordering (arithmetic_assigns e) f = cc
not_ordering (bitwise_assigns e) f = cc

pub assigning-Decides : (o : BinaryOp) → Decides (not (is_comparison o)) (IsAssigning o)
unfolding is_comparison
assigning-Decides op.Or = (λ e. bitwise_assigns refl, λ h. refl)
assigning-Decides op.Xor = (λ e. bitwise_assigns refl, λ h. refl)
assigning-Decides op.And = (λ e. bitwise_assigns refl, λ h. refl)
assigning-Decides op.Eq = (λ e. cc, λ h. absurd (not_equality h refl))
assigning-Decides op.Ne = (λ e. cc, λ h. absurd (not_equality h refl))
assigning-Decides op.Lt = (λ e. cc, λ h. absurd (not_ordering h refl))
assigning-Decides op.Gt = (λ e. cc, λ h. absurd (not_ordering h refl))
assigning-Decides op.Le = (λ e. cc, λ h. absurd (not_ordering h refl))
assigning-Decides op.Ge = (λ e. cc, λ h. absurd (not_ordering h refl))
assigning-Decides _ = (λ e. arithmetic_assigns refl, λ h. refl)

-- the result is assigned as it is
pub assigned : {o : BinaryOp} {s : PlainArg} {t r : PlainTy} → IsAssigning o → Operates o (given t) s r → Operates o (given t) s t
assigned a (on_numbers e) = on_numbers e
assigned a (on_bits e) = on_bits e
assigned a (on_truth_values e) = on_truth_values e
assigned a (orders_numbers e) = absurd (not_ordering a e)
assigned a (equates_numbers e) = absurd (not_equality a e)
assigned a (equates_truth_values e) = absurd (not_equality a e)
assigned a (equates_references e h k) = absurd (not_equality a e)
