-- The function of units is sound, and finds each symbolic unit and each fault.
use Rattle.std.proofs.Common.{◌≡◌, ◌⊎◌, inl, inr, ℕ, List, [], ◌∷◌, ◌++◌, Some, refl, sym, ◌∙◌, ap, subst, slice_get}
use Rattle.std.specs.List.{AllZip, AllByRecursion}
use Rattle.bcj_parser_trees.specs.Trees as source
use Rattle.bcj_symbolic_trees.specs.Units.{PlainClass, PlainUnit}
use Rattle.bcj_typing_rules.specs.declared.kind.Kind.{Kind}
use Rattle.bcj_typing_rules.specs.Members.{BecomesClass}
use Rattle.bcj_typing_rules.specs.Units.{Elaborates}
use Rattle.bcj_typing_rules.specs.Faults.{TypeFault, IsUntyped}
use Rattle.bcj_typing_rules.specs.Laws.{IsWhole}
use Rattle.bcj_typing_rules.specs.function.Expressions.{Outcome, result, fault, and_then, Answers, AreRight, AreOnly}
use Rattle.bcj_typing_rules.specs.function.Members as function
use Rattle.bcj_typing_rules.proofs.Soundness.{Meets}
use Rattle.bcj_typing_rules.proofs.Statements.{go_on}
use Rattle.bcj_typing_rules.proofs.Completeness.{found}
use Rattle.bcj_typing_rules.proofs.ExprFaults.{fails_on}
use Rattle.bcj_typing_rules.proofs.Classes.{type_says}
use Rattle.bcj_typing_rules.proofs.ClassesFound.{class_found, type_fails}

-- the first fault of several types
pub record TypesFault (units : List source.PlainUnit) (ts : List source.PlainType) (at : ℕ) (k : Kind) : Type 0 where
  pub before : List source.PlainType
  pub type : source.PlainType
  pub behind : List source.PlainType
  pub is : ts ≡ before ++ type ∷ behind
  pub earlier : List PlainClass
  pub earlier_hold : AllZip (BecomesClass units) before earlier
  pub fault : TypeFault units type at k

abbrev AreWhole : List source.PlainUnit → List source.PlainType → Type 0
AreWhole units ts = AllByRecursion (IsWhole units) ts

later_fault : (units : List source.PlainUnit) (t : source.PlainType) (x : PlainClass) (ts : List source.PlainType) (at : ℕ) (k : Kind) → BecomesClass units t x → TypesFault units ts at k
    → TypesFault units (t ∷ ts) at k
later_fault units t x ts at k h r =
    record {
      before = t ∷ r.before;
      type = r.type;
      behind = r.behind;
      is = ap (λ l. t ∷ l) r.is;
      earlier = x ∷ r.earlier;
      earlier_hold = (h, r.earlier_hold);
      fault = r.fault;
    }

module _ (units : List source.PlainUnit) (a : Answers) (right : AreRight units a) where
  types_say : (ts : List source.PlainType) → AreWhole units ts → Meets (AllZip (BecomesClass units) ts) (TypesFault units ts) (function.type_types a units ts)
  types_say [] w = tt
  types_say (t ∷ ts) w =
      go_on (BecomesClass units t) (TypeFault units t) (AllZip (BecomesClass units) (t ∷ ts)) (TypesFault units (t ∷ ts)) (function.type_class a units t) _ (type_says units a right t w.0)
      (λ at k x. record { before = []; type = t; behind = ts; is = refl; earlier = []; earlier_hold = tt; fault = x })
      (λ x h.
      go_on (AllZip (BecomesClass units) ts) (TypesFault units ts) (AllZip (BecomesClass units) (t ∷ ts)) (TypesFault units (t ∷ ts)) (function.type_types a units ts) _ (types_say ts w.1)
      (λ at k r. later_fault units t x ts at k h r) (λ xs hs. (h, hs)))

  unit_at : (own : ℕ) (unit : source.PlainUnit) → slice_get units own ≡ Some unit → function.type_unit a units own ≡ and_then (function.type_types a units unit) (λ xs. result (record { classes = xs }))
  unit_at own unit h = ap (λ o. and_then (function.type_types a units (function.types_of_unit a units o)) (λ xs. result (record { classes = xs }))) h

  pub unit_says : (own : ℕ) (unit : source.PlainUnit) → slice_get units own ≡ Some unit → AreWhole units unit → Meets (Elaborates units own) (IsUntyped units own) (function.type_unit a units own)
  unit_says own unit h w =
      subst (Meets (Elaborates units own) (IsUntyped units own)) (sym (unit_at own unit h))
      (go_on (AllZip (BecomesClass units) unit) (TypesFault units unit) (Elaborates units own) (IsUntyped units own) (function.type_types a units unit) _ (types_say unit w)
      (λ at k r.
      record {
        before = r.before;
        type = r.type;
        behind = r.behind;
        is_own = h ∙ ap Some r.is;
        earlier = r.earlier;
        earlier_hold = r.earlier_hold;
        fault = r.fault;
      })
      (λ xs hs. record { unit = unit; is_own = h; classes = hs }))

  module _ (only : AreOnly units a) where
    types_found : (ts : List source.PlainType) (xs : List PlainClass) → AreWhole units ts → AllZip (BecomesClass units) ts xs → function.type_types a units ts ≡ result xs
    types_found [] [] w h = refl
    types_found [] (x ∷ xs) w h = absurd h
    types_found (t ∷ ts) [] w h = absurd h
    types_found (t ∷ ts) (x ∷ xs) w h =
        found (function.type_class a units t) _ x (class_found units a right only t w.0 x h.0) ∙ found (function.type_types a units ts) _ xs (types_found ts xs w.1 h.1)

    types_fail : (before : List source.PlainType) (t : source.PlainType) (behind : List source.PlainType) (earlier : List PlainClass) (at : ℕ) (k : Kind) → AreWhole units (before ++ t ∷ behind)
        → AllZip (BecomesClass units) before earlier → TypeFault units t at k → function.type_types a units (before ++ t ∷ behind) ≡ fault at k
    types_fail [] t behind earlier at k w h x = fails_on (function.type_class a units t) _ at k (type_fails units a right only t at k x)
    types_fail (s ∷ before) t behind [] at k w h x = absurd h
    types_fail (s ∷ before) t behind (y ∷ earlier) at k w h x =
        found (function.type_class a units s) _ y (class_found units a right only s w.0 y h.0)
        ∙ fails_on (function.type_types a units (before ++ t ∷ behind)) _ at k (types_fail before t behind earlier at k w.1 h.1 x)

    same_own : (own : ℕ) (x y : source.PlainUnit) → slice_get units own ≡ Some x → slice_get units own ≡ Some y → x ≡ y
    same_own own x y h k = let both : Some x ≡ Some y = sym h ∙ k in cc

    pub unit_found : (own : ℕ) (unit : source.PlainUnit) → slice_get units own ≡ Some unit → AreWhole units unit → (u : PlainUnit) → Elaborates units own u → function.type_unit a units own ≡ result u
    unit_found own unit h w u x =
        let whole : AreWhole units x.unit = subst (AreWhole units) (same_own own unit x.unit h x.is_own) w in
        unit_at own x.unit x.is_own ∙ found (function.type_types a units x.unit) _ u.classes (types_found x.unit u.classes whole x.classes)

    pub unit_fails : (own : ℕ) (unit : source.PlainUnit) → slice_get units own ≡ Some unit → AreWhole units unit → (at : ℕ) (k : Kind) → IsUntyped units own at k → function.type_unit a units own ≡ fault at k
    unit_fails own unit h w at k x =
        let whole : AreWhole units (x.before ++ x.type ∷ x.behind) = subst (AreWhole units) (same_own own unit (x.before ++ x.type ∷ x.behind) h x.is_own) w in
        unit_at own (x.before ++ x.type ∷ x.behind) x.is_own
        ∙ fails_on (function.type_types a units (x.before ++ x.type ∷ x.behind)) _ at k (types_fail x.before x.type x.behind x.earlier at k whole x.earlier_hold x.fault)

-- ---- one of the two, and one alone

found_or_not : {A : Type 0} {P : A → Type 0} {Q : ℕ → Kind → Type 0} (o : Outcome A) → Meets P Q o → ((x : A) × P x) ⊎ ((at : ℕ) × (k : Kind) × Q at k)
found_or_not (result x) h = inl (x, h)
found_or_not (fault at k) h = inr (at, k, h)

pub not_both : {A : Type 0} (o : Outcome A) (x : A) (at : ℕ) (k : Kind) → o ≡ result x → o ≡ fault at k → ⊥
not_both o x at k h j = let both : result x ≡ fault at k = sym h ∙ j in cc

pub one_fault : {A : Type 0} (o : Outcome A) (at place : ℕ) (k l : Kind) → o ≡ fault at k → o ≡ fault place l → (at ≡ place) × (k ≡ l)
one_fault o at place k l h j = let both : fault at k ≡ fault place l = sym h ∙ j in (cc, cc)

pub decided : (units : List source.PlainUnit) (a : Answers) → AreRight units a → (own : ℕ) (unit : source.PlainUnit) → slice_get units own ≡ Some unit → AllByRecursion (IsWhole units) unit
    → ((u : PlainUnit) × Elaborates units own u) ⊎ ((at : ℕ) × (k : Kind) × IsUntyped units own at k)
decided units a right own unit h w = found_or_not (function.type_unit a units own) (unit_says units a right own unit h w)
