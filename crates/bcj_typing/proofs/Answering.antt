-- What a typing comes to is what is said of the unit.
use Rattle.std.proofs.Common.{◌≡◌, sym, ◌∙◌, ap, subst, ℕ, List, None, Some, Result, Ok, Err, slice_get}
use Rattle.std.specs.Prelude.{IfOk}
use Rattle.std.specs.Result.{IfErr}
use Rattle.bcj_parser_trees.specs.Trees as source
use Rattle.bcj_symbolic_trees.specs.declared.class_tree.SymUnit.{SymUnit}
use Rattle.bcj_symbolic_trees.specs.Units.{PlainUnit, plain_of}
use Rattle.bcj_symbolic_check.specs.Typing.{Each, WellTyped}
use Rattle.bcj_decl_rules.specs.Faults.{IsDeclared}
use Rattle.bcj_typing_rules.specs.declared.kind.Kind.{Kind}
use Rattle.bcj_typing_rules.specs.Faults.{IsUntyped}
use Rattle.bcj_typing_rules.specs.Units.{Elaborates}
use Rattle.bcj_typing_rules.specs.function.Expressions.{AreRight, AreOnly, Outcome, result, fault}
use Rattle.bcj_typing_rules.specs.function.Members.{type_unit}
use Rattle.bcj_typing_rules.proofs.Soundness.{Meets}
use Rattle.bcj_typing_rules.proofs.UnitsFound.{unit_says, unit_found, unit_fails}
use Rattle.bcj_typing_rules.proofs.Whole.{types_whole}
use Rattle.bcj_typing_answers.specs.Answers.{answers_of}
use Rattle.bcj_typing_answers.proofs.Answered.{answered, one_answer}
use Rattle.bcj_typing_soundness.specs.Laws.{IsDerived}
use Rattle.bcj_typing_soundness.proofs.Units.{each_elaboration}
use Rattle.bcj_typing.specs.declared.stop.Limited.{Limited}
use Rattle.bcj_typing.specs.declared.stop.TypeStop.{TypeStop}
use Rattle.bcj_typing.specs.declared.stop.TypeStop.TheVariants as stop
use Rattle.bcj_typing.specs.Answers.{HaveNoConstructor, IsCause, StopsAt, Gives, IsExact}
use Rattle.bcj_typing.specs.Limits.{Past, first_past, IsWithin, IsTooLarge}
use Rattle.bcj_typing.specs.Passed.{Comes}

module _ (units : List source.PlainUnit) (fine : IsDeclared units) (own : ℕ) (unit : source.PlainUnit) (is_own : slice_get units own ≡ Some unit) (none : HaveNoConstructor unit) where
  abbrev pub o : Outcome PlainUnit
  o = type_unit (answers_of units) units own

  right : AreRight units (answers_of units)
  right = answered units fine

  only : AreOnly units (answers_of units)
  only = one_answer units fine

  says : Meets (Elaborates units own) (IsUntyped units own) o
  says = unit_says units (answers_of units) right own unit is_own (types_whole units fine own unit is_own none)

  elaborates : (u : PlainUnit) → o ≡ result u → Elaborates units own u
  elaborates u e = subst (Meets (Elaborates units own) (IsUntyped units own)) e says

  untyped : (at : ℕ) (k : Kind) → o ≡ fault at k → IsUntyped units own at k
  untyped at k e = subst (Meets (Elaborates units own) (IsUntyped units own)) e says

  found : (u : PlainUnit) → Elaborates units own u → o ≡ result u
  found u x = unit_found units (answers_of units) right only own unit is_own (types_whole units fine own unit is_own none) u x

  fails : (at : ℕ) (k : Kind) → IsUntyped units own at k → o ≡ fault at k
  fails at k x = unit_fails units (answers_of units) right only own unit is_own (types_whole units fine own unit is_own none) at k x

  same_own : (other : source.PlainUnit) → slice_get units own ≡ Some other → other ≡ unit
  same_own other e = let both : Some other ≡ Some unit = sym e ∙ is_own in cc

  pub comes_within : (r : Result SymUnit TypeStop) → Comes unit o r → IfOk r (λ u. IsWithin units own (plain_of u))
  comes_within (Ok v) c = record { unit = unit; is_own = is_own; elaborates = elaborates (plain_of v) c.0; within = c.1 }
  comes_within (Err e) c = tt

  pub comes_typed : (r : Result SymUnit TypeStop) → Comes unit o r → Each IsDerived units → IfOk r (λ u. WellTyped (plain_of u))
  comes_typed (Ok v) c derived = each_elaboration units fine derived own (plain_of v) (elaborates (plain_of v) c.0)
  comes_typed (Err e) c derived = tt

  pub comes_cause : (r : Result SymUnit TypeStop) → Comes unit o r → IfErr r (IsCause units own)
  comes_cause (Ok v) c = tt
  comes_cause (Err (stop.Untyped at k)) c = untyped at k c
  comes_cause (Err (stop.TooLarge what at)) c = record { unit = unit; symbolic = c.0; is_own = is_own; elaborates = elaborates c.0 c.1; past = c.2 }
  comes_cause (Err stop.NoMemory) c = tt

  one_result : (u v : PlainUnit) → o ≡ result u → o ≡ result v → u ≡ v
  one_result u v e f = let both : result u ≡ result v = sym e ∙ f in cc

  not_past : (w : PlainUnit) (p : Past) (u : PlainUnit) → first_past unit w ≡ Some p → u ≡ w → first_past unit u ≡ None → ⊥
  not_past w p u e s n = let both : Some p ≡ None = sym e ∙ (ap (first_past unit) (sym s) ∙ n) in cc

  within_here : (u : PlainUnit) (w : IsWithin units own u) → first_past unit u ≡ None
  within_here u w = ap (λ t. first_past t u) (sym (same_own w.unit w.is_own)) ∙ w.within

  past_here : (what : Limited) (at : ℕ) (x : IsTooLarge units own what at) → first_past unit x.symbolic ≡ Some (record { what = what; at = at })
  past_here what at x = ap (λ t. first_past t x.symbolic) (sym (same_own x.unit x.is_own)) ∙ x.past

  gives : (r : Result SymUnit TypeStop) → Comes unit o r → (u : PlainUnit) → IsWithin units own u → Gives u r
  gives (Ok v) c u w = one_result (plain_of v) u c.0 (found u w.elaborates)
  gives (Err (stop.Untyped at k)) c u w = let both : result u ≡ fault at k = sym (found u w.elaborates) ∙ c in cc
  gives (Err (stop.TooLarge what at)) c u w = not_past c.0 (record { what = what; at = at }) u c.2 (one_result u c.0 (found u w.elaborates) c.1) (within_here u w)
  gives (Err stop.NoMemory) c u w = tt

  stops_untyped : (r : Result SymUnit TypeStop) → Comes unit o r → (at : ℕ) (k : Kind) → IsUntyped units own at k → StopsAt (stop.Untyped at k) r
  stops_untyped (Ok v) c at k x = let both : fault at k ≡ result (plain_of v) = sym (fails at k x) ∙ c.0 in cc
  stops_untyped (Err (stop.Untyped p l)) c at k x = let both : fault p l ≡ fault at k = sym c ∙ fails at k x in cc
  stops_untyped (Err (stop.TooLarge what p)) c at k x = let both : fault at k ≡ result c.0 = sym (fails at k x) ∙ c.1 in absurd cc
  stops_untyped (Err stop.NoMemory) c at k x = tt

  stops_past : (r : Result SymUnit TypeStop) → Comes unit o r → (what : Limited) (at : ℕ) → IsTooLarge units own what at → StopsAt (stop.TooLarge what at) r
  stops_past (Ok v) c what at x =
      not_past x.symbolic (record { what = what; at = at }) (plain_of v) (past_here what at x) (one_result (plain_of v) x.symbolic c.0 (found x.symbolic x.elaborates)) c.1
  stops_past (Err (stop.Untyped p l)) c what at x = let both : fault p l ≡ result x.symbolic = sym c ∙ found x.symbolic x.elaborates in absurd cc
  stops_past (Err (stop.TooLarge other p)) c what at x =
      let same : c.0 ≡ x.symbolic = one_result c.0 x.symbolic c.1 (found x.symbolic x.elaborates) in
      let first : Past = record { what = other; at = p } in
      let second : Past = record { what = what; at = at } in
      let both : Some first ≡ Some second = sym c.2 ∙ (ap (first_past unit) same ∙ past_here what at x) in
      let one : first ≡ second = cc in
      λ i. stop.TooLarge (one i).what (one i).at
  stops_past (Err stop.NoMemory) c what at x = tt

  pub comes_exact : (r : Result SymUnit TypeStop) → Comes unit o r → IsExact units own r
  comes_exact r c = record { given = gives r c; untyped = stops_untyped r c; too_large = stops_past r c }
