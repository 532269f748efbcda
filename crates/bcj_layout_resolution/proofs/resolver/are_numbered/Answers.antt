use Rattle.std.proofs.Common.{◌≡◌, ◌<◌, ◌+◌, ◌∙◌, sym, subst, ℕ, Some, slice_get, List, length, get_or, arith, inl, inr, refl}
use Rattle.std.proofs.lemmas.Bool.{cases_lt}
use Rattle.std.proofs.lemmas.Option.{slice_get_within, slice_get_read, same_Some}
use Rattle.bcj_tables_rules.specs.declared.records.ClassRecord.{ClassRecord}
use Rattle.bcj_layout_resolution.specs.Searches.{IsNumbered}
use Rattle.bcj_layout_resolution.proofs.resolver.are_numbered.Goals as goal

-- one more record
more : (cs : List ClassRecord) (i : ℕ) (x : ClassRecord) → ((k : ℕ) (r : ClassRecord) → k < i → slice_get cs k ≡ Some r → IsNumbered r) → i < length cs → x ≡ get_or cs i x → IsNumbered x
    → (k : ℕ) (r : ClassRecord) → k < i + 1 → slice_get cs k ≡ Some r → IsNumbered r
more cs i x all within is numbered k r below there =
    elim (cases_lt k i) [
      | inl less ↦ all k r less there
      | inr past ↦
          let at_it : k ≡ i = omega arith in
          let P : ℕ → Type 0 = λ j. slice_get cs j ≡ Some r in
          subst IsNumbered (same_Some x r (sym (slice_get_read cs (length cs) i x refl within is) ∙ subst P at_it there)) numbered
    ]

pub loop-class-preserved : goal.loop-class-preserved
loop-class-preserved c =
    more c.args.classes.now c.loop-class.class-index c.class-item.result c.loop-class.invariant c.loop-class-test.true c.class-item.is
    (record { fields = omega arith; methods = omega arith })

pub returns : goal.returns
returns c = λ _ k r e. c.loop-class.invariant k r (let less : k < length c.args.classes.now = slice_get_within c.args.classes.now k r e in omega arith) e
