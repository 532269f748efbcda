-- The end of the walk over methods and their codes.
use Rattle.std.proofs.Common.{◌≡◌, ◌∙◌, ap, sym, refl, ℕ, zero, suc, ◌≤◌, List, [], ◌∷◌, ◌++◌, length, map, drop, append-nil, arith}
use Rattle.bcj_symbolic_trees.specs.declared.class_tree.SymMethod.{SymMethod}
use Rattle.bcj_symbolic_trees.specs.Units.{method_of}
use Rattle.bcj_lower.specs.declared.code.MethodCode.{MethodCode}
use Rattle.bcj_lower.specs.Views.{method_in}
use Rattle.bcj_tables_rules.specs.declared.records.MethodRecord.{MethodRecord}
use Rattle.bcj_object_rules.specs.Records.{method_head, method_records}

drop_none : {A : Type 0} (xs : List A) (i : ℕ) → length xs ≤ i → drop i xs ≡ []
drop_none [] zero h = refl
drop_none [] (suc i) h = refl
drop_none (x ∷ xs) zero h = absurd (omega (arith, h))
drop_none (x ∷ xs) (suc i) h = drop_none xs i (omega (arith, h))

-- the records of these methods with their codes
abbrev records : ℕ → List SymMethod → List MethodCode → List MethodRecord
records text ms ks = method_records text (map method_head (map method_of ms)) (map method_in ks)

no_code : (text : ℕ) (ms : List SymMethod) → records text ms [] ≡ []
no_code text [] = refl
no_code text (m ∷ ms) = refl

-- where no code is left, the records so far are all
pub codes-done : (text : ℕ) (ms : List SymMethod) (ks : List MethodCode) (i : ℕ) (made whole : List MethodRecord)
    → made ++ records text (drop i ms) (drop i ks) ≡ whole → length ks ≤ i → made ≡ whole
codes-done text ms ks i made whole before h =
    sym (append-nil made)
    ∙ ap (λ (l : List MethodRecord). made ++ l) (sym (no_code text (drop i ms)))
    ∙ ap (λ (l : List MethodCode). made ++ records text (drop i ms) l) (sym (drop_none ks i h))
    ∙ before
