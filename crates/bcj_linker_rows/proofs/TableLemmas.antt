-- The table regions one by one.
use Rattle.std.proofs.Common.{◌≡◌, ◌∙◌, ◌+◌, ◌-◌, ◌++◌, ◌∷◌, [], List, ap, sym, refl, ℕ, suc, true, map, drop, length, get_or, Some, slice_get, append_assoc, add-one, arith}
use Rattle.std.specs.List.{find}
use Rattle.std.specs.Option.{option_map_or}
use Rattle.bcj_tables_rules.specs.declared.records.MethodRecord.{MethodRecord}
use Rattle.bcj_tables_rules.specs.declared.records.ClassRecord.{ClassRecord}
use Rattle.bcj_hier_rules.specs.Shapes.{Named}
use Rattle.bcj_layout_rules.specs.Rows.{Classes}
use Rattle.bcj_layout_rules.specs.Places.{region_words}
use Rattle.bcj_layout_members.proofs.Elements.{drop_at_some}
use Rattle.bcj_linker_rules.specs.Memory.{region_of, regions_from}

-- what is made of the first method
pub first_made : (f : MethodRecord → ℕ) (ms : List MethodRecord) → get_or (map f ms) 0 0 ≡ option_map_or f (find (λ m. true) ms) 0
first_made f [] = refl
first_made f (m ∷ ms) = refl

-- the entries of a class's tables
pub entry_count : (r : ClassRecord) (a b d e : ℕ) → a ≡ length r.ctable → b ≡ length r.otable → d ≡ length r.atable → e ≡ length r.itable → a + b + d + e ≡ region_words r - 1
entry_count r a b d e p q s t = omega arith

-- one region more
pub region_step : (cs : Classes) (main : Named) (k : ℕ) (rs : List ClassRecord) (r : ClassRecord) (words next whole : List ℕ) → slice_get rs k ≡ Some r → next ≡ words ++ region_of cs main k r
    → words ++ regions_from cs main k (drop k rs) ≡ whole → next ++ regions_from cs main (k + 1) (drop (k + 1) rs) ≡ whole
region_step cs main k rs r words next whole there step before =
    let rest = regions_from cs main (suc k) (drop (k + 1) rs) in
    ap (λ n. next ++ regions_from cs main n (drop (k + 1) rs)) (add-one k)
    ∙ (ap (λ ws. ws ++ rest) step
    ∙ (append_assoc words (region_of cs main k r) rest ∙ (ap (λ ws. words ++ ws) (sym (ap (regions_from cs main k) (drop_at_some rs k r there))) ∙ before)))
