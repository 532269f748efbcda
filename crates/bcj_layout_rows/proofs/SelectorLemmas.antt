-- References put into a set one by one, and what each of them names.
use Rattle.std.proofs.Common.{◌≡◌, refl, ap, sym, ◌∙◌, ◌<◌, ◌+◌, ℕ, zero, suc, List, [], ◌∷◌, ◌++◌, map, drop, length, get_or, if◌then◌else◌, arith}
use Rattle.std.specs.Prelude.{position}
use Rattle.std.specs.List.{fold, list_any}
use Rattle.std.proofs.lemmas.List.{drop_more}
use Rattle.indexmap.specs.IndexSet.{insert_key}
use Rattle.bcj_tables_rules.specs.declared.records.ClassRecord.{ClassRecord}
use Rattle.bcj_tables_rules.specs.declared.records.IEntry.{IEntry}
use Rattle.bcj_hier_rules.specs.Shapes.{Named, Mixture, Reference}
use Rattle.bcj_hier_rules.specs.Heads.{name_of}
use Rattle.bcj_layout_rules.specs.Rows.{Classes, same_reference, with_selector, with_class, interface_reference}
use Rattle.bcj_layout_resolution.specs.Places.{heads_in}
use Rattle.bcj_layout_rows.specs.declared.keys.ReferenceKey.{ReferenceKey}
use Rattle.bcj_layout_rows.specs.Keys.{reference_in}
use Rattle.bcj_layout_rows.proofs.KeyLemmas.{insert_key-map, position-map}

-- a reference put into the set goes behind those that it stands for, unless it is there
pub put-reference : (keys : List ReferenceKey) (k : ReferenceKey)
    → map reference_in (insert_key (λ (x y : ReferenceKey). same_reference (reference_in x) (reference_in y)) keys k)
    ≡ (if list_any (same_reference (reference_in k)) (map reference_in keys) then map reference_in keys else map reference_in keys ++ reference_in k ∷ [])
put-reference keys k = insert_key-map same_reference reference_in keys k

-- the place of a reference in the set is its place among those that it stands for
pub reference-position : (keys : List ReferenceKey) (k : ReferenceKey)
    → position (λ (x : ReferenceKey). same_reference (reference_in k) (reference_in x)) keys ≡ position (same_reference (reference_in k)) (map reference_in keys)
reference-position keys k = position-map same_reference reference_in keys k

-- the name of the class at a place
pub name-at : (cs : Classes) (k : ℕ) (d : ClassRecord) → k < length cs → name_of (heads_in cs) (record { 0 = k }) ≡ (get_or cs k d).head.name
name-at [] k d h = absurd (omega arith)
name-at (c ∷ cs) zero d h = refl
name-at (c ∷ cs) (suc k) d h = name-at cs k d (omega arith)

-- the references of one class more
pub class-step : (m : Mixture) (cs : Classes) (k : ℕ) (d : ClassRecord) (refs : List Reference) → k < length cs
    → fold (with_class m) refs (drop k cs)
    ≡ fold (with_class m) (fold (with_selector m (name_of (heads_in cs) (record { 0 = k }))) refs (map interface_reference (get_or cs k d).itable)) (drop (k + 1) cs)
class-step m cs k d refs h =
    ap (fold (with_class m) refs) (drop_more cs k d h)
    ∙ ap (λ n. fold (with_class m) (fold (with_selector m n) refs (map interface_reference (get_or cs k d).itable)) (drop (k + 1) cs)) (sym (name-at cs k d h))

-- one reference more
pub entry-step : (m : Mixture) (from : Named) (entries : List IEntry) (k : ℕ) (e : IEntry) (refs next : List Reference) → k < length entries → e ≡ get_or entries k e
    → next ≡ with_selector m from refs (interface_reference e)
    → fold (with_selector m from) next (map interface_reference (drop (k + 1) entries)) ≡ fold (with_selector m from) refs (map interface_reference (drop k entries))
entry-step m from entries k e refs next inside is_it h =
    ap (λ l. fold (with_selector m from) l (map interface_reference (drop (k + 1) entries))) (h ∙ ap (λ x. with_selector m from refs (interface_reference x)) is_it)
    ∙ ap (λ l. fold (with_selector m from) refs (map interface_reference l)) (sym (drop_more entries k e inside))
