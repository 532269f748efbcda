-- Types told by their numbers, beside types told by their names.
use Rattle.std.proofs.Common.{◌≡◌, ℕ, [], ◌∷◌, Bool, slice_get, Some, refl, sym, ◌∙◌, ap}
use Rattle.std.proofs.lemmas.Option.{slice_get-map}
use Rattle.std.specs.Option.{option_map, option_map_or}
use Rattle.bcj_tables_rules.specs.declared.records.ClassRecord.{ClassRecord}
use Rattle.bcj_hier_rules.specs.declared.class_id.ClassId.{ClassId}
use Rattle.bcj_hier_rules.specs.Heads.{of_heads, heads_of, name_of, AreDistinct}
use Rattle.bcj_hier_rules.specs.Loading.{is_interface}
use Rattle.bcj_hier_soundness.proofs.Heads.{heads_tell_interfaces}
use Rattle.bcj_hier_soundness.proofs.Distinct.{heads_are_found}
use Rattle.bcj_layout_rules.specs.Rows.{Classes, mixture_of}
use Rattle.bcj_layout_resolution.specs.Places.{heads_in}

pub heads_same : (cs : Classes) → heads_of (mixture_of cs) ≡ heads_in cs
heads_same [] = refl
heads_same (c ∷ cs) = ap (λ hs. c.head ∷ hs) (heads_same cs)

-- the head of a record stands where the record does
pub head_there : (cs : Classes) (k : ℕ) (r : ClassRecord) → slice_get cs k ≡ Some r → slice_get (heads_in cs) k ≡ Some r.head
head_there cs k r e = slice_get-map (λ c. c.head) cs k ∙ ap (option_map (λ c. c.head)) e

-- a type is an interface where its record says so
pub interface_by_record : (cs : Classes) (c : ClassId) (r : ClassRecord) → AreDistinct (heads_in cs) → slice_get cs c.0 ≡ Some r
    → r.head.interface ≡ is_interface (mixture_of cs) (name_of (heads_in cs) c)
interface_by_record cs c r distinct e =
    let there : slice_get (heads_in cs) c.0 ≡ Some r.head = head_there cs c.0 r e in
    let named : name_of (heads_in cs) c ≡ r.head.name = ap (λ o. option_map_or (λ h. h.name) o []) there in
    sym (ap (is_interface (mixture_of cs)) named
    ∙ (heads_tell_interfaces (mixture_of cs) r.head.name
    ∙ (ap (λ hs. is_interface (of_heads hs) r.head.name) (heads_same cs)
    ∙ ap (λ o. option_map_or (λ s. s.head.interface) o Bool.false) (heads_are_found (heads_in cs) c.0 r.head distinct there))))
