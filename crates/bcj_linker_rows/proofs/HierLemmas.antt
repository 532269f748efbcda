-- What the hierarchy and the records say of a type by its number.
use Rattle.std.proofs.Common.{◌≡◌, ◌∙◌, ap, sym, subst, false, [], List, Some, slice_get}
use Rattle.std.specs.Option.{option_map, option_map_or}
use Rattle.std.proofs.lemmas.Option.{slice_get-map}
use Rattle.bcj_symbolic_trees.specs.declared.class_tree.ClassHead.{ClassHead}
use Rattle.bcj_tables_rules.specs.declared.records.ClassRecord.{ClassRecord}
use Rattle.bcj_hier_rules.specs.declared.class_id.ClassId.{ClassId}
use Rattle.bcj_hier_rules.specs.Shapes.{Shape, found, record_shape}
use Rattle.bcj_hier_rules.specs.Heads.{of_heads, name_of, AreDistinct}
use Rattle.bcj_hier_rules.specs.Loading.{is_interface}
use Rattle.bcj_hier_rules.specs.Trees.{low, high}
use Rattle.bcj_hier_soundness.proofs.Heads.{heads_number, heads_end_numbers}
use Rattle.bcj_hier_soundness.proofs.Distinct.{names_have_numbers}
use Rattle.bcj_layout_rules.specs.Rows.{Classes, mixture_of}
use Rattle.bcj_layout_resolution.specs.Places.{heads_in}
use Rattle.bcj_layout_resolution.proofs.Records.{heads_same, found_at}

-- a type is an interface where its record says so
pub interface_by_record : (heads : List ClassHead) (cs : Classes) (c : ClassId) (r : ClassRecord) → heads ≡ heads_in cs → AreDistinct heads → slice_get cs c.0 ≡ Some r
    → r.head.interface ≡ is_interface (mixture_of cs) (name_of (heads_in cs) c)
interface_by_record heads cs c r agree distinct there =
    let P : List ClassHead → Type 0 = λ hs. AreDistinct hs in
    let head_there : slice_get (heads_in cs) c.0 ≡ Some r.head = slice_get-map (λ (x : ClassRecord). x.head) cs c.0 ∙ ap (option_map (λ (x : ClassRecord). x.head)) there in
    let named : name_of (heads_in cs) c ≡ r.head.name = ap (λ o. option_map_or (λ (h : ClassHead). h.name) o []) head_there in
    let is : found (mixture_of cs) r.head.name ≡ Some (record_shape r) = found_at cs r.head.name c.0 r (names_have_numbers (heads_in cs) c.0 r.head (subst P agree distinct) head_there) there in
    sym (ap (is_interface (mixture_of cs)) named ∙ ap (λ o. option_map_or (λ (s : Shape). s.head.interface) o false) is)

-- the number of a class by its head
pub low_by_heads : (heads : List ClassHead) (cs : Classes) (c : ClassId) → heads ≡ heads_in cs → low (of_heads heads) (name_of heads c) ≡ low (mixture_of cs) (name_of (heads_in cs) c)
low_by_heads heads cs c agree =
    ap (λ (hs : List ClassHead). low (of_heads hs) (name_of hs c)) agree
    ∙ sym (heads_number (mixture_of cs) (name_of (heads_in cs) c) ∙ ap (λ hs. low (of_heads hs) (name_of (heads_in cs) c)) (heads_same cs))

-- and one past those below it
pub high_by_heads : (heads : List ClassHead) (cs : Classes) (c : ClassId) → heads ≡ heads_in cs → high (of_heads heads) (name_of heads c) ≡ high (mixture_of cs) (name_of (heads_in cs) c)
high_by_heads heads cs c agree =
    ap (λ (hs : List ClassHead). high (of_heads hs) (name_of hs c)) agree
    ∙ sym (heads_end_numbers (mixture_of cs) (name_of (heads_in cs) c) ∙ ap (λ hs. high (of_heads hs) (name_of (heads_in cs) c)) (heads_same cs))
