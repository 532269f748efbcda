-- What the rows say, by the view of what holds them.
use Rattle.std.proofs.Common.{◌≡◌, ◌+◌, List, Option, Some, None, true, sym, ◌∙◌, ap, ℕ, length, map, not}
use Rattle.std.specs.List.{slice_get, filter, position}
use Rattle.std.specs.Option.{option_map_or}
use Rattle.bcj_tables_rules.specs.declared.records.FieldRecord.{FieldRecord}
use Rattle.bcj_tables_rules.specs.declared.records.ClassRecord.{ClassRecord}
use Rattle.bcj_hier_rules.specs.declared.class_id.ClassId.{ClassId}
use Rattle.bcj_hier_rules.specs.Heads.{name_of}
use Rattle.bcj_hier_rules.specs.Shapes.{Shape, field_of_record, is_field}
use Rattle.bcj_hier_rules.specs.Loading.{load_error}
use Rattle.bcj_layout_rules.specs.Members.{slots, field_count, own_fields, inherited_count, field_number}
use Rattle.bcj_layout_rules.specs.Rows.{Classes, mixture_of}
use Rattle.bcj_layout_members.specs.declared.place.Place.{Place}
use Rattle.bcj_layout_members.specs.declared.row.Row.{Row}
use Rattle.bcj_layout_members.specs.Places.{heads_in, name_at}
use Rattle.bcj_layout_members.specs.Tables.{IsTable, IsRow, IsParent, AreMembers, AreLinked}
use Rattle.bcj_layout_members.proofs.Loading.{name_same}
use Rattle.bcj_layout_members.proofs.Walking.{parent_done}
use Rattle.bcj_layout_members.proofs.Numbers.{superclass_at_is}
use Rattle.bcj_layout_members.proofs.Types.{total_is, own_found, whole_fields, fields_of_parent}

module _ (cs view : Classes) (is : cs ≡ view) (rows : List Row) (places : List Place) (members : AreMembers cs rows places) (c : ClassId) (r : Row) (seen : List Row) (same : seen ≡ rows)
    (there : slice_get seen c.0 ≡ Some r) (done : r.done ≡ true) where
  -- the row that is read
  row_of : IsRow cs rows places c.0 r
  row_of = members.table.are_rows c.0 r (ap (λ rs. slice_get rs c.0) (sym same) ∙ there) done

  -- the slots of a type are as many as its row says
  pub count_of : r.total ≡ length (slots (mixture_of view) (name_of (heads_in view) c))
  count_of =
      total_is cs rows places c.0 r row_of
      ∙ (ap (λ s. length (slots (mixture_of s) (name_at s c.0))) is ∙ ap (λ name. length (slots (mixture_of view) name)) (sym (name_same view c)))

  -- and so are its fields
  pub fields_of : r.fields ≡ field_count (mixture_of view) (name_of (heads_in view) c)
  fields_of =
      let row : IsRow cs rows places c.0 r = row_of in
      row.fields ∙ (ap (λ s. field_count (mixture_of s) (name_at s c.0)) is ∙ ap (field_count (mixture_of view)) (sym (name_same view c)))

module _ (cs : Classes) (rows : List Row) (places : List Place) (linked : AreLinked cs) (table : IsTable cs rows places) (c : ClassId) (r : Row) (there : slice_get rows c.0 ≡ Some r) (done : r.done ≡ true)
    (loads : load_error (mixture_of cs) (name_at cs c.0) ≡ None) (class : ClassRecord) (record_of : slice_get cs c.0 ≡ Some class) where
  -- the superclass that the row tells
  parent_named : IsParent cs rows class.head.superclass r.parent
  parent_named = record {
    named = sym (superclass_at_is cs c.0 class record_of) ∙ (table.are_rows c.0 r there done).up;
    done = parent_done cs rows places table c r there done;
  }

  -- a type's fields are its superclass's and its own
  pub fields_sum : (fs : List FieldRecord) → fs ≡ class.fields → r.fields ≡ r.fields_before + length (filter (λ f. not f.is_static) fs)
  fields_sum fs same =
      let row : IsRow cs rows places c.0 r = table.are_rows c.0 r there done in
      row.fields
      ∙ (whole_fields cs rows linked c.0 class record_of loads r.parent parent_named
      ∙ (ap (λ n. n + length (filter (λ f. not f.is_static) class.fields)) (sym row.fields_before) ∙ ap (λ gs. r.fields_before + length (filter (λ f. not f.is_static) gs)) (sym same)))

  -- the number of a field is as the definition has it
  pub number_is : (fs : List FieldRecord) → fs ≡ class.fields → (k : ℕ) (g : FieldRecord) → slice_get fs k ≡ Some g → (f : FieldRecord) → slice_get class.fields k ≡ Some f
      → r.fields_before + option_map_or (λ k. k) (position (is_field g.name g.ty) (filter (λ f. not f.is_static) (map field_of_record fs))) 0
      ≡ field_number (mixture_of cs) (name_at cs c.0) (field_of_record f)
  number_is fs same k g eg f ef =
      let row : IsRow cs rows places c.0 r = table.are_rows c.0 r there done in
      let both : Some g ≡ Some f = sym eg ∙ (ap (λ gs. slice_get gs k) same ∙ ef) in
      let one : g ≡ f = cc in
      let place : List FieldRecord → FieldRecord → ℕ = λ fs g. option_map_or (λ k. k) (position (is_field g.name g.ty) (filter (λ f. not f.is_static) (map field_of_record fs))) 0 in
      let number : Option Shape → ℕ =
      λ o. elim o [ None ↦ 0 | Some s ↦ inherited_count (mixture_of cs) s + option_map_or (λ k. k) (position (is_field f.name f.ty) (own_fields (mixture_of cs) s)) 0 ] in
      let above : option_map_or (field_count (mixture_of cs)) class.head.superclass 0 ≡ r.fields_before =
      ap (λ o. option_map_or (field_count (mixture_of cs)) o 0) parent_named.named ∙ (fields_of_parent cs r.parent ∙ sym row.fields_before) in
      ap (λ gs. r.fields_before + place gs g) same
      ∙ (ap (λ g. r.fields_before + place class.fields g) one
      ∙ (ap (λ n. n + place class.fields f) (sym above) ∙ sym (ap number (own_found cs linked c.0 class record_of))))
