use Rattle.std.proofs.Common.{◌≡◌, ◌<◌, ◌≤◌, ◌∙◌, sym, ap, subst, Some, Bool, refl, slice_get, get_or, length}
use Rattle.std.proofs.lemmas.Option.{slice_get_read}
use Rattle.bcj_tables_rules.specs.declared.records.FieldRecord.{FieldRecord}
use Rattle.bcj_hier_rules.specs.Shapes.{is_field, field_of_record}
use Rattle.bcj_layout_resolution.specs.Index.{Numbers, bucket_of}
use Rattle.bcj_layout_resolution.proofs.Indexing.{field_asks, place_there, passed_more, first_in_bucket, none_in_bucket}
use Rattle.bcj_layout_resolution.proofs.search.field_number.Goals as goal
use Rattle.bcj_layout_resolution.proofs.search.field_number.Goals.{After-is_called}

abbrev numbers : After-is_called → Numbers
numbers c = bucket_of c.args.buckets.now c.args.name.now

abbrev passes : After-is_called → FieldRecord → Bool
passes c = (λ (z : FieldRecord). is_field c.args.name.now c.args.desc.now (field_of_record z))

within : (c : After-is_called) → c.loop-number.number-index < length (numbers c)
within c =
    let P : Numbers → Type 0 = λ l. c.loop-number.number-index < length l in
    subst P c.bucket-number-items.ensures c.loop-number-test.true

there : (c : After-is_called) → slice_get c.args.fields.now (get_or (numbers c) c.loop-number.number-index 0) ≡ Some c.index-fields-number.result
there c =
    slice_get_read c.args.fields.now (length c.args.fields.now) (get_or (numbers c) c.loop-number.number-index 0) c.index-fields-number.result refl
    (place_there (λ (z : FieldRecord). z.name) c.args.fields.now c.args.buckets.now c.args.name.now c.loop-number.number-index c.requires (within c))
    (c.index-fields-number.is ∙ ap (λ l. get_or c.args.fields.now (get_or l c.loop-number.number-index 0) c.index-fields-number.result) c.bucket-number-items.ensures)

pub returns-then-is_called : goal.returns-then-is_called
returns-then-is_called c =
    let a : After-is_called = (goal.at.returns-then-is_called c).After-is_called in
    ap (λ l. Some (get_or l c.loop-number.number-index 0)) c.bucket-number-items.ensures
    ∙ sym (first_in_bucket (λ (z : FieldRecord). is_field c.args.name.now c.args.desc.now (field_of_record z)) (λ (z : FieldRecord). z.name) c.args.fields.now c.args.buckets.now c.args.name.now c.loop-number.number-index c.index-fields-number.result c.requires
    (λ z it. field_asks c.args.name.now c.args.desc.now z it) (within a) c.loop-number.invariant (there a) (sym c.is_called.ensures ∙ c.if-is_called.true))

pub loop-number-preserved : goal.loop-number-preserved
loop-number-preserved c =
    let a : After-is_called = (goal.at.loop-number-preserved c).After-is_called in
    passed_more (λ (z : FieldRecord). is_field c.args.name.now c.args.desc.now (field_of_record z)) c.args.fields.now (numbers a) c.loop-number.number-index c.index-fields-number.result c.loop-number.invariant (there a) (sym c.is_called.ensures ∙ c.if-is_called.false)

pub returns : goal.returns
returns c =
    let P : Numbers → Type 0 = λ l. length l ≤ c.loop-number.number-index in
    sym (none_in_bucket (λ (z : FieldRecord). is_field c.args.name.now c.args.desc.now (field_of_record z)) (λ (z : FieldRecord). z.name) c.args.fields.now c.args.buckets.now c.args.name.now c.loop-number.number-index c.requires (λ z it. field_asks c.args.name.now c.args.desc.now z it)
    (subst P c.bucket-number-items.ensures c.loop-number-test.false) c.loop-number.invariant)
