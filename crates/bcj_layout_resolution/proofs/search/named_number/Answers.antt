use Rattle.std.proofs.Common.{◌≡◌, ◌<◌, ◌≤◌, ◌∙◌, sym, ap, subst, Some, Bool, refl, slice_get, get_or, length}
use Rattle.std.proofs.lemmas.Option.{slice_get_read}
use Rattle.bcj_tables_rules.specs.declared.records.MethodRecord.{MethodRecord}
use Rattle.bcj_hier_rules.specs.Shapes.{method_of_record}
use Rattle.bcj_layout_resolution.specs.Index.{Numbers, bucket_of}
use Rattle.bcj_layout_resolution.specs.Searches.{fits}
use Rattle.bcj_layout_resolution.proofs.Indexing.{method_asks, place_there, passed_more, first_in_bucket, none_in_bucket}
use Rattle.bcj_layout_resolution.proofs.search.named_number.Goals as goal
use Rattle.bcj_layout_resolution.proofs.search.named_number.Goals.{After-is_sought}

abbrev numbers : After-is_sought → Numbers
numbers c = bucket_of c.args.buckets.now c.args.name.now

abbrev passes : After-is_sought → MethodRecord → Bool
passes c = (λ (z : MethodRecord). fits c.args.sought c.args.name.now c.args.desc.now (method_of_record z))

within : (c : After-is_sought) → c.loop-number.number-index < length (numbers c)
within c =
    let P : Numbers → Type 0 = λ l. c.loop-number.number-index < length l in
    subst P c.bucket-number-items.ensures c.loop-number-test.true

there : (c : After-is_sought) → slice_get c.args.methods.now (get_or (numbers c) c.loop-number.number-index 0) ≡ Some c.index-methods-number.result
there c =
    slice_get_read c.args.methods.now (length c.args.methods.now) (get_or (numbers c) c.loop-number.number-index 0) c.index-methods-number.result refl
    (place_there (λ (z : MethodRecord). z.name) c.args.methods.now c.args.buckets.now c.args.name.now c.loop-number.number-index c.requires.indexed (within c))
    (c.index-methods-number.is ∙ ap (λ l. get_or c.args.methods.now (get_or l c.loop-number.number-index 0) c.index-methods-number.result) c.bucket-number-items.ensures)

pub returns-then-is_sought : goal.returns-then-is_sought
returns-then-is_sought c =
    let a : After-is_sought = (goal.at.returns-then-is_sought c).After-is_sought in
    ap (λ l. Some (get_or l c.loop-number.number-index 0)) c.bucket-number-items.ensures
    ∙ sym (first_in_bucket (λ (z : MethodRecord). fits c.args.sought c.args.name.now c.args.desc.now (method_of_record z)) (λ (z : MethodRecord). z.name) c.args.methods.now c.args.buckets.now c.args.name.now c.loop-number.number-index c.index-methods-number.result c.requires.indexed
    (λ z it. method_asks c.args.sought c.args.name.now c.args.desc.now z c.requires.named it) (within a) c.loop-number.invariant (there a) (sym c.is_sought.ensures ∙ c.if-is_sought.true))

pub loop-number-preserved : goal.loop-number-preserved
loop-number-preserved c =
    let a : After-is_sought = (goal.at.loop-number-preserved c).After-is_sought in
    passed_more (λ (z : MethodRecord). fits c.args.sought c.args.name.now c.args.desc.now (method_of_record z)) c.args.methods.now (numbers a) c.loop-number.number-index c.index-methods-number.result c.loop-number.invariant (there a) (sym c.is_sought.ensures ∙ c.if-is_sought.false)

pub returns : goal.returns
returns c =
    let P : Numbers → Type 0 = λ l. length l ≤ c.loop-number.number-index in
    sym (none_in_bucket (λ (z : MethodRecord). fits c.args.sought c.args.name.now c.args.desc.now (method_of_record z)) (λ (z : MethodRecord). z.name) c.args.methods.now c.args.buckets.now c.args.name.now c.loop-number.number-index c.requires.indexed (λ z it. method_asks c.args.sought c.args.name.now c.args.desc.now z c.requires.named it)
    (subst P c.bucket-number-items.ensures c.loop-number-test.false) c.loop-number.invariant)
