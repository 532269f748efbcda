use Rattle.std.proofs.Common.{◌≡◌, ◌<◌, ◌+◌, ◌∙◌, sym, ap, subst, ℕ, List, [], Some, map, slice_get, get_or, length, arith}
use Rattle.std.proofs.lemmas.List.{length_push}
use Rattle.std.proofs.lemmas.Option.{slice_get_within}
use Rattle.bcj_tables_rules.specs.declared.records.ClassRecord.{ClassRecord}
use Rattle.bcj_tables_rules.specs.declared.records.FieldRecord.{FieldRecord}
use Rattle.bcj_layout_resolution.specs.Index.{Numbers, Indexes}
use Rattle.bcj_layout_resolution.proofs.Indexing.{each_pushed}
use Rattle.bcj_layout_resolution.proofs.index.index_all_fields.Goals as goal

pub loop-class-preserved : goal.loop-class-preserved
loop-class-preserved c =
    let P : List FieldRecord → Type 0 = λ fs. Indexes (map (λ f. f.name) fs) c.in_ok-index_fields.field-0 in
    let new : Indexes (map (λ f. f.name) c.class-item.result.fields) c.in_ok-index_fields.field-0 = subst P c.as_slice.ensures c.in_ok-index_fields.ensures in
    let Q : ClassRecord → List Numbers → Type 0 = λ r bs. Indexes (map (λ f. f.name) r.fields) bs in
    let All : List (List Numbers) → Type 0 = λ all. (k : ℕ) (r : ClassRecord) → k < c.loop-class.class-index + 1 → slice_get c.args.classes.now k ≡ Some r → Indexes (map (λ f. f.name) r.fields) (get_or all k []) in
    record {
      count = ap length c.in_ok-push.ensures.ok ∙ (length_push c.loop-class.all c.in_ok-index_fields.field-0 ∙ ap (λ n. n + 1) c.loop-class.invariant.count);
      each = subst All (sym c.in_ok-push.ensures.ok)
          (each_pushed Q c.args.classes.now c.loop-class.all [] c.loop-class.class-index c.class-item.result c.in_ok-index_fields.field-0 c.loop-class.invariant.count c.loop-class.invariant.each c.loop-class-test.true
          c.class-item.is new);
    }

pub returns : goal.returns
returns c =
    record {
      count = (let e : length c.loop-class.all ≡ c.loop-class.class-index = c.loop-class.invariant.count in omega arith);
      each = λ k r e. c.loop-class.invariant.each k r (let less : k < length c.args.classes.now = slice_get_within c.args.classes.now k r e in omega arith) e;
    }
