use Rattle.std.proofs.Common.{◌≡◌, ◌<◌, ◌≤◌, ◌+◌, ◌∙◌, sym, ap, subst, refl, ℕ, List, [], Some, map, slice_get, get_or, length, arith}
use Rattle.std.proofs.lemmas.List.{length_push}
use Rattle.std.proofs.lemmas.Option.{slice_get_read, slice_get_within}
use Rattle.bcj_tables_rules.specs.declared.records.ClassRecord.{ClassRecord}
use Rattle.bcj_tables_rules.specs.declared.records.MethodRecord.{MethodRecord}
use Rattle.bcj_hier_rules.specs.Shapes.{behind_first}
use Rattle.bcj_layout_resolution.specs.Index.{Numbers, Indexes}
use Rattle.bcj_layout_resolution.specs.Searches.{IsNumbered, max_members}
use Rattle.bcj_layout_resolution.proofs.Indexing.{each_pushed, length_behind}
use Rattle.bcj_layout_resolution.proofs.index.index_all_methods.Goals as goal

pub index_methods-requires : goal.index_methods-requires
index_methods-requires c =
    let numbered : IsNumbered c.class-item.result =
    c.requires c.loop-class.class-index c.class-item.result (slice_get_read c.args.classes.now (length c.args.classes.now) c.loop-class.class-index c.class-item.result refl c.loop-class-test.true c.class-item.is)
    in
    let fewer : length (behind_first c.class-item.result.methods) ≤ length c.class-item.result.methods = length_behind c.class-item.result.methods in
    let same : length c.named_methods.result.now ≡ length (behind_first c.class-item.result.methods) = ap length (c.named_methods.ensures ∙ ap behind_first c.as_slice.ensures) in
    let few : length c.class-item.result.methods ≤ max_members = numbered.methods in
    omega arith

pub loop-class-preserved : goal.loop-class-preserved
loop-class-preserved c =
    let P : List MethodRecord → Type 0 = λ ms. Indexes (map (λ m. m.name) ms) c.in_ok-index_methods.field-0 in
    let new : Indexes (map (λ m. m.name) (behind_first c.class-item.result.methods)) c.in_ok-index_methods.field-0 =
    subst P (c.named_methods.ensures ∙ ap behind_first c.as_slice.ensures) c.in_ok-index_methods.ensures
    in
    let Q : ClassRecord → List Numbers → Type 0 = λ r bs. Indexes (map (λ m. m.name) (behind_first r.methods)) bs in
    let All : List (List Numbers) → Type 0 = λ all. (k : ℕ) (r : ClassRecord) → k < c.loop-class.class-index + 1 → slice_get c.args.classes.now k ≡ Some r → Indexes (map (λ m. m.name) (behind_first r.methods)) (get_or all k []) in
    record {
      count = ap length c.in_ok-push.ensures.ok ∙ (length_push c.loop-class.all c.in_ok-index_methods.field-0 ∙ ap (λ n. n + 1) c.loop-class.invariant.count);
      each = subst All (sym c.in_ok-push.ensures.ok)
          (each_pushed Q c.args.classes.now c.loop-class.all [] c.loop-class.class-index c.class-item.result c.in_ok-index_methods.field-0 c.loop-class.invariant.count c.loop-class.invariant.each c.loop-class-test.true
          c.class-item.is new);
    }

pub returns : goal.returns
returns c =
    record {
      count = (let e : length c.loop-class.all ≡ c.loop-class.class-index = c.loop-class.invariant.count in omega arith);
      each = λ k r e. c.loop-class.invariant.each k r (let less : k < length c.args.classes.now = slice_get_within c.args.classes.now k r e in omega arith) e;
    }
