use Rattle.std.proofs.Common.{◌≡◌, ◌+◌, sym, ◌∙◌, ap, map, drop, Some}
use Rattle.std.specs.List.{fold, slice_get}
use Rattle.bcj_tables_rules.specs.declared.records.MethodRecord.{MethodRecord}
use Rattle.bcj_hier_rules.specs.Shapes.{method_of_record}
use Rattle.bcj_layout_rules.specs.Members.{with_method}
use Rattle.bcj_layout_members.specs.Places.{name_at, IsMethodAt}
use Rattle.bcj_layout_members.specs.Tables.{current}
use Rattle.bcj_layout_members.proofs.Elements.{some_at, fold_at}
use Rattle.bcj_layout_members.proofs.Growing.{method_is_at, place_of_method}
use Rattle.bcj_layout_members.proofs.building.add_own.Goals as goal

pub add_method-requires-clause-there : goal.add_method-requires-clause-there
add_method-requires-clause-there c =
    let m : (m : MethodRecord) × (slice_get c.args.methods.now c.loop-k.k ≡ Some m) = some_at c.args.methods.now c.loop-k.k c.loop-k-test.true in
    place_of_method c.args.classes.now _ m.0 (method_is_at c.args.classes.now c.args.c c.args.methods.now c.requires.there c.loop-k.k c.in_ok-number.field-0 m.0 c.in_ok-number.ensures m.1)

pub loop-k-preserved : goal.loop-k-preserved
loop-k-preserved c =
    let m : (m : MethodRecord) × (slice_get c.args.methods.now c.loop-k.k ≡ Some m) = some_at c.args.methods.now c.loop-k.k c.loop-k-test.true in
    let at : IsMethodAt c.args.classes.now (record { class = c.args.c; method = c.in_ok-number.field-0 }) m.0 =
    method_is_at c.args.classes.now c.args.c c.args.methods.now c.requires.there c.loop-k.k c.in_ok-number.field-0 m.0 c.in_ok-number.ensures m.1 in
    let put = with_method (name_at c.args.classes.now c.args.c.0) in
    let goes_on = c.in_ok-add_method.ensures m.0 at in
    record {
      going = goes_on.going;
      so_far =
          ap (λ xs. fold put xs (map method_of_record (drop (c.loop-k.k + 1) c.args.methods.now))) goes_on.slots_are
          ∙ (sym (fold_at put method_of_record (current c.args.classes.now c.args.parent c.args.start c.loop-k.places.items) c.args.methods.now c.loop-k.k m.0 m.1) ∙ c.loop-k.invariant.so_far);
    }
