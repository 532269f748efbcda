use Rattle.std.proofs.Common.{◌≡◌, List, Some, slice_get, sym, ◌∙◌, ap, subst}
use Rattle.bcj_tables_rules.specs.declared.records.ClassRecord.{ClassRecord}
use Rattle.bcj_layout_resolution.specs.Index.{IndexesFields, IndexesMethods}
use Rattle.bcj_layout_resolution.specs.Searches.{AreNumbered}
use Rattle.bcj_layout_resolution.proofs.resolver.Resolver.new.Goals as goal

pub index_all_fields-requires : goal.index_all_fields-requires
index_all_fields-requires c =
    let P : List ClassRecord → Type 0 = λ cs. AreNumbered cs in
    subst P (c.as_slice.ensures ∙ sym c.as_slice-2.ensures) (c.are_numbered.ensures c.if-not-are_numbered.false)

pub index_all_methods-requires : goal.index_all_methods-requires
index_all_methods-requires c =
    let P : List ClassRecord → Type 0 = λ cs. AreNumbered cs in
    subst P (c.as_slice.ensures ∙ sym c.as_slice-3.ensures) (c.are_numbered.ensures c.if-not-are_numbered.false)

pub invariant_of-result : goal.invariant_of-result
invariant_of-result c =
    let P : List ClassRecord → Type 0 = λ cs. AreNumbered cs in
    let Fields : List ClassRecord → Type 0 = λ cs. IndexesFields cs c.in_ok-fields.fields in
    let Methods : List ClassRecord → Type 0 = λ cs. IndexesMethods cs c.in_ok-methods.methods in
    record {
      heads_are = c.requires.agree;
      distinct = c.len.ensures.distinct;
      numbered = subst P c.as_slice.ensures (c.are_numbered.ensures c.if-not-are_numbered.false);
      fields = subst Fields c.as_slice-2.ensures c.in_ok-fields.ensures;
      methods = subst Methods c.as_slice-3.ensures c.in_ok-methods.ensures;
    }
