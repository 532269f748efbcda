use Rattle.std.proofs.Common.{◌≡◌, ◌∙◌, ap, subst, length, get_or, slice_get, Some}
use Rattle.std.proofs.lemmas.List.{length-map}
use Rattle.std.proofs.lemmas.Option.{slice_get_read}
use Rattle.bcj_tables_rules.specs.declared.records.ClassRecord.{ClassRecord}
use Rattle.bcj_layout_rules.specs.Rows.{Classes}
use Rattle.bcj_layout_resolution.specs.Places.{heads_in}
use Rattle.bcj_layout_resolution.specs.Searches.{AreNumbered}
use Rattle.bcj_layout_resolution.proofs.Records.{is_record}
use Rattle.bcj_layout_resolution.proofs.resolver.Resolver.record.Goals as goal

pub returns : goal.returns
returns c =
    let same : c.as_slice.result.now ≡ c.args.self.now = c.as_slice.ensures ∙ c.self.view_is in
    let r : ClassRecord = c.index-as_slice-class.result in
    let P : Classes → Type 0 = λ cs. AreNumbered cs in
    let there : slice_get c.args.self.now c.args.class.0 ≡ Some r =
    slice_get_read c.args.self.now (length (heads_in c.args.self.now)) c.args.class.0 r (length-map c.args.self.now (λ x. x.head)) c.requires.there
    (c.index-as_slice-class.is ∙ ap (λ xs. get_or xs c.args.class.0 r) same) in
    is_record c.self.inside.hier c.args.self.now c.args.class r (c.self.invariant.heads_are ∙ ap heads_in c.self.view_is) c.self.invariant.distinct (subst P c.self.view_is c.self.invariant.numbered) there
