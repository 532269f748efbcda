use Rattle.std.proofs.Common.{◌≡◌, ◌∙◌, sym, ap, subst, length, get_or, slice_get, Some}
use Rattle.std.proofs.lemmas.List.{length-map}
use Rattle.std.proofs.lemmas.Option.{slice_get_read}
use Rattle.std.proofs.lemmas.Result.{IfOk-weaker}
use Rattle.bcj_tables_rules.specs.declared.records.ClassRecord.{ClassRecord}
use Rattle.bcj_layout_resolution.specs.Places.{heads_in}
use Rattle.bcj_layout_entries.specs.Entries.{AreEntries}
use Rattle.bcj_layout_entries.proofs.tables.class_entries.Goals as goal
use Rattle.bcj_layout_entries.proofs.tables.class_entries.Goals.{After-index-classes-class}

-- the record that is read
there : (c : After-index-classes-class) → slice_get c.args.parts.now.resolver.now c.args.class.0 ≡ Some c.index-classes-class.result
there c =
    let cs = c.args.parts.now.resolver.now in
    slice_get_read cs (length (heads_in cs)) c.args.class.0 c.index-classes-class.result (length-map cs (λ x. x.head)) c.requires.there
    (c.index-classes-class.is ∙ ap (λ xs. get_or xs c.args.class.0 c.index-classes-class.result) (c.as_slice-classes.ensures ∙ c.records.ensures))

pub put_record-requires-clause-there : goal.put_record-requires-clause-there
put_record-requires-clause-there c = there (goal.at.put_record-requires-clause-there c).After-index-classes-class

pub returns : goal.returns
returns c =
    let cs = c.args.parts.now.resolver.now in
    let main = c.args.parts.now.main.now in
    IfOk-weaker c.put_record.result _ _
    (λ es h. λ r e.
    let both : Some c.index-classes-class.result ≡ Some r = sym (there (goal.at.returns c).After-index-classes-class) ∙ e in
    let same : c.index-classes-class.result ≡ r = cc in
    let P : ClassRecord → Type 0 = λ d. AreEntries cs main d es in
    subst P same h) c.put_record.ensures
