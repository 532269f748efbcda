use Rattle.std.proofs.Common.{◌≡◌, ◌∙◌, sym, ap, subst}
use Rattle.bcj_tables_rules.specs.declared.records.FieldRecord.{FieldRecord}
use Rattle.bcj_hier_rules.specs.Shapes.{field_of_record}
use Rattle.bcj_layout_rules.specs.Members.{field_number}
use Rattle.bcj_layout_rules.specs.Rows.{Classes, mixture_of}
use Rattle.bcj_layout_members.specs.Places.{name_at, IsFieldAt}
use Rattle.bcj_layout_members.proofs.Loading.{name_same}
use Rattle.bcj_layout_members.proofs.members.Members.field_number.Goals as goal

pub returns : goal.returns
returns c f at =
    let number : Classes → (FieldRecord → Type 0) = λ s f. c.field_number_at.result ≡ field_number (mixture_of s) (name_at s c.args.c.0) (field_of_record f) in
    let inside : IsFieldAt c.self.inside.classes.now c.args.c c.args.field f = subst (λ s. IsFieldAt s c.args.c c.args.field f) (sym c.self.view_is) at in
    subst (λ s. number s f) c.self.view_is (c.field_number_at.ensures f inside)
    ∙ ap (λ name. field_number (mixture_of c.args.self.now) name (field_of_record f)) (sym (name_same c.args.self.now c.args.c))
