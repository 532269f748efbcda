use Rattle.std.proofs.Common.{◌≡◌, ◌∙◌, None, ap, sym, subst}
use Rattle.bcj_hier_rules.specs.Heads.{name_of}
use Rattle.bcj_hier_rules.specs.Loading.{load_error}
use Rattle.bcj_layout_rules.specs.Members.{field_count}
use Rattle.bcj_layout_rules.specs.Rows.{Classes, mixture_of}
use Rattle.bcj_layout_resolution.specs.Places.{heads_in}
use Rattle.bcj_layout.proofs.ObjectLemmas.{no-fields, loads-too, some-fields}
use Rattle.bcj_layout.proofs.keeping.field_count.Goals as goal

pub field_count-requires-clause-loads : goal.field_count-requires-clause-loads
field_count-requires-clause-loads c =
    let P : Classes → Type 0 = λ cs. load_error (mixture_of cs) (name_of (heads_in cs) c.args.c) ≡ None in
    subst P (sym c.requires.same) (loads-too c.args.resolver.now c.hier.result.now c.args.c c.hier.ensures c.in-Ok.ensures)

pub returns-in-Err : goal.returns-in-Err
returns-in-Err c = no-fields c.args.resolver.now c.hier.result.now c.args.c c.in-Err.field-0 c.hier.ensures c.in-Err.ensures

pub returns-in-Ok : goal.returns-in-Ok
returns-in-Ok c =
    some-fields c.args.resolver.now c.hier.result.now c.args.c c.field_count.result c.hier.ensures c.in-Ok.ensures
    (c.field_count.ensures ∙ ap (λ (cs : Classes). field_count (mixture_of cs) (name_of (heads_in cs) c.args.c)) c.requires.same)
