use Rattle.std.proofs.Common.{◌≡◌, ◌∙◌, List, None, ap, sym, subst}
use Rattle.bcj_symbolic_trees.specs.declared.class_tree.ClassHead.{ClassHead}
use Rattle.bcj_symbolic_trees.specs.Types.{PlainTy, class_type, ty_of}
use Rattle.bcj_hier_rules.specs.Heads.{of_heads, name_of}
use Rattle.bcj_hier_rules.specs.Resolution.{element_error}
use Rattle.bcj_hier_rules.specs.Linking.{instance}
use Rattle.bcj_layout_rules.specs.Rows.{Classes, mixture_of}
use Rattle.bcj_layout_resolution.specs.Places.{heads_in}
use Rattle.bcj_layout_rows.specs.Found.{IsLoading}
use Rattle.bcj_layout.specs.declared.row_id.RowId.{RowId}
use Rattle.bcj_layout.specs.LaidOut.{LaidOut}
use Rattle.bcj_layout.specs.RowTypes.{IsRow, type_of_row}
use Rattle.bcj_layout.proofs.InstanceLemmas.{instance-same, loading-by-heads}
use Rattle.bcj_layout.proofs.layout.Layout.is_of_type.Goals as goal

pub class_is_of-requires-clause-loads : goal.class_is_of-requires-clause-loads
class_is_of-requires-clause-loads c =
    let cs : Classes = c.args.self.now.classes in
    let agree : c.hier-hier.result.now ≡ heads_in cs = c.hier-hier.ensures ∙ ap (λ (l : LaidOut). heads_in l.classes) c.self.view_is in
    let P : RowId → Type 0 = λ r. IsRow cs r in
    let loading : IsLoading cs c.in-Class.c = subst P c.in-Class.is c.requires.row in
    loading-by-heads cs c.hier-hier.result.now c.in-Class.c agree loading

pub returns-in-Class : goal.returns-in-Class
returns-in-Class c =
    let cs : Classes = c.args.self.now.classes in
    let t : PlainTy = ty_of c.args.t.now in
    let agree : c.hier-hier.result.now ≡ heads_in cs = c.hier-hier.ensures ∙ ap (λ (l : LaidOut). heads_in l.classes) c.self.view_is in
    let loads : element_error (of_heads c.hier-hier.result.now) t ≡ None = ap (λ (hs : List ClassHead). element_error (of_heads hs) t) agree ∙ c.requires.loads in
    c.class_is_of.ensures loads
    ∙ (ap (λ (hs : List ClassHead). instance (of_heads hs) (class_type (name_of hs c.in-Class.c)) t) agree
    ∙ (instance-same cs (class_type (name_of (heads_in cs) c.in-Class.c)) t ∙ ap (λ (r : RowId). instance (mixture_of cs) (type_of_row cs r) t) (sym c.in-Class.is)))

pub returns-in-Array : goal.returns-in-Array
returns-in-Array c =
    let cs : Classes = c.args.self.now.classes in
    let t : PlainTy = ty_of c.args.t.now in
    let s : PlainTy = ty_of c.array.result.now in
    let agree : c.hier-hier.result.now ≡ heads_in cs = c.hier-hier.ensures ∙ ap (λ (l : LaidOut). heads_in l.classes) c.self.view_is in
    let loads : element_error (of_heads c.hier-hier.result.now) t ≡ None = ap (λ (hs : List ClassHead). element_error (of_heads hs) t) agree ∙ c.requires.loads in
    let array_loads : element_error (of_heads c.hier-hier.result.now) s ≡ None = ap (λ (hs : List ClassHead). element_error (of_heads hs) s) agree ∙ c.array.ensures.loads in
    c.is_of.ensures array_loads loads
    ∙ (ap (λ (hs : List ClassHead). instance (of_heads hs) s t) agree
    ∙ (instance-same cs s t
    ∙ (ap (λ (u : PlainTy). instance (mixture_of cs) u t) c.array.ensures.is ∙ ap (λ (r : RowId). instance (mixture_of cs) (type_of_row cs r) t) (sym c.in-Array.is))))
