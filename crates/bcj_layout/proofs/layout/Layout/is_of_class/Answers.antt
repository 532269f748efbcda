use Rattle.std.proofs.Common.{◌≡◌, ◌<◌, ◌∙◌, List, length, ap, sym, subst}
use Rattle.bcj_symbolic_trees.specs.declared.class_tree.ClassHead.{ClassHead}
use Rattle.bcj_symbolic_trees.specs.Types.{PlainTy, class_type}
use Rattle.bcj_hier_rules.specs.Heads.{of_heads, name_of}
use Rattle.bcj_hier_rules.specs.Linking.{instance}
use Rattle.bcj_layout_rules.specs.Rows.{Classes, mixture_of, array_types}
use Rattle.bcj_layout_resolution.specs.Places.{heads_in}
use Rattle.bcj_layout_rows.specs.Found.{IsLoading}
use Rattle.bcj_layout.specs.declared.row_id.RowId.{RowId}
use Rattle.bcj_layout.specs.LaidOut.{LaidOut}
use Rattle.bcj_layout.specs.RowTypes.{IsRow, type_of_row, array_at}
use Rattle.bcj_layout.proofs.InstanceLemmas.{instance-same, loading-by-heads, array-row, array-of-class}
use Rattle.bcj_layout.proofs.layout.Layout.is_of_class.Goals as goal

pub class_is_instance-requires-clause-loads : goal.class_is_instance-requires-clause-loads
class_is_instance-requires-clause-loads c =
    let cs : Classes = c.args.self.now.classes in
    let agree : c.hier.result.now ≡ heads_in cs = c.hier.ensures ∙ ap (λ (l : LaidOut). heads_in l.classes) c.self.view_is in
    let P : RowId → Type 0 = λ r. IsRow cs r in
    let loading : IsLoading cs c.in-Class.d = subst P c.in-Class.is c.requires.row in
    loading-by-heads cs c.hier.result.now c.in-Class.d agree loading

pub class_is_instance-requires-clause-other_loads : goal.class_is_instance-requires-clause-other_loads
class_is_instance-requires-clause-other_loads c =
    let cs : Classes = c.args.self.now.classes in
    let agree : c.hier.result.now ≡ heads_in cs = c.hier.ensures ∙ ap (λ (l : LaidOut). heads_in l.classes) c.self.view_is in
    loading-by-heads cs c.hier.result.now c.args.c agree c.requires.loads

pub returns-in-Class : goal.returns-in-Class
returns-in-Class c =
    let cs : Classes = c.args.self.now.classes in
    let t : PlainTy = class_type (name_of (heads_in cs) c.args.c) in
    let agree : c.hier.result.now ≡ heads_in cs = c.hier.ensures ∙ ap (λ (l : LaidOut). heads_in l.classes) c.self.view_is in
    c.class_is_instance.ensures
    ∙ (ap (λ (hs : List ClassHead). instance (of_heads hs) (class_type (name_of hs c.in-Class.d)) (class_type (name_of hs c.args.c))) agree
    ∙ (instance-same cs (class_type (name_of (heads_in cs) c.in-Class.d)) t ∙ ap (λ (r : RowId). instance (mixture_of cs) (type_of_row cs r) t) (sym c.in-Class.is)))

pub returns-in-Array : goal.returns-in-Array
returns-in-Array c =
    let cs : Classes = c.args.self.now.classes in
    let t : PlainTy = class_type (name_of (heads_in cs) c.args.c) in
    let P : RowId → Type 0 = λ r. IsRow cs r in
    let within : c.in-Array.field-0 < length (array_types cs) = subst P c.in-Array.is c.requires.row in
    c.is_top.ensures
    ∙ (array-of-class cs (array_at cs c.in-Array.field-0) (name_of (heads_in cs) c.args.c) (array-row cs c.in-Array.field-0 within).is_array
    ∙ ap (λ (r : RowId). instance (mixture_of cs) (type_of_row cs r) t) (sym c.in-Array.is))
