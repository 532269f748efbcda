use Rattle.std.proofs.Common.{◌∙◌, sym, refl, true, false}
use Rattle.bcj_decl_rules.specs.Faults.{has_same_result, is_static}
use Rattle.bcj_decl_table.specs.Views.{method_of_info}
use Rattle.bcj_decl_head_faults.proofs.Bodies.{can_implement_by}
use Rattle.bcj_decl_head_faults.proofs.body.can_implement.Goals as goal

pub returns-then-not-same_signature : goal.returns-then-not-same_signature
returns-then-not-same_signature c =
    let m = method_of_info c.args.method.now in
    let n = method_of_info c.args.other.now in
    can_implement_by m n false (has_same_result m n) (is_static n) (sym c.same_signature.ensures ∙ c.if-not-same_signature.true) refl refl

pub returns-then-not-same : goal.returns-then-not-same
returns-then-not-same c =
    let m = method_of_info c.args.method.now in
    let n = method_of_info c.args.other.now in
    can_implement_by m n true false (is_static n) (sym c.same_signature.ensures ∙ c.if-not-same_signature.false) (sym c.same.ensures.test ∙ c.if-not-same.true) refl

pub returns-then-is_static : goal.returns-then-is_static
returns-then-is_static c =
    let m = method_of_info c.args.method.now in
    let n = method_of_info c.args.other.now in
    can_implement_by m n true true true (sym c.same_signature.ensures ∙ c.if-not-same_signature.false) (sym c.same.ensures.test ∙ c.if-not-same.false) (sym c.is_static.ensures ∙ c.if-is_static.true)

pub returns : goal.returns
returns c =
    let m = method_of_info c.args.method.now in
    let n = method_of_info c.args.other.now in
    can_implement_by m n true true false (sym c.same_signature.ensures ∙ c.if-not-same_signature.false) (sym c.same.ensures.test ∙ c.if-not-same.false) (sym c.is_static.ensures ∙ c.if-is_static.false)
