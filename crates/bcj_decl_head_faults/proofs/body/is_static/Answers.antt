use Rattle.std.proofs.Common.{inl, inr}
use Rattle.bcj_decl_table.specs.Views.{method_of_info}
use Rattle.bcj_decl_head_faults.proofs.Bodies.{static_by}
use Rattle.bcj_decl_head_faults.proofs.body.is_static.Goals as goal

pub returns-in-Abstract : goal.returns-in-Abstract
returns-in-Abstract c =
    let m = method_of_info c.args.method.now in
    elim c.in-Abstract.is [ inl e ↦ static_by m _ e | inr other ↦ elim other [ inl e ↦ static_by m _ e | inr e ↦ static_by m _ e ] ]
