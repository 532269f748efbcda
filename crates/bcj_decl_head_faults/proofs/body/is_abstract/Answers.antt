use Rattle.std.proofs.Common.{inl, inr}
use Rattle.bcj_decl_table.specs.Views.{method_of_info}
use Rattle.bcj_decl_head_faults.proofs.Bodies.{abstract_by}
use Rattle.bcj_decl_head_faults.proofs.body.is_abstract.Goals as goal

pub returns-in-Static : goal.returns-in-Static
returns-in-Static c =
    let m = method_of_info c.args.method.now in
    elim c.in-Static.is [ inl e ↦ abstract_by m _ e | inr other ↦ elim other [ inl e ↦ abstract_by m _ e | inr e ↦ abstract_by m _ e ] ]
