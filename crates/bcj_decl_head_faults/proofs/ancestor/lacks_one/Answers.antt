use Rattle.bcj_decl_table.specs.declared.info.MethodInfo.{MethodInfo}
use Rattle.bcj_decl_table.specs.Views.{method_of_info, declared_of, world_in}
use Rattle.bcj_decl_head_faults.specs.Lacks.{Lacks}
use Rattle.bcj_decl_head_faults.proofs.Some.{some_here, some_next, if_true, if_false}
use Rattle.bcj_decl_head_faults.proofs.ancestor.lacks_one.Goals as goal

pub returns-then-branch : goal.returns-then-branch
returns-then-branch c =
    let P : MethodInfo → Type 0 = λ m. Lacks (world_in c.args.listing.now.types) c.args.steps.now (declared_of c.args.info.now) c.args.from.now c.args.place (method_of_info m) in
    some_here P c.args.methods.now c.loop-method.method-index c.method-item.result c.loop-method-test.true c.method-item.is (if_true c.in_ok-lacks.field-0 c.if-branch.true c.in_ok-lacks.ensures)

pub loop-method-preserved : goal.loop-method-preserved
loop-method-preserved c =
    let P : MethodInfo → Type 0 = λ m. Lacks (world_in c.args.listing.now.types) c.args.steps.now (declared_of c.args.info.now) c.args.from.now c.args.place (method_of_info m) in
    some_next P c.args.methods.now c.loop-method.method-index c.method-item.result c.loop-method-test.true c.method-item.is (if_false c.in_ok-lacks.field-0 c.if-branch.false c.in_ok-lacks.ensures)
    c.loop-method.invariant
