use Rattle.std.proofs.Common.{◌∙◌, sym}
use Rattle.bcj_decl_table.specs.Views.{method_of_info, declared_of, world_in}
use Rattle.bcj_decl_graph.specs.Found.{found_of}
use Rattle.bcj_decl_head_faults.specs.Lacks.{closed_by}
use Rattle.bcj_decl_head_faults.proofs.Reaching.{found_decides, lacks_by}
use Rattle.bcj_decl_head_faults.proofs.ancestor.lacks.Goals as goal

pub returns : goal.returns
returns c =
    let w = world_in c.args.listing.now.types in
    let m = method_of_info c.args.method.now in
    lacks_by w c.args.steps.now (declared_of c.args.info.now) c.args.from.now c.args.place m c.has_found.result (sym c.may_lack.ensures ∙ c.if-not-may_lack.false)
    (found_decides c.args.steps.now (closed_by w m) c.args.from.now (found_of c.run.new.self) c.in_ok-run.ensures.reached c.args.place c.has_found.result c.has_found.ensures)
