use Rattle.std.proofs.Common.{Option, option_map, subst}
use Rattle.bcj_parser_trees.specs.Plain as tree
use Rattle.bcj_decl_rules.specs.Faults.{HeadFault}
use Rattle.bcj_decl_table.specs.Views.{world_in}
use Rattle.bcj_decl_head_faults.specs.declared.head.HeadRefusal.{HeadRefusal}
use Rattle.bcj_decl_head_faults.specs.Refusals as head
use Rattle.bcj_decl_faults.proofs.Turned.{no_head, least_head}
use Rattle.bcj_decl_faults.proofs.head.head_found.Goals as goal

pub returns-in-None : goal.returns-in-None
returns-in-None c = λ before s.
    let w = world_in c.args.listing.now.types in
    let t = tree.type_of c.args.decl.now in
    let P : Option HeadRefusal → Type 0 = λ o. head.IsFirstRefusal (HeadFault w before t) (option_map head.refusal_of o) in
    no_head w before t (subst P c.in-None.is (c.in_ok-head_refusal.ensures before s))

pub returns-in-Some : goal.returns-in-Some
returns-in-Some c = λ before s.
    let w = world_in c.args.listing.now.types in
    let t = tree.type_of c.args.decl.now in
    let P : Option HeadRefusal → Type 0 = λ o. head.IsFirstRefusal (HeadFault w before t) (option_map head.refusal_of o) in
    least_head w before t _ _ c.of_head.ensures (subst P c.in-Some.is (c.in_ok-head_refusal.ensures before s))
