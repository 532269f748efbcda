use Rattle.std.proofs.Common.{false}
use Rattle.bcj_decl_table.specs.Views.{declared_of, world_in}
use Rattle.bcj_decl_graph.specs.Found.{found_of}
use Rattle.bcj_decl_head_faults.proofs.Some.{if_true, if_false}
use Rattle.bcj_decl_head_faults.proofs.Reaching.{found_decides, some_above, above_some}
use Rattle.bcj_decl_head_faults.proofs.head.refusal_above.Goals as goal

pub returns-then-has_found : goal.returns-then-has_found
returns-then-has_found c =
    if_true c.has_found.result c.if-has_found.true
    (found_decides c.args.steps.now (λ j. false) c.args.from.now (found_of c.find_above.new.above) c.in_ok-find_above.ensures c.args.place c.has_found.result c.has_found.ensures)

pub returns-then-branch : goal.returns-then-branch
returns-then-branch c =
    let w = world_in c.args.listing.now.types in
    let t = declared_of c.args.info.now in
    let found = found_of c.find_above.new.above in (
      if_false c.has_found.result c.if-has_found.false
          (found_decides c.args.steps.now (λ j. false) c.args.from.now found c.in_ok-find_above.ensures c.args.place c.has_found.result c.has_found.ensures),
      c.if-info.false,
      c.if-info-2.false,
      some_above w c.args.steps.now t c.args.from.now found c.places-places.result.now c.in_ok-find_above.ensures c.places-places.ensures.places
          (if_true c.in_ok-lacks_any.field-0 c.if-branch.true c.in_ok-lacks_any.ensures),
    )

pub returns-else-branch : goal.returns-else-branch
returns-else-branch c =
    let w = world_in c.args.listing.now.types in
    let t = declared_of c.args.info.now in
    let found = found_of c.find_above.new.above in (
      if_false c.has_found.result c.if-has_found.false
          (found_decides c.args.steps.now (λ j. false) c.args.from.now found c.in_ok-find_above.ensures c.args.place c.has_found.result c.has_found.ensures),
      λ class concrete l.
          if_false c.in_ok-lacks_any.field-0 c.if-branch.false c.in_ok-lacks_any.ensures
          (above_some w c.args.steps.now t c.args.from.now found c.places-places.result.now c.in_ok-find_above.ensures c.places-places.ensures.places l),
    )
