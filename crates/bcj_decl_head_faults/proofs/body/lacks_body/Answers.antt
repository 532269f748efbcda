use Rattle.std.proofs.Common.{◌∙◌, sym, refl, true, false, None, Some}
use Rattle.bcj_decl_rules.specs.Faults.{is_abstract, implementation}
use Rattle.bcj_decl_table.specs.Views.{method_of_info, declared_of, world_in}
use Rattle.bcj_decl_head_faults.proofs.Bodies.{lacks_body_by, not_twice}
use Rattle.bcj_decl_head_faults.proofs.body.lacks_body.Goals as goal

pub returns-then-declares : goal.returns-then-declares
returns-then-declares c =
    let w = world_in c.args.listing.now.types in
    let t = declared_of c.args.info.now in
    let m = method_of_info c.args.method.now in
    lacks_body_by w t m true true (implementation w t m) (sym c.is_abstract.ensures ∙ c.if-not-is_abstract.false) (sym c.declares.ensures ∙ c.if-declares.true) refl

pub returns-in-None : goal.returns-in-None
returns-in-None c =
    let w = world_in c.args.listing.now.types in
    let t = declared_of c.args.info.now in
    let m = method_of_info c.args.method.now in
    lacks_body_by w t m true false None (sym c.is_abstract.ensures ∙ c.if-not-is_abstract.false) (sym c.declares.ensures ∙ c.if-declares.false) (sym c.in-None.ensures)

pub returns-in-Some : goal.returns-in-Some
returns-in-Some c =
    let w = world_in c.args.listing.now.types in
    let t = declared_of c.args.info.now in
    let m = method_of_info c.args.method.now in
    let n = method_of_info c.in-Some.found.now in
    c.is_abstract-in-Some.ensures
    ∙ (not_twice (is_abstract n)
    ∙ lacks_body_by w t m true false (Some n) (sym c.is_abstract.ensures ∙ c.if-not-is_abstract.false) (sym c.declares.ensures ∙ c.if-declares.false) (sym c.in-Some.ensures))
