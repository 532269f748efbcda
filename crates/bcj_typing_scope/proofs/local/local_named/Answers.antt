use Rattle.std.proofs.Common.{sym, ap, ◌∙◌, cond, Some, Bool, Option}
use Rattle.std.specs.Option.{option_map, option_copied}
use Rattle.bcj_typing_node.specs.Forms.{local_of}
use Rattle.bcj_typing_rules.specs.Context.{Local}
use Rattle.bcj_typing_scope.proofs.Locals.{nearer}
use Rattle.bcj_typing_scope.proofs.local.local_named.Goals.{then-same, else-same}
use Rattle.bcj_typing_scope.proofs.local.local_named.Goals as goal

pub loop-variable-preserved : goal.loop-variable-preserved
loop-variable-preserved c =
    let v = c.variable-item.result in
    let name = c.args.name.now in
    let before : Option Local = option_map local_of (option_copied c.loop-variable.found) in
    let more = nearer c.args.locals.now c.loop-variable.variable-index v name before c.loop-variable-test.true c.variable-item.is c.loop-variable.invariant in
    elim c.if-same.branch [
      | then-same w ↦
          ap (λ o. option_map local_of (option_copied o)) w.found-is ∙ (ap (λ (b : Bool). cond b (Some (local_of v)) before) (sym (sym c.same.ensures.test ∙ w.if-same.true)) ∙ more)
      | else-same w ↦
          ap (λ o. option_map local_of (option_copied o)) w.found-is ∙ (ap (λ (b : Bool). cond b (Some (local_of v)) before) (sym (sym c.same.ensures.test ∙ w.if-same.false)) ∙ more)
    ]
