use Rattle.std.proofs.Common.{◌≡◌, ap, List, Err, rules}
use Rattle.bcj_parser_trees.specs.Plain.{expr_of}
use Rattle.bcj_symbolic_trees.specs.declared.type_tree.Ty.{Ty}
use Rattle.bcj_typing_node.specs.Typings.{typing_of}
use Rattle.bcj_typing_statement.proofs.Locals.{init_missed, declared_missed, declared_told}
use Rattle.bcj_typing_statement.proofs.local.initialised.Goals as goal

pub returns-in_err-value-clause-told : goal.returns-in_err-value-clause-told
returns-in_err-value-clause-told c =
    let failed : c.from_residual-in_err-value.result ≡ Err c.in_err-value.field-0.0 = first_of (cc, search rules) in
    rw failed
    (init_missed c.args.scope.now c.enter.new.scope c.args.written.now c.args.name.now c.in_ok-ty.ty c.in_ok-number.number c.args.at c.in_ok-ty.ensures
    c.in_ok-number.ensures.number c.in_ok-number.ensures.scope (expr_of c.args.init.now) _ c.in_err-value.ensures.typing)

pub returns-in_err-made-clause-told : goal.returns-in_err-made-clause-told
returns-in_err-made-clause-told c =
    let failed : c.from_residual-in_err-made.result ≡ Err c.in_err-made.field-0.0 = first_of (cc, search rules) in
    rw failed
    (declared_missed c.args.scope.now c.enter.new.scope c.args.written.now c.args.name.now c.in_ok-ty.ty c.in_ok-number.number c.args.at c.in_ok-ty.ensures
    c.in_ok-number.ensures.number c.in_ok-number.ensures.scope (typing_of c.in_ok-value.value) (expr_of c.args.init.now) c.in_ok-value.ensures.typing c.is_known-is_known.result
    c.fits-fits.result c.is_new_local-is_new.result c.is_known-is_known.ensures c.fits-fits.ensures c.is_new_local-is_new.ensures _ c.in_err-made.ensures)

pub returns-clause-told : goal.returns-clause-told
returns-clause-told c =
    declared_told c.args.scope.now c.enter.new.scope c.args.written.now c.args.name.now c.in_ok-ty.ty c.in_ok-number.number c.args.at c.in_ok-ty.ensures
    c.in_ok-number.ensures.number c.in_ok-number.ensures.scope (typing_of c.in_ok-value.value) (expr_of c.args.init.now) c.in_ok-value.ensures.typing c.is_known-is_known.result
    c.fits-fits.result c.is_new_local-is_new.result c.is_known-is_known.ensures c.fits-fits.ensures c.is_new_local-is_new.ensures
    (record c.enter.new.scope { types = c.push.new.self }) c.in_ok-made.made c.in_ok-made.ensures (ap (λ (ts : List Ty). record c.enter.new.scope { types = ts }) c.in_ok-push.ensures.ok)
