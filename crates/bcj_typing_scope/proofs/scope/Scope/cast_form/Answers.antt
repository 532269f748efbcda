use Rattle.std.proofs.Common.{true, false, refl, sym, ◌∙◌}
use Rattle.bcj_symbolic_trees.specs.Types.{given, ty_of, arg_of}
use Rattle.bcj_typing_rules.specs.function.Expressions as spec
use Rattle.bcj_typing_scope.specs.Scopes.{answers_in, context_of}
use Rattle.bcj_typing_scope.proofs.Casts.{form_same}
use Rattle.bcj_typing_scope.proofs.scope.Scope.cast_form.Goals as goal

pub returns-then-is_same : goal.returns-then-is_same
returns-then-is_same c =
    let a = answers_in c.args.self.now in
    let k = context_of c.args.self.now in
    let s = arg_of c.args.s.now in
    let t = ty_of c.args.t.now in
    form_same true (spec.fits a s t) (spec.go_together a k s (given t)) (spec.is_same a k s t) (spec.fits a s t) (spec.go_together a k s (given t)) (sym c.if-is_same.true ∙ c.is_same.ensures a k) refl refl

pub returns-then-fits : goal.returns-then-fits
returns-then-fits c =
    let a = answers_in c.args.self.now in
    let k = context_of c.args.self.now in
    let s = arg_of c.args.s.now in
    let t = ty_of c.args.t.now in
    form_same false true (spec.go_together a k s (given t)) (spec.is_same a k s t) (spec.fits a s t) (spec.go_together a k s (given t)) (sym c.if-is_same.false ∙ c.is_same.ensures a k)
    (sym c.if-fits.true ∙ c.fits.ensures) refl

pub returns-then-goes_with : goal.returns-then-goes_with
returns-then-goes_with c =
    let a = answers_in c.args.self.now in
    let k = context_of c.args.self.now in
    let s = arg_of c.args.s.now in
    let t = ty_of c.args.t.now in
    form_same false false true (spec.is_same a k s t) (spec.fits a s t) (spec.go_together a k s (given t)) (sym c.if-is_same.false ∙ c.is_same.ensures a k) (sym c.if-fits.false ∙ c.fits.ensures)
    (sym c.if-goes_with.true ∙ c.goes_with.ensures)

pub returns-else-goes_with : goal.returns-else-goes_with
returns-else-goes_with c =
    let a = answers_in c.args.self.now in
    let k = context_of c.args.self.now in
    let s = arg_of c.args.s.now in
    let t = ty_of c.args.t.now in
    form_same false false false (spec.is_same a k s t) (spec.fits a s t) (spec.go_together a k s (given t)) (sym c.if-is_same.false ∙ c.is_same.ensures a k) (sym c.if-fits.false ∙ c.fits.ensures)
    (sym c.if-goes_with.false ∙ c.goes_with.ensures)
