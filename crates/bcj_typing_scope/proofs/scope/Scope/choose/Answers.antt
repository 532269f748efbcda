use Rattle.std.proofs.Common.{ap, ◌∙◌}
use Rattle.bcj_symbolic_trees.specs.Types.{args_of}
use Rattle.bcj_typing_scope.specs.Scopes.{answers_in}
use Rattle.bcj_typing_scope.proofs.Types.{types_plain}
use Rattle.bcj_typing_scope.proofs.scope.Scope.choose.Goals as goal

pub returns : goal.returns
returns c =
    let scope = c.args.self.now in
    c.choose.ensures
    ∙ ap (λ types. (answers_in scope).choose scope.world.now.decl.name c.args.class.now c.args.name.now types) (ap args_of c.in_ok-types.ensures ∙ types_plain c.args.args.now)
