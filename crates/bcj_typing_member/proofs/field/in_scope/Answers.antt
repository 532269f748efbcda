use Rattle.std.proofs.Common.{◌≡◌, Err, rules, subst, [], ◌∷◌, ◌++◌, Bool}
use Rattle.bcj_symbolic_trees.specs.Trees as tree
use Rattle.bcj_symbolic_trees.specs.Types.{arg_of, ty_of}
use Rattle.bcj_symbolic_trees.specs.Plain.{expr_of}
use Rattle.bcj_decl_table.specs.Views.{field_of_info}
use Rattle.bcj_typing_rules.specs.declared.kind.Kind.TheVariants as kind
use Rattle.bcj_typing_rules.specs.Premises.{earliest_missing, need}
use Rattle.bcj_typing_rules.specs.Casting.{uses}
use Rattle.bcj_typing_rules.specs.Members.{set_own}
use Rattle.bcj_typing_rules.specs.function.Expressions.{settled}
use Rattle.bcj_typing_node.specs.Outcomes.{Tells}
use Rattle.bcj_typing_node.specs.Typings.{pairs_of, typing_of}
use Rattle.bcj_typing_member.specs.Typed.{added_of}
use Rattle.bcj_typing_member.proofs.Missing.{missed, go_on}
use Rattle.bcj_typing_member.proofs.field.in_scope.Goals as goal

pub returns-in_err-value : goal.returns-in_err-value
returns-in_err-value c =
    let failed : c.from_residual.result ≡ Err c.in_err-value.field-0.0 = first_of (cc, search rules) in
    rw failed (missed _ _ c.in_err-value.field-0.0 c.in_err-value.ensures.typing)

pub returns : goal.returns
returns c =
    let P : Bool → Type 0 = λ b.
    Tells added_of (settled c.args.at (earliest_missing (need kind.Assign b ∷ []))
    (record {
      trees = tree.evaluate (set_own (field_of_info c.args.field.now) (expr_of c.in_ok-value.value.tree)) ∷ [];
      steps = pairs_of c.in_ok-value.value.steps ++ uses (arg_of c.in_ok-value.value.ty) (ty_of c.args.field.now.ty);
    })) c.initialised.result in
    go_on added_of _ _ (typing_of c.in_ok-value.value) c.initialised.result c.in_ok-value.ensures.typing (subst P c.fits-fits.ensures c.initialised.ensures)
