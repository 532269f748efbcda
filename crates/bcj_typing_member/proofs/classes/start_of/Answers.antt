use Rattle.std.proofs.Common.{◌≡◌, ◌∙◌, Err, rules, ap, sym, []}
use Rattle.bcj_parser_trees.specs.Plain as source
use Rattle.bcj_typing_rules.specs.Context.{superclass_at}
use Rattle.bcj_typing_rules.specs.Members.{constructor_context}
use Rattle.bcj_typing_rules.specs.function.Members.{type_first}
use Rattle.bcj_typing_scope.specs.Surroundings.{answers_at, units_at}
use Rattle.bcj_typing_member.specs.Typed.{added_of}
use Rattle.bcj_typing_member.proofs.Missing.{missed, same_missed, found}
use Rattle.bcj_typing_member.proofs.Starts.{start_none, start_calls}
use Rattle.bcj_typing_member.proofs.classes.start_of.Goals as goal

pub returns-then-not-has_default : goal.returns-then-not-has_default
returns-then-not-has_default c =
    start_none (answers_at c.args.world.now) (units_at c.args.world.now) (source.type_of c.args.decl.now) (sym c.has_default.ensures ∙ (cc))

pub returns-in_err-first : goal.returns-in_err-first
returns-in_err-first c =
    let failed : c.from_residual.result ≡ Err c.in_err-first.field-0.0 = first_of (cc, search rules) in
    rw failed
    (same_missed _ _ c.in_err-first.field-0.0
    (start_calls (answers_at c.args.world.now) (units_at c.args.world.now) (source.type_of c.args.decl.now) (sym c.has_default.ensures ∙ (cc)))
    (missed _ _ c.in_err-first.field-0.0
    (same_missed _ _ c.in_err-first.field-0.0
    (ap (λ d. type_first (answers_at c.args.world.now) (units_at c.args.world.now) (constructor_context (units_at c.args.world.now) d.name []) c.args.decl.now.at [] (superclass_at (constructor_context (units_at c.args.world.now) d.name [])))
    c.requires)
    c.in_err-first.ensures)))

pub returns : goal.returns
returns c =
    start_calls (answers_at c.args.world.now) (units_at c.args.world.now) (source.type_of c.args.decl.now) (sym c.has_default.ensures ∙ (cc))
    ∙ found _ _ (added_of c.in_ok-first.first)
    (ap (λ d. type_first (answers_at c.args.world.now) (units_at c.args.world.now) (constructor_context (units_at c.args.world.now) d.name []) c.args.decl.now.at [] (superclass_at (constructor_context (units_at c.args.world.now) d.name [])))
    c.requires ∙ c.in_ok-first.ensures)
