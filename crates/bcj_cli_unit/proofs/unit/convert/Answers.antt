use Rattle.std.proofs.Common.{◌≡◌, sym, ap, ◌∙◌, subst, Err, None, map}
use Rattle.bcj_cli_language.specs.Plain.{acts_of}
use Rattle.bcj_parser_trees.specs.Plain.{type_of, unit_of}
use Rattle.bcj_cli_unit.specs.function.Outcomes.{Builds}
use Rattle.bcj_cli_unit.specs.Lacking.{first_lacking}
use Rattle.bcj_cli_unit.specs.function.Built.{program_built}
use Rattle.bcj_cli_unit.proofs.Whole.{built_is_program, never_unbuilt, bounded}
use Rattle.bcj_cli_unit.proofs.unit.convert.Goals as goal

pub returns-in-Ok-clause-ok : goal.returns-in-Ok-clause-ok
returns-in-Ok-clause-ok c = built_is_program _ _ _ (ap (λ l. first_lacking c.args.main.now (map type_of l)) (sym c.as_slice.ensures) ∙ c.in_ok-walk.ensures) c.in-Ok.ensures

pub returns-in-Ok-clause-bounded : goal.returns-in-Ok-clause-bounded
returns-in-Ok-clause-bounded c =
    bounded c.args.main.now (unit_of c.args.unit.now) _
    (built_is_program _ _ _ (ap (λ l. first_lacking c.args.main.now (map type_of l)) (sym c.as_slice.ensures) ∙ c.in_ok-walk.ensures) c.in-Ok.ensures)

pub returns-in-Err-NoForm-clause-not_built : goal.returns-in-Err-NoForm-clause-not_built
returns-in-Err-NoForm-clause-not_built c =
    let missed : program_built (unit_of c.args.unit.now) ≡ None = subst (λ m. Builds acts_of (program_built (unit_of c.args.unit.now)) (Err m)) c.in-Err-NoForm.field-0-is c.in-Err-NoForm.ensures in
    absurd (never_unbuilt c.args.main.now (unit_of c.args.unit.now) (ap (λ l. first_lacking c.args.main.now (map type_of l)) (sym c.as_slice.ensures) ∙ c.in_ok-walk.ensures) missed)
