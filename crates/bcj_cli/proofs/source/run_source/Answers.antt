use Rattle.std.proofs.Common.{◌∙◌, arith}
use Rattle.bcj_cli_language.specs.Plain.{acts_of}
use Rattle.bcj_cli_language.specs.Meaning.{meaning}
use Rattle.bcj_cli.proofs.Sources.{ran_is_run}
use Rattle.bcj_cli.proofs.source.run_source.Goals as goal

pub returns-in-Ok-clause-ok : goal.returns-in-Ok-clause-ok
returns-in-Ok-clause-ok c =
    ran_is_run c.one_cutting.ensures.tokens c.one_unit.ensures c.programs_are_the_fitting_units.ensures c.args.main.now c.args.text.now _ _ c.args.turns _ _ c.in_ok-unit.ensures.ok c.in_ok-body.ensures.ok
    (rw c.as_slice.ensures at c.in_ok-words.ensures.short) _ c.is_done.ensures
    (c.in-Ok.ensures.meant _ c.in_ok-body.ensures.bounded (rw c.as_slice.ensures at c.in_ok-words.ensures.short) (omega (arith, c.requires.turns)) (c.as_slice-2.ensures.value ∙ (rw c.as_slice.ensures at c.in_ok-words.ensures.ok)))
