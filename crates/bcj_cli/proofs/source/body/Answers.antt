use Rattle.std.proofs.Common.{subst}
use Rattle.bcj_parser_trees.specs.Plain.{unit_of}
use Rattle.bcj_cli_unit.specs.Stops.{IsLack}
use Rattle.bcj_cli_unit.specs.Lacking.{first_lacking}
use Rattle.bcj_cli.specs.Sources.{lacking}
use Rattle.bcj_cli.proofs.Sources.{stopped, not_built}
use Rattle.bcj_cli.proofs.source.body.Goals as goal

pub returns-in-Err-NotBuilt-clause-stopped : goal.returns-in-Err-NotBuilt-clause-stopped
returns-in-Err-NotBuilt-clause-stopped c =
    let lack = subst (λ e. IsLack (first_lacking c.args.main.now (unit_of c.args.unit.now)) e) c.in-Err-NotBuilt.field-0-is c.in-Err-NotBuilt.ensures.not_built in
    stopped c.args.main.now c.args.text.now _ _ _
    (not_built c.one_cutting.ensures.tokens c.one_unit.ensures c.programs_are_the_fitting_units.ensures _ _ _ _ c.requires lack)
    (lacking c.requires lack) c.refusal.ensures
