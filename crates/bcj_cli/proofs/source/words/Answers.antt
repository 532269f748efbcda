use Rattle.std.proofs.Common.{ap, Err}
use Rattle.bcj_cli.specs.Sources.{too_long}
use Rattle.bcj_cli.proofs.Sources.{stopped}
use Rattle.bcj_cli.proofs.Sources as sources
use Rattle.bcj_cli.proofs.source.words.Goals as goal

pub returns-in-Err-TooLong-clause-stopped : goal.returns-in-Err-TooLong-clause-stopped
returns-in-Err-TooLong-clause-stopped c =
    let long = c.in-Err-TooLong.ensures.too_long (ap (λ e. Err e) c.in-Err-TooLong.field-0-is) in
    stopped c.args.main.now c.args.text.now _ _ _
    (sources.too_long c.one_cutting.ensures.tokens c.one_unit.ensures c.programs_are_the_fitting_units.ensures _ _ _ _ c.requires.parsed c.requires.meant long)
    (too_long c.requires.parsed c.requires.meant long) c.refusal.ensures
