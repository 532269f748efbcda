use Rattle.std.proofs.Common.{map}
use Rattle.std.proofs.lemmas.Result.{err_from_is_err_and}
use Rattle.bcj_parser_trees.specs.Plain.{unit_of}
use Rattle.bcj_cli_compile.proofs.Causes.{text_stop}
use Rattle.bcj_cli_compile.proofs.Units.{units_more}
use Rattle.bcj_cli_compile.proofs.reading.push_unit.Goals as goal
use Rattle.bcj_cli_compile.proofs.reading.push_unit.Goals.{in-Ok, in-Err}

pub returns-in_err-unit-clause-stopped : goal.returns-in_err-unit-clause-stopped
returns-in_err-unit-clause-stopped c =
    let p = err_from_is_err_and c.from_residual.result c.from_residual.ensures.1 in
    rw (p.1, p.2)
    (text_stop c.args.sources.now (map unit_of c.args.units.now.items) c.args.file c.in-Some.text.now _ c.requires.there c.in-Some.ensures.value c.requires.before (rw c.as_slice.ensures at c.in_err-unit.ensures.stopped))

pub returns-clause-ok : goal.returns-clause-ok
returns-clause-ok c =
    elim c.match-push.branch [
      | in-Ok w ↦ rw w.result-is
          (units_more c.args.sources.now c.args.units.now.items c.push.new.self.items c.args.file c.in-Some.text.now c.in_ok-unit.unit c.in-Some.ensures.value w.in-Ok.ensures.items c.requires.before
          (rw c.as_slice.ensures at c.in_ok-unit.ensures.ok))
      | in-Err w ↦ rw w.result-is tt
    ]
