use Rattle.std.proofs.Common.{subst}
use Rattle.std.proofs.lemmas.Result.{err_from_is_err_and}
use Rattle.bcj_layout_rules.specs.Rows.{Classes}
use Rattle.bcj_linker_objects.specs.Read.{linked_from}
use Rattle.bcj_linker_objects.specs.Steps.{AddsNames, IsNameStop}
use Rattle.bcj_linker_objects.proofs.Placed.{few_classes}
use Rattle.bcj_linker_objects.proofs.Taken.{gathers-more}
use Rattle.bcj_linker_objects.proofs.Refused.{stops_reading, stops_naming}
use Rattle.bcj_linker_objects.proofs.gathering.Gathering.add.Goals as goal

pub returns-in_err-read-clause-err : goal.returns-in_err-read-clause-err
returns-in_err-read-clause-err c =
    let p = err_from_is_err_and c.from_residual.result c.from_residual.ensures.1 in
    rw (p.1, p.2) (λ all others n gathers. stops_reading all c.args.bytes.now others c.args.self gathers c.args.number c.in_err-read.field-0.0 n c.in_err-read.ensures.err)

pub returns-in_err-note_classes-clause-err : goal.returns-in_err-note_classes-clause-err
returns-in_err-note_classes-clause-err c =
    let p = err_from_is_err_and c.from_residual-in_err-note_classes.result c.from_residual-in_err-note_classes.ensures.1 in
    let stop = subst (λ (cs : Classes). IsNameStop c.args.self cs c.args.number c.in_err-note_classes.field-0.0) c.as_slice.ensures c.in_err-note_classes.ensures.err in
    rw (p.1, p.2)
    (λ all others n gathers.
    stops_naming all c.args.bytes.now others c.args.self gathers c.args.number (linked_from c.in_ok-read.read) c.in_err-note_classes.field-0.0 n c.in_ok-read.ensures.linked stop)

pub put-requires : goal.put-requires
put-requires c = record { few = few_classes c.args.bytes.now (linked_from c.in_ok-read.read) c.in_ok-read.ensures.linked }

pub returns-clause-ok : goal.returns-clause-ok
returns-clause-ok c =
    let adds = subst (λ (cs : Classes). AddsNames c.args.self c.note_classes.new.self cs c.args.number) c.as_slice.ensures c.in_ok-note_classes.ensures.ok in
    λ all n gathers.
    gathers-more all c.args.self gathers c.note_classes.new.self c.in_ok-put.field-0 c.args.bytes.now c.in_ok-read.read c.args.number n c.in_ok-read.ensures.linked adds c.in_ok-put.ensures
