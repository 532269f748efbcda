use Rattle.std.proofs.Common.{◌≡◌, ◌∙◌, Some, slice_get, ap, sym}
use Rattle.std.specs.Option.{option_copied}
use Rattle.bcj_linker_rows.proofs.HierLemmas.{interface_by_record}
use Rattle.bcj_linker_rows.proofs.counting.is_interface.Goals as goal

pub returns-in-Some : goal.returns-in-Some
returns-in-Some c =
    let there : slice_get c.args.resolver.now c.args.class.0 ≡ Some c.in-Some.record.now =
    sym (ap (λ cs. slice_get cs c.args.class.0) c.records.ensures) ∙ (sym c.get.ensures.value ∙ ap option_copied c.in-Some.is) in
    interface_by_record c.hier.result.now c.args.resolver.now c.args.class c.in-Some.record.now c.hier.ensures c.len-facts.ensures.distinct there
