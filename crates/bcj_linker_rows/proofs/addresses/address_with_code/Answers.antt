use Rattle.std.proofs.Common.{◌∙◌, sym}
use Rattle.bcj_layout_addresses.specs.Parts.{classes_of, main_of}
use Rattle.bcj_linker_rows.proofs.CallLemmas.{without_code}
use Rattle.bcj_linker_rows.proofs.addresses.address_with_code.Goals as goal

pub returns-then-is_abstract : goal.returns-then-is_abstract
returns-then-is_abstract c =
    λ x h. sym (without_code (classes_of c.args.parts.now) (main_of c.args.parts.now) x c.method_record.result.now (c.method_record.ensures x h) (sym c.is_abstract.ensures ∙ c.if-is_abstract.true))
