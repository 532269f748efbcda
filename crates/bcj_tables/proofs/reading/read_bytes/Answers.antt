use Rattle.std.proofs.Common.{sym, ap, ◌∙◌, arith}
use Rattle.bcj_elf.specs.Plain.{plain}
use Rattle.bcj_tables_rules.specs.Records.{records_reading}
use Rattle.bcj_tables_rules.proofs.Conclusions.{reads_only_spellings, refuses_no_spelling, one_spelling}
use Rattle.bcj_tables.specs.Places.{outside_of}
use Rattle.bcj_tables.proofs.reading.read_bytes.Goals as goal

pub returns-in-Ok-clause-found : goal.returns-in-Ok-clause-found
returns-in-Ok-clause-found c =
    let o = outside_of (plain c.args.o.now) in
    reads_only_spellings o c.args.bytes.now _ c.in-Ok.r (λ i. omega (arith, c.type_inv.bytes i)) (ap (records_reading o) (sym c.new-cursor.ensures) ∙ c.in-Ok.ensures)

pub returns-in-Ok-clause-only : goal.returns-in-Ok-clause-only
returns-in-Ok-clause-only c =
    let o = outside_of (plain c.args.o.now) in
    let found = reads_only_spellings o c.args.bytes.now _ c.in-Ok.r (λ i. omega (arith, c.type_inv.bytes i)) (ap (records_reading o) (sym c.new-cursor.ensures) ∙ c.in-Ok.ensures) in
    λ s m e. one_spelling o c.in-Ok.r s found.0 m (found.1 ∙ sym e)

pub returns-in-Err-Bad-clause-none : goal.returns-in-Err-Bad-clause-none
returns-in-Err-Bad-clause-none c =
    let o = outside_of (plain c.args.o.now) in
    let refused = rw c.in-Err-Bad.field-0-is at c.in-Err-Bad.ensures in
    λ _ s m e. refuses_no_spelling o c.args.bytes.now _ (ap (records_reading o) (sym c.new-cursor.ensures) ∙ refused) s m e
