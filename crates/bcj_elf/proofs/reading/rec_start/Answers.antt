use Rattle.std.proofs.Common.{◌≡◌, ap, ◌∙◌, arith}
use Rattle.bcj_elf.specs.Layout.{rec_at, sizes}
use Rattle.bcj_elf.proofs.Again.{rec_field, rec_offset_there, records_there}
use Rattle.bcj_elf.proofs.reading.rec_start.Goals as goal

pub returns-then-bytes-lt-ALL_HEADERS_SIZE-clause-place : goal.returns-then-bytes-lt-ALL_HEADERS_SIZE-clause-place
returns-then-bytes-lt-ALL_HEADERS_SIZE-clause-place c = λ p h e. let long = (rec_offset_there p c.args.bytes.now h e).0 in absurd (omega arith)

pub returns-then-bytes-lt-ALL_HEADERS_SIZE-clause-records : goal.returns-then-bytes-lt-ALL_HEADERS_SIZE-clause-records
returns-then-bytes-lt-ALL_HEADERS_SIZE-clause-records c = λ p h e. let long = (rec_offset_there p c.args.bytes.now h e).0 in absurd (omega arith)

pub returns-clause-place : goal.returns-clause-place
returns-clause-place c = λ p h e. c.word_of.ensures ∙ ap (rec_field) c.behind-headers.ensures ∙ (rec_offset_there p c.args.bytes.now h e).1

pub returns-clause-records : goal.returns-clause-records
returns-clause-records c = λ p h e.
    let place : c.word_of.result ≡ rec_at (sizes p) = c.word_of.ensures ∙ ap (rec_field) c.behind-headers.ensures ∙ (rec_offset_there p c.args.bytes.now h e).1 in
    rw place (records_there p c.args.bytes.now e)
