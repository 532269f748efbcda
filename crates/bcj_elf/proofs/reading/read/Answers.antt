use Rattle.std.proofs.Common.{sym, ◌∙◌, arith}
use Rattle.bcj_elf.specs.Plain.{plain}
use Rattle.bcj_elf.proofs.Again.{one_spelling}
use Rattle.bcj_elf.proofs.Spells.{spells}
use Rattle.bcj_elf.proofs.reading.read.Goals as goal

pub returns-in-Some-clause-only : goal.returns-in-Some-clause-only
returns-in-Some-clause-only c = λ p h e. let found = rw c.in-Some.is at c.in_ok-o.ensures.some in one_spelling (plain c.in-Some.o) p found.0 h (found.1 ∙ sym e)

pub unreachable-requires : goal.unreachable-requires
unreachable-requires c =
    let there = spells c.args.bytes.now (record { below = λ i. omega (arith, c.type_inv.bytes i) }) c.in-Ok.ensures in
    let none = rw c.in-None.is at c.in_ok-o.ensures.none in
    none there.0 there.1 there.2
