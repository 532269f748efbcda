use Rattle.std.proofs.Common.{sym, refl, ◌∙◌}
use Rattle.bcj_elf.specs.function.Reading.{contents}
use Rattle.bcj_elf.proofs.Accepting.{refuse_places, refuse_rules, refuse_bytes, is_spelled}
use Rattle.bcj_elf.proofs.reading.accepted.Goals as goal

pub returns-in_default-clause-none : goal.returns-in_default-clause-none
returns-in_default-clause-none c = refuse_places c.args.bytes.now _ refl c.in_default.ensures

pub returns-then-not-is_object-clause-none : goal.returns-then-not-is_object-clause-none
returns-then-not-is_object-clause-none c = refuse_rules c.args.bytes.now (contents c.in-Some.parts) _ c.in-Some.ensures c.in_ok-o.ensures c.if-not-is_object.ensures.1

pub write-requires : goal.write-requires
write-requires c = c.if-not-is_object.ensures.0 refl

pub returns-then-eq-clause-some : goal.returns-then-eq-clause-some
returns-then-eq-clause-some c = (c.if-not-is_object.ensures.0 refl, is_spelled c.args.bytes.now c.as_slice.result.now _ (c.as_slice.ensures.value ∙ c.in_ok-again.ensures) (sym c.if-eq.ensures))

pub returns-else-eq-clause-none : goal.returns-else-eq-clause-none
returns-else-eq-clause-none c = refuse_bytes c.args.bytes.now c.as_slice.result.now (contents c.in-Some.parts) _ c.in-Some.ensures c.in_ok-o.ensures (c.as_slice.ensures.value ∙ c.in_ok-again.ensures) (sym c.if-eq.ensures)
