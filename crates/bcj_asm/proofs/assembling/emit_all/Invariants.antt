use Rattle.std.proofs.Common.{◌≡◌, length, take}
use Rattle.std.specs.List.{AllZip}
use Rattle.rv_isa.specs.Words.{Spells}
use Rattle.bcj_asm.specs.Forms.{sizes}
use Rattle.bcj_asm.specs.Assembly.{all_emitted}
use Rattle.bcj_asm.specs.function.Places.{named_place}
use Rattle.bcj_asm.proofs.assembling.emit_all.Given as goal

abbrev pub invariant-loop-formed : goal.invariant-loop-formed
invariant-loop-formed l = record {
  words : AllZip Spells (all_emitted (named_place l.labels.named) 0 (take l.formed-index l.forms)) l.code;
  len : length l.code ≡ sizes (take l.formed-index l.forms);
}
