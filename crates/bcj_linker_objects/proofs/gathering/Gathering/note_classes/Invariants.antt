use Rattle.std.proofs.Common.{take}
use Rattle.bcj_linker_objects.specs.Steps.{AddsNames}
use Rattle.bcj_linker_objects.proofs.gathering.Gathering.note_classes.Given as goal

abbrev pub invariant-loop-class : goal.invariant-loop-class
invariant-loop-class l = AddsNames l.initial.self l.self (take l.class-index l.classes) l.object
