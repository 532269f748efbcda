use Rattle.std.proofs.Common.{map, take}
use Rattle.bcj_layout_rules.specs.Entries as spec
use Rattle.bcj_layout_entries.specs.Classes.{ctable_class}
use Rattle.bcj_layout_entries.specs.Listed.{AreBehind}
use Rattle.bcj_layout_entries.proofs.tables.put_classes.Given as goal

abbrev pub invariant-loop-entry : goal.invariant-loop-entry
invariant-loop-entry l =
    let cs = l.parts.resolver.now in
    let table = take l.entry-index l.table in
    AreBehind cs (map (spec.ctable_word cs l.parts.main.now) table) (map (ctable_class cs) table) l.initial.entries l.entries
