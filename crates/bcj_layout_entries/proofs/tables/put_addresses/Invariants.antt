use Rattle.std.proofs.Common.{map, take}
use Rattle.bcj_hier_rules.specs.Heads.{name_of}
use Rattle.bcj_layout_rules.specs.Entries as spec
use Rattle.bcj_layout_resolution.specs.Places.{heads_in}
use Rattle.bcj_layout_entries.specs.Classes.{atable_class}
use Rattle.bcj_layout_entries.specs.Listed.{AreBehind}
use Rattle.bcj_layout_entries.proofs.tables.put_addresses.Given as goal

abbrev pub invariant-loop-entry : goal.invariant-loop-entry
invariant-loop-entry l =
    let cs = l.parts.resolver.now in
    let table = take l.entry-index l.table in
    AreBehind cs (map (spec.atable_word cs l.parts.main.now (name_of (heads_in cs) l.from)) table) (map (atable_class cs (name_of (heads_in cs) l.from)) table) l.initial.entries l.entries
