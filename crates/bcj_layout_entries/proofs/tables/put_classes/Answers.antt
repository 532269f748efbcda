use Rattle.std.proofs.Common.{arith}
use Rattle.bcj_layout_rules.specs.Entries as spec
use Rattle.bcj_layout_entries.specs.Classes.{ctable_class}
use Rattle.bcj_layout_entries.proofs.Listing.{behind-none, behind-more, behind-all}
use Rattle.bcj_layout_entries.proofs.tables.put_classes.Goals as goal

pub loop-entry-init : goal.loop-entry-init
loop-entry-init c = behind-none c.args.parts.now.resolver.now c.args.entries.now

pub loop-entry-preserved : goal.loop-entry-preserved
loop-entry-preserved c =
    let cs = c.args.parts.now.resolver.now in
    behind-more cs (spec.ctable_word cs c.args.parts.now.main.now) (ctable_class cs) c.args.table.now c.loop-entry.entry-index c.entry-item.result c.args.entries.now c.loop-entry.entries c.push.new.self c.in_ok-named_entry.field-0
    (omega arith) c.entry-item.is c.loop-entry.invariant c.in_ok-named_entry.ensures c.in_ok-push.ensures.ok

pub returns : goal.returns
returns c =
    let cs = c.args.parts.now.resolver.now in
    behind-all cs (spec.ctable_word cs c.args.parts.now.main.now) (ctable_class cs) c.args.table.now c.loop-entry.entry-index c.args.entries.now c.loop-entry.entries (omega arith) c.loop-entry.invariant
