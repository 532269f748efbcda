use Rattle.std.proofs.Common.{sym, subst}
use Rattle.bcj_tables_rules.specs.declared.records.AEntryKind.{AEntryKind}
use Rattle.bcj_hier_rules.specs.declared.call_kind.CallKind.{CallKind}
use Rattle.bcj_hier_rules.specs.Heads.{name_of}
use Rattle.bcj_hier_rules.specs.Resolution.{resolved_method}
use Rattle.bcj_layout_rules.specs.Rows.{mixture_of}
use Rattle.bcj_layout_rules.specs.Entries.{mapped, address_of_method, address_reference, address_word}
use Rattle.bcj_layout_resolution.specs.Places.{heads_in}
use Rattle.bcj_layout_entries.specs.Classes.{class_of_method, address_class}
use Rattle.bcj_layout_entries.specs.Listed.{IsEntry}
use Rattle.bcj_layout_entries.proofs.addresses.address_entry.Goals as goal

pub returns-in-Special : goal.returns-in-Special
returns-in-Special c =
    let cs = c.args.parts.now.resolver.now in
    let main = c.args.parts.now.main.now in
    let from = name_of (heads_in cs) c.args.from in
    let r = address_reference cs main c.args.entry.now in
    let P : CallKind → Type 0 = λ k.
    IsEntry cs (mapped (address_of_method cs main) (resolved_method (mixture_of cs) from r k)) (class_of_method (resolved_method (mixture_of cs) from r k)) c.method_entry-in-Special.result in
    let Q : AEntryKind → Type 0 = λ k. IsEntry cs (address_word cs main from k r) (address_class cs from k r) c.method_entry-in-Special.result in
    subst Q (sym c.in-Special.is) (subst P (c.special_kind.ensures cs main) c.method_entry-in-Special.ensures)
