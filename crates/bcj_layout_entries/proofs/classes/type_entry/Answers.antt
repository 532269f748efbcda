use Rattle.std.proofs.Common.{sym, subst, Option, None, is_none, IfOk, if◌then◌else◌}
use Rattle.bcj_symbolic_trees.specs.Types.{ty_of}
use Rattle.bcj_hier_rules.specs.declared.link_error.LinkError.{LinkError}
use Rattle.bcj_layout_rules.specs.Rows.{mixture_of}
use Rattle.bcj_layout_rules.specs.Entries.{unless_error, row_of}
use Rattle.bcj_layout_entries.specs.Classes.{class_of_type}
use Rattle.bcj_layout_entries.specs.Listed.{IsEntry}
use Rattle.bcj_layout_entries.proofs.Words.{elements-load}
use Rattle.bcj_layout_entries.proofs.classes.type_entry.Goals as goal

pub returns-in-Err : goal.returns-in-Err
returns-in-Err c =
    let cs = c.args.parts.now.resolver.now in
    let t = ty_of c.args.ty.now in
    let P : Option LinkError → Type 0 = λ o. IsEntry cs (unless_error o (row_of cs c.args.parts.now.main.now t)) (if is_none o then class_of_type t else None) c.unresolved.result in
    subst P c.in-Err.ensures (c.unresolved.ensures cs)

pub loaded_entry-requires-clause-loads : goal.loaded_entry-requires-clause-loads
loaded_entry-requires-clause-loads c = elements-load (mixture_of c.args.parts.now.resolver.now) (ty_of c.args.ty.now) c.args.is_new (sym c.in-Ok.ensures)

pub returns-in-Ok : goal.returns-in-Ok
returns-in-Ok c =
    let cs = c.args.parts.now.resolver.now in
    let t = ty_of c.args.ty.now in
    let P : Option LinkError → Type 0 = λ o. IfOk c.loaded_entry.result (IsEntry cs (unless_error o (row_of cs c.args.parts.now.main.now t)) (if is_none o then class_of_type t else None)) in
    subst P c.in-Ok.ensures c.loaded_entry.ensures
