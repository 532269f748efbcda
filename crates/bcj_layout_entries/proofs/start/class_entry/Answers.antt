use Rattle.std.proofs.Common.{◌∙◌, ap, subst, false, IfOk}
use Rattle.bcj_symbolic_trees.specs.Types.{PlainTy, class_type}
use Rattle.bcj_symbolic_trees.proofs.PlainLemmas.{ty-Class}
use Rattle.bcj_layout_entries.specs.Listed.{IsEntry, type_word, type_class}
use Rattle.bcj_layout_entries.proofs.start.class_entry.Goals as goal

pub returns : goal.returns
returns c =
    let cs = c.args.parts.now.resolver.now in
    let main = c.args.parts.now.main.now in
    let P : PlainTy → Type 0 = λ t. IfOk c.type_entry.result (IsEntry cs (type_word cs main t false) (type_class cs t false)) in
    subst P (ty-Class c.in_ok-copy.field-0 ∙ ap class_type (c.in_ok-copy.ensures ∙ c.requires.named)) c.type_entry.ensures
