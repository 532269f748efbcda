use Rattle.std.proofs.Common.{◌∙◌, ap, sym}
use Rattle.bcj_hier_rules.specs.Heads.{name_of, number_of}
use Rattle.bcj_layout_resolution.specs.Places.{heads_in}
use Rattle.bcj_layout_rows.specs.Keys.{reference_in}
use Rattle.bcj_layout_rows.proofs.HierLemmas.{name-found}
use Rattle.bcj_layout_addresses.specs.Parts.{classes_of, main_of}
use Rattle.bcj_linker_rows.proofs.CallLemmas.{not_found}
use Rattle.bcj_linker_rows.proofs.implemented.dispatch_word.Goals as goal

pub interface_word-requires-clause-named : goal.interface_word-requires-clause-named
interface_word-requires-clause-named c =
    let name = c.args.selector.class.now in
    name-found (classes_of c.args.parts.now) name c.in-Some.interface (ap (λ hs. number_of hs name) (sym c.hier.ensures) ∙ sym c.in-Some.ensures.number)

pub returns-in-None : goal.returns-in-None
returns-in-None c =
    let cs = classes_of c.args.parts.now in
    let name = c.args.selector.class.now in
    sym (not_found cs (main_of c.args.parts.now) (name_of (heads_in cs) c.args.class) (reference_in c.args.selector) (ap (λ hs. number_of hs name) (sym c.hier.ensures) ∙ sym c.in-None.ensures.number))
