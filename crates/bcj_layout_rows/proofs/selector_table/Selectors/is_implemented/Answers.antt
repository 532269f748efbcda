use Rattle.std.proofs.Common.{◌≡◌, ◌∙◌, ap, sym, None}
use Rattle.bcj_hier_rules.specs.Loading.{load_error}
use Rattle.bcj_hier_rules.specs.Heads.{number_of}
use Rattle.bcj_layout_rules.specs.Rows.{mixture_of}
use Rattle.bcj_layout_rows.specs.Found.{selectors_in}
use Rattle.bcj_layout_rows.proofs.HierLemmas.{found-loads, number-of-loading}
use Rattle.bcj_layout_rows.proofs.HighestLemmas.{interface-loads, interface-named, interface-there}
use Rattle.bcj_layout_rows.proofs.selector_table.Selectors.is_implemented.Goals as goal

pub implements-requires-clause-other_loads : goal.implements-requires-clause-other_loads
implements-requires-clause-other_loads c =
    let cs = c.args.resolver.now in
    let rs = selectors_in c.args.self.now in
    let named = interface-named rs c.args.place c.in-Some.name.now c.in-Some.ensures in
    let loading : load_error (mixture_of cs) c.in-Some.name.now ≡ None = ap (load_error (mixture_of cs)) (sym named) ∙ interface-loads cs rs c.args.place c.requires.these c.requires.within in
    found-loads cs c.hier-hier.result.now c.in-Some.name.now c.in-Some-find.interface c.hier-hier.ensures c.in-Some-find.ensures.number loading

pub returns-in-None : goal.returns-in-None
returns-in-None c = absurd (interface-there (selectors_in c.args.self.now) c.args.place c.in-None.ensures c.requires.within)

pub returns-in-None-find : goal.returns-in-None-find
returns-in-None-find c =
    let cs = c.args.resolver.now in
    let rs = selectors_in c.args.self.now in
    let named = interface-named rs c.args.place c.in-Some.name.now c.in-Some.ensures in
    let loading : load_error (mixture_of cs) c.in-Some.name.now ≡ None = ap (load_error (mixture_of cs)) (sym named) ∙ interface-loads cs rs c.args.place c.requires.these c.requires.within in
    absurd (number-of-loading cs c.in-Some.name.now loading (ap (λ hs. number_of hs c.in-Some.name.now) (sym c.hier-hier.ensures) ∙ sym c.in-None-find.ensures.number))
