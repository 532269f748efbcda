use Rattle.std.proofs.Common.{◌∙◌, sym, ap}
use Rattle.bcj_hier_rules.specs.Heads.{number_of}
use Rattle.bcj_layout_resolution.specs.Places.{heads_in}
use Rattle.bcj_layout_rows.proofs.HierLemmas.{name-found}
use Rattle.bcj_layout_entries.specs.Start.{declaring_class}
use Rattle.bcj_layout_entries.proofs.Mains.{main-nowhere}
use Rattle.bcj_layout_entries.proofs.start.main_entry.Goals as goal

pub main_within-requires-clause-named : goal.main_within-requires-clause-named
main_within-requires-clause-named c =
    name-found c.args.parts.now.resolver.now c.args.main.now c.in-Some.class (ap (λ hs. number_of hs c.args.main.now) (sym c.hier.ensures) ∙ sym c.in-Some.ensures.number) ∙ c.requires.named

pub returns-in-None : goal.returns-in-None
returns-in-None c =
    let cs = c.args.parts.now.resolver.now in
    let main = c.args.parts.now.main.now in
    let missing =
    main-nowhere cs main (ap (number_of (heads_in cs)) (sym c.requires.named) ∙ (ap (λ hs. number_of hs c.args.main.now) (sym c.hier.ensures) ∙ sym c.in-None.ensures.number)) in
    let h = c.unresolved.ensures cs in
    record { is_word = h.is_word ∙ sym missing; is_class = h.is_class ∙ sym (ap (declaring_class cs main) missing); among = h.among }
