use Rattle.std.proofs.Common.{◌∙◌, sym, ap}
use Rattle.bcj_hier_rules.specs.Heads.{number_of}
use Rattle.bcj_layout_rows.proofs.HierLemmas.{name-found, number-of-loading}
use Rattle.bcj_layout_entries.proofs.lookup.class_of.Goals as goal

pub returns-in-None-clause-there : goal.returns-in-None-clause-there
returns-in-None-clause-there c =
    absurd (number-of-loading c.args.resolver.now c.args.name.now c.requires (ap (λ hs. number_of hs c.args.name.now) (sym c.hier.ensures) ∙ sym c.in-None.ensures.number))

pub returns-in-None-clause-named : goal.returns-in-None-clause-named
returns-in-None-clause-named c =
    absurd (number-of-loading c.args.resolver.now c.args.name.now c.requires (ap (λ hs. number_of hs c.args.name.now) (sym c.hier.ensures) ∙ sym c.in-None.ensures.number))

pub returns-in-Some-clause-named : goal.returns-in-Some-clause-named
returns-in-Some-clause-named c =
    name-found c.args.resolver.now c.args.name.now c.in-Some.class (ap (λ hs. number_of hs c.args.name.now) (sym c.hier.ensures) ∙ sym c.in-Some.ensures.number)
