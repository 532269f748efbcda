use Rattle.std.proofs.Common.{◌||◌, ◌==◌, not, ◌∙◌, sym, ap}
use Rattle.bcj_hier.proofs.Calls.{pair_to_interface, pair_to_class}
use Rattle.bcj_hier.proofs.hierarchy.Hier.places_hold.Goals as goal

pub returns-then-is_interface : goal.returns-then-is_interface
returns-then-is_interface c =
    c.passes_to_interface.ensures
    ∙ (ap (λ b. b || not (0 == c.args.s)) c.is_interface-then-is_interface.ensures.kind
    ∙ pair_to_interface c.args.self.now c.is_interface.ensures.distinct c.is_interface.ensures.rooted c.args.s c.args.t c.requires.there.0 c.requires.there.1 (sym c.is_interface.ensures.kind ∙ c.if-is_interface.true))

pub returns-else-is_interface : goal.returns-else-is_interface
returns-else-is_interface c =
    c.is_below_at.ensures ∙ pair_to_class c.args.self.now c.is_interface.ensures.distinct c.args.s c.args.t c.requires.there.1 (sym c.is_interface.ensures.kind ∙ c.if-is_interface.false)
