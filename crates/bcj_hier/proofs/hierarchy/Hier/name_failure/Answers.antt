use Rattle.std.proofs.Common.{◌∙◌, ap, sym}
use Rattle.bcj_hier_rules.specs.Heads.{of_heads}
use Rattle.bcj_hier_rules.specs.Loading.{load_error}
use Rattle.bcj_hier.proofs.ByParts.{missing_error, name_found}
use Rattle.bcj_hier.proofs.hierarchy.Hier.name_failure.Goals as goal

pub returns-in-None : goal.returns-in-None
returns-in-None c = sym (missing_error c.args.self.now c.args.name.now (sym c.in-None.ensures.number))

pub returns-in-Some : goal.returns-in-Some
returns-in-Some c =
    c.load_at.ensures ∙ ap (load_error (of_heads c.args.self.now)) (name_found c.args.self.now c.args.name.now c.in-Some.place (sym c.in-Some.ensures.number))
