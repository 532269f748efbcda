use Rattle.std.proofs.Common.{◌≡◌, ◌∙◌, sym, None, Some, Option}
use Rattle.bcj_hier_rules.specs.declared.link_error.LinkError.{LinkError}
use Rattle.bcj_layout_resolution.proofs.Records.{loads_in}
use Rattle.bcj_layout_resolution.proofs.resolver.Resolver.loads.Goals as goal

pub returns-in-Ok-clause-loads : goal.returns-in-Ok-clause-loads
returns-in-Ok-clause-loads c = λ _. sym (loads_in c.hier.result.now c.args.self.now c.args.class c.hier.ensures) ∙ sym c.in-Ok.ensures

pub returns-in-Err-clause-fails : goal.returns-in-Err-clause-fails
returns-in-Err-clause-fails c = λ _ none.
    let wrong : ◌≡◌ {A = Option LinkError} (Some c.in-Err.field-0) None = c.in-Err.ensures ∙ (loads_in c.hier.result.now c.args.self.now c.args.class c.hier.ensures ∙ none) in
    cc
