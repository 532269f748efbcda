use Rattle.std.proofs.Common.{◌++◌, subst, sym, ◌∙◌, codes}
use Rattle.bcj_parser.specs.Answers.{StopCause}
use Rattle.bcj_cli_compile.specs.Answers.{IsRefusalOf}
use Rattle.bcj_cli_compile.specs.Texts.{syntax, not_in_profile, too_deep, too_many_types}
use Rattle.bcj_cli_compile.proofs.Causes.{text_refused}
use Rattle.bcj_cli_compile.proofs.Units.{not_parsed}
use Rattle.bcj_cli_compile.proofs.reading.parsed.Goals as goal

pub returns-in-Err-Syntax-clause-stopped : goal.returns-in-Err-Syntax-clause-stopped
returns-in-Err-Syntax-clause-stopped c =
    text_refused c.args.text.now c.args.file _ _ _ (not_parsed c.one_cutting.ensures.tokens _ _ c.requires.tokens (λ u h. (let wrong = sym c.in-Err-Syntax.field-0-is ∙ c.in-Err-Syntax.ensures.complete u h in absurd cc)))
    (syntax c.requires.tokens (subst (λ e. StopCause c.args.text.now c.args.tokens.now e) c.in-Err-Syntax.field-0-is c.in-Err-Syntax.ensures.stops)) c.refusal.ensures

pub returns-in-Err-NotInProfile-clause-stopped : goal.returns-in-Err-NotInProfile-clause-stopped
returns-in-Err-NotInProfile-clause-stopped c =
    text_refused c.args.text.now c.args.file _ _ _ (not_parsed c.one_cutting.ensures.tokens _ _ c.requires.tokens (λ u h. (let wrong = sym c.in-Err-NotInProfile.field-0-is ∙ c.in-Err-NotInProfile.ensures.complete u h in absurd cc)))
    (not_in_profile c.requires.tokens (subst (λ e. StopCause c.args.text.now c.args.tokens.now e) c.in-Err-NotInProfile.field-0-is c.in-Err-NotInProfile.ensures.stops))
    (subst (λ k. IsRefusalOf c.args.file c.in-Err-NotInProfile.at (codes "not in profile: " ++ k) c.refusal-in-Err-NotInProfile.result) c.name.ensures c.refusal-in-Err-NotInProfile.ensures)

pub returns-in-Err-TooDeep-clause-stopped : goal.returns-in-Err-TooDeep-clause-stopped
returns-in-Err-TooDeep-clause-stopped c =
    text_refused c.args.text.now c.args.file _ _ _ (not_parsed c.one_cutting.ensures.tokens _ _ c.requires.tokens (λ u h. (let wrong = sym c.in-Err-TooDeep.field-0-is ∙ c.in-Err-TooDeep.ensures.complete u h in absurd cc)))
    (too_deep c.requires.tokens (subst (λ e. StopCause c.args.text.now c.args.tokens.now e) c.in-Err-TooDeep.field-0-is c.in-Err-TooDeep.ensures.stops)) c.refusal-in-Err-TooDeep.ensures

pub returns-in-Err-TooMany-clause-stopped : goal.returns-in-Err-TooMany-clause-stopped
returns-in-Err-TooMany-clause-stopped c =
    text_refused c.args.text.now c.args.file _ _ _ (not_parsed c.one_cutting.ensures.tokens _ _ c.requires.tokens (λ u h. (let wrong = sym c.in-Err-TooMany.field-0-is ∙ c.in-Err-TooMany.ensures.complete u h in absurd cc)))
    (too_many_types c.requires.tokens (subst (λ e. StopCause c.args.text.now c.args.tokens.now e) c.in-Err-TooMany.field-0-is c.in-Err-TooMany.ensures.stops)) c.refusal-in-Err-TooMany.ensures
