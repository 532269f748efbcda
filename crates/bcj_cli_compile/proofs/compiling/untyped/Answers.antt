use Rattle.std.proofs.Common.{◌++◌, sym, subst, map, codes, Err}
use Rattle.bcj_parser_trees.specs.Plain.{unit_of}
use Rattle.bcj_typing.specs.Answers.{IsCause, IsExact}
use Rattle.bcj_cli_compile.specs.Answers.{GiveNone}
use Rattle.bcj_cli_compile.proofs.Causes.{not_typed, past_limit, refused}
use Rattle.bcj_cli_compile.proofs.compiling.untyped.Goals as goal

pub returns-in-Untyped : goal.returns-in-Untyped
returns-in-Untyped c =
    let cause = subst (IsCause (map unit_of c.args.units.now) c.args.own) c.in-Untyped.is c.requires.cause in
    let exact = subst (λ s. IsExact (map unit_of c.args.units.now) c.args.own (Err s)) c.in-Untyped.is c.requires.exact in
    let none = not_typed c.one_cutting.ensures.tokens c.one_unit.ensures c.args.sources.now c.args.own _ c.requires.parsed c.requires.declared c.requires.own c.in-Untyped.at c.in-Untyped.kind exact cause in
    refused c.args.sources.now c.args.own _ _ _ _
    (subst (λ k. GiveNone c.args.sources.now c.args.own c.args.own c.in-Untyped.at (codes "type: " ++ k)) (sym c.kind_name.ensures) none) c.refusal.ensures

pub returns-in-TooLarge : goal.returns-in-TooLarge
returns-in-TooLarge c =
    let cause = subst (IsCause (map unit_of c.args.units.now) c.args.own) c.in-TooLarge.is c.requires.cause in
    let exact = subst (λ s. IsExact (map unit_of c.args.units.now) c.args.own (Err s)) c.in-TooLarge.is c.requires.exact in
    let none = past_limit c.one_cutting.ensures.tokens c.one_unit.ensures c.args.sources.now c.args.own _ c.requires.parsed c.requires.declared c.requires.own c.in-TooLarge.what c.in-TooLarge.at exact cause in
    refused c.args.sources.now c.args.own _ _ _ _
    (subst (λ k. GiveNone c.args.sources.now c.args.own c.args.own c.in-TooLarge.at (codes "too large: " ++ k)) (sym c.limit_name.ensures) none) c.refusal-in-TooLarge.ensures
