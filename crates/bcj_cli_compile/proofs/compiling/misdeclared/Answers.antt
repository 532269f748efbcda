use Rattle.std.proofs.Common.{◌++◌, sym, subst, codes}
use Rattle.bcj_decl_rules.specs.Faults.{duplicate, unknown, bad_hierarchy, bad_member}
use Rattle.bcj_decl.specs.Answers.{IsCause, place_of}
use Rattle.bcj_cli_compile.specs.Answers.{GiveNone}
use Rattle.bcj_cli_compile.specs.Refusals.{duplicate_type, unknown_type, hierarchy, member}
use Rattle.bcj_cli_compile.proofs.Causes.{misdeclared, refused}
use Rattle.bcj_cli_compile.proofs.compiling.misdeclared.Goals as goal

pub returns-in-Duplicate : goal.returns-in-Duplicate
returns-in-Duplicate c =
    let first = subst (IsCause _) c.in-Duplicate.is c.requires.cause in
    let none = misdeclared c.one_cutting.ensures.tokens c.one_unit.ensures c.args.sources.now c.args.own _ c.requires.parsed (place_of c.in-Duplicate.at) (duplicate c.in-Duplicate.name) _ first duplicate_type in
    refused c.args.sources.now c.args.own _ _ _ _
    (subst (λ n. GiveNone c.args.sources.now c.args.own c.in-Duplicate.at.file c.in-Duplicate.at.at (codes "duplicate " ++ n)) (sym c.as_str.ensures) none) c.refusal.ensures

pub returns-in-Unknown : goal.returns-in-Unknown
returns-in-Unknown c =
    let first = subst (IsCause _) c.in-Unknown.is c.requires.cause in
    let none = misdeclared c.one_cutting.ensures.tokens c.one_unit.ensures c.args.sources.now c.args.own _ c.requires.parsed (place_of c.in-Unknown.at) (unknown c.in-Unknown.name) _ first unknown_type in
    refused c.args.sources.now c.args.own _ _ _ _
    (subst (λ n. GiveNone c.args.sources.now c.args.own c.in-Unknown.at.file c.in-Unknown.at.at (codes "unknown " ++ n)) (sym c.as_str-in-Unknown.ensures) none) c.refusal-in-Unknown.ensures

pub returns-in-BadHierarchy : goal.returns-in-BadHierarchy
returns-in-BadHierarchy c =
    let first = subst (IsCause _) c.in-BadHierarchy.is c.requires.cause in
    refused c.args.sources.now c.args.own _ _ _ _
    (misdeclared c.one_cutting.ensures.tokens c.one_unit.ensures c.args.sources.now c.args.own _ c.requires.parsed (place_of c.in-BadHierarchy.at) bad_hierarchy _ first hierarchy) c.refusal-in-BadHierarchy.ensures

pub returns-in-BadMember : goal.returns-in-BadMember
returns-in-BadMember c =
    let first = subst (IsCause _) c.in-BadMember.is c.requires.cause in
    refused c.args.sources.now c.args.own _ _ _ _
    (misdeclared c.one_cutting.ensures.tokens c.one_unit.ensures c.args.sources.now c.args.own _ c.requires.parsed (place_of c.in-BadMember.at) bad_member _ first member) c.refusal-in-BadMember.ensures
