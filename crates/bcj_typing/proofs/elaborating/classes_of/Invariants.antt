use Rattle.std.proofs.Common.{◌≡◌, ◌++◌, drop, map}
use Rattle.bcj_parser_trees.specs.Plain.{type_of}
use Rattle.bcj_symbolic_trees.specs.Units.{class_of}
use Rattle.bcj_decl.specs.Worlds.{units_in}
use Rattle.bcj_typing_answers.specs.Answers.{answers_of}
use Rattle.bcj_typing_rules.specs.function.Members.{type_types}
use Rattle.bcj_typing_member.specs.Gathered.{outcome_map}
use Rattle.bcj_typing.proofs.elaborating.classes_of.Given as goal

abbrev pub invariant-loop-decl : goal.invariant-loop-decl
invariant-loop-decl l =
    outcome_map (λ cs. map class_of l.classes ++ cs) (type_types (answers_of (units_in l.decls)) (units_in l.decls) (map type_of (drop l.decl-index l.each)))
    ≡ type_types (answers_of (units_in l.decls)) (units_in l.decls) (map type_of l.each)
