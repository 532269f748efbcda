-- The initialisers of objects of a type, where they are ready.
use Rattle.std.specs.Prelude.{◌≡◌, map, Option, IfSome}
use Rattle.bcj_parser_trees.specs.Plain as source
use Rattle.bcj_typing_rules.specs.function.Expressions.{result}
use Rattle.bcj_typing_rules.specs.function.Members.{type_initialisers}
use Rattle.bcj_typing_scope.specs.Surroundings.{Surroundings, answers_at, units_at}
use Rattle.bcj_typing_member.specs.declared.typed.Added.{Added}
use Rattle.bcj_typing_member.specs.Typed.{added_of}

-- they are what the initialisers alone are typed to
abbrev pub AreInitialisers : Surroundings → Option Added → Type 0
AreInitialisers s ready =
    IfSome ready (λ i. type_initialisers (answers_at s) (units_at s) (source.type_of s.decl) (map source.member_of s.decl.members) ≡ result (added_of i))
