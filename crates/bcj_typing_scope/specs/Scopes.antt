-- The context that a scope stands for.
use Rattle.std.specs.Prelude.{option_map}
use Rattle.bcj_symbolic_trees.specs.Types.{ty_of}
use Rattle.bcj_typing_rules.specs.Context as rules
use Rattle.bcj_typing_rules.specs.function.Expressions.{Answers}
use Rattle.bcj_typing_node.specs.Forms.{finals_of, locals_of}
use Rattle.bcj_typing_node.specs.declared.form.Meaning.{Meaning}
use Rattle.bcj_typing_node.specs.declared.form.Meaning.TheVariants as meaning
use Rattle.bcj_typing_scope.specs.declared.scope.Scope.{Scope}
use Rattle.bcj_typing_scope.specs.Surroundings.{units_at, answers_at, IsWorth}

abbrev pub context_of : Scope → rules.Context
context_of s =
    record {
      units = units_at s.world.now;
      class = s.world.now.decl.name;
      is_static = s.is_static;
      result = option_map ty_of s.result;
      in_loop = s.in_loop;
      finals = finals_of s.finals;
      locals = locals_of s.locals;
    }

-- what the declared units answer to it
abbrev pub answers_in : Scope → Answers
answers_in s = answers_at s.world.now

-- a field that a name means has its value
abbrev pub MeansWorth : Answers → Meaning → Type 0
MeansWorth a (meaning.Local v) = Unit {0}
MeansWorth a (meaning.Field f) = IsWorth a f.now
MeansWorth a meaning.Nothing = Unit {0}
