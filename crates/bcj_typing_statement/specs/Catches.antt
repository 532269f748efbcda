-- What a call says of catches (JLS 14.20), by those before them and the scope behind them.
use Rattle.std.specs.Prelude.{List, [], ◌∷◌, ◌++◌, length, None, Result}
use Rattle.bcj_parser_trees.specs.Trees as source
use Rattle.bcj_symbolic_trees.specs.Trees as tree
use Rattle.bcj_symbolic_trees.specs.Types.{PlainTy, types_of, class_type, given}
use Rattle.bcj_decl_rules.specs.World.{Named, has_type}
use Rattle.bcj_typing_rules.specs.declared.kind.Kind.TheVariants as kind
use Rattle.bcj_typing_rules.specs.Premises.{Need, need, earliest_missing}
use Rattle.bcj_typing_rules.specs.Context.{Context, world_at, with_local, is_new_local}
use Rattle.bcj_typing_rules.specs.Casting.{uses}
use Rattle.bcj_typing_rules.specs.Statements.{Effects, Caught, next_local, throwable}
use Rattle.bcj_typing_rules.specs.function.Expressions.{Outcome, result, and_then, Answers, fits}
use Rattle.bcj_typing_rules.specs.function.Statements.{run_all}
use Rattle.bcj_typing_node.specs.declared.miss.Miss.{Miss}
use Rattle.bcj_typing_node.specs.Outcomes.{Tells}
use Rattle.bcj_typing_scope.specs.declared.scope.Scope.{Scope}
use Rattle.bcj_typing_effect.specs.declared.catching.Handled.{Handled}
use Rattle.bcj_typing_effect.specs.Catches.{Handling, handling, handling_of, handling_more, earlier_of}

-- catches with the types of all locals through them
pub record Behind : Type 0 where
  pub types : List PlainTy
  pub all : Handling

abbrev pub behind_at : Scope → Handled → Behind
behind_at s h = record { types = types_of s.types; all = handling_of h }

abbrev pub no_handling : Handling
no_handling = handling [] [] None

-- catches behind others
abbrev pub behind : Handling → Caught → Behind
behind h k =
    record { types = k.types; all = handling (h.catches ++ k.catches) (h.steps ++ k.steps) (earlier_of h.missing (earliest_missing k.needs)) }

abbrev pub all_behind : Handling → Outcome Caught → Outcome Behind
all_behind h o = and_then o (λ k. result (behind h k))

abbrev pub TellsCaught : Outcome Caught → Result Handled Miss → Scope → Type 0
TellsCaught o r s = Tells (behind_at s) (all_behind no_handling o) r

-- ---- one of them

abbrev pub catch_needs : Answers → Context → Named → Named → List Need
catch_needs a c class name =
    need kind.Name (has_type (world_at c) class)
    ∷ need kind.Local (is_new_local c name)
    ∷ need kind.Throwable (fits a (given (class_type class)) throwable)
    ∷ []

abbrev pub one_behind : Answers → Context → List PlainTy → Handling → Named → Named → Effects → Behind
one_behind a c types h class name b =
    record {
      types = b.types;
      all =
          handling_more h (record { class = class; local = length types; body = tree.stmts_from b.trees })
          (uses (given (class_type class)) throwable ++ b.steps) (earliest_missing (catch_needs a c class name));
    }

-- a catch behind others
abbrev pub caught_one : Answers → Context → List PlainTy → Handling → source.PlainCatch → Outcome Behind
caught_one a c types h (source.catch_of_class class name body) =
    and_then (run_all a (with_local c (next_local types name (class_type class))) (types ++ class_type class ∷ []) body)
    (λ b. result (one_behind a c types h class name b))
