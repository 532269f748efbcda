use Rattle.std.proofs.Common.{◌≡◌}
use Rattle.bcj_parser_trees.specs.Plain.{stmts_of, catches_of}
use Rattle.bcj_symbolic_trees.specs.Types.{types_of}
use Rattle.bcj_typing_rules.specs.function.Statements.{run_all, run_catches}
use Rattle.bcj_typing_scope.specs.Scopes.{answers_in, context_of}
use Rattle.bcj_typing_statement.specs.Scoped.{Keeps, Stays}
use Rattle.bcj_typing_statement.specs.Catches.{all_behind, no_handling}
use Rattle.bcj_typing_statement.proofs.Sequences.{rest_from}
use Rattle.bcj_typing_statement.proofs.Handlers.{rest_of}
use Rattle.bcj_typing_statement.proofs.statement.+statement.Given as goal

abbrev pub invariant-sequence-loop-one : goal.invariant-sequence-loop-one
invariant-sequence-loop-one l =
    record {
      told : rest_from l.scope l.body l.one-index l.all ≡ run_all (answers_in l.fn.scope) (context_of l.fn.scope) (types_of l.fn.scope.types) (stmts_of l.body);
      keeps : Keeps l.fn.scope l.scope;
    }

abbrev pub invariant-handlers-loop-one : goal.invariant-handlers-loop-one
invariant-handlers-loop-one l =
    record {
      told : rest_of l.scope l.catches l.one-index l.all ≡ all_behind no_handling (run_catches (answers_in l.fn.scope) (context_of l.fn.scope) (types_of l.fn.scope.types) (catches_of l.catches));
      stays : Stays l.fn.scope l.scope;
    }
