-- The typing of statements as a function: the effect, or the place and the kind of the first fault.
use Rattle.std.specs.Prelude.{Bool, true, false, List, [], ◌∷◌, ◌++◌, length, Option, None, Some, if◌then◌else◌}
use Rattle.bcj_parser_trees.specs.Trees as source
use Rattle.bcj_symbolic_trees.specs.Trees as tree
use Rattle.bcj_symbolic_trees.specs.Types.{PlainTy, class_type, PlainArg, given}
use Rattle.bcj_symbolic_trees.specs.Units.{PlainPair}
use Rattle.bcj_decl_rules.specs.World.{Named, has_type, type_of}
use Rattle.bcj_typing_rules.specs.declared.kind.Kind.TheVariants as kind
use Rattle.bcj_typing_rules.specs.Premises.{Need, need, earliest_missing}
use Rattle.bcj_typing_rules.specs.Context.{Context, world_at, in_a_loop, with_local, with_locals, is_new_local, is_known}
use Rattle.bcj_typing_rules.specs.Operators.{is_bool}
use Rattle.bcj_typing_rules.specs.Casting.{uses}
use Rattle.bcj_typing_rules.specs.Expressions.{steps_in, trees_in}
use Rattle.bcj_typing_rules.specs.Statements.{Effect, Effects, Caught, plainly, block_of, empty_block, first_value, next_local, declares, for_tree, returns_nothing, returns_value, result_steps, throwable}
use Rattle.bcj_typing_rules.specs.Faults.{stmt_at}
use Rattle.bcj_typing_rules.specs.function.Expressions.{Outcome, result, and_then, settled, Answers, fits, type_expr, type_exprs}

-- the condition of a `for`, with what the loop needs of it
pub record Test : Type 0 where
  pub needs : List Need
  pub tree : tree.PlainExpr
  pub steps : List PlainPair

abbrev pub whole_stmt : source.PlainStmt → List Need → Effect → Outcome Effect
whole_stmt s needs e = settled (stmt_at s) (earliest_missing needs) e

module _ (a : Answers) where
  -- a value that is returned goes to the result, where there is one
  abbrev pub fits_result : PlainArg → Option PlainTy → Bool
  fits_result s None = true
  fits_result s (Some r) = if returns_value (Some r) then fits a s r else true

  abbrev pub test_of : Context → source.PlainOption → Outcome Test
  test_of c source.absent = result (record { needs = []; tree = tree.bool_value true; steps = [] })
  test_of c (source.present e) = and_then (type_expr a c e) (λ t. result (record { needs = need kind.Condition (is_bool t.type) ∷ []; tree = t.tree; steps = t.steps }))

  -- a catch and those behind it
  abbrev pub caught : Context → List PlainTy → Named → Named → Effects → Caught → Caught
  caught c types class name b k =
      record {
        types = k.types;
        catches = record { class = class; local = length types; body = tree.stmts_from b.trees } ∷ k.catches;
        steps = uses (given (class_type class)) throwable ++ (b.steps ++ k.steps);
        needs =
            need kind.Name (has_type (world_at c) class)
            ∷ need kind.Local (is_new_local c name)
            ∷ need kind.Throwable (fits a (given (class_type class)) throwable)
            ∷ k.needs;
      }

  abbrev mutual
    pub run : Context → List PlainTy → source.PlainStmt → Outcome Effect
    run c types (source.local_variable at ty name source.absent) =
        whole_stmt (source.local_variable at ty name source.absent) (need kind.Name (is_known c ty) ∷ need kind.Local (is_new_local c name) ∷ [])
        (declares c types name (type_of ty) (first_value (type_of ty)) [])
    run c types (source.local_variable at ty name (source.present e)) =
        and_then (type_expr a (with_local c (next_local types name (type_of ty))) e)
        (λ t.
        whole_stmt (source.local_variable at ty name (source.present e))
        (need kind.Name (is_known c ty) ∷ need kind.Assign (fits a t.type (type_of ty)) ∷ need kind.Local (is_new_local c name) ∷ [])
        (declares c types name (type_of ty) t.tree (t.steps ++ uses t.type (type_of ty))))
    run c types (source.block at body) = and_then (run_all c types body) (λ b. whole_stmt (source.block at body) [] (plainly c b.types (block_of b.trees) b.steps))
    run c types (source.empty at) = whole_stmt (source.empty at) [] (plainly c types empty_block [])
    run c types (source.evaluate at e) = and_then (type_expr a c e) (λ t. whole_stmt (source.evaluate at e) [] (plainly c types (tree.evaluate t.tree) t.steps))
    run c types (source.if_else at e first second) =
        and_then (type_expr a c e)
        (λ t.
        and_then (run c types first)
        (λ x.
        and_then (run_else c x.types second)
        (λ b.
        whole_stmt (source.if_else at e first second) (need kind.Condition (is_bool t.type) ∷ [])
        (plainly c b.types (tree.if_else t.tree x.tree b.tree) (t.steps ++ (x.steps ++ b.steps))))))
    run c types (source.while_loop at e body) =
        and_then (type_expr a c e)
        (λ t.
        and_then (run (in_a_loop c) types body)
        (λ b.
        whole_stmt (source.while_loop at e body) (need kind.Condition (is_bool t.type) ∷ [])
        (plainly c b.types (tree.loop false t.tree b.tree tree.no_exprs) (t.steps ++ b.steps))))
    run c types (source.do_loop at body e) =
        and_then (run (in_a_loop c) types body)
        (λ b.
        and_then (type_expr a c e)
        (λ t.
        whole_stmt (source.do_loop at body e) (need kind.Condition (is_bool t.type) ∷ [])
        (plainly c b.types (tree.loop true t.tree b.tree tree.no_exprs) (b.steps ++ t.steps))))
    run c types (source.for_loop at init condition update body) =
        and_then (run_all c types init)
        (λ i.
        and_then (test_of (with_locals c i.locals) condition)
        (λ q.
        and_then (type_exprs a (with_locals c i.locals) update)
        (λ us.
        and_then (run (in_a_loop (with_locals c i.locals)) i.types body)
        (λ b.
        whole_stmt (source.for_loop at init condition update body) q.needs
        (plainly c b.types (for_tree i.trees (tree.loop false q.tree b.tree (trees_in us))) (i.steps ++ (q.steps ++ (steps_in us ++ b.steps))))))))
    run c types (source.return_with at source.absent) =
        whole_stmt (source.return_with at source.absent) (need kind.Return (returns_nothing c.result) ∷ []) (plainly c types (tree.return_with tree.absent) [])
    run c types (source.return_with at (source.present e)) =
        and_then (type_expr a c e)
        (λ t.
        whole_stmt (source.return_with at (source.present e)) (need kind.Assign (fits_result t.type c.result) ∷ need kind.Return (returns_value c.result) ∷ [])
        (plainly c types (tree.return_with (tree.present t.tree)) (t.steps ++ result_steps t.type c.result)))
    run c types (source.throw at e) =
        and_then (type_expr a c e)
        (λ t.
        whole_stmt (source.throw at e) (need kind.Throwable (fits a t.type throwable) ∷ []) (plainly c types (tree.throw t.tree) (t.steps ++ uses t.type throwable)))
    run c types (source.break_loop at) = whole_stmt (source.break_loop at) (need kind.Jump c.in_loop ∷ []) (plainly c types tree.break_loop [])
    run c types (source.continue_loop at) = whole_stmt (source.continue_loop at) (need kind.Jump c.in_loop ∷ []) (plainly c types tree.continue_loop [])
    run c types (source.try_catch at body catches) =
        and_then (run_all c types body)
        (λ b.
        and_then (run_catches c b.types catches)
        (λ k.
        whole_stmt (source.try_catch at body catches) k.needs
        (plainly c k.types (tree.try_catch (tree.stmts_from b.trees) (tree.catches_from k.catches)) (b.steps ++ k.steps))))

    pub run_else : Context → List PlainTy → source.PlainElse → Outcome Effect
    run_else c types source.no_else = result (plainly c types empty_block [])
    run_else c types (source.else_with s) = run c types s

    pub run_all : Context → List PlainTy → source.PlainStmts → Outcome Effects
    run_all c types source.no_stmts = result (record { locals = c.locals; types = types; trees = []; steps = [] })
    run_all c types (source.more_stmts s rest) =
        and_then (run c types s)
        (λ e.
        and_then (run_all (with_locals c e.locals) e.types rest)
        (λ r. result (record { locals = r.locals; types = r.types; trees = e.tree ∷ r.trees; steps = e.steps ++ r.steps })))

    pub run_catches : Context → List PlainTy → source.PlainCatches → Outcome Caught
    run_catches c types source.no_catches = result (record { types = types; catches = []; steps = []; needs = [] })
    run_catches c types (source.more_catches (source.catch_of_class class name body) rest) =
        and_then (run_all (with_local c (next_local types name (class_type class))) (types ++ class_type class ∷ []) body)
        (λ b. and_then (run_catches c b.types rest) (λ k. result (caught c types class name b k)))
