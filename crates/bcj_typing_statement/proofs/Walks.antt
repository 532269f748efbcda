-- The effect of a statement whose parts have effects.
use Rattle.std.proofs.Common.{◌≡◌, ap, sym, ◌∙◌, ℕ, true, false, List, [], ◌∷◌, ◌++◌, Option, Result}
use Rattle.bcj_parser_trees.specs.Trees as source
use Rattle.bcj_symbolic_trees.specs.Trees as tree
use Rattle.bcj_symbolic_trees.specs.Types.{PlainTy, types_of}
use Rattle.bcj_symbolic_trees.specs.Units.{PlainPair}
use Rattle.bcj_typing_rules.specs.declared.kind.Kind.{Kind}
use Rattle.bcj_typing_rules.specs.declared.kind.Kind.TheVariants as kind
use Rattle.bcj_typing_rules.specs.Premises.{need, earliest_missing}
use Rattle.bcj_typing_rules.specs.Context.{Context, in_a_loop, with_locals}
use Rattle.bcj_typing_rules.specs.Operators.{is_bool}
use Rattle.bcj_typing_rules.specs.Expressions.{Typing, trees_in, steps_in}
use Rattle.bcj_typing_rules.specs.Statements.{Effect, Effects, plainly, for_tree}
use Rattle.bcj_typing_rules.specs.function.Expressions.{Outcome, result, and_then, settled, Answers, type_expr, type_exprs}
use Rattle.bcj_typing_rules.specs.function.Statements.{Test, run, run_else, run_all, test_of}
use Rattle.bcj_typing_node.specs.declared.miss.Miss.{Miss}
use Rattle.bcj_typing_node.specs.Forms.{locals_of}
use Rattle.bcj_typing_node.specs.Outcomes.{Tells}
use Rattle.bcj_typing_scope.specs.declared.scope.Scope.{Scope}
use Rattle.bcj_typing_scope.specs.Scopes.{context_of}
use Rattle.bcj_typing_effect.specs.declared.act.Acted.{Acted}
use Rattle.bcj_typing_effect.specs.Acts.{Act, act, act_of}
use Rattle.bcj_typing_statement.specs.Scoped.{Stays}
use Rattle.bcj_typing_statement.specs.Told.{Ending, ending, ended, TellsEffect}
use Rattle.bcj_typing_statement.proofs.Outcomes.{found, carried, told}
use Rattle.bcj_typing_statement.proofs.Scopes.{context_stays}

-- ---- an effect by what was made

-- an effect with the locals and types of a scope
abbrev pub effect_in : Scope → Act → Effect
effect_in s x = record { locals = locals_of s.locals; types = types_of s.types; tree = x.tree; steps = x.steps }

-- what was made of a settled outcome is what is done
pub told_act : (s : Scope) (o : Outcome Effect) (at : ℕ) (m : Option Kind) (x : Act) (r : Result Acted Miss) → o ≡ settled at m (effect_in s x) → Tells act_of (settled at m x) r
    → TellsEffect o r s
told_act s o at m x r h t = told act_of (effect_in s) o at m x r h t

-- the scope behind a statement whose locals have left has the locals that it began with
pub settled_there : (a b : Scope) → Stays a b → (at : ℕ) (m : Option Kind) (s : tree.PlainStmt) (steps : List PlainPair)
    → settled at m (plainly (context_of a) (types_of b.types) s steps) ≡ settled at m (effect_in b (act s steps))
settled_there a b h at m s steps =
    ap (λ (c : Context). settled at m (plainly c (types_of b.types) s steps)) (sym (context_stays a b h))

-- ---- by the parts

module _ (a : Answers) (c : Context) (types : List PlainTy) where
  -- an `if`
  pub if_found : (at : ℕ) (e : source.PlainExpr) (first : source.PlainStmt) (second : source.PlainElse) (t : Typing) (x y : Ending)
      → type_expr a c e ≡ result t → ended (run a c types first) ≡ result x → ended (run_else a c x.types second) ≡ result y
      → run a c types (source.if_else at e first second)
      ≡ settled at (earliest_missing (need kind.Condition (is_bool t.type) ∷ [])) (plainly c y.types (tree.if_else t.tree x.tree y.tree) (t.steps ++ (x.steps ++ y.steps)))
  if_found at e first second t x y p q r =
      let end : Ending → Ending → Outcome Effect = λ x y. settled at (earliest_missing (need kind.Condition (is_bool t.type) ∷ [])) (plainly c y.types (tree.if_else t.tree x.tree y.tree) (t.steps ++ (x.steps ++ y.steps))) in
      found (type_expr a c e) _ t p
      ∙ carried (run a c types first) ending (λ (x : Ending). and_then (run_else a c x.types second) (λ y. end x (ending y))) x q
      ∙ carried (run_else a c x.types second) ending (end x) y r

  -- a `while`
  pub while_found : (at : ℕ) (e : source.PlainExpr) (body : source.PlainStmt) (t : Typing) (x : Ending)
      → type_expr a c e ≡ result t → ended (run a (in_a_loop c) types body) ≡ result x
      → run a c types (source.while_loop at e body)
      ≡ settled at (earliest_missing (need kind.Condition (is_bool t.type) ∷ [])) (plainly c x.types (tree.loop false t.tree x.tree tree.no_exprs) (t.steps ++ x.steps))
  while_found at e body t x p q =
      found (type_expr a c e) _ t p
      ∙ carried (run a (in_a_loop c) types body) ending
      (λ (x : Ending). settled at (earliest_missing (need kind.Condition (is_bool t.type) ∷ [])) (plainly c x.types (tree.loop false t.tree x.tree tree.no_exprs) (t.steps ++ x.steps))) x q

  -- a `do`
  pub do_found : (at : ℕ) (e : source.PlainExpr) (body : source.PlainStmt) (t : Typing) (x : Ending)
      → ended (run a (in_a_loop c) types body) ≡ result x → type_expr a c e ≡ result t
      → run a c types (source.do_loop at body e)
      ≡ settled at (earliest_missing (need kind.Condition (is_bool t.type) ∷ [])) (plainly c x.types (tree.loop true t.tree x.tree tree.no_exprs) (x.steps ++ t.steps))
  do_found at e body t x q p =
      let end : Typing → Ending → Outcome Effect = λ t x. settled at (earliest_missing (need kind.Condition (is_bool t.type) ∷ [])) (plainly c x.types (tree.loop true t.tree x.tree tree.no_exprs) (x.steps ++ t.steps)) in
      carried (run a (in_a_loop c) types body) ending (λ (x : Ending). and_then (type_expr a c e) (λ t. end t x)) x q
      ∙ found (type_expr a c e) (λ (t : Typing). end t x) t p

  -- a `for`
  pub for_found : (at : ℕ) (init : source.PlainStmts) (cond : source.PlainOption) (update : source.PlainExprs) (body : source.PlainStmt) (i : Effects) (q : Test) (us : List Typing) (x : Ending)
      → run_all a c types init ≡ result i → test_of a (with_locals c i.locals) cond ≡ result q → type_exprs a (with_locals c i.locals) update ≡ result us
      → ended (run a (in_a_loop (with_locals c i.locals)) i.types body) ≡ result x
      → run a c types (source.for_loop at init cond update body)
      ≡ settled at (earliest_missing q.needs) (plainly c x.types (for_tree i.trees (tree.loop false q.tree x.tree (trees_in us))) (i.steps ++ (q.steps ++ (steps_in us ++ x.steps))))
  for_found at init cond update body i q us x hi hq hu hx =
      found (run_all a c types init) _ i hi
      ∙ found (test_of a (with_locals c i.locals) cond) _ q hq
      ∙ found (type_exprs a (with_locals c i.locals) update) _ us hu
      ∙ carried (run a (in_a_loop (with_locals c i.locals)) i.types body) ending
      (λ (x : Ending). settled at (earliest_missing q.needs) (plainly c x.types (for_tree i.trees (tree.loop false q.tree x.tree (trees_in us))) (i.steps ++ (q.steps ++ (steps_in us ++ x.steps))))) x hx
