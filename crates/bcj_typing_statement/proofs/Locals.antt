-- What is said of a declaration and of a catch, whose local enters the scope.
use Rattle.std.proofs.Common.{◌≡◌, ap, sym, ◌∙◌, subst, ℕ, Bool, List, [], ◌∷◌, ◌++◌, length, take, Option}
use Rattle.std.proofs.lemmas.List.{length-map}
use Rattle.bcj_parser_trees.specs.declared.names.TypeName.{TypeName}
use Rattle.bcj_parser_trees.specs.declared.statement.Catch.{Catch}
use Rattle.bcj_parser_trees.specs.declared.statement.Stmt.{Stmt}
use Rattle.bcj_parser_trees.specs.Trees as source
use Rattle.bcj_parser_trees.specs.Plain.{stmts_of, catch_of}
use Rattle.bcj_symbolic_trees.specs.declared.type_tree.Ty.{Ty}
use Rattle.bcj_symbolic_trees.specs.declared.type_tree.Ty.TheVariants as ty
use Rattle.bcj_symbolic_trees.proofs.PlainLemmas.{ty-Class}
use Rattle.bcj_symbolic_trees.specs.Trees as tree
use Rattle.bcj_symbolic_trees.specs.Types.{PlainTy, class_type, given, ty_of, types_of}
use Rattle.bcj_decl_rules.specs.World.{Named, type_of}
use Rattle.bcj_typing_rules.specs.declared.kind.Kind.{Kind}
use Rattle.bcj_typing_rules.specs.declared.kind.Kind.TheVariants as kind
use Rattle.bcj_typing_rules.specs.Premises.{need, earliest_missing}
use Rattle.bcj_typing_rules.specs.Context.{Context, with_local, is_known, is_new_local}
use Rattle.bcj_typing_rules.specs.Casting.{uses}
use Rattle.bcj_typing_rules.specs.Expressions.{Typing}
use Rattle.bcj_typing_rules.specs.Statements.{Effect, next_local, first_value, throwable}
use Rattle.bcj_typing_rules.specs.function.Expressions.{result, settled, Answers, fits, type_expr}
use Rattle.bcj_typing_rules.specs.function.Statements.{run, run_all}
use Rattle.bcj_typing_node.specs.declared.form.Variable.{Variable}
use Rattle.bcj_typing_node.specs.declared.miss.Miss.{Miss}
use Rattle.bcj_typing_node.specs.Forms.{locals_of}
use Rattle.bcj_typing_node.specs.Typings.{pairs_of}
use Rattle.bcj_typing_scope.specs.declared.scope.Scope.{Scope}
use Rattle.bcj_typing_scope.specs.Scopes.{answers_in, context_of}
use Rattle.bcj_typing_effect.specs.declared.act.Acted.{Acted}
use Rattle.bcj_typing_effect.specs.declared.act.Acting.{Acting}
use Rattle.bcj_typing_effect.specs.declared.catching.Handled.{Handled}
use Rattle.bcj_typing_effect.specs.Acts.{Act, act, act_of, trees_of}
use Rattle.bcj_typing_effect.specs.Catches.{handling_of, handling_more}
use Rattle.bcj_typing_statement.specs.Scoped.{Keeps}
use Rattle.bcj_typing_statement.specs.Told.{effect_at, effects_at}
use Rattle.bcj_typing_statement.specs.Catches.{behind_at, catch_needs, caught_one}
use Rattle.bcj_typing_statement.proofs.Outcomes.{Misses, found, missed, same_missed, settled_viewed, settled_missed}
use Rattle.bcj_typing_statement.proofs.Scopes.{context_entered, keeps_entered, types_entered}

-- the answers where a local has entered
answers_entered : (a b : Scope) (v : Variable) → b ≡ record a { locals = a.locals ++ v ∷ [] } → answers_in b ≡ answers_in a
answers_entered a b v h = ap answers_in h

-- ---- a declaration

module _ (s t : Scope) (written : TypeName) (name : Named) (ty : Ty) (n at : ℕ) (is : ty_of ty ≡ type_of written) (e : n ≡ length s.types)
    (entered : t ≡ record s { locals = s.locals ++ (record { name = name; ty = ty; number = n }) ∷ [] }) where
  -- the context with the local
  abbrev inside : Context
  inside = with_local (context_of s) (next_local (types_of s.types) name (type_of written))

  -- it is that of the scope with the local
  context_is : context_of t ≡ inside
  context_is =
      context_entered s t name ty n e entered ∙ ap (λ (u : PlainTy). with_local (context_of s) (next_local (types_of s.types) name u)) is

  -- the answers are the same there
  answers_are : answers_in t ≡ answers_in s
  answers_are = answers_entered s t (record { name = name; ty = ty; number = n }) entered

  -- the effect of a declaration with a tree and steps
  abbrev effect : Act → Effect
  effect x =
      record {
        locals = next_local (types_of s.types) name (type_of written) ∷ (context_of s).locals;
        types = types_of s.types ++ type_of written ∷ [];
        tree = x.tree;
        steps = x.steps;
      }

  -- the effect is read off the scope behind the declaration
  effect_is : (w : Scope) (x : Acted) → w ≡ record t { types = t.types ++ ty ∷ [] } → effect (act_of x) ≡ effect_at w x
  effect_is w x grown =
      let locals : locals_of w.locals ≡ next_local (types_of s.types) name (type_of written) ∷ (context_of s).locals =
      ap (λ (u : Scope). locals_of u.locals) grown ∙ ap (λ (c : Context). c.locals) context_is in
      let types : types_of w.types ≡ types_of s.types ++ type_of written ∷ [] =
      types_entered s t w (record { name = name; ty = ty; number = n }) ty entered grown ∙ ap (λ (u : PlainTy). types_of s.types ++ u ∷ []) is in
      λ i. record { locals = sym locals i; types = sym types i; tree = (act_of x).tree; steps = (act_of x).steps }

  -- the number counts the types so far
  number_is : length (types_of s.types) ≡ n
  number_is = length-map s.types ty_of ∙ sym e

  -- ---- with an initialiser

  -- what the initialiser misses the declaration misses
  pub init_missed : (e0 : source.PlainExpr) (m : Miss) → Misses (type_expr (answers_in t) (context_of t) e0) m
      → Misses (run (answers_in s) (context_of s) (types_of s.types) (source.local_variable at written name (source.present e0))) m
  init_missed e0 m h =
      missed (type_expr (answers_in s) inside e0) _ m
      (subst (λ (a : Answers). Misses (type_expr a inside e0) m) answers_are (subst (λ (c : Context). Misses (type_expr (answers_in t) c e0) m) context_is h))

  module _ (v : Typing) (e0 : source.PlainExpr) (typed : type_expr (answers_in t) (context_of t) e0 ≡ result v) (known fit new : Bool)
      (known_is : known ≡ is_known (context_of s) written) (fit_is : fit ≡ fits (answers_in t) v.type (ty_of ty)) (new_is : new ≡ is_new_local (context_of s) name) where
    -- the earliest kind that the declaration lacks
    abbrev missing : Bool → Bool → Bool → Option Kind
    missing k f w = earliest_missing (need kind.Name k ∷ need kind.Assign f ∷ need kind.Local w ∷ [])

    -- the tree and the steps of the declaration
    abbrev made : ℕ → PlainTy → Act
    made m u = act (tree.evaluate (tree.set_local m v.tree)) (v.steps ++ uses v.type u)

    -- the declaration is settled by what it lacks
    found_there : run (answers_in s) (context_of s) (types_of s.types) (source.local_variable at written name (source.present e0)) ≡ settled at (missing known fit new) (effect (made n (ty_of ty)))
    found_there =
        let typed_there : type_expr (answers_in s) inside e0 ≡ result v = (λ i. type_expr (sym answers_are i) (sym context_is i) e0) ∙ typed in
        let fits_there : fits (answers_in s) v.type (type_of written) ≡ fit = (λ i. fits (sym answers_are i) v.type (sym is i)) ∙ sym fit_is in
        found (type_expr (answers_in s) inside e0) _ v typed_there ∙ (λ i. settled at (missing (sym known_is i) (fits_there i) (sym new_is i)) (effect (made (number_is i) (sym is i))))

    -- what was made is what the declaration does
    pub declared_told : (w : Scope) (x : Acted) → settled at (missing known fit new) (made n (ty_of ty)) ≡ result (act_of x) → w ≡ record t { types = t.types ++ ty ∷ [] }
        → run (answers_in s) (context_of s) (types_of s.types) (source.local_variable at written name (source.present e0)) ≡ result (effect_at w x)
    declared_told w x h grown = found_there ∙ settled_viewed effect at (missing known fit new) (made n (ty_of ty)) (act_of x) h ∙ ap result (effect_is w x grown)

    -- what it lacks it misses
    pub declared_missed : (m : Miss) → Misses (settled at (missing known fit new) (made n (ty_of ty))) m
        → Misses (run (answers_in s) (context_of s) (types_of s.types) (source.local_variable at written name (source.present e0))) m
    declared_missed m h =
        same_missed (settled at (missing known fit new) (effect (made n (ty_of ty)))) (run (answers_in s) (context_of s) (types_of s.types) (source.local_variable at written name (source.present e0))) m
        found_there (settled_missed effect at (missing known fit new) (made n (ty_of ty)) m h)

  -- ---- without one

  module _ (known new : Bool) (known_is : known ≡ is_known (context_of s) written) (new_is : new ≡ is_new_local (context_of s) name) where
    -- the earliest kind that it lacks
    abbrev bare_missing : Bool → Bool → Option Kind
    bare_missing k w = earliest_missing (need kind.Name k ∷ need kind.Local w ∷ [])

    -- its tree, which uses no step
    abbrev bare_made : ℕ → PlainTy → Act
    bare_made m u = act (tree.evaluate (tree.set_local m (first_value u))) []

    -- it is settled by what it lacks
    bare_there : run (answers_in s) (context_of s) (types_of s.types) (source.local_variable at written name source.absent) ≡ settled at (bare_missing known new) (effect (bare_made n (ty_of ty)))
    bare_there = λ i. settled at (bare_missing (sym known_is i) (sym new_is i)) (effect (bare_made (number_is i) (sym is i)))

    -- what was made is what it does
    pub bare_told : (w : Scope) (x : Acted) → settled at (bare_missing known new) (bare_made n (ty_of ty)) ≡ result (act_of x) → w ≡ record t { types = t.types ++ ty ∷ [] }
        → run (answers_in s) (context_of s) (types_of s.types) (source.local_variable at written name source.absent) ≡ result (effect_at w x)
    bare_told w x h grown = bare_there ∙ settled_viewed effect at (bare_missing known new) (bare_made n (ty_of ty)) (act_of x) h ∙ ap result (effect_is w x grown)

    -- what it lacks it misses
    pub bare_missed : (m : Miss) → Misses (settled at (bare_missing known new) (bare_made n (ty_of ty))) m
        → Misses (run (answers_in s) (context_of s) (types_of s.types) (source.local_variable at written name source.absent)) m
    bare_missed m h =
        same_missed (settled at (bare_missing known new) (effect (bare_made n (ty_of ty)))) (run (answers_in s) (context_of s) (types_of s.types) (source.local_variable at written name source.absent)) m
        bare_there (settled_missed effect at (bare_missing known new) (bare_made n (ty_of ty)) m h)

-- ---- a catch

module _ (s t u : Scope) (one : Catch) (class : Named) (k : ℕ) (class_is : class ≡ one.class) (k_is : k ≡ length s.types)
    (entered : t ≡ record s { locals = s.locals ++ (record { name = one.name; ty = ty.Class class; number = k }) ∷ [] })
    (grown : u ≡ record t { types = t.types ++ ty.Class class ∷ [] }) where
  -- the local of the catch
  abbrev variable : Variable
  variable = record { name = one.name; ty = ty.Class class; number = k }

  -- its type is the caught class
  ty_is : ty_of (ty.Class class) ≡ class_type one.class
  ty_is = ty-Class class ∙ ap class_type class_is

  -- the context of the block
  abbrev in_catch : Context
  in_catch = with_local (context_of s) (next_local (types_of s.types) one.name (class_type one.class))

  -- it is that of the scope with the local
  catch_context : context_of u ≡ in_catch
  catch_context =
      ap context_of grown
      ∙ (context_entered s t one.name (ty.Class class) k k_is entered ∙ ap (λ (v : PlainTy). with_local (context_of s) (next_local (types_of s.types) one.name v)) ty_is)

  -- the answers are the same there
  catch_answers : answers_in u ≡ answers_in s
  catch_answers = ap answers_in grown ∙ answers_entered s t variable entered

  -- the types of all locals, with that of the catch
  catch_types : types_of u.types ≡ types_of s.types ++ class_type one.class ∷ []
  catch_types = types_entered s t u variable (ty.Class class) entered grown ∙ ap (λ (v : PlainTy). types_of s.types ++ v ∷ []) ty_is

  -- the block, where it is typed
  block_is : (body : List Stmt) → body ≡ one.body → run_all (answers_in s) in_catch (types_of s.types ++ class_type one.class ∷ []) (stmts_of one.body) ≡ run_all (answers_in u) (context_of u) (types_of u.types) (stmts_of body)
  block_is body body_is = λ i. run_all (sym catch_answers i) (sym catch_context i) (sym catch_types i) (stmts_of (sym body_is i))

  -- the scope with the local keeps the one before
  pub catch_keeps : Keeps s u
  catch_keeps = keeps_entered s t u variable (ty.Class class) entered grown

  -- what was made is what the catch does behind others
  pub handler_told : (m w : Scope) (n : ℕ) (body : List Stmt) (b : Acting) (h h0 : Handled) (to : PlainTy) (missing : Option Kind)
      → body ≡ one.body → run_all (answers_in u) (context_of u) (types_of u.types) (stmts_of body) ≡ result (effects_at m b)
      → w ≡ record m { locals = take n m.locals } → to ≡ throwable → missing ≡ earliest_missing (catch_needs (answers_in s) (context_of s) one.class one.name)
      → handling_of h ≡ handling_more (handling_of h0) (record { class = one.class; local = k; body = tree.stmts_from (trees_of b) }) (uses (given (class_type one.class)) to ++ pairs_of b.steps) missing
      → caught_one (answers_in s) (context_of s) (types_of s.types) (handling_of h0) (catch_of one) ≡ result (behind_at w h)
  handler_told m w n body b h h0 to missing body_is ran left to_is missing_is is =
      let types_left : types_of m.types ≡ types_of w.types = sym (ap (λ (x : Scope). types_of x.types) left) in
      let number : length (types_of s.types) ≡ k = length-map s.types ty_of ∙ sym k_is in
      let all : handling_more (handling_of h0) (record { class = one.class; local = length (types_of s.types); body = tree.stmts_from (trees_of b) }) (uses (given (class_type one.class)) throwable ++ pairs_of b.steps)
      (earliest_missing (catch_needs (answers_in s) (context_of s) one.class one.name)) ≡ handling_of h =
      (λ i. handling_more (handling_of h0) (record { class = one.class; local = number i; body = tree.stmts_from (trees_of b) }) (uses (given (class_type one.class)) (sym to_is i) ++ pairs_of b.steps) (sym missing_is i)) ∙ sym is in
      found (run_all (answers_in s) in_catch (types_of s.types ++ class_type one.class ∷ []) (stmts_of one.body)) _ (effects_at m b) (block_is body body_is ∙ ran)
      ∙ (λ i. result (record { types = types_left i; all = all i }))

  -- what its block misses it misses
  pub handler_missed : (body : List Stmt) (h0 : Handled) (e : Miss) → body ≡ one.body → Misses (run_all (answers_in u) (context_of u) (types_of u.types) (stmts_of body)) e
      → Misses (caught_one (answers_in s) (context_of s) (types_of s.types) (handling_of h0) (catch_of one)) e
  handler_missed body h0 e body_is m =
      missed (run_all (answers_in s) in_catch (types_of s.types ++ class_type one.class ∷ []) (stmts_of one.body)) _ e
      (same_missed (run_all (answers_in u) (context_of u) (types_of u.types) (stmts_of body)) (run_all (answers_in s) in_catch (types_of s.types ++ class_type one.class ∷ []) (stmts_of one.body)) e (block_is body body_is) m)
