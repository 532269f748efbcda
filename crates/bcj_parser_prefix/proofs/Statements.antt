-- Statements in two rooms.
use Rattle.std.proofs.Common.{◌≡◌, ℕ, zero, suc, Bool, true, false, ◌||◌, List, [], Err, if◌then◌else◌, refl, ap}
use Rattle.bcj_parser_trees.specs.declared.names.Base.TheVariants as base
use Rattle.bcj_parser_trees.specs.declared.names.TypeName.{TypeName}
use Rattle.bcj_parser_trees.specs.Trees.{PlainStmt}
use Rattle.bcj_parser_rules.specs.declared.kind.Mark.{Mark}
use Rattle.bcj_parser_rules.specs.declared.kind.Mark.TheVariants as mark
use Rattle.bcj_parser_rules.specs.declared.kind.TypeBeginning.{TypeBeginning}
use Rattle.bcj_parser_rules.specs.declared.kind.TypeBeginning.TheVariants as typed
use Rattle.bcj_parser_rules.specs.declared.kind.Heading.{Heading}
use Rattle.bcj_parser_rules.specs.declared.kind.Heading.TheVariants as heading
use Rattle.bcj_parser_rules.specs.declared.terminal.Terminal.{Terminal}
use Rattle.bcj_parser_rules.specs.declared.stop.Site.{Site}
use Rattle.bcj_parser_rules.specs.declared.stop.Site.TheVariants as site
use Rattle.bcj_parser_rules.specs.declared.stop.Stop.TheVariants.{Refused}
use Rattle.bcj_parser_rules.specs.Lexemes.{Lexemes}
use Rattle.bcj_parser_rules.specs.Lexemes.{first_at}
use Rattle.bcj_parser_rules.specs.Lexemes.{terminal_at}
use Rattle.bcj_parser_rules.specs.Marks.{is_mark}
use Rattle.bcj_parser_rules.specs.function.Kinds.{beginning, type_beginning, heading_of}
use Rattle.bcj_parser_rules.specs.function.Steps.{Parser, then_read, ◌>>=◌, ◌>>◌, pure, refuse, deep, expect}
use Rattle.bcj_parser_rules.specs.function.Expressions.{Begin, fresh, behind_name, behind_bracket, behind_this, behind_super, start_of, Read, Inner, begins, is_step, statement_expression}
use Rattle.bcj_parser_rules.specs.function.Statements.{variable_behind, further_variable, site_of_variables, variables_behind, variables, Nodes, locals_of_type, typed_locals, array_locals, bracket_local, named_local, local_by, local_or, evaluation_node, evaluated, evaluations, condition, maybe_expression, init_evaluations, for_init, for_update, is_inside, block_evaluation, roomless_local, block_statement, statements_from, block, otherwise, if_statement, while_statement, do_statement, for_statement, throw_statement, catch_clause, catch_clauses, try_statement, statement_by, roomless_by, statement}
use Rattle.bcj_parser_prefix.proofs.Agreement.{Match, agree_any, agree_is, agree_bind, agree_behind, agree_then, agree_pure, agree_refuse, agree_deep, agree_lost, agree_at, agree_look, agree_here, agree_if, agree_choice, agree_taken, agree_skip, agree_expect, agree_named, agree_look_roomless}
use Rattle.bcj_parser_prefix.proofs.Rooms.{Rooms, both_none, none_below, both_more}
use Rattle.bcj_parser_prefix.proofs.Expressions.{agree_listed, agree_many, agree_brackets, agree_type_name, InnerAgrees, start_same, agree_expression, fresh_refused, agree_statement_expression}

-- ---- variables

module _ {strict full : Bool} {inner inner' : Inner} (h : InnerAgrees strict full inner inner') where
  agree_variable_behind : (x : List ℕ) → Match false strict full (variable_behind inner x) (variable_behind inner' x)
  unfolding variable_behind
  agree_variable_behind x = agree_if (is_mark mark.Assign) (agree_skip (agree_bind (h fresh 1) (λ e. agree_pure))) agree_pure

  agree_further_variable : Match false strict full (further_variable inner) (further_variable inner')
  unfolding further_variable
  agree_further_variable = agree_bind (agree_named site.Variable) (λ x. agree_variable_behind x)

  pub agree_variables_behind : (w : Site) (x : List ℕ) → Match false strict full (variables_behind inner w x) (variables_behind inner' w x)
  unfolding variables_behind
  agree_variables_behind w x = agree_bind (agree_listed (agree_variable_behind x) agree_further_variable) (λ vs. agree_then (agree_expect mark.Semicolon (site_of_variables w vs.0)) agree_pure)

  agree_variables : (w : Site) → Match false strict full (variables inner w) (variables inner' w)
  unfolding variables
  agree_variables w = agree_bind (agree_named site.TypeName) (λ x. agree_variables_behind w x)

-- ---- what begins as a declaration of locals or as an expression

module _ {strict full : Bool} where
  agree_locals_of_type : {n n' : ℕ} → Rooms strict n n' → (w : Site) (at : ℕ) (ty : TypeName) → Match false strict full (locals_of_type n w at ty) (locals_of_type n' w at ty)
  unfolding locals_of_type
  agree_locals_of_type r w at ty = agree_bind (agree_variables (λ b l. agree_expression r b l) w) (λ vs. agree_pure)

  agree_typed_locals : {some : Bool} {n n' : ℕ} → Rooms strict n n' → (w : Site) (at : ℕ) → Match some strict full (typed_locals n w at) (typed_locals n' w at)
  unfolding typed_locals
  agree_typed_locals r w at = agree_bind (agree_type_name site.Elsewhere r) (λ ty. agree_locals_of_type r w at ty)

  agree_array_locals : {n n' : ℕ} → Rooms strict n n' → (w : Site) (at : ℕ) (x : List ℕ) → Match false strict full (array_locals n w at x) (array_locals n' w at x)
  unfolding array_locals
  agree_array_locals r w at x = agree_bind (agree_brackets site.Elsewhere 1 r) (λ d. agree_locals_of_type (both_more r) w at (record { base = base.Named x; dims = d }))

  module _ {evaluation evaluation' : Begin → Parser Nodes} (h : (b : Begin) → Match false strict full (evaluation b) (evaluation' b)) where
    agree_bracket_local : {n n' : ℕ} → Rooms strict n n' → (w : Site) (at : ℕ) (x : List ℕ) → Match false strict full (bracket_local n w evaluation at x) (bracket_local n' w evaluation' at x)
    agree_bracket_local both_none w at x = agree_deep (λ s i. refl)
    agree_bracket_local (none_below e) w at x = agree_lost e
    agree_bracket_local (both_more r) w at x = agree_skip (agree_if (is_mark mark.RightBracket) (agree_skip (agree_array_locals r w at x)) (h (behind_bracket at x)))

    agree_named_local : {n n' : ℕ} → Rooms strict n n' → (w : Site) (at : ℕ) (x : List ℕ) → Match false strict full (named_local n w evaluation at x) (named_local n' w evaluation' at x)
    unfolding named_local
    agree_named_local r w at x = agree_if (is_mark mark.Identifier) (agree_locals_of_type r w at _) (agree_if (is_mark mark.LeftBracket) (agree_bracket_local r w at x) (h (behind_name at x)))

    agree_local_or : {some : Bool} {n n' : ℕ} → Rooms strict n n' → (w : Site) → Match some strict full (evaluation fresh) (evaluation' fresh)
        → Match some strict full (local_or n w evaluation) (local_or n' w evaluation')
    unfolding local_or
    agree_local_or {some = some} {n = n} {n' = n'} r w t = agree_here (λ at. agree_look (λ k. by at (type_beginning k)))
      where
        by : (at : ℕ) (k : TypeBeginning) → Match some strict full (local_by n w evaluation at k) (local_by n' w evaluation' at k)
        by at typed.Int = agree_typed_locals r w at
        by at typed.Bool = agree_typed_locals r w at
        by at typed.Name = agree_taken (λ x. agree_named_local r w at x.word)
        by at typed.Nothing = t

  -- ---- expression statements

  pub agree_evaluated : {some : Bool} {n n' : ℕ} → Rooms strict n n' → (b : Begin) (w : Site) → Match some strict full (evaluated n b w) (evaluated n' b w)
  unfolding evaluated
  agree_evaluated {n = n} {n' = n'} r b w = agree_at (start_of b) (start_same b) {f = λ at. statement_expression n b w >>= λ x. expect mark.Semicolon site.Elsewhere >> pure (evaluation_node at x)}
      {g = λ at. statement_expression n' b w >>= λ x. expect mark.Semicolon site.Elsewhere >> pure (evaluation_node at x)}
      (λ at. agree_behind (agree_statement_expression r b w) (λ x. agree_then (agree_expect mark.Semicolon site.Elsewhere) agree_pure))

  agree_evaluations : {n n' : ℕ} → Rooms strict n n' → (b : Begin) (w : Site) (closing : Mark) → Match false strict full (evaluations n b w closing) (evaluations n' b w closing)
  unfolding evaluations
  agree_evaluations r b w closing = agree_bind (agree_listed (agree_statement_expression r b w) (agree_statement_expression r fresh site.Elsewhere))
      (λ es. agree_then (agree_expect closing site.Elsewhere) agree_pure)

  -- ---- the parts of statements

  agree_condition : {some : Bool} {n n' : ℕ} → Rooms strict n n' → Match some strict full (condition n) (condition n')
  unfolding condition
  agree_condition r = agree_then (agree_expect mark.LeftParen site.Elsewhere) (agree_bind (agree_expression r fresh 1) (λ c. agree_then (agree_expect mark.RightParen site.Elsewhere) agree_pure))

  agree_maybe_expression : {n n' : ℕ} → Rooms strict n n' → Match false strict full (maybe_expression n) (maybe_expression n')
  unfolding maybe_expression
  agree_maybe_expression r = agree_if (is_mark mark.Semicolon) (agree_skip agree_pure) (agree_bind (agree_expression r fresh 1) (λ x. agree_then (agree_expect mark.Semicolon site.Elsewhere) agree_pure))

  agree_init_evaluations : {n n' : ℕ} → Rooms strict n n' → (b : Begin) → Match false strict full (init_evaluations n b) (init_evaluations n' b)
  unfolding init_evaluations
  agree_init_evaluations r b = agree_bind (agree_evaluations r b site.TypeName mark.Semicolon) (λ es. agree_pure)

  agree_for_init : {n n' : ℕ} → Rooms strict n n' → Match false strict full (for_init n) (for_init n')
  unfolding for_init
  agree_for_init r = agree_if (is_mark mark.Semicolon) (agree_skip agree_pure) (agree_local_or (λ b. agree_init_evaluations r b) r site.LoopName (agree_init_evaluations r fresh))

  agree_for_update : {n n' : ℕ} → Rooms strict n n' → Match false strict full (for_update n) (for_update n')
  unfolding for_update
  agree_for_update r = agree_if (is_mark mark.RightParen) (agree_skip agree_pure) (agree_bind (agree_evaluations r fresh site.Elsewhere mark.RightParen) (λ es. agree_pure))

  agree_throw_statement : {n n' : ℕ} → Rooms strict n n' → (at : ℕ) → Match true strict full (throw_statement n at) (throw_statement n' at)
  unfolding throw_statement
  agree_throw_statement both_none at = agree_deep (λ s i. refl)
  agree_throw_statement (none_below e) at = agree_lost e
  agree_throw_statement (both_more r) at = agree_skip (agree_bind (agree_expression (both_more r) fresh 1) (λ x. agree_then (agree_expect mark.Semicolon site.Elsewhere) agree_pure))

-- ---- statements, over those that are parts

module _ {strict full : Bool} {part part' : Parser (PlainStmt × ℕ)} (h : Match true strict full part part') where
  agree_block_evaluation : {n n' : ℕ} → Rooms strict n n' → (b : Begin) → Match true strict full (block_evaluation n part b) (block_evaluation n' part' b)
  agree_block_evaluation r fresh = agree_bind h (λ x. agree_pure)
  agree_block_evaluation r (behind_name at x) = agree_bind (agree_evaluated r (behind_name at x) site.DeclarationName) (λ y. agree_pure)
  agree_block_evaluation r (behind_bracket at x) = agree_bind (agree_evaluated r (behind_bracket at x) site.DeclarationName) (λ y. agree_pure)
  agree_block_evaluation r (behind_this at) = agree_bind (agree_evaluated r (behind_this at) site.DeclarationName) (λ y. agree_pure)
  agree_block_evaluation r (behind_super at) = agree_bind (agree_evaluated r (behind_super at) site.DeclarationName) (λ y. agree_pure)

  agree_block_statement : {n n' : ℕ} → Rooms strict n n' → Match true strict full (block_statement n part) (block_statement n' part')
  unfolding block_statement local_or
  agree_block_statement both_none = agree_look (λ k. by (type_beginning k))
    where
      by : (k : TypeBeginning) → Match true strict full (roomless_local part k) (roomless_local part' k)
      by typed.Nothing = agree_bind h (λ x. agree_pure)
      by _ = agree_deep (λ s i. refl)
  agree_block_statement (none_below {n = n'} e) = agree_here {f = λ at. block_statement zero part} (λ at. agree_look (λ k. by at (type_beginning k)))
    where
      by : (at : ℕ) (k : TypeBeginning) → Match true strict full (roomless_local part k) (local_by n' site.DeclaredName (block_evaluation n' part') at k)
      by at typed.Int = agree_lost e
      by at typed.Bool = agree_lost e
      by at typed.Name = agree_lost e
      by at typed.Nothing = agree_bind h (λ x. agree_pure)
  agree_block_statement (both_more r) = agree_local_or (λ b. agree_any (agree_block_evaluation r b)) r site.DeclaredName (agree_block_evaluation r fresh)

  pub agree_statements_from : {n n' : ℕ} → Rooms strict n n' → (found : List PlainStmt) (high : ℕ) → Match false strict full (statements_from n part found high) (statements_from n' part' found high)
  unfolding statements_from
  agree_statements_from r found high = agree_many is_inside found high (agree_block_statement r)

  pub agree_block : {some : Bool} {n n' : ℕ} → Rooms strict n n' → (w : Site) → Match some strict full (block n part w) (block n' part' w)
  unfolding block
  agree_block r w = agree_then (agree_expect mark.LeftBrace w) (agree_bind (agree_statements_from r [] 0) (λ ss. agree_then (agree_expect mark.RightBrace site.Elsewhere) agree_pure))

  agree_otherwise : (at : ℕ) (c : Read) (x : PlainStmt × ℕ) → Match false strict full (otherwise part at c x) (otherwise part' at c x)
  unfolding otherwise
  agree_otherwise at c x = agree_if (is_mark mark.Else) (agree_skip (agree_bind (agree_any h) (λ y. agree_pure))) agree_pure

  agree_if_statement : {n n' : ℕ} → Rooms strict n n' → (at : ℕ) → Match true strict full (if_statement n part at) (if_statement n' part' at)
  unfolding if_statement
  agree_if_statement both_none at = agree_deep (λ s i. refl)
  agree_if_statement (none_below e) at = agree_lost e
  agree_if_statement (both_more r) at = agree_skip (agree_bind (agree_condition (both_more r)) (λ c. agree_bind (agree_any h) (λ x. agree_otherwise at c x)))

  agree_while_statement : {n n' : ℕ} → Rooms strict n n' → (at : ℕ) → Match true strict full (while_statement n part at) (while_statement n' part' at)
  unfolding while_statement
  agree_while_statement both_none at = agree_deep (λ s i. refl)
  agree_while_statement (none_below e) at = agree_lost e
  agree_while_statement (both_more r) at = agree_skip (agree_bind (agree_condition (both_more r)) (λ c. agree_bind (agree_any h) (λ x. agree_pure)))

  agree_do_statement : {n n' : ℕ} → Rooms strict n n' → (at : ℕ) → Match true strict full (do_statement n part at) (do_statement n' part' at)
  unfolding do_statement
  agree_do_statement both_none at = agree_deep (λ s i. refl)
  agree_do_statement (none_below e) at = agree_lost e
  agree_do_statement (both_more r) at = agree_skip (agree_bind (agree_any h) (λ x. agree_then (agree_expect mark.While site.Elsewhere) (agree_bind (agree_condition (both_more r))
      (λ c. agree_then (agree_expect mark.Semicolon site.Elsewhere) agree_pure))))

  agree_for_statement : {n n' : ℕ} → Rooms strict n n' → (at : ℕ) → Match true strict full (for_statement n part at) (for_statement n' part' at)
  unfolding for_statement
  agree_for_statement both_none at = agree_deep (λ s i. refl)
  agree_for_statement (none_below e) at = agree_lost e
  agree_for_statement (both_more r) at = agree_skip (agree_then (agree_expect mark.LeftParen site.Elsewhere) (agree_bind (agree_for_init r) (λ is. agree_bind (agree_maybe_expression (both_more r))
      (λ c. agree_bind (agree_for_update (both_more r)) (λ es. agree_bind (agree_any h) (λ x. agree_pure))))))

  agree_catch_clause : {n n' : ℕ} → Rooms strict n n' → {some : Bool} → Match some strict full (catch_clause n part) (catch_clause n' part')
  unfolding catch_clause
  agree_catch_clause r = agree_then (agree_expect mark.Catch site.Elsewhere) (agree_then (agree_expect mark.LeftParen site.Elsewhere) (agree_bind (agree_named site.Catch) (λ c. agree_bind (agree_named site.CatchClass)
      (λ x. agree_then (agree_expect mark.RightParen site.CatchName) (agree_bind (agree_block r site.Elsewhere) (λ ss. agree_pure))))))

  agree_catch_clauses : {n n' : ℕ} → Rooms strict n n' → Match false strict full (catch_clauses n part) (catch_clauses n' part')
  unfolding catch_clauses
  agree_catch_clauses r = agree_bind (agree_catch_clause r) (λ c. agree_many (is_mark mark.Catch) c.0 c.1 (agree_catch_clause r))

  agree_try_statement : {n n' : ℕ} → Rooms strict n n' → (at : ℕ) → Match true strict full (try_statement n part at) (try_statement n' part' at)
  unfolding try_statement
  agree_try_statement r at = agree_skip (agree_bind (agree_block r site.Elsewhere) (λ ss. agree_bind (agree_catch_clauses r) (λ cs. agree_pure)))

  agree_statement_by : {n n' : ℕ} → Rooms strict n n' → (at : ℕ) (k : Heading) → Match true strict full (statement_by n part at k) (statement_by n' part' at k)
  agree_statement_by r at heading.Block = agree_bind (agree_block r site.Elsewhere) (λ ss. agree_pure)
  agree_statement_by r at heading.Empty = agree_skip agree_pure
  agree_statement_by r at heading.If = agree_if_statement r at
  agree_statement_by r at heading.While = agree_while_statement r at
  agree_statement_by r at heading.Do = agree_do_statement r at
  agree_statement_by r at heading.For = agree_for_statement r at
  agree_statement_by r at heading.Return = agree_skip (agree_bind (agree_maybe_expression r) (λ v. agree_pure))
  agree_statement_by r at heading.Throw = agree_throw_statement r at
  agree_statement_by r at heading.Break = agree_skip (agree_then (agree_expect mark.Semicolon site.Elsewhere) agree_pure)
  agree_statement_by r at heading.Continue = agree_skip (agree_then (agree_expect mark.Semicolon site.Elsewhere) agree_pure)
  agree_statement_by r at heading.Try = agree_try_statement r at
  agree_statement_by r at heading.Other = agree_evaluated r fresh site.StatementName

-- ---- statements

-- whether a statement may begin so
abbrev begins_by : Terminal → Heading → Bool
begins_by k heading.Other = begins 14 (beginning k) || is_step (beginning k)
begins_by k _ = true

roomless_is : (i : Lexemes) (k : Heading) → (if begins_by (terminal_at i) k then deep else refuse site.Elsewhere) i ≡ roomless_by (terminal_at i) k i
roomless_is i heading.Other = refl
roomless_is i heading.Block = refl
roomless_is i heading.Empty = refl
roomless_is i heading.If = refl
roomless_is i heading.While = refl
roomless_is i heading.Do = refl
roomless_is i heading.For = refl
roomless_is i heading.Return = refl
roomless_is i heading.Throw = refl
roomless_is i heading.Break = refl
roomless_is i heading.Continue = refl
roomless_is i heading.Try = refl

-- what begins none is refused in any room
statement_refused : (n : ℕ) (i : Lexemes) → begins_by (terminal_at i) (heading_of (terminal_at i)) ≡ false → statement (suc n) i ≡ (Err (Refused site.Elsewhere), i)
unfolding statement evaluated
statement_refused n i = by (heading_of (terminal_at i))
  where
    by : (k : Heading) → begins_by (terminal_at i) k ≡ false → statement_by n (statement n) (first_at i) k i ≡ (Err (Refused site.Elsewhere), i)
    by heading.Other h = ap (λ o. then_read o (λ x. expect mark.Semicolon site.Elsewhere >> pure (evaluation_node (first_at i) x))) (fresh_refused n site.StatementName i h)
    by heading.Block h = absurd (cc)
    by heading.Empty h = absurd (cc)
    by heading.If h = absurd (cc)
    by heading.While h = absurd (cc)
    by heading.Do h = absurd (cc)
    by heading.For h = absurd (cc)
    by heading.Return h = absurd (cc)
    by heading.Throw h = absurd (cc)
    by heading.Break h = absurd (cc)
    by heading.Continue h = absurd (cc)
    by heading.Try h = absurd (cc)

agree_no_statement : {strict full : Bool} → Match true strict full (statement zero) (statement zero)
unfolding statement
agree_no_statement {strict = strict} {full = full} = agree_look (λ k. by k (heading_of k))
  where
    by : (k : Terminal) (g : Heading) → Match true strict full (roomless_by k g) (roomless_by k g)
    by k heading.Other = agree_choice (begins 14 (beginning k) || is_step (beginning k)) (agree_deep (λ s i. refl)) agree_refuse
    by k _ = agree_deep (λ s i. refl)

lost_statement : {strict full : Bool} (n : ℕ) → strict ≡ false → Match true strict full (statement zero) (statement (suc n))
unfolding statement
lost_statement n e = agree_is (λ i. roomless_is i (heading_of (terminal_at i))) (agree_look_roomless (λ k. begins_by k (heading_of k)) site.Elsewhere e (λ i h. statement_refused n i h))

pub agree_statement : {strict full : Bool} {n n' : ℕ} → Rooms strict n n' → Match true strict full (statement n) (statement n')
unfolding statement
agree_statement both_none = agree_no_statement
agree_statement (none_below {n = n'} e) = lost_statement n' e
agree_statement (both_more r) = agree_here (λ at. agree_look (λ k. agree_statement_by (agree_statement r) r at (heading_of k)))
