-- Arguments, one after the other.
use Rattle.std.proofs.Common.{◌≡◌, refl, sym, ◌∙◌, ap, subst, ℕ, ◌+◌, ◌<◌, ◌≤◌, List, [], ◌∷◌, ◌++◌, drop, length, get_or, map, append_assoc, append-nil, Result, Ok, Err}
use Rattle.std.proofs.lemmas.List.{drop_more, drop_all, map-append}
use Rattle.bcj_parser_trees.specs.declared.expression.Expr.{Expr}
use Rattle.bcj_parser_trees.specs.Plain.{expr_of, exprs_of}
use Rattle.bcj_typing_rules.specs.Context.{Context}
use Rattle.bcj_typing_rules.specs.Expressions as rules
use Rattle.bcj_typing_rules.specs.function.Expressions.{Outcome, result, fault, and_then, Answers, type_expr, type_exprs}
use Rattle.bcj_typing_node.specs.declared.miss.Miss.{Miss}
use Rattle.bcj_typing_node.specs.declared.miss.Miss.TheVariants.{Untyped, NoMemory}
use Rattle.bcj_typing_node.specs.declared.typing.Typing.{Typing}
use Rattle.bcj_typing_node.specs.Outcomes.{Tells}
use Rattle.bcj_typing_node.specs.Typings.{typing_of, typings_of}

-- the typings of the first arguments, and of the others behind them, are those of all
pub record SoFar (a : Answers) (c : Context) (all : List Expr) (typed : List Typing) (rest : List Expr) : Type 0 where
  pub is : type_exprs a c (exprs_of all) ≡ and_then (type_exprs a c (exprs_of rest)) (λ ts. result (typings_of typed ++ ts))

-- no typings in front
unchanged : (o : Outcome (List rules.Typing)) → o ≡ and_then o (λ ts. result ([] ++ ts))
unchanged (result ts) = refl
unchanged (fault at k) = refl

-- one more in front
regrouped : (o : Outcome (List rules.Typing)) (t : rules.Typing) (us : List rules.Typing)
    → and_then (and_then o (λ ts. result (t ∷ ts))) (λ ts. result (us ++ ts)) ≡ and_then o (λ ts. result ((us ++ t ∷ []) ++ ts))
regrouped (result ts) t us = ap result (sym (append_assoc us (t ∷ []) ts))
regrouped (fault at k) t us = refl

module _ (a : Answers) (c : Context) where
  -- before the first argument
  pub far_begin : (all : List Expr) (typed : List Typing) → typed ≡ [] → SoFar a c all typed (drop 0 all)
  far_begin all typed none = subst (λ (l : List Typing). SoFar a c all l (drop 0 all)) (sym none) (record { is = unchanged (type_exprs a c (exprs_of all)) })

  -- the next argument stands first in the rest
  next : (all : List Expr) (typed : List Typing) (i : ℕ) (e : Expr) → i < length all → e ≡ get_or all i e → SoFar a c all typed (drop i all)
      → type_exprs a c (exprs_of all)
      ≡ and_then (and_then (type_expr a c (expr_of e)) (λ t. and_then (type_exprs a c (exprs_of (drop (i + 1) all))) (λ ts. result (t ∷ ts)))) (λ ts. result (typings_of typed ++ ts))
  next all typed i e h is far =
      far.is ∙ ap (λ (l : List Expr). and_then (type_exprs a c (exprs_of l)) (λ ts. result (typings_of typed ++ ts))) (drop_more all i e h ∙ ap (λ (x : Expr). x ∷ drop (i + 1) all) (sym is))

  -- behind an argument that is typed
  pub far_more : (all : List Expr) (typed : List Typing) (i : ℕ) (e : Expr) (t : Typing) (more : List Typing) → i < length all → e ≡ get_or all i e
      → Tells typing_of (type_expr a c (expr_of e)) (Ok t) → more ≡ typed ++ t ∷ [] → SoFar a c all typed (drop i all) → SoFar a c all more (drop (i + 1) all)
  far_more all typed i e t more h is typing em far = record {
    is =
        next all typed i e h is far
        ∙ ap (λ o. and_then (and_then o (λ u. and_then (type_exprs a c (exprs_of (drop (i + 1) all))) (λ ts. result (u ∷ ts)))) (λ ts. result (typings_of typed ++ ts))) typing
        ∙ regrouped (type_exprs a c (exprs_of (drop (i + 1) all))) (typing_of t) (typings_of typed)
        ∙ ap (λ (us : List rules.Typing). and_then (type_exprs a c (exprs_of (drop (i + 1) all))) (λ ts. result (us ++ ts))) (sym (ap typings_of em ∙ map-append typing_of typed (t ∷ [])));
  }

  -- an argument at fault
  far_fault : (all : List Expr) (typed : List Typing) (i : ℕ) (e : Expr) (m : Miss) → i < length all → e ≡ get_or all i e
      → Tells typing_of (type_expr a c (expr_of e)) (Err m) → SoFar a c all typed (drop i all) → Tells typings_of (type_exprs a c (exprs_of all)) (Err m)
  far_fault all typed i e (Untyped at k) h is typing far =
      next all typed i e h is far
      ∙ ap (λ o. and_then (and_then o (λ u. and_then (type_exprs a c (exprs_of (drop (i + 1) all))) (λ ts. result (u ∷ ts)))) (λ ts. result (typings_of typed ++ ts))) typing
  far_fault all typed i e NoMemory h is typing far = tt

  -- the same of the result that passes it on
  pub far_stops : (all : List Expr) (typed : List Typing) (i : ℕ) (e : Expr) (m : Miss) (r : Result (List Typing) Miss) → i < length all → e ≡ get_or all i e → r ≡ Err m
      → Tells typing_of (type_expr a c (expr_of e)) (Err m) → SoFar a c all typed (drop i all) → Tells typings_of (type_exprs a c (exprs_of all)) r
  far_stops all typed i e m r h is q typing far =
      subst (λ (s : Result (List Typing) Miss). Tells typings_of (type_exprs a c (exprs_of all)) s) (sym q) (far_fault all typed i e m h is typing far)

  -- behind the last argument
  pub far_done : (all : List Expr) (typed : List Typing) (i : ℕ) → length all ≤ i → SoFar a c all typed (drop i all) → type_exprs a c (exprs_of all) ≡ result (typings_of typed)
  far_done all typed i h far =
      far.is
      ∙ ap (λ (l : List Expr). and_then (type_exprs a c (exprs_of l)) (λ ts. result (typings_of typed ++ ts))) (drop_all i all h)
      ∙ ap result (append-nil (typings_of typed))
