-- The names in scope, the one declared last first.
use Rattle.std.proofs.Common.{◌≡◌, ℕ, suc, ◌-◌, ◌<◌, ◌≤◌, Bool, true, false, ◌||◌, List, [], ◌∷◌, ◌++◌, length, take, drop, sym, ap, ◌∙◌, refl, arith, reverse, get_or, length-drop, length-append, append_assoc}
use Rattle.std.specs.Str.{bytes_eq}
use Rattle.std.proofs.lemmas.List.{reverse-append, length-reverse, take-append-drop}
use Rattle.std.proofs.Math.Seq.{drop-append_seam, take-suc}
use Rattle.bcj_parser_trees.specs.Trees.{PlainStmt, local_variable, block, empty, evaluate, if_else, while_loop, do_loop, for_loop, return_with, throw, break_loop, continue_loop, try_catch, PlainStmts, no_stmts, more_stmts, PlainElse, no_else, else_with}
use Rattle.bcj_cli_unit.specs.Kinds.{is_among}
use Rattle.bcj_cli_unit.specs.Lacking.{ScopeState, behind, behind_all, else_behind, leave}

reverse_take : (xs : List (List ℕ)) (n : ℕ) → reverse (take n xs) ≡ drop (length (reverse xs) - n) (reverse xs)
reverse_take xs n =
    let parts : reverse xs ≡ reverse (drop n xs) ++ reverse (take n xs) = ap reverse (sym (take-append-drop n xs)) ∙ reverse-append (take n xs) (drop n xs) in
    let long : length (reverse xs) - n ≡ length (reverse (drop n xs)) = omega (arith, length-reverse xs, length-reverse (drop n xs), length-drop n xs) in
    sym (ap (λ k. drop k (reverse xs)) long ∙ ap (drop (length (reverse (drop n xs)))) parts ∙ drop-append_seam (reverse (drop n xs)) (reverse (take n xs)))

reverse_more : (xs : List (List ℕ)) (i : ℕ) (d : List ℕ) → i < length xs → reverse (take (suc i) xs) ≡ get_or xs i d ∷ reverse (take i xs)
reverse_more xs i d h = ap reverse (take-suc xs i d h) ∙ reverse-append (take i xs) (get_or xs i d ∷ [])

one_less : (i : ℕ) → 0 < i → suc (i - 1) ≡ i
one_less i h = omega arith

among_split : (xs : List (List ℕ)) (i : ℕ) (d x : List ℕ) → 0 < i → i ≤ length xs → is_among (reverse (take i xs)) x ≡ bytes_eq (get_or xs (i - 1) d) x || is_among (reverse (take (i - 1) xs)) x
among_split xs i d x above le = ap (λ k. is_among (reverse (take k xs)) x) (sym (one_less i above)) ∙ ap (λ l. is_among l x) (reverse_more xs (i - 1) d (omega arith))

-- the name at i - 1 is the one, or the search goes on below it
pub among_found : (xs : List (List ℕ)) (i : ℕ) (r x y : List ℕ) (t : Bool) → 0 < i → i ≤ length xs → r ≡ get_or xs (i - 1) r → y ≡ r → t ≡ bytes_eq y x → t ≡ true → is_among (reverse (take i xs)) x ≡ true
among_found xs i r x y t above le is ey et e =
    let same : bytes_eq (get_or xs (i - 1) r) x ≡ true = ap (λ z. bytes_eq z x) (sym is) ∙ ap (λ z. bytes_eq z x) (sym ey) ∙ sym et ∙ e in
    among_split xs i r x above le ∙ ap (λ b. b || is_among (reverse (take (i - 1) xs)) x) same

pub among_passed : (xs : List (List ℕ)) (i : ℕ) (r x y : List ℕ) (t : Bool) → 0 < i → i ≤ length xs → r ≡ get_or xs (i - 1) r → y ≡ r → t ≡ bytes_eq y x → t ≡ false → is_among (reverse (take i xs)) x ≡ is_among (reverse (take (i - 1) xs)) x
among_passed xs i r x y t above le is ey et e =
    let other : bytes_eq (get_or xs (i - 1) r) x ≡ false = ap (λ z. bytes_eq z x) (sym is) ∙ ap (λ z. bytes_eq z x) (sym ey) ∙ sym et ∙ e in
    among_split xs i r x above le ∙ ap (λ b. b || is_among (reverse (take (i - 1) xs)) x) other

abbrev pub scope_state : List (List ℕ) → ℕ → ScopeState
scope_state xs left = record { names = reverse xs; left = left }

pub scope_state_take : (xs ys : List (List ℕ)) (left n : ℕ) (p : ScopeState) → scope_state xs left ≡ p → ys ≡ take n xs → scope_state ys left ≡ record { names = drop (length p.names - n) p.names; left = p.left }
scope_state_take xs ys left n p v e =
    let gone : ScopeState → ScopeState = λ q. record { names = drop (length q.names - n) q.names; left = q.left } in
    let cut : List (List ℕ) → ScopeState = λ l. record { names = l; left = left } in
    ap cut (ap reverse e ∙ reverse_take xs n) ∙ ap gone v

-- ---- behind the statements of a block

-- names that are added to those of a scope
abbrev Grown : ScopeState → ScopeState → Type 0
Grown p q = (l : List (List ℕ)) × (q.names ≡ l ++ p.names)

grown_twice : (p q r : ScopeState) → Grown p q → Grown q r → Grown p r
grown_twice p q r g h = (h.0 ++ g.0, h.1 ∙ ap (λ l. h.0 ++ l) g.1 ∙ sym (append_assoc h.0 g.0 p.names))

mutual
  behind_names : (p : ScopeState) (s : PlainStmt) → Grown p (behind p s)
  behind_names p (local_variable at ty x init) = (x ∷ [], refl)
  behind_names p (block at ss) = ([], refl)
  behind_names p (empty at) = ([], refl)
  behind_names p (evaluate at e) = ([], refl)
  behind_names p (if_else at c a b) = grown_twice p (behind p a) (else_behind (behind p a) b) (behind_names p a) (else_names (behind p a) b)
  behind_names p (while_loop at c s) = behind_names p s
  behind_names p (do_loop at s c) = ([], refl)
  behind_names p (for_loop at i c u s) = ([], refl)
  behind_names p (return_with at e) = ([], refl)
  behind_names p (throw at e) = ([], refl)
  behind_names p (break_loop at) = ([], refl)
  behind_names p (continue_loop at) = ([], refl)
  behind_names p (try_catch at ss cs) = ([], refl)

  behind_all_names : (p : ScopeState) (ss : PlainStmts) → Grown p (behind_all p ss)
  behind_all_names p no_stmts = ([], refl)
  behind_all_names p (more_stmts s ss) = grown_twice p (behind p s) (behind_all (behind p s) ss) (behind_names p s) (behind_all_names (behind p s) ss)

  else_names : (p : ScopeState) (e : PlainElse) → Grown p (else_behind p e)
  else_names p no_else = ([], refl)
  else_names p (else_with s) = behind_names p s

-- the names of a block leave behind it
pub block_leaves : (p q r : ScopeState) (ss : PlainStmts) (n : ℕ) → q ≡ behind_all p ss → n ≡ length p.names → r ≡ record { names = drop (length q.names - n) q.names; left = q.left } → r ≡ leave p (behind_all p ss)
block_leaves p q r ss n eq en er =
    let names = behind_all_names p ss in
    let gone : ScopeState → ScopeState = λ v. record { names = drop (length v.names - n) v.names; left = v.left } in
    let cut : List (List ℕ) → ScopeState = λ l. record { names = drop (length l - n) l; left = (behind_all p ss).left } in
    let short : ℕ → ScopeState = λ k. record { names = drop k (names.0 ++ p.names); left = (behind_all p ss).left } in
    let with_names : List (List ℕ) → ScopeState = λ l. record { names = l; left = (behind_all p ss).left } in
    let k : length (names.0 ++ p.names) - n ≡ length names.0 = omega (arith, length-append names.0 p.names, en) in
    er ∙ ap gone eq ∙ ap cut names.1 ∙ ap short k ∙ ap with_names (drop-append_seam names.0 p.names)
