-- Depths whose parts stand at the last value of their type.
use Rattle.std.proofs.Common.{◌≡◌, refl, ap, sym, ◌∙◌, ℕ, ◌+◌, ◌^◌, ◌<◌, ◌≤◌, Bool, true, false, if◌then◌else◌, List, ◌∷◌, drop, length, get_or, arith}
use Rattle.std.proofs.lemmas.List.{drop_more}
use Rattle.bcj_symbolic_trees.specs.declared.expression.SymExpr.{SymExpr}
use Rattle.bcj_symbolic_trees.specs.declared.statement.SymStmt.{SymStmt}
use Rattle.bcj_symbolic_trees.specs.declared.expression.UpdatePlace.{UpdatePlace}
use Rattle.bcj_symbolic_trees.specs.declared.expression.UpdatePlace.TheVariants as place
use Rattle.bcj_symbolic_trees.specs.declared.symbol_reference.FieldRef.{FieldRef}
use Rattle.bcj_symbolic_trees.specs.Plain.{expr_of, exprs_of, stmts_of, place_of}
use Rattle.bcj_symbolic_trees.proofs.PlainLemmas.{place-Local, place-Static}
use Rattle.bcj_symbolic_trees.specs.Trees.{PlainPlace, local_place, static_place, field_place, element_place}
use Rattle.bcj_symbolic_measure.specs.Totals.{capped, plus, larger}
use Rattle.bcj_symbolic_measure.specs.Depths.{saved, behind, expr_depth, args_depth, stmts_depth, place_depth}
use Rattle.bcj_symbolic_measure.proofs.TotalLemmas.{capped-twice, capped-small, larger-left, larger-right, larger-three}
use Rattle.bcj_symbolic_measure.proofs.StepLemmas.{drops_all}

pub saved-left : (m n : ℕ) → capped (saved (capped m) n) ≡ capped (saved m n)
unfolding saved capped
saved-left m n = omega arith

pub saved-right : (m n : ℕ) → capped (saved m (capped n)) ≡ capped (saved m n)
unfolding saved capped
saved-right m n = omega arith

saved-like : (m a b : ℕ) → capped a ≡ capped b → capped (saved m a) ≡ capped (saved m b)
saved-like m a b e = sym (saved-right m a) ∙ ap (λ k. capped (saved m k)) e ∙ saved-right m b

pub place-capped : (p : PlainPlace) (n : ℕ) → capped (place_depth p (capped n)) ≡ capped (place_depth p n)
place-capped (local_place i) n = capped-twice n
place-capped (static_place f) n = capped-twice n
place-capped (field_place t f) n = saved-right (expr_depth t) n
place-capped (element_place a i) n = saved-like (expr_depth a) _ _ (saved-right (expr_depth i) n)

pub frame-sum : (locals depth : ℕ) → plus (plus 1 locals) (capped depth) ≡ capped (1 + locals + depth)
unfolding plus capped
frame-sum locals depth = omega arith

-- where nothing is counted in one case
pub left-out : (b : Bool) (n : ℕ) → b ≡ true → 0 ≡ capped (if b then 0 else n)
unfolding capped
left-out true n e = refl
left-out false n e = cc

pub kept : (b : Bool) (n r : ℕ) → b ≡ false → r ≡ capped n → r ≡ capped (if b then 0 else n)
kept false n r e f = f
kept true n r e f = cc

-- ---- arguments: those before an index, one more, and those behind it

behind-in : (count y rest : ℕ) → capped (larger (behind count (capped y)) rest) ≡ capped (larger (behind count y) rest)
unfolding larger behind capped
behind-in count y rest = omega arith

behind-next : (count m rest : ℕ) → larger (behind count (saved m 0)) (behind (count + 1) rest) ≡ behind count (saved m rest)
unfolding larger behind saved
behind-next count m rest = omega arith

one-argument : (most count m rest kept reached next : ℕ) → kept ≡ capped (saved m 0) → reached ≡ capped (behind count kept) → next ≡ capped (larger most reached)
    → capped (larger next (behind (count + 1) rest)) ≡ capped (larger most (behind count (saved m rest)))
one-argument most count m rest kept reached next ek er en =
    ap (λ k. capped (larger k (behind (count + 1) rest))) en
    ∙ larger-three most reached (behind (count + 1) rest)
    ∙ sym (larger-right most (larger reached (behind (count + 1) rest)))
    ∙ ap (λ k. capped (larger most k)) inner
    ∙ larger-right most (behind count (saved m rest))
  where
    inner : capped (larger reached (behind (count + 1) rest)) ≡ capped (behind count (saved m rest))
    inner =
        ap (λ k. capped (larger k (behind (count + 1) rest))) er
        ∙ larger-left (behind count kept) (behind (count + 1) rest)
        ∙ ap (λ k. capped (larger (behind count k) (behind (count + 1) rest))) ek
        ∙ behind-in count (saved m 0) (behind (count + 1) rest)
        ∙ ap capped (behind-next count m rest)

kept-some : (m kept : ℕ) → kept ≡ capped (saved m 0) → 1 ≤ kept
unfolding saved capped
kept-some m kept e = omega (arith, e)

reached-index : (most count kept reached next : ℕ) → 1 ≤ kept → reached ≡ capped (behind count kept) → next ≡ capped (larger most reached) → capped (count + 1) ≤ next
unfolding larger behind capped
reached-index most count kept reached next h er en = omega (arith, er, en)

pub arguments-index : (most count m kept reached next : ℕ) → kept ≡ capped (saved m 0) → reached ≡ capped (behind count kept) → next ≡ capped (larger most reached) → capped (count + 1) ≤ next
arguments-index most count m kept reached next ek er en = reached-index most count kept reached next (kept-some m kept ek) er en

index-done : (most count : ℕ) → capped count ≤ most → capped most ≡ most → capped (larger most (behind count 0)) ≡ most
unfolding larger behind capped
index-done most count h f = omega (arith, f)

pub arguments-end : (most count rest total : ℕ) → rest ≡ 0 → capped count ≤ most → capped most ≡ most → capped (larger most (behind count rest)) ≡ total → most ≡ total
arguments-end most count rest total e h f s = sym (index-done most count h f) ∙ ap (λ k. capped (larger most (behind count k))) (sym e) ∙ s

pub arguments-begin : (rest : ℕ) → capped (larger 0 (behind 0 rest)) ≡ capped rest
unfolding larger behind
arguments-begin rest = ap capped (omega arith)

pub arguments-more : (xs : List SymExpr) (i : ℕ) (d : SymExpr) (most part kept reached next u : ℕ) → i < length xs → d ≡ get_or xs i d
    → part ≡ capped (expr_depth (expr_of d)) → kept ≡ capped (saved part 0) → reached ≡ capped (behind i kept) → next ≡ capped (larger most reached)
    → capped (larger most (behind i (args_depth (exprs_of (drop i xs))))) ≡ u
    → capped (larger next (behind (i + 1) (args_depth (exprs_of (drop (i + 1) xs))))) ≡ u
arguments-more xs i d most part kept reached next u h is ep ek er en e =
    one-argument most i (expr_depth (expr_of d)) (args_depth (exprs_of (drop (i + 1) xs))) kept reached next (ek ∙ ap (λ k. capped (saved k 0)) ep ∙ saved-left (expr_depth (expr_of d)) 0) er en
    ∙ ap (λ (x : SymExpr). capped (larger most (behind i (args_depth (exprs_of (x ∷ drop (i + 1) xs)))))) is
    ∙ ap (λ (l : List SymExpr). capped (larger most (behind i (args_depth (exprs_of l))))) (sym (drop_more xs i d h))
    ∙ e

pub arguments-done : (xs : List SymExpr) (i most total : ℕ) → length xs ≤ i → capped i ≤ most → capped most ≡ most
    → capped (larger most (behind i (args_depth (exprs_of (drop i xs))))) ≡ total → most ≡ total
arguments-done xs i most total h r f s =
    arguments-end most i (args_depth (exprs_of (drop i xs))) total (ap (λ (l : List SymExpr). args_depth (exprs_of l)) (drops_all xs i h)) r f s

pub frame-built : (r a l n b : ℕ) (s t : List SymStmt) → l ≡ n → s ≡ t → a ≡ plus 1 l → b ≡ capped (stmts_depth (stmts_of s)) → r ≡ plus a b → r ≡ capped (1 + n + stmts_depth (stmts_of t))
frame-built r a l n b s t el es ea eb er =
    er
    ∙ (λ i. plus ((ea ∙ ap (plus 1) el) i) ((eb ∙ ap (λ (k : List SymStmt). capped (stmts_depth (stmts_of k))) es) i))
    ∙ frame-sum n (stmts_depth (stmts_of t))

-- an update of a variable that has no parts
pub local-place : (p : UpdatePlace) (n k : ℕ) → k < 2 ^ 64 → p ≡ place.Local n → k ≡ capped (place_depth (place_of p) k)
local-place p n k h e =
    sym (capped-small k h)
    ∙ ap (λ (q : PlainPlace). capped (place_depth q k)) (sym (ap place_of e ∙ place-Local n))

pub static-place : (p : UpdatePlace) (f : FieldRef) (k : ℕ) → k < 2 ^ 64 → p ≡ place.Static f → k ≡ capped (place_depth (place_of p) k)
static-place p f k h e =
    sym (capped-small k h)
    ∙ ap (λ (q : PlainPlace). capped (place_depth q k)) (sym (ap place_of e ∙ place-Static f))
