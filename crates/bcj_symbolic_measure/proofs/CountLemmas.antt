-- Counts over one list of pieces behind another, and the entries of a set.
use Rattle.std.proofs.Common.{◌≡◌, refl, ap, Bool, true, false, ◌||◌, List, [], ◌∷◌, ◌++◌, map, length, sym, ◌+◌, nat_lt, cond, not, Some, None, arith, if◌then◌else◌}
use Rattle.std.specs.Prelude.{position}
use Rattle.std.specs.List.{list_any, position_or_len}
use Rattle.std.proofs.lemmas.Grind.{common_steps}
use Rattle.std.proofs.lemmas.List.{map-append, length-map}
use Rattle.indexmap.specs.IndexSet.{insert_key}
use Rattle.bcj_symbolic_trees.specs.declared.expression.SymExpr.{SymExpr}
use Rattle.bcj_symbolic_trees.specs.Plain.{exprs_of}
use Rattle.bcj_symbolic_measure.specs.declared.entry.Entry.{Entry}
use Rattle.bcj_symbolic_measure.specs.Entries.{same_entry, with_entry}
use Rattle.bcj_symbolic_measure.specs.Scheme.{Piece, count}
use Rattle.bcj_symbolic_measure.specs.function.Counts.{Counts, counted, noted, entry_of}

pub noted-nil : (c : Counts) → noted c [] ≡ c
unfolding noted
noted-nil c = refl

pub noted-append : (c : Counts) (a b : List Piece) → noted (noted c a) b ≡ noted c (a ++ b)
unfolding noted
noted-append c [] b = refl
noted-append c (p ∷ a) b = noted-append (counted c p) a b

pub count-length : (es : List SymExpr) → count (exprs_of es) ≡ length es
count-length [] = refl
count-length (e ∷ es) = grind (arith, common_steps, count-length es)

among-map : (e : Entry) (keys : List Entry) → list_any (λ k. same_entry (entry_of e) (entry_of k)) keys ≡ list_any (same_entry (entry_of e)) (map entry_of keys)
among-map e [] = refl
among-map e (k ∷ keys) = ap (λ b. same_entry (entry_of e) (entry_of k) || b) (among-map e keys)

pub with_entry-map : (keys : List Entry) (e : Entry) → map entry_of (insert_key (λ (x y : Entry). same_entry (entry_of x) (entry_of y)) keys e) ≡ with_entry (map entry_of keys) (entry_of e)
with_entry-map keys e = by (list_any (λ k. same_entry (entry_of e) (entry_of k)) keys) (list_any (same_entry (entry_of e)) (map entry_of keys)) (among-map e keys)
  where
    by : (b d : Bool) → b ≡ d → map entry_of (if b then keys else keys ++ e ∷ []) ≡ (if d then map entry_of keys else map entry_of keys ++ entry_of e ∷ [])
    by true true p = refl
    by false false p = map-append entry_of keys (e ∷ [])
    by true false p = cc
    by false true p = cc

-- the place of an entry among others, in the working types and plain
place-map : (keys : List Entry) (e : Entry) → position_or_len (λ k. same_entry (entry_of e) (entry_of k)) keys ≡ position_or_len (same_entry (entry_of e)) (map entry_of keys)
place-map [] e = refl
place-map (k ∷ keys) e = ap (λ n. cond (not (same_entry (entry_of e) (entry_of k))) (1 + n) 0) (place-map keys e)

pub position-map : (keys : List Entry) (e : Entry) → position (λ k. same_entry (entry_of e) (entry_of k)) keys ≡ position (same_entry (entry_of e)) (map entry_of keys)
position-map keys e = λ i. cond (nat_lt (place-map keys e i) (sym (length-map keys entry_of) i)) (Some (place-map keys e i)) None
