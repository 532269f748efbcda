-- Tables that are filled use by use are those of all uses, and the places of entries in them.
use Rattle.std.proofs.Common.{◌≡◌, refl, ap, ◌∙◌, ℕ, suc, ◌+◌, ◌*◌, ◌≤◌, true, false, not, nat_lt, cond, List, [], ◌∷◌, ◌++◌, length, Some, None, if◌then◌else◌, arith}
use Rattle.std.specs.Prelude.{position, unwrap_or}
use Rattle.std.specs.List.{position_or_len}
use Rattle.std.proofs.lemmas.Bool.Decides.{nat_tests}
use Rattle.bcj_symbolic_measure.specs.Entries.{PlainEntry, same_entry, with_entries, entries_of}
use Rattle.bcj_lower_rules.specs.Lines.{Address, region, entry}
use Rattle.bcj_lower_rules.specs.Words.{word_size}
use Rattle.bcj_lower_rules.specs.Classes.{Table, class_table, offset_table, address_table, interface_table, same_table, table, table_of, table_start, uses_of, number_in, region_offset}
use Rattle.bcj_lower.specs.function.Tables.{PlainTables, tables_of, no_tables, noted_at, with_use, with_uses, place_at, addend}

-- uses one behind the other are noted one behind the other
pub with_uses-append : (t : PlainTables) (us vs : List PlainEntry) → with_uses t (us ++ vs) ≡ with_uses (with_uses t us) vs
with_uses-append t [] vs = refl
with_uses-append t (u ∷ us) vs = with_uses-append (with_use t u) us vs

-- each table with its own of some uses
filled : PlainTables → List PlainEntry → PlainTables
filled t us = record {
  classes = with_entries t.classes (uses_of class_table us);
  offsets = with_entries t.offsets (uses_of offset_table us);
  addresses = with_entries t.addresses (uses_of address_table us);
  interfaces = with_entries t.interfaces (uses_of interface_table us);
}

-- those of the table `t`, with one use of the table `k` before them
abbrev own : Table → Table → PlainEntry → List PlainEntry → List PlainEntry
own t k e us = if same_table t k then e ∷ uses_of t us else uses_of t us

-- a table that has noted a use is filled as with that use before the others
filled_more : (k : Table) (t : PlainTables) (e : PlainEntry) (us : List PlainEntry)
    → filled (noted_at k t e) us
    ≡ record {
      classes = with_entries t.classes (own class_table k e us);
      offsets = with_entries t.offsets (own offset_table k e us);
      addresses = with_entries t.addresses (own address_table k e us);
      interfaces = with_entries t.interfaces (own interface_table k e us);
    }
unfolding filled
filled_more class_table t e us = refl
filled_more offset_table t e us = refl
filled_more address_table t e us = refl
filled_more interface_table t e us = refl

-- noting uses fills each table with its own
with_uses-filled : (t : PlainTables) (us : List PlainEntry) → with_uses t us ≡ filled t us
unfolding filled
with_uses-filled t [] = refl
with_uses-filled t (u ∷ us) = with_uses-filled (with_use t u) us ∙ filled_more (table_of u.role) t u us

-- from nothing it gives the tables of the uses
pub tables-filled : (us : List PlainEntry) → with_uses no_tables us ≡ tables_of us
unfolding filled table entries_of
tables-filled us = with_uses-filled no_tables us

-- ---- numbers and places

-- no number passes how many there are
number-few : (e : PlainEntry) (xs : List PlainEntry) → number_in e xs ≤ length xs
number-few e [] = omega arith
number-few e (x ∷ xs) =
    elim (same_entry e x) as (λ b. (if b then 0 else suc (number_in e xs)) ≤ suc (length xs)) [
      | true ↦ omega arith
      | false ↦ omega (arith, number-few e xs)
    ]

-- the number is the first place of the same entry
number-place : (e : PlainEntry) (xs : List PlainEntry) → position_or_len (same_entry e) xs ≡ number_in e xs
number-place e [] = refl
number-place e (x ∷ xs) =
    elim (same_entry e x) as (λ b. cond (not b) (1 + position_or_len (same_entry e) xs) 0 ≡ (if b then 0 else suc (number_in e xs))) [
      | true ↦ refl
      | false ↦ omega (arith, number-place e xs)
    ]

-- a place that isn't the end is found
within : (q n : ℕ) → q ≤ n → unwrap_or (cond (nat_lt q n) (Some q) None) n ≡ q
within q n h = grind (arith, nat_tests)

-- the number of an entry, or how many there are
pub numbered : (e : PlainEntry) (xs : List PlainEntry) → unwrap_or (position (same_entry e) xs) (length xs) ≡ number_in e xs
numbered e xs =
    ap (λ q. unwrap_or (cond (nat_lt q (length xs)) (Some q) None) (length xs)) (number-place e xs) ∙ within (number_in e xs) (length xs) (number-few e xs)

-- an entry lies behind the start of its table by its number
place_in-table : (k : Table) (us : List PlainEntry) (e : PlainEntry) → place_at k (tables_of us) e ≡ table_start k us + number_in e (table k us)
place_in-table class_table us e = refl
place_in-table offset_table us e = refl
place_in-table address_table us e = refl
place_in-table interface_table us e = refl

-- an addend by the tables of uses is the offset in their region
pub addend-of : (us : List PlainEntry) (a : Address) → addend (tables_of us) a ≡ region_offset us a
addend-of us region = refl
addend-of us (entry e) = ap (λ n. word_size * n) (place_in-table (table_of e.role) us e)
