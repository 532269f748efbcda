-- Entries by their numbers in their regions, and the places where they stand.
use Rattle.std.proofs.Common.{◌≡◌, ◌∙◌, ◌<◌, ◌≤◌, ◌+◌, ◌*◌, sym, ap, refl, subst, ℕ, List, [], length, slice_get, get_or, Option, None, Some, arith, length-append, inl, inr, IfSome}
use Rattle.std.specs.Prelude.{MatchOption}
use Rattle.std.specs.Option.{option_map, option_map_or}
use Rattle.std.proofs.lemmas.Option.{slice_get-map, slice_get_cases}
use Rattle.std.proofs.lemmas.List.{length-map}
use Rattle.std.proofs.lemmas.List.Elements.{All-get_or}
use Rattle.bcj_tables_rules.specs.declared.records.ClassRecord.{ClassRecord}
use Rattle.bcj_hier_rules.specs.declared.class_id.ClassId.{ClassId}
use Rattle.bcj_hier_rules.specs.Heads.{IsIn}
use Rattle.bcj_hier_rules.specs.Shapes.{Named}
use Rattle.bcj_layout_rules.specs.declared.table.Table.{Table}
use Rattle.bcj_layout_rules.specs.declared.table.Table.TheVariants as table
use Rattle.bcj_layout_rules.specs.Rows.{Classes}
use Rattle.bcj_layout_rules.specs.Places.{word_size, tables_at, region_at}
use Rattle.bcj_layout_resolution.specs.Places.{heads_in}
use Rattle.bcj_linker_rules.specs.States.{entry_results}
use Rattle.bcj_layout_entries.specs.declared.entries.Entry.{Entry}
use Rattle.bcj_layout_entries.specs.Classes.{entry_classes}
use Rattle.bcj_layout_entries.specs.Entries.{AreEntries, IsAmong, named_class}
use Rattle.bcj_layout_entries.specs.Start.{AreStartEntries}
use Rattle.bcj_layout.specs.declared.entry_id.EntryId.{EntryId}
use Rattle.bcj_layout.specs.EntryPlaces.{table_length, entry_count, entries_before, IsPlaceIn, length_in, before_in, entry_number, IsNumbered, first_place, StandsAt, results_in, classes_in, AreEntriesIn}

-- what holds of each answer holds where it follows
pub match-map : {A : Type 0} (r : Option A) (N M : Type 0) (P Q : A → Type 0) → MatchOption r N P → (N → M) → ((x : A) → P x → Q x) → MatchOption r M Q
match-map None N M P Q h f g = f h
match-map (Some x) N M P Q h f g = g x h

-- ---- numbers

-- the entries of a class are those of its four tables
pub count-of : (cs : Classes) (main : Named) (r : ClassRecord) → length (entry_results cs main r) ≡ entry_count r
count-of cs main r = simp (length-append, length-map) (omega arith)

within-record : (r : ClassRecord) (t : Table) (i : ℕ) → i < table_length r t → entries_before r t + i < entry_count r
within-record r table.Ctable i h = omega arith
within-record r table.Otable i h = omega arith
within-record r table.Atable i h = omega arith
within-record r table.Itable i h = omega arith

within-option : (cs : Classes) (main : Named) (o : Option ClassRecord) (t : Table) (i : ℕ) → i < option_map_or (λ r. table_length r t) o 0
    → option_map_or (λ r. entries_before r t) o 0 + i < length (option_map_or (entry_results cs main) o [])
within-option cs main None t i h = absurd (omega arith)
within-option cs main (Some r) t i h = omega (arith, within-record r t i h, count-of cs main r)

-- the number of an entry is below that of the entries of its region
pub number-within : (cs : Classes) (main : Named) (class : Option ClassId) (t : Table) (i : ℕ) → i < length_in cs class t → before_in cs class t + i < length (results_in cs main class)
number-within cs main None table.Ctable i h = omega arith
number-within cs main None table.Otable i h = omega arith
number-within cs main None table.Atable i h = omega arith
number-within cs main None table.Itable i h = omega arith
number-within cs main (Some c) t i h = within-option cs main (slice_get cs c.0) t i h

inside-option : (o : Option ClassRecord) (t : Table) (i : ℕ) → i < option_map_or (λ r. table_length r t) o 0 → o ≡ None → ⊥
inside-option None t i h e = omega arith
inside-option (Some r) t i h e = cc

-- a class with an entry is one of these
pub class-within : (cs : Classes) (c : ClassId) (t : Table) (i : ℕ) → i < length_in cs (Some c) t → c.0 < length cs
class-within cs c t i h = elim (slice_get_cases cs c.0).1 [
  | inl there ↦ there.1
  | inr past ↦ absurd (inside-option (slice_get cs c.0) t i h past.1)
]

pub class-in : (cs : Classes) (class : Option ClassId) (t : Table) (i : ℕ) → i < length_in cs class t → IfSome class (IsIn (heads_in cs))
class-in cs None t i h = tt
class-in cs (Some c) t i h = omega (arith, class-within cs c t i h, length-map cs (λ d. d.head))

-- the entries of a class by its record
pub results-of : (cs : Classes) (main : Named) (class : Option ClassId) (c : ClassId) (r : ClassRecord) → class ≡ Some c → slice_get cs c.0 ≡ Some r → results_in cs main class ≡ entry_results cs main r
results-of cs main class c r is at = ap (results_in cs main) is ∙ ap (λ o. option_map_or (entry_results cs main) o []) at

-- the class of an entry is one of these
pub class-of-within : (cs : Classes) (main : Named) (at : ℕ) (c : ClassId) (e : EntryId) → e.class ≡ Some c → StandsAt cs main at e → c.0 < length cs
class-of-within cs main at c e is here = class-within cs c e.table e.index (subst (λ (o : Option ClassId). e.index < length_in cs o e.table) is here.is_entry)

-- past the entries of a class there is none
pub none-past : (cs : Classes) (main : Named) (c : ClassId) (r : ClassRecord) (number : ℕ) → slice_get cs c.0 ≡ Some r → entry_count r ≤ number → (e : EntryId) → IsNumbered cs (Some c) number e → ⊥
none-past cs main c r number at past e is =
    let within : before_in cs e.class e.table + e.index < length (results_in cs main e.class) = number-within cs main e.class e.table e.index is.is_entry in
    let count : length (results_in cs main e.class) ≡ entry_count r = ap length (results-of cs main e.class c r is.class_is at) ∙ count-of cs main r in
    let number_is : before_in cs e.class e.table + e.index ≡ number = is.number_is in
    few _ _ _ _ within count number_is past
  where
    few : (n m k number : ℕ) → n < m → m ≡ k → n ≡ number → k ≤ number → ⊥
    few n m k number a b c d = omega arith

-- a place in the tables of a class is an entry
pub numbered : (cs : Classes) (c : ClassId) (r : ClassRecord) (number : ℕ) (t : Table) (i : ℕ) → slice_get cs c.0 ≡ Some r → IsPlaceIn r number t i → IsNumbered cs (Some c) number (record { class = Some c; table = t; index = i })
numbered cs c r number t i at is = record {
  class_is = refl;
  is_entry = subst (λ (n : ℕ). i < n) (sym (ap (λ o. option_map_or (λ d. table_length d t) o 0) at)) is.within;
  number_is = ap (λ n. n + i) (ap (λ o. option_map_or (λ d. entries_before d t) o 0) at) ∙ is.number_is;
}

-- ---- places

-- an entry of a class by its number
pub number-at : (cs : Classes) (main : Named) (c : ClassId) (at : ℕ) (e : EntryId) → e.class ≡ Some c → StandsAt cs main at e → region_at cs main c.0 + word_size * (entry_number cs e + 1) ≡ at
number-at cs main c at e is here =
    let first : first_place cs main e.class ≡ region_at cs main c.0 + word_size = ap (first_place cs main) is in
    sum (first_place cs main e.class) (region_at cs main c.0) (entry_number cs e) at first here.here
  where
    sum : (f r n at : ℕ) → f ≡ r + 4 → f + 4 * n ≡ at → r + 4 * (n + 1) ≡ at
    sum f r n at a b = omega arith

pub stands-at : (cs : Classes) (main : Named) (c : ClassId) (at number : ℕ) (e : EntryId) → region_at cs main c.0 + word_size * (number + 1) ≡ at → IsNumbered cs (Some c) number e → StandsAt cs main at e
stands-at cs main c at number e h is = record {
  is_entry = is.is_entry;
  here =
      let first : first_place cs main e.class ≡ region_at cs main c.0 + word_size = ap (first_place cs main) is.class_is in
      sum (first_place cs main e.class) (region_at cs main c.0) (entry_number cs e) number at first is.number_is h;
}
  where
    sum : (f r n number at : ℕ) → f ≡ r + 4 → n ≡ number → r + 4 * (number + 1) ≡ at → f + 4 * n ≡ at
    sum f r n number at a b d = omega arith

-- an entry of the start's region by its number
pub start-number-at : (cs : Classes) (main : Named) (at : ℕ) (e : EntryId) → e.class ≡ None → StandsAt cs main at e → tables_at cs main + word_size * entry_number cs e ≡ at
start-number-at cs main at e is here = ap (λ n. n + word_size * entry_number cs e) (sym (ap (first_place cs main) is)) ∙ here.here

pub start-stands-at : (cs : Classes) (main : Named) (at number : ℕ) (e : EntryId) → tables_at cs main + word_size * number ≡ at → IsNumbered cs None number e → StandsAt cs main at e
start-stands-at cs main at number e h is = record {
  is_entry = is.is_entry;
  here = ap (λ n. n + word_size * entry_number cs e) (ap (first_place cs main) is.class_is) ∙ (ap (λ n. tables_at cs main + word_size * n) is.number_is ∙ h);
}

-- ---- numbers by places

same-number : (first a b at : ℕ) → first + word_size * a ≡ at → first + word_size * b ≡ at → a ≡ b
same-number first a b at h k = omega arith

-- what stands at the place of a number has this number
pub start-numbered : (cs : Classes) (main : Named) (at number : ℕ) (e : EntryId) → tables_at cs main + word_size * number ≡ at → e.class ≡ None → StandsAt cs main at e → IsNumbered cs None number e
start-numbered cs main at number e h is here = record {
  class_is = is;
  is_entry = here.is_entry;
  number_is = same-number (tables_at cs main) (entry_number cs e) number at (start-number-at cs main at e is here) h;
}

-- ---- what is kept

pub start-entries-in : (cs : Classes) (main : Named) (es : List Entry) → AreStartEntries cs main es → AreEntriesIn cs main None es
start-entries-in cs main es h = record { words = h.words; classes = h.classes; among = h.among }

pub class-entries-in : (cs : Classes) (main : Named) (c : ClassId) (r : ClassRecord) (es : List Entry) → slice_get cs c.0 ≡ Some r → AreEntries cs main r es → AreEntriesIn cs main (Some c) es
class-entries-in cs main c r es at h = record {
  words = h.words ∙ sym (ap (λ o. option_map_or (entry_results cs main) o []) at);
  classes = h.classes ∙ sym (ap (λ o. option_map_or (entry_classes cs) o []) at);
  among = h.among;
}

-- the entries of a class that is one of these
pub each-entries-in : (cs : Classes) (main : Named) (c : ClassId) (es : List Entry) → IsIn (heads_in cs) c → ((r : ClassRecord) → slice_get cs c.0 ≡ Some r → AreEntries cs main r es) → AreEntriesIn cs main (Some c) es
each-entries-in cs main c es inside each = elim (slice_get_cases cs c.0).1 [
  | inl there ↦ class-entries-in cs main c there.0 es there.2 (each there.0 there.2)
  | inr past ↦ absurd (omega (arith, inside, length-map cs (λ d. d.head), past.0))
]

-- as many as linking writes
pub read-within : (cs : Classes) (main : Named) (class : Option ClassId) (es : List Entry) (n : ℕ) → AreEntriesIn cs main class es → n < length (results_in cs main class) → n < length es
read-within cs main class es n are within = omega (arith, within, ap length are.words, length-map es (λ d. d.word))

module _ (cs : Classes) (main : Named) (class : Option ClassId) (es : List Entry) (n : ℕ) (x : Entry) (are : AreEntriesIn cs main class es) (at : slice_get es n ≡ Some x) where
  pub read-word : slice_get (results_in cs main class) n ≡ Some x.word
  read-word = sym (ap (λ l. slice_get l n) are.words) ∙ (slice_get-map (λ d. d.word) es n ∙ ap (option_map (λ d. d.word)) at)

  pub read-class : slice_get (classes_in cs main class) n ≡ Some (named_class cs x)
  read-class = sym (ap (λ l. slice_get l n) are.classes) ∙ (slice_get-map (named_class cs) es n ∙ ap (option_map (named_class cs)) at)

  pub read-among : n < length es → x ≡ get_or es n x → IsAmong cs x
  read-among within is = subst (IsAmong cs) (sym is) (All-get_or (IsAmong cs) es n x within are.among)
