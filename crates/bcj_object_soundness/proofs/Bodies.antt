-- The bodies of a class against the pieces that are measured: at most their words and relocations, the same entries, and as many bytes of
-- ranges.
use Rattle.std.proofs.Common.{◌≡◌, refl, ap, sym, ◌∙◌, subst, ℕ, ◌+◌, ◌≤◌, Bool, true, false, List, [], ◌∷◌, ◌++◌, length, if◌then◌else◌, Option, Some, None, arith}
use Rattle.std.specs.List.{flat_map}
use Rattle.std.proofs.lemmas.List.{length-append}
use Rattle.bcj_asm.specs.Forms.{places_of}
use Rattle.bcj_symbolic_trees.specs.Units.{PlainMethod, PlainClass}
use Rattle.bcj_symbolic_check.specs.Classes.{is_abstract}
use Rattle.bcj_symbolic_measure.specs.Entries.{PlainEntry, with_entry, with_entries, entries_of, EntriesLaw}
use Rattle.bcj_symbolic_measure.specs.Scheme.{Piece, plain, usage, fetch, region, handled}
use Rattle.bcj_symbolic_measure.specs.Bodies as measured
use Rattle.bcj_symbolic_measure.specs.Objects.{class_entries}
use Rattle.bcj_lower_rules.specs.Lines.{Address, Relocated, Line, items_of}
use Rattle.bcj_lower_rules.specs.Ranges.{LabelRange, stmts_ranges}
use Rattle.bcj_lower_rules.specs.Bodies.{Body, without_code, with_code, method_lines, method_body, init_lines, init_body, method_bodies, bodies_of, long_words, init_labels, init_range}
use Rattle.bcj_lower_rules.specs.Classes as code
use Rattle.bcj_lower_rules.specs.Classes.{PlainRange, relocation_at, relocations_at, relocated_uses, line_uses, address_uses, line_words, ranges_at, code_of, code_of_bodies, Table, class_table, offset_table, address_table, interface_table, table, uses_of}
use Rattle.bcj_lower_rules.specs.Laws.{LongIsMeasured}
use Rattle.bcj_lower_soundness.specs.Laws.{ShortIsNotLonger}
use Rattle.bcj_object_soundness.proofs.Addresses.{addresses, address_of, named}
use Rattle.bcj_object_soundness.proofs.AddressNodes.{same-method, same-init}
use Rattle.bcj_object_soundness.proofs.Tables.{with-twice, table-is, weigh, weigh-append, impropriety, four-lengths}
use Rattle.bcj_object_soundness.proofs.Pieces.{range_bytes, improper, range_size, label_bytes, proper-method, proper-init, spelled-method, spelled-init}

-- ---- from addresses

-- each address of the pieces is a relocation that is measured
named_count : (ps : List Piece) → length (named ps) ≡ measured.relocations ps
unfolding named
named_count [] = refl
named_count (plain k ∷ ps) = omega (arith, named_count ps)
named_count (usage e ∷ ps) = omega (arith, named_count ps)
named_count (fetch e ∷ ps) = omega (arith, named_count ps)
named_count (region ∷ ps) = omega (arith, named_count ps)
named_count (handled class ∷ ps) = omega (arith, named_count ps)

one_relocation : (us : List PlainEntry) (at : ℕ) (o : Option Relocated) → length (relocation_at us at o) ≡ length (address_of o)
one_relocation us at None = refl
one_relocation us at (Some r) = refl

-- lines have a relocation for an address at most
relocation_count : (us : List PlainEntry) (start : ℕ) (ls : List Line) (ps : List ℕ) → length (relocations_at us start ls ps) ≤ length (addresses ls)
unfolding addresses
relocation_count us start [] ps = omega arith
relocation_count us start (l ∷ ls) [] = omega arith
relocation_count us start (l ∷ ls) (p ∷ ps) =
    omega (
      arith,
      length-append (relocation_at us (start + p) l.relocated) (relocations_at us start ls ps),
      length-append (address_of l.relocated) (addresses ls),
      one_relocation us (start + p) l.relocated,
      relocation_count us start ls ps,
    )

uses_first : (o : Option Relocated) (rest : List Address) (us : List PlainEntry) → us ≡ flat_map address_uses rest
    → relocated_uses o ++ us ≡ flat_map address_uses (address_of o ++ rest)
uses_first None rest us e = e
uses_first (Some r) rest us e = ap (λ x. address_uses r.address ++ x) e

-- the entries that lines use are those of their addresses
uses_named : (ls : List Line) → line_uses ls ≡ flat_map address_uses (addresses ls)
unfolding addresses
uses_named [] = refl
uses_named (l ∷ ls) = uses_first l.relocated (addresses ls) (line_uses ls) (uses_named ls)

with-append : (es a b : List PlainEntry) → with_entries es (a ++ b) ≡ with_entries (with_entries es a) b
with-append es [] b = refl
with-append es (u ∷ a) b = with-append (with_entry es u) a b

unfoldable pub range_sizes : List PlainRange → ℕ
range_sizes [] = 0
range_sizes (r ∷ rs) = range_size r.class + range_sizes rs

range_sizes-append : (a b : List PlainRange) → range_sizes (a ++ b) ≡ range_sizes a + range_sizes b
unfolding range_sizes
range_sizes-append [] b = omega arith
range_sizes-append (r ∷ a) b = omega (arith, range_sizes-append a b)

-- offsets in the place of labels change no bytes
ranges_label : (method start : ℕ) (lines : List Line) (rs : List LabelRange) → range_sizes (ranges_at method start lines rs) ≡ label_bytes rs
unfolding range_sizes label_bytes
ranges_label method start lines [] = refl
ranges_label method start lines (r ∷ rs) = ap (λ k. range_size r.class + k) (ranges_label method start lines rs)

-- ---- one body, and all

-- a body against its pieces
record Matches (b : Body) (p : List Piece) : Type 0 where
  pub words : length (code.body_words b) ≤ measured.words p
  pub uses : (es : List PlainEntry) → with_entries es (code.body_uses b) ≡ with_entries es (measured.uses p)
  pub relocations : (us : List PlainEntry) (start : ℕ) → length (code.body_relocations us start b) ≤ measured.relocations p
  pub ranges : (method start : ℕ) → range_sizes (code.body_ranges method start b) ≡ measured.ranges_size p
  pub proper : weigh impropriety (measured.uses p) ≡ 0

-- bodies one behind the other against theirs
pub record AllMatch (bs : List Body) (ps : List (List Piece)) : Type 0 where
  pub words : length (code.all_words bs) ≤ measured.all_words ps
  pub uses : (es : List PlainEntry) → with_entries es (code.all_uses bs) ≡ with_entries es (measured.all_uses ps)
  pub relocations : (us : List PlainEntry) (start : ℕ) → length (code.all_relocations us start bs) ≤ measured.all_relocations ps
  pub ranges : (method start : ℕ) → range_sizes (code.all_ranges method start bs) ≡ measured.all_ranges_size ps
  pub proper : weigh impropriety (measured.all_uses ps) ≡ 0

none_match : Matches without_code []
unfolding range_sizes
none_match = record {
  words = omega arith;
  uses = λ es. refl;
  relocations = λ us start. omega arith;
  ranges = λ method start. refl;
  proper = refl;
}

nil_match : AllMatch [] []
unfolding range_sizes
nil_match = record {
  words = omega arith;
  uses = λ es. refl;
  relocations = λ us start. omega arith;
  ranges = λ method start. refl;
  proper = refl;
}

cons_match : (b : Body) (bs : List Body) (p : List Piece) (ps : List (List Piece)) → Matches b p → AllMatch bs ps → AllMatch (b ∷ bs) (p ∷ ps)
cons_match b bs p ps one all = record {
  words = omega (arith, length-append (code.body_words b) (code.all_words bs), one.words, all.words);
  uses = λ es.
      with-append es (code.body_uses b) (code.all_uses bs)
      ∙ ap (λ x. with_entries x (code.all_uses bs)) (one.uses es)
      ∙ all.uses (with_entries es (measured.uses p))
      ∙ sym (with-append es (measured.uses p) (measured.all_uses ps));
  relocations = λ us start.
      omega (
        arith,
        length-append (code.body_relocations us start b) (code.all_relocations us (start + length (code.body_words b)) bs),
        one.relocations us start,
        all.relocations us (start + length (code.body_words b)),
      );
  ranges = λ method start.
      range_sizes-append (code.body_ranges method start b) (code.all_ranges (method + 1) (start + length (code.body_words b)) bs)
      ∙ (λ i. one.ranges method start i + all.ranges (method + 1) (start + length (code.body_words b)) i);
  proper = omega (arith, weigh-append impropriety (measured.uses p) (measured.all_uses ps), one.proper, all.proper);
}

-- an abstract method has no pieces
emptied : (b : Bool) (ps : List Piece) → b ≡ true → [] ≡ (if b then [] else ps)
emptied true ps h = refl
emptied false ps h = cc

module _ (entries : EntriesLaw) (long : LongIsMeasured) (short : ShortIsNotLonger) where
  -- that both halves of an address name an entry makes no further one
  pieces_uses : (es : List PlainEntry) (ps : List Piece) → with_entries es (flat_map address_uses (named ps)) ≡ with_entries es (measured.uses ps)
  unfolding named
  pieces_uses es [] = refl
  pieces_uses es (plain k ∷ ps) = pieces_uses es ps
  pieces_uses es (usage e ∷ ps) = ap (λ x. with_entries x (flat_map address_uses (named ps))) (with-twice entries es e) ∙ pieces_uses (with_entry es e) ps
  pieces_uses es (fetch e ∷ ps) = ap (λ x. with_entries x (flat_map address_uses (named ps))) (with-twice entries es e) ∙ pieces_uses (with_entry es e) ps
  pieces_uses es (region ∷ ps) = pieces_uses es ps
  pieces_uses es (handled class ∷ ps) = pieces_uses es ps

  -- a body with code matches pieces of its words, addresses and ranges
  code_matches : (frame : ℕ) (lines : List Line) (rs : List LabelRange) (p : List Piece) → long_words lines ≡ measured.words p → addresses lines ≡ named p
      → label_bytes rs ≡ range_bytes p → improper p ≡ 0 → Matches (with_code frame lines rs) p
  unfolding range_bytes improper
  code_matches frame lines rs p words same ranges proper = record {
    words = omega (arith, short lines, words);
    uses = λ es. ap (with_entries es) (uses_named lines) ∙ ap (λ x. with_entries es (flat_map address_uses x)) same ∙ pieces_uses es p;
    relocations = λ us start. omega (arith, relocation_count us start lines (places_of (items_of lines)), ap length same, named_count p);
    ranges = λ method start. ranges_label method start lines rs ∙ ranges;
    proper = proper;
  }

  method_matches : (c : PlainClass) (x : PlainMethod) → Matches (method_body c x) (measured.method_pieces c x)
  unfolding method_body
  method_matches c x = by (is_abstract x.kind) refl
    where
      by : (b : Bool) → is_abstract x.kind ≡ b
          → Matches (if b then without_code else with_code (measured.method_frame_size x) (method_lines c x) (stmts_ranges 0 x.body)) (measured.method_pieces c x)
      by true p = let none : [] ≡ measured.method_pieces c x = emptied (is_abstract x.kind) _ p in subst (Matches without_code) none none_match
      by false p =
          code_matches (measured.method_frame_size x) (method_lines c x) (stmts_ranges 0 x.body) (measured.method_pieces c x) (long.methods c x p) (same-method c x p)
          (spelled-method c x p) (proper-method c x)

  init_matches : (c : PlainClass) → Matches (init_body c) (measured.init_pieces c)
  unfolding init_body
  init_matches c =
      code_matches (measured.init_frame_size c) (init_lines c) (stmts_ranges init_labels c.init.body ++ init_range ∷ []) (measured.init_pieces c) (long.initialiser c)
      (same-init c) (spelled-init c) (proper-init c)

  methods_match : (c : PlainClass) (xs : List PlainMethod) → AllMatch (method_bodies c xs) (measured.methods_pieces c xs)
  methods_match c [] = nil_match
  methods_match c (x ∷ xs) =
      cons_match (method_body c x) (method_bodies c xs) (measured.method_pieces c x) (measured.methods_pieces c xs) (method_matches c x) (methods_match c xs)

  pub class_matches : (c : PlainClass) → AllMatch (bodies_of c) (measured.class_bodies c)
  class_matches c =
      cons_match (init_body c) (method_bodies c c.methods) (measured.init_pieces c) (measured.methods_pieces c c.methods) (init_matches c) (methods_match c c.methods)

  same-entries : (c : PlainClass) → entries_of (code.all_uses (bodies_of c)) ≡ class_entries c
  unfolding entries_of
  same-entries c = (class_matches c).uses []

  -- a table has its entries of those that are measured
  pub class-table : (t : Table) (c : PlainClass) → table t (code.all_uses (bodies_of c)) ≡ uses_of t (class_entries c)
  class-table t c = table-is entries t (code.all_uses (bodies_of c)) ∙ ap (uses_of t) (same-entries c)

  -- the entries of the four tables are as many as are measured
  pub table-lengths : (c : PlainClass)
      → length (code_of c).ctable + length (code_of c).otable + length (code_of c).atable + length (code_of c).itable ≡ length (class_entries c)
  unfolding code_of_bodies
  table-lengths c =
      omega (
        arith,
        four-lengths (class_entries c),
        ap length (class-table class_table c),
        ap length (class-table offset_table c),
        ap length (class-table address_table c),
        ap length (class-table interface_table c),
      )
