-- What a class adds to the sums of a unit, and the measure of the sums.
use Rattle.std.proofs.Common.{◌≡◌, refl, ap, sym, ◌∙◌, ℕ, ◌+◌, ◌*◌, List, length, arith}
use Rattle.bcj_symbolic_trees.specs.Units.{PlainClass, PlainUnit}
use Rattle.bcj_symbolic_measure.specs.declared.object.Sums.{Sums}
use Rattle.bcj_symbolic_measure.specs.Totals.{capped, plus, larger, narrow}
use Rattle.bcj_symbolic_measure.specs.Entries.{PlainEntry, entries_of, entries_size}
use Rattle.bcj_symbolic_measure.specs.Bodies.{class_bodies, class_frame_size, largest_words, all_words, all_relocations, all_ranges_size}
use Rattle.bcj_symbolic_measure.specs.function.Counts.{Counts, fresh, bodies_noted}
use Rattle.bcj_symbolic_measure.specs.Objects.{record_size, class_entries, class_record_size, class_names_size, head_size, fields_size, all_methods_size, pairs_size, list_size, file_size, object_size, text_words, text_relocations, table_words, records_size, symbol_names_size}
use Rattle.bcj_symbolic_measure.specs.Measures.{largest_frame, largest_method}
use Rattle.bcj_symbolic_measure.specs.function.Sums.{no_sums, with_class, with_classes}
use Rattle.bcj_symbolic_measure.proofs.TotalLemmas.{plus-plus, plus-like, plus-zero, larger-right, larger-first, narrow-like}
use Rattle.bcj_symbolic_measure.proofs.SumLemmas.{bodies-text, bodies-largest, bodies-relocations, bodies-ranges, bodies-entries, sums-frame, sums-method, sums-text, sums-relocations, sums-tables, sums-records, sums-names}
use Rattle.bcj_symbolic_measure.proofs.ObjectLemmas.{file_size-like}

-- ---- a class

larger-like : (t a b : ℕ) → capped a ≡ capped b → capped (larger t a) ≡ capped (larger t b)
larger-like t a b e = sym (larger-right t a) ∙ ap (λ k. capped (larger t k)) e ∙ larger-right t b

record_rest : PlainClass → List PlainEntry → ℕ
record_rest c entries =
    head_size c.head
    + (list_size (fields_size c.fields)
    + (list_size (all_methods_size c.methods)
    + (4 + (list_size (pairs_size c.pairs) + (4 * list_size 0 + (entries_size entries + 4))))))

record-split : (c : PlainClass) (ranges : ℕ) (entries : List PlainEntry) → record_size c ranges entries ≡ record_rest c entries + ranges
unfolding record_size record_rest
record-split c ranges entries = omega arith

record-like : (t : ℕ) (c : PlainClass) (a b : ℕ) (entries : List PlainEntry) → capped a ≡ capped b → plus t (record_size c a entries) ≡ plus t (record_size c b entries)
record-like t c a b entries e =
    ap (plus t) (record-split c a entries)
    ∙ sym (plus-plus t (record_rest c entries) a)
    ∙ plus-like (plus t (record_rest c entries)) a b e
    ∙ plus-plus t (record_rest c entries) b
    ∙ ap (plus t) (sym (record-split c b entries))

names-sum : (t : ℕ) (c : PlainClass) (n : ℕ) → n ≡ length c.head.name → plus (plus (plus t 11) n) n ≡ plus t (class_names_size c)
names-sum t c n e =
    plus-plus (plus t 11) n n ∙ plus-plus t 11 (n + n) ∙ ap (plus t) (omega (arith, e))

module _ (s : Sums) (c : PlainClass) (t : Counts) (e : t ≡ bodies_noted fresh (class_bodies c)) where
  text-is : plus s.text t.text ≡ plus s.text (all_words (class_bodies c))
  text-is = plus-like s.text _ _ (ap (λ (k : Counts). capped k.text) e ∙ bodies-text fresh (class_bodies c) refl ∙ plus-zero _)

  method-is : capped (larger s.method t.largest) ≡ capped (larger s.method (largest_words (class_bodies c)))
  method-is = larger-like s.method _ _ (ap (λ (k : Counts). capped k.largest) e ∙ bodies-largest fresh (class_bodies c) refl ∙ ap capped (larger-first _))

  relocations-is : plus s.relocations t.relocations ≡ plus s.relocations (all_relocations (class_bodies c))
  relocations-is = plus-like s.relocations _ _ (ap (λ (k : Counts). capped k.relocations) e ∙ bodies-relocations fresh (class_bodies c) ∙ plus-zero _)

  entries-is : t.entries ≡ class_entries c
  unfolding entries_of
  entries-is = ap (λ (k : Counts). k.entries) e ∙ bodies-entries fresh (class_bodies c)

  ranges-is : capped t.ranges ≡ capped (all_ranges_size (class_bodies c))
  ranges-is = ap (λ (k : Counts). capped k.ranges) e ∙ bodies-ranges fresh (class_bodies c) ∙ plus-zero _

  records-is : plus s.records (record_size c t.ranges t.entries) ≡ plus s.records (class_record_size c)
  records-is = ap (λ (k : List PlainEntry). plus s.records (record_size c t.ranges k)) entries-is ∙ record-like s.records c _ _ (class_entries c) ranges-is

  pub class-added : (frame largest method text relocations one tables count records eleven first names name : ℕ)
      → largest ≡ capped (class_frame_size c) → frame ≡ capped (larger s.frame largest) → method ≡ capped (larger s.method t.largest)
      → text ≡ plus s.text t.text → relocations ≡ plus s.relocations t.relocations
      → one ≡ plus s.tables 1 → count ≡ length t.entries → tables ≡ plus one count
      → records ≡ plus s.records (record_size c t.ranges t.entries)
      → name ≡ length c.head.name → eleven ≡ plus s.names 11 → first ≡ plus eleven name → names ≡ plus first name
      → record { frame = frame; method = method; text = text; relocations = relocations; tables = tables; records = records; names = names } ≡ with_class s c
  unfolding with_class
  class-added frame largest method text relocations one tables count records eleven first names name el ef em et er eo ec etab erec en ee e1 e2 =
      λ i. record {
        frame = (ef ∙ ap (λ k. capped (larger s.frame k)) el ∙ larger-right s.frame (class_frame_size c)) i;
        method = (em ∙ method-is) i;
        text = (et ∙ text-is) i;
        relocations = (er ∙ relocations-is) i;
        tables = (etab ∙ (λ j. plus (eo j) ((ec ∙ ap length entries-is) j)) ∙ plus-plus s.tables 1 (length (class_entries c))) i;
        records = (erec ∙ records-is) i;
        names = (e2 ∙ ap (λ k. plus k name) (e1 ∙ ap (λ k. plus k name) ee) ∙ names-sum s.names c name en) i;
      }

-- ---- a unit

module _ (s : Sums) (u : PlainUnit) (e : s ≡ with_classes no_sums u.classes) where
  pub frame-measured : narrow s.frame ≡ narrow (largest_frame u)
  frame-measured = narrow-like _ _ (ap (λ (k : Sums). capped k.frame) e ∙ sums-frame no_sums u.classes ∙ ap capped (larger-first _))

  pub method-measured : narrow s.method ≡ narrow (largest_method u)
  method-measured = narrow-like _ _ (ap (λ (k : Sums). capped k.method) e ∙ sums-method no_sums u.classes ∙ ap capped (larger-first _))

  pub object-measured : (n : ℕ) → n ≡ length u.classes → capped (file_size s.text s.relocations s.tables n s.records s.names) ≡ capped (object_size u)
  object-measured n en =
      ap (λ k. capped (file_size s.text s.relocations s.tables k s.records s.names)) en
      ∙ file_size-like s.text (text_words u.classes) s.relocations (text_relocations u.classes) s.tables (table_words u.classes) (length u.classes) s.records (records_size u.classes) s.names (symbol_names_size u.classes)
      (ap (λ (k : Sums). capped k.text) e ∙ sums-text no_sums u.classes ∙ plus-zero _)
      (ap (λ (k : Sums). capped k.relocations) e ∙ sums-relocations no_sums u.classes ∙ plus-zero _)
      (ap (λ (k : Sums). capped k.tables) e ∙ sums-tables no_sums u.classes ∙ plus-zero _)
      (ap (λ (k : Sums). capped k.records) e ∙ sums-records no_sums u.classes ∙ plus-zero _)
      (ap (λ (k : Sums). capped k.names) e ∙ sums-names no_sums u.classes ∙ plus-zero _)
