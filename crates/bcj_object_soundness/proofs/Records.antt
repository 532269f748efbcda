-- The record of a class has at most the bytes that are measured.
use Rattle.std.proofs.Common.{◌≡◌, refl, ap, ℕ, ◌+◌, ◌*◌, ◌≤◌, List, [], ◌∷◌, length, map, Option, Some, None, arith}
use Rattle.std.specs.List.{flat_map}
use Rattle.std.proofs.lemmas.List.{length-append}
use Rattle.bcj_symbolic_trees.specs.declared.class_tree.ClassHead.{ClassHead}
use Rattle.bcj_symbolic_trees.specs.Units.{PlainField, PlainMethod, PlainPair, PlainClass}
use Rattle.bcj_symbolic_measure.specs.Entries.{PlainEntry, entry_size, entries_size, string_size, u8_size, u32_size, EntriesLaw}
use Rattle.bcj_symbolic_measure.specs.Bodies.{all_ranges_size, class_bodies, all_uses}
use Rattle.bcj_symbolic_measure.specs.Objects.{record_size, class_entries, class_record_size, names_size, superclass_size, head_size, field_size, fields_size, code_size, methods_size, all_methods_size, pairs_size}
use Rattle.bcj_lower_rules.specs.Classes.{PlainMethodCode, PlainRange, PlainCode, code_of, code_of_bodies, class_table, offset_table, address_table, interface_table, uses_of}
use Rattle.bcj_lower_rules.specs.Laws.{LongIsMeasured}
use Rattle.bcj_lower_soundness.specs.Laws.{ShortIsNotLonger}
use Rattle.bcj_tables_rules.specs.Spelling as spelling
use Rattle.bcj_tables_rules.specs.Spelling.{text, text_of_option, list, head_bytes, field_bytes, method_bytes, range_bytes, pair_bytes, centry_bytes, oentry_bytes, aentry_bytes, ientry_bytes, tables_bytes, class_bytes}
use Rattle.bcj_object_rules.specs.Records.{field_record, Head, method_head, heads_of, method_record, method_records, range_record, pair_record, centry, oentry, aentry, ientry, class_record}
use Rattle.bcj_object_soundness.proofs.Tables.{weigh, weigh-entries, impropriety, four, spelled_in, spelled-sizes, measured-sizes}
use Rattle.bcj_object_soundness.proofs.Bodies.{range_sizes, class_matches, class-table}

pub word-length : (n : ℕ) → length (spelling.word n) ≡ 4
unfolding spelling.word
word-length n = refl

ruleset lengths = (length-append, word-length)

-- ---- heads and members

superclass-length : (s : Option (List ℕ)) → 4 + length (text_of_option s) ≡ superclass_size s
superclass-length None = refl
superclass-length (Some name) = refl

names-length : (names : List (List ℕ)) → length (flat_map text names) ≡ names_size names
names-length [] = refl
names-length (name ∷ names) = simp lengths (omega (arith, names-length names))

head-length : (h : ClassHead) → length (head_bytes h) ≡ head_size h
unfolding head_bytes
head-length h = simp lengths (omega (arith, superclass-length h.superclass, names-length h.interfaces))

field-length : (f : PlainField) → length (field_bytes (field_record f)) ≡ field_size f
unfolding field_bytes
field-length f = simp lengths (omega arith)

fields-length : (fs : List PlainField) → length (flat_map field_bytes (map field_record fs)) ≡ fields_size fs
fields-length [] = refl
fields-length (f ∷ fs) = simp lengths (omega (arith, field-length f, fields-length fs))

method-length : (at : ℕ) (h : Head) (m : PlainMethodCode) → length (method_bytes (method_record at h m)) ≡ code_size h.name h.desc
unfolding method_bytes
method-length at h m = simp lengths (omega arith)

-- the bytes of methods by their heads
heads_size : List Head → ℕ
heads_size [] = 0
heads_size (h ∷ hs) = code_size h.name h.desc + heads_size hs

-- a method without its code has no record
methods-length : (at : ℕ) (hs : List Head) (ms : List PlainMethodCode) → length (flat_map method_bytes (method_records at hs ms)) ≤ heads_size hs
unfolding heads_size
methods-length at [] ms = omega arith
methods-length at (h ∷ hs) [] = omega arith
methods-length at (h ∷ hs) (m ∷ ms) = simp lengths (omega (arith, method-length at h m, methods-length at hs ms))

heads-size : (ms : List PlainMethod) → heads_size (map method_head ms) ≡ methods_size ms
unfolding heads_size
heads-size [] = refl
heads-size (m ∷ ms) = omega (arith, heads-size ms)

all-heads-size : (c : PlainClass) → heads_size (heads_of c) ≡ all_methods_size c.methods
unfolding heads_size
all-heads-size c = omega (arith, heads-size c.methods)

range-length : (at : ℕ) (r : PlainRange) → length (range_bytes (range_record at r)) ≡ 4 * u32_size + string_size (text_of_option r.class)
unfolding range_bytes
range-length at r = simp lengths (omega arith)

ranges-length : (at : ℕ) (rs : List PlainRange) → length (flat_map range_bytes (map (range_record at) rs)) ≡ range_sizes rs
unfolding range_sizes
ranges-length at [] = refl
ranges-length at (r ∷ rs) = simp lengths (omega (arith, range-length at r, ranges-length at rs))

pairs-length : (ps : List PlainPair) → length (flat_map pair_bytes (map pair_record ps)) ≡ pairs_size ps
pairs-length [] = refl
pairs-length (p ∷ ps) = simp lengths (omega (arith, pairs-length ps))

-- ---- tables

ctable-length : (es : List PlainEntry) → length (flat_map centry_bytes (map centry es)) ≡ weigh (λ e. spelled_in class_table e.target) es
ctable-length [] = refl
ctable-length (e ∷ es) = simp lengths (omega (arith, ctable-length es))

otable-length : (es : List PlainEntry) → length (flat_map oentry_bytes (map oentry es)) ≡ weigh (λ e. spelled_in offset_table e.target) es
otable-length [] = refl
otable-length (e ∷ es) = simp lengths (omega (arith, otable-length es))

atable-length : (es : List PlainEntry) → length (flat_map aentry_bytes (map aentry es)) ≡ weigh (λ e. spelled_in address_table e.target) es
atable-length [] = refl
atable-length (e ∷ es) = simp lengths (omega (arith, atable-length es))

itable-length : (es : List PlainEntry) → length (flat_map ientry_bytes (map ientry es)) ≡ weigh (λ e. spelled_in interface_table e.target) es
itable-length [] = refl
itable-length (e ∷ es) = simp lengths (omega (arith, itable-length es))

-- the bytes of the tables of entries that are those of their kinds
module _ (es : List PlainEntry) where
  four_tables : weigh impropriety es ≡ 0
      → length (flat_map centry_bytes (map centry (uses_of class_table es)))
      + length (flat_map oentry_bytes (map oentry (uses_of offset_table es)))
      + length (flat_map aentry_bytes (map aentry (uses_of address_table es)))
      + length (flat_map ientry_bytes (map ientry (uses_of interface_table es)))
      ≡ entries_size es
  four_tables proper =
      omega (
        arith,
        ctable-length (uses_of class_table es),
        otable-length (uses_of offset_table es),
        atable-length (uses_of address_table es),
        itable-length (uses_of interface_table es),
        spelled-sizes class_table es proper,
        spelled-sizes offset_table es proper,
        spelled-sizes address_table es proper,
        spelled-sizes interface_table es proper,
        four entry_size es,
        measured-sizes es,
      )

-- ---- the whole

-- a record by its parts
record-length : (at tab : ℕ) (c : PlainClass) (code : PlainCode)
    → length (class_bytes (class_record at tab c code))
    ≤ head_size c.head + (4 + fields_size c.fields) + (4 + all_methods_size c.methods) + (4 + range_sizes code.ranges) + (4 + pairs_size c.pairs)
    + (4 + length (flat_map centry_bytes (map centry code.ctable))) + (4 + length (flat_map oentry_bytes (map oentry code.otable)))
    + (4 + length (flat_map aentry_bytes (map aentry code.atable))) + (4 + length (flat_map ientry_bytes (map ientry code.itable))) + 4
unfolding class_bytes class_record tables_bytes
record-length at tab c code =
    simp lengths
    (omega (
      arith,
      head-length c.head,
      fields-length c.fields,
      methods-length at (heads_of c) code.methods,
      all-heads-size c,
      ranges-length at code.ranges,
      pairs-length c.pairs,
    ))

module _ (entries : EntriesLaw) (long : LongIsMeasured) (short : ShortIsNotLonger) where
  proper_entries : (c : PlainClass) → weigh impropriety (class_entries c) ≡ 0
  unfolding Rattle.bcj_symbolic_measure.specs.Entries.entries_of
  proper_entries c =
      omega (arith, weigh-entries impropriety [] (all_uses (class_bodies c)), (class_matches entries long short c).proper)

  ranges-size : (c : PlainClass) → range_sizes (code_of c).ranges ≡ all_ranges_size (class_bodies c)
  unfolding code_of_bodies
  ranges-size c = (class_matches entries long short c).ranges 0 0

  pub class-record-length : (at tab : ℕ) (c : PlainClass) → length (class_bytes (class_record at tab c (code_of c))) ≤ class_record_size c
  unfolding record_size code_of_bodies
  class-record-length at tab c =
      omega (
        arith,
        record-length at tab c (code_of c),
        ranges-size c,
        four_tables (class_entries c) (proper_entries c),
        ap (λ es. length (flat_map centry_bytes (map centry es))) (class-table entries long short class_table c),
        ap (λ es. length (flat_map oentry_bytes (map oentry es))) (class-table entries long short offset_table c),
        ap (λ es. length (flat_map aentry_bytes (map aentry es))) (class-table entries long short address_table c),
        ap (λ es. length (flat_map ientry_bytes (map ientry es))) (class-table entries long short interface_table c),
      )
