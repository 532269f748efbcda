-- The counts of a class are the sums over its pieces, each at the last value of its type where it passes that.
use Rattle.std.proofs.Common.{◌≡◌, refl, ap, sym, ◌∙◌, ℕ, ◌+◌, List, [], ◌∷◌, ◌++◌, length}
use Rattle.bcj_symbolic_trees.specs.Units.{PlainClass}
use Rattle.bcj_symbolic_measure.specs.declared.object.Sums.{Sums}
use Rattle.bcj_symbolic_measure.specs.Totals.{capped, plus, larger}
use Rattle.bcj_symbolic_measure.specs.Entries.{PlainEntry, with_entry, with_entries}
use Rattle.bcj_symbolic_measure.specs.Scheme.{Piece, plain, usage, fetch, region, handled}
use Rattle.bcj_symbolic_measure.specs.Bodies.{piece_words, piece_relocations, piece_ranges, words, relocations, ranges_size, uses, all_words, largest_words, all_relocations, all_ranges_size, all_uses, class_bodies, class_frame_size}
use Rattle.bcj_symbolic_measure.specs.function.Counts.{Counts, worded, located, entered, ranged, counted, noted, closed, bodies_noted}
use Rattle.bcj_symbolic_measure.specs.Objects.{class_entries, class_record_size, class_names_size, text_words, text_relocations, table_words, records_size, symbol_names_size}
use Rattle.bcj_symbolic_measure.specs.Measures.{frames_of, methods_of}
use Rattle.bcj_symbolic_measure.specs.function.Sums.{with_class, with_classes}
use Rattle.bcj_symbolic_measure.proofs.TotalLemmas.{plus-plus, plus-capped-left, plus-nothing, plus-zero, larger-nothing, plus-none, plus-like, largest-like, larger-three}

-- ---- over the pieces of a body

step-words : (c : Counts) (p : Piece) (n : ℕ) → plus (counted c p).words n ≡ plus c.words (piece_words p + n)
unfolding counted worded located entered ranged
step-words c (plain k) n = plus-plus c.words k n
step-words c (usage e) n = plus-plus c.words (piece_words (usage e)) n
step-words c (fetch e) n = plus-plus c.words (piece_words (fetch e)) n
step-words c region n = plus-plus c.words (piece_words region) n
step-words c (handled class) n = plus-none c.words n

pub noted-words : (c : Counts) (ps : List Piece) → capped (noted c ps).words ≡ plus c.words (words ps)
unfolding noted
noted-words c [] = plus-nothing c.words
noted-words c (p ∷ ps) = noted-words (counted c p) ps ∙ step-words c p (words ps)

step-relocations : (c : Counts) (p : Piece) (n : ℕ) → plus (counted c p).relocations n ≡ plus c.relocations (piece_relocations p + n)
unfolding counted worded located entered ranged
step-relocations c (plain k) n = plus-none c.relocations n
step-relocations c (usage e) n = plus-plus c.relocations 2 n
step-relocations c (fetch e) n = plus-plus c.relocations 2 n
step-relocations c region n = plus-plus c.relocations 2 n
step-relocations c (handled class) n = plus-none c.relocations n

pub noted-relocations : (c : Counts) (ps : List Piece) → capped (noted c ps).relocations ≡ plus c.relocations (relocations ps)
unfolding noted
noted-relocations c [] = plus-nothing c.relocations
noted-relocations c (p ∷ ps) = noted-relocations (counted c p) ps ∙ step-relocations c p (relocations ps)

step-ranges : (c : Counts) (p : Piece) (n : ℕ) → plus (counted c p).ranges n ≡ plus c.ranges (piece_ranges p + n)
unfolding counted worded located entered ranged
step-ranges c (plain k) n = plus-none c.ranges n
step-ranges c (usage e) n = plus-none c.ranges n
step-ranges c (fetch e) n = plus-none c.ranges n
step-ranges c region n = plus-none c.ranges n
step-ranges c (handled class) n = plus-plus c.ranges (piece_ranges (handled class)) n

pub noted-ranges : (c : Counts) (ps : List Piece) → capped (noted c ps).ranges ≡ plus c.ranges (ranges_size ps)
unfolding noted
noted-ranges c [] = plus-nothing c.ranges
noted-ranges c (p ∷ ps) = noted-ranges (counted c p) ps ∙ step-ranges c p (ranges_size ps)

pub noted-entries : (c : Counts) (ps : List Piece) → (noted c ps).entries ≡ with_entries c.entries (uses ps)
unfolding noted counted worded located entered ranged
noted-entries c [] = refl
noted-entries c (plain k ∷ ps) = noted-entries (counted c (plain k)) ps
noted-entries c (usage e ∷ ps) = noted-entries (counted c (usage e)) ps
noted-entries c (fetch e ∷ ps) = noted-entries (counted c (fetch e)) ps
noted-entries c (region ∷ ps) = noted-entries (counted c region) ps
noted-entries c (handled class ∷ ps) = noted-entries (counted c (handled class)) ps

pub noted-text : (c : Counts) (ps : List Piece) → (noted c ps).text ≡ c.text
unfolding noted counted worded located entered ranged
noted-text c [] = refl
noted-text c (plain k ∷ ps) = noted-text (counted c (plain k)) ps
noted-text c (usage e ∷ ps) = noted-text (counted c (usage e)) ps
noted-text c (fetch e ∷ ps) = noted-text (counted c (fetch e)) ps
noted-text c (region ∷ ps) = noted-text (counted c region) ps
noted-text c (handled class ∷ ps) = noted-text (counted c (handled class)) ps

pub noted-largest : (c : Counts) (ps : List Piece) → (noted c ps).largest ≡ c.largest
unfolding noted counted worded located entered ranged
noted-largest c [] = refl
noted-largest c (plain k ∷ ps) = noted-largest (counted c (plain k)) ps
noted-largest c (usage e ∷ ps) = noted-largest (counted c (usage e)) ps
noted-largest c (fetch e ∷ ps) = noted-largest (counted c (fetch e)) ps
noted-largest c (region ∷ ps) = noted-largest (counted c region) ps
noted-largest c (handled class ∷ ps) = noted-largest (counted c (handled class)) ps

-- ---- over the bodies of a class

with_entries-append : (es a b : List PlainEntry) → with_entries (with_entries es a) b ≡ with_entries es (a ++ b)
with_entries-append es [] b = refl
with_entries-append es (e ∷ a) b = with_entries-append (with_entry es e) a b

-- the words of a body that begins at none
body-words : (c : Counts) (b : List Piece) → c.words ≡ 0 → capped (noted c b).words ≡ capped (words b)
body-words c b e = noted-words c b ∙ (λ i. plus (e i) (words b)) ∙ plus-zero (words b)

pub bodies-text : (c : Counts) (bs : List (List Piece)) → c.words ≡ 0 → capped (bodies_noted c bs).text ≡ plus c.text (all_words bs)
unfolding bodies_noted closed
bodies-text c [] e = plus-nothing c.text
bodies-text c (b ∷ bs) e =
    bodies-text (closed (noted c b)) bs refl
    ∙ (λ i. plus (plus (noted-text c b i) (noted c b).words) (all_words bs))
    ∙ ap (λ t. plus t (all_words bs)) (plus-like c.text _ _ (body-words c b e))
    ∙ plus-plus c.text (words b) (all_words bs)

pub bodies-largest : (c : Counts) (bs : List (List Piece)) → c.words ≡ 0 → capped (bodies_noted c bs).largest ≡ capped (larger c.largest (largest_words bs))
unfolding bodies_noted closed
bodies-largest c [] e = larger-nothing c.largest
bodies-largest c (b ∷ bs) e =
    bodies-largest (closed (noted c b)) bs refl
    ∙ (λ i. capped (larger (larger (noted-largest c b i) (noted c b).words) (largest_words bs)))
    ∙ largest-like c.largest _ _ (largest_words bs) (body-words c b e)

pub bodies-relocations : (c : Counts) (bs : List (List Piece)) → capped (bodies_noted c bs).relocations ≡ plus c.relocations (all_relocations bs)
unfolding bodies_noted closed
bodies-relocations c [] = plus-nothing c.relocations
bodies-relocations c (b ∷ bs) =
    bodies-relocations (closed (noted c b)) bs
    ∙ sym (plus-capped-left (noted c b).relocations (all_relocations bs))
    ∙ ap (λ t. plus t (all_relocations bs)) (noted-relocations c b)
    ∙ plus-plus c.relocations (relocations b) (all_relocations bs)

pub bodies-ranges : (c : Counts) (bs : List (List Piece)) → capped (bodies_noted c bs).ranges ≡ plus c.ranges (all_ranges_size bs)
unfolding bodies_noted closed
bodies-ranges c [] = plus-nothing c.ranges
bodies-ranges c (b ∷ bs) =
    bodies-ranges (closed (noted c b)) bs
    ∙ sym (plus-capped-left (noted c b).ranges (all_ranges_size bs))
    ∙ ap (λ t. plus t (all_ranges_size bs)) (noted-ranges c b)
    ∙ plus-plus c.ranges (ranges_size b) (all_ranges_size bs)

pub bodies-entries : (c : Counts) (bs : List (List Piece)) → (bodies_noted c bs).entries ≡ with_entries c.entries (all_uses bs)
unfolding bodies_noted closed
bodies-entries c [] = refl
bodies-entries c (b ∷ bs) =
    bodies-entries (closed (noted c b)) bs
    ∙ ap (λ es. with_entries es (all_uses bs)) (noted-entries c b)
    ∙ with_entries-append c.entries (uses b) (all_uses bs)

-- ---- over the classes of a unit

pub sums-frame : (s : Sums) (cs : List PlainClass) → capped (with_classes s cs).frame ≡ capped (larger s.frame (frames_of cs))
unfolding with_classes with_class
sums-frame s [] = larger-nothing s.frame
sums-frame s (c ∷ cs) = sums-frame (with_class s c) cs ∙ larger-three s.frame (class_frame_size c) (frames_of cs)

pub sums-method : (s : Sums) (cs : List PlainClass) → capped (with_classes s cs).method ≡ capped (larger s.method (methods_of cs))
unfolding with_classes with_class
sums-method s [] = larger-nothing s.method
sums-method s (c ∷ cs) = sums-method (with_class s c) cs ∙ larger-three s.method (largest_words (class_bodies c)) (methods_of cs)

pub sums-text : (s : Sums) (cs : List PlainClass) → capped (with_classes s cs).text ≡ plus s.text (text_words cs)
unfolding with_classes with_class
sums-text s [] = plus-nothing s.text
sums-text s (c ∷ cs) = sums-text (with_class s c) cs ∙ plus-plus s.text (all_words (class_bodies c)) (text_words cs)

pub sums-relocations : (s : Sums) (cs : List PlainClass) → capped (with_classes s cs).relocations ≡ plus s.relocations (text_relocations cs)
unfolding with_classes with_class
sums-relocations s [] = plus-nothing s.relocations
sums-relocations s (c ∷ cs) = sums-relocations (with_class s c) cs ∙ plus-plus s.relocations (all_relocations (class_bodies c)) (text_relocations cs)

pub sums-tables : (s : Sums) (cs : List PlainClass) → capped (with_classes s cs).tables ≡ plus s.tables (table_words cs)
unfolding with_classes with_class
sums-tables s [] = plus-nothing s.tables
sums-tables s (c ∷ cs) = sums-tables (with_class s c) cs ∙ plus-plus s.tables (1 + length (class_entries c)) (table_words cs)

pub sums-records : (s : Sums) (cs : List PlainClass) → capped (with_classes s cs).records ≡ plus s.records (records_size cs)
unfolding with_classes with_class
sums-records s [] = plus-nothing s.records
sums-records s (c ∷ cs) = sums-records (with_class s c) cs ∙ plus-plus s.records (class_record_size c) (records_size cs)

pub sums-names : (s : Sums) (cs : List PlainClass) → capped (with_classes s cs).names ≡ plus s.names (symbol_names_size cs)
unfolding with_classes with_class
sums-names s [] = plus-nothing s.names
sums-names s (c ∷ cs) = sums-names (with_class s c) cs ∙ plus-plus s.names (class_names_size c) (symbol_names_size cs)
