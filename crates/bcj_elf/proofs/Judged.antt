-- The loop over judged fields.
use Rattle.std.proofs.Common.{◌≡◌, ℕ, ◌+◌, ◌<◌, ◌≤◌, true, false, List, ◌∷◌, length, get_or, drop, map, Option, Some, None, refl, sym, ap, ◌∙◌}
use Rattle.std.proofs.lemmas.Bool.{le-leb, lt-leb}
use Rattle.std.proofs.lemmas.List.{drop_more, drop_all}
use Rattle.bcj_elf.specs.declared.field.Field.{Field}
use Rattle.bcj_elf.specs.Fields.{is_good, first_bad}
use Rattle.bcj_elf.specs.function.Judging.{plain_field}
use Rattle.bcj_elf.proofs.FirstBad.{good_first, bad_first}

good : (bytes : List ℕ) (f : Field) → f.at + f.size ≤ length bytes → f.is_right ≡ true → is_good bytes (plain_field f) ≡ true
unfolding plain_field
good bytes f le right = rw (le-leb (f.at + f.size) (length bytes) le) right

cut : (bytes : List ℕ) (f : Field) → length bytes < f.at + f.size → is_good bytes (plain_field f) ≡ false
unfolding plain_field
cut bytes f lt = rw (lt-leb (f.at + f.size) (length bytes) lt) refl

-- where the test of the bytes passes or not, a wrong value is bad
wrong : (bytes : List ℕ) (f : Field) → f.at + f.size ≤ length bytes → f.is_right ≡ false → is_good bytes (plain_field f) ≡ false
unfolding plain_field
wrong bytes f le e = rw (le-leb (f.at + f.size) (length bytes) le) e

abbrev place_of : ℕ → List ℕ → Option (ℕ × List ℕ)
place_of at name = Some (at, name)

place : (f : Field) → place_of (plain_field f).at (plain_field f).name ≡ place_of f.at f.what.now
unfolding plain_field
place f = refl

at_front : (bytes : List ℕ) (fs : List Field) (i : ℕ) (d : Field) (total : Option (ℕ × List ℕ)) → i < length fs → first_bad bytes (map plain_field (drop i fs)) ≡ total
    → first_bad bytes (plain_field (get_or fs i d) ∷ map plain_field (drop (i + 1) fs)) ≡ total
at_front bytes fs i d total lt so_far = ap (λ (z : List Field). first_bad bytes (map plain_field z)) (sym (drop_more fs i d lt)) ∙ so_far

pub fields_go_on : (bytes : List ℕ) (fs : List Field) (i : ℕ) (d : Field) (total : Option (ℕ × List ℕ)) → i < length fs → (get_or fs i d).at + (get_or fs i d).size ≤ length bytes → (get_or fs i d).is_right ≡ true
    → first_bad bytes (map plain_field (drop i fs)) ≡ total → first_bad bytes (map plain_field (drop (i + 1) fs)) ≡ total
fields_go_on bytes fs i d total lt le right so_far =
    sym (good_first bytes (plain_field (get_or fs i d)) (map plain_field (drop (i + 1) fs)) (good bytes (get_or fs i d) le right)) ∙ at_front bytes fs i d total lt so_far

bad_ends : (bytes : List ℕ) (fs : List Field) (i : ℕ) (d : Field) (total : Option (ℕ × List ℕ)) → i < length fs → is_good bytes (plain_field (get_or fs i d)) ≡ false
    → first_bad bytes (map plain_field (drop i fs)) ≡ total → place_of (get_or fs i d).at (get_or fs i d).what.now ≡ total
bad_ends bytes fs i d total lt bad so_far =
    sym (place (get_or fs i d)) ∙ sym (bad_first bytes (plain_field (get_or fs i d)) (map plain_field (drop (i + 1) fs)) bad) ∙ at_front bytes fs i d total lt so_far

pub cut_ends : (bytes : List ℕ) (fs : List Field) (i : ℕ) (d : Field) (total : Option (ℕ × List ℕ)) → i < length fs → length bytes < (get_or fs i d).at + (get_or fs i d).size
    → first_bad bytes (map plain_field (drop i fs)) ≡ total → place_of (get_or fs i d).at (get_or fs i d).what.now ≡ total
cut_ends bytes fs i d total lt short so_far = bad_ends bytes fs i d total lt (cut bytes (get_or fs i d) short) so_far

pub wrong_ends : (bytes : List ℕ) (fs : List Field) (i : ℕ) (d : Field) (total : Option (ℕ × List ℕ)) → i < length fs → (get_or fs i d).at + (get_or fs i d).size ≤ length bytes → (get_or fs i d).is_right ≡ false
    → first_bad bytes (map plain_field (drop i fs)) ≡ total → place_of (get_or fs i d).at (get_or fs i d).what.now ≡ total
wrong_ends bytes fs i d total lt le e so_far = bad_ends bytes fs i d total lt (wrong bytes (get_or fs i d) le e) so_far

pub fields_end : (bytes : List ℕ) (fs : List Field) (i : ℕ) (total : Option (ℕ × List ℕ)) → length fs ≤ i → first_bad bytes (map plain_field (drop i fs)) ≡ total → None ≡ total
unfolding first_bad
fields_end bytes fs i total le so_far = ap (λ (z : List Field). first_bad bytes (map plain_field z)) (sym (drop_all i fs le)) ∙ so_far
