-- Identifiers and reserved words have the shape of an identifier, and so are runs of its bytes
use Rattle.std.proofs.Common.{◌≡◌, ℕ, Bool, true, false, not, List, [], ◌∷◌, ◌++◌, refl, subst, inl, inr}
use Rattle.std.specs.List.{list_all, list_any}
use Rattle.std.specs.Str.{bytes_eq}
use Rattle.std.specs.Cmp.Derive.{both_true}
use Rattle.std.proofs.lemmas.Bool.{and_parts, or_cases}
use Rattle.std.proofs.lemmas.Slice.Eq.{bytes_eq-Decides}
use Rattle.bcj_names.specs.Identifiers.{begins_identifier, in_identifier, reserved_words, is_reserved, is_word, is_identifier}
use Rattle.bcj_lexer.specs.Bytes.{Text}
use Rattle.bcj_lexer.specs.Pieces.{Run, stop, step}

pub identifier_word : (w : Text) → is_identifier w ≡ true → is_word w ≡ true
unfolding is_identifier
identifier_word w h = (and_parts (is_word w) (not (is_reserved w)) h).0

not_true : (t : Bool) → not t ≡ true → t ≡ false
not_true true e = absurd (cc)
not_true false e = refl

pub identifier-reserved : (w : Text) → is_identifier w ≡ true → is_reserved w ≡ false
unfolding is_identifier
identifier-reserved w h = not_true (is_reserved w) (and_parts (is_word w) (not (is_reserved w)) h).1

-- a word that isn't reserved is an identifier
pub word_identifier : (w : Text) → is_word w ≡ true → is_reserved w ≡ false → is_identifier w ≡ true
unfolding is_identifier
word_identifier w h n = both_true h (rw n refl)

reserved_are_words : list_all is_word reserved_words ≡ true
unfolding reserved_words
reserved_are_words = refl

-- one of some words is a word
one_is_word : (ws : List Text) (w : Text) → list_all is_word ws ≡ true → list_any (λ word. bytes_eq word w) ws ≡ true → is_word w ≡ true
one_is_word [] w a h = absurd (cc)
one_is_word (v ∷ ws) w a h =
    let both = and_parts (is_word v) (list_all is_word ws) a in
    elim (or_cases (bytes_eq v w) (list_any (λ word. bytes_eq word w) ws) h) [
      | inl e ↦ subst (λ (u : Text). is_word u ≡ true) ((bytes_eq-Decides v w).0 e) both.0
      | inr t ↦ one_is_word ws w both.1 t
    ]

pub reserved_word : (w : Text) → is_reserved w ≡ true → is_word w ≡ true
unfolding is_reserved
reserved_word w h = one_is_word reserved_words w reserved_are_words h

-- ---- runs

-- a run's bytes all pass
pub run_all : {test : ℕ → Bool} {z w r : Text} → Run test z w r → list_all test w ≡ true
run_all stop = refl
run_all (step h g) = both_true h (run_all g)

-- bytes that all pass are a run
pub all_run : (test : ℕ → Bool) (w r : Text) → list_all test w ≡ true → Run test (w ++ r) w r
all_run test [] r h = stop
all_run test (b ∷ w) r h = let p = and_parts (test b) (list_all test w) h in step p.0 (all_run test w r p.1)

pub word_of_run : (b : ℕ) {z w r : Text} → begins_identifier b ≡ true → Run in_identifier z w r → is_word (b ∷ w) ≡ true
word_of_run b h g = both_true h (run_all g)
