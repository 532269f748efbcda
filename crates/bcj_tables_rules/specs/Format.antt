-- How a part of the records is described, once for its bytes, for what is asked of it, and for how it is read. What is asked of a
-- field may depend on the fields before it.
use Rattle.std.specs.Prelude.{ℕ, zero, suc, ◌^◌, List, [], ◌∷◌, ◌++◌, length, Bool, true, ◌&&◌, ◌==◌, nat_lt, Ok}
use Rattle.bcj_tables_rules.specs.Spelling.{word, text}
use Rattle.bcj_tables_rules.specs.Steps.{Reader, then_read, next_byte, byte_reading, next_word, word_reading, is_ascii, next_text, text_reading}

pub record Format (A : Type 0) : Type 0 where
  -- its bytes
  pub spell : A → List ℕ
  -- whether it is good
  pub meets : A → Bool
  -- what bytes that begin with one give; where a field isn't good, they are left from that field on
  pub reads : Reader A

-- ---- fields

abbrev pub byte_field : (ℕ → Bool) → Format ℕ
byte_field test = record {
  spell = λ n. n ∷ [];
  meets = λ n. nat_lt n 256 && test n;
  reads = λ bytes. byte_reading (test (next_byte bytes)) bytes;
}

abbrev pub word_field : (ℕ → Bool) → Format ℕ
word_field test = record {
  spell = word;
  meets = λ n. nat_lt n (2 ^ 32) && test n;
  reads = λ bytes. word_reading (test (next_word bytes)) bytes;
}

abbrev pub text_field : (List ℕ → Bool) → Format (List ℕ)
text_field test = record {
  spell = text;
  meets = λ t. nat_lt (length t) (2 ^ 32) && is_ascii t && test t;
  reads = λ bytes. text_reading (test (next_text bytes)) bytes;
}

-- ---- what is made of fields

-- `to` makes the value of what is read, and `from` takes it apart; ok tells the values that are made so
abbrev pub made : {A B : Type 0} → (B → Bool) → (A → B) → (B → A) → Format A → Format B
made ok to from f = record {
  spell = λ b. f.spell (from b);
  meets = λ b. ok b && f.meets (from b);
  reads = λ bytes. then_read (f.reads bytes) (λ a left. (Ok (to a), left));
}

-- a code that is a byte
abbrev pub code_field : {A : Type 0} → (A → ℕ) → (ℕ → A) → (A → Bool) → Format A
code_field number of test = made (λ _. true) of number (byte_field (λ n. number (of n) == n && test (of n)))

infixr 10 ◌>>◌
abbrev pub ◌>>◌ : {A B : Type 0} → Format A → (A → Format B) → Format (A × B)
f >> g = record {
  spell = λ p. f.spell p.0 ++ (g p.0).spell p.1;
  meets = λ p. f.meets p.0 && (g p.0).meets p.1;
  reads = λ bytes. then_read (f.reads bytes) (λ a left. then_read ((g a).reads left) (λ b left. (Ok (a, b), left)));
}

module _ {A : Type 0} (one : List A → Format A) where
  unfoldable pub spell_items : List A → List A → List ℕ
  spell_items before [] = []
  spell_items before (x ∷ xs) = (one before).spell x ++ spell_items (before ++ x ∷ []) xs

  unfoldable pub meets_items : List A → List A → Bool
  meets_items before [] = true
  meets_items before (x ∷ xs) = (one before).meets x && meets_items (before ++ x ∷ []) xs

  unfoldable pub reads_items : ℕ → List A → Reader (List A)
  reads_items zero before bytes = (Ok before, bytes)
  reads_items (suc n) before bytes = then_read ((one before).reads bytes) (λ x left. reads_items n (before ++ x ∷ []) left)

-- a list behind its count; what is asked of an item may depend on the count and on the items before
abbrev pub list_of : {A : Type 0} → (ℕ → Bool) → (ℕ → List A → Format A) → Format (List A)
list_of test one = record {
  spell = λ xs. word (length xs) ++ spell_items (one (length xs)) [] xs;
  meets = λ xs. (nat_lt (length xs) (2 ^ 32) && test (length xs)) && meets_items (one (length xs)) [] xs;
  reads = λ bytes. then_read (word_reading (test (next_word bytes)) bytes) (λ n left. reads_items (one n) n [] left);
}

-- a list of any length whose items don't depend on one another
abbrev pub plain_list : {A : Type 0} → Format A → Format (List A)
plain_list one = list_of (λ _. true) (λ _ _. one)
