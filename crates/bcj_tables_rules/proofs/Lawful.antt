-- A format is read as it is written, and only so.
use Rattle.std.proofs.Common.{◌≡◌, ℕ, zero, suc, ◌+◌, ◌-◌, ◌^◌, ◌<◌, ◌≤◌, Bool, true, false, List, [], ◌∷◌, ◌++◌, length, drop, get_or, Result, Ok, Err, refl, sym, ap, subst, ◌∙◌, append_assoc, arith}
use Rattle.std.specs.Prelude.{not, ◌&&◌, ◌||◌, ◌==◌, nat_lt, if◌then◌else◌}
use Rattle.std.proofs.lemmas.Bool.{eqb-true, le-ltb, ltb-true, lt-ltb, le-leb, leb-true}
use Rattle.std.proofs.lemmas.List.{take_at, drop_at, length-append, length-take-le, length-drop, drop-drop, take-append-drop, append-nil, get_or-append-add}
use Rattle.std.proofs.lemmas.Nat.{from_le_bytes-to_le_bytes_4, le_bytes_4}
use Rattle.std.specs.Int.{w32, from_le_bytes, to_le_bytes}
use Rattle.bcj_tables_rules.specs.declared.stop.Stop.{Stop}
use Rattle.bcj_tables_rules.specs.declared.stop.Stop.TheVariants.{Bad}
use Rattle.bcj_tables_rules.specs.Spelling.{word, text}
use Rattle.bcj_tables_rules.specs.Steps.{AreBytes, Outcome, Reader, then_read, next_byte, byte_reading, next_word, word_reading, is_ascii, text_bytes, has_text, next_text, text_reading}
use Rattle.bcj_tables_rules.specs.Format.{Format, byte_field, word_field, text_field, made, code_field, ◌>>◌, spell_items, meets_items, reads_items, list_of}

pub record Lawful {A : Type 0} (f : Format A) : Type 0 where
  pub complete : (x : A) (left : List ℕ) → f.meets x ≡ true → f.reads (f.spell x ++ left) ≡ (Ok x, left)
  pub sound : (bytes left : List ℕ) (x : A) → AreBytes bytes → f.reads bytes ≡ (Ok x, left) → (f.spell x ++ left ≡ bytes) × (f.meets x ≡ true)

pub both : (a b : Bool) → (a && b) ≡ true → (a ≡ true) × (b ≡ true)
both true b e = (refl, e)
both false b e = absurd cc

-- ---- outcomes

abbrev value_or : {A : Type 0} → A → Result A Stop → A
value_or d (Ok x) = x
value_or d (Err e) = d

abbrev is_read : {A : Type 0} → Result A Stop → Bool
is_read (Ok x) = true
is_read (Err e) = false

pub same_value : {A : Type 0} (x y : A) (l m : List ℕ) → ◌≡◌ {A = Outcome A} (Ok x, l) (Ok y, m) → (x ≡ y) × (l ≡ m)
same_value {A = A} x y l m e = (ap (λ (o : Outcome A). value_or x o.0) e, ap (λ (o : Outcome A). o.1) e)

pub never_read : {A : Type 0} (s : Stop) (x : A) (l m : List ℕ) → ◌≡◌ {A = Outcome A} (Err s, l) (Ok x, m) → ⊥
never_read {A = A} s x l m e = let h : false ≡ true = ap (λ (o : Outcome A). is_read o.0) e in cc

pub record Bound {A B : Type 0} (o : Outcome A) (f : A → Reader B) (y : B) (left : List ℕ) : Type 0 where
  pub value : A
  pub middle : List ℕ
  pub first : o ≡ (Ok value, middle)
  pub second : f value middle ≡ (Ok y, left)

bound_by : {A B : Type 0} (r : Result A Stop) (m : List ℕ) (f : A → Reader B) (y : B) (left : List ℕ) → then_read (r, m) f ≡ (Ok y, left) → Bound (r, m) f y left
bound_by (Ok x) m f y left e = record { value = x; middle = m; first = refl; second = e }
bound_by (Err s) m f y left e = absurd (never_read s y m left e)

pub bound : {A B : Type 0} (o : Outcome A) (f : A → Reader B) (y : B) (left : List ℕ) → then_read o f ≡ (Ok y, left) → Bound o f y left
bound o f y left e = bound_by o.0 o.1 f y left e

-- a field is read where it is whole and good
chosen : {A : Type 0} (cut good : Bool) (bytes rest left : List ℕ) (v x : A) → ◌≡◌ {A = Outcome A} (if cut || not good then (Err Bad, bytes) else (Ok v, rest)) (Ok x, left)
    → (cut ≡ false) × (good ≡ true) × (v ≡ x) × (rest ≡ left)
chosen true good bytes rest left v x e = absurd (never_read Bad x bytes left e)
chosen false false bytes rest left v x e = absurd (never_read Bad x bytes left e)
chosen false true bytes rest left v x e = let s = same_value v x rest left e in (refl, refl, s.0, s.1)

bytes_behind : (a m bytes : List ℕ) → a ++ m ≡ bytes → AreBytes bytes → AreBytes m
bytes_behind a m bytes e are = λ i. subst (λ n. n < 256) (ap (λ z. get_or z (length a + i) 0) (sym e) ∙ get_or-append-add a m i 0) (are (length a + i))

-- ---- fields

byte_sound : (test : ℕ → Bool) (bytes left : List ℕ) (n : ℕ) → AreBytes bytes → byte_reading (test (next_byte bytes)) bytes ≡ (Ok n, left) → (n ∷ left ≡ bytes) × ((nat_lt n 256 && test n) ≡ true)
unfolding byte_reading next_byte
byte_sound test [] left n are e = absurd (never_read Bad n [] left e)
byte_sound test (b ∷ bytes) left n are e =
    let c = chosen (nat_lt (length (b ∷ bytes)) 1) (test b) (b ∷ bytes) bytes left b n e in
    let small : nat_lt b 256 ≡ true = lt-ltb b 256 (are 0) in
    let good : (nat_lt b 256 && test b) ≡ true = rw (small, c.1) refl in
    ((λ j. sym c.2 j ∷ sym c.3 j), subst (λ k. (nat_lt k 256 && test k) ≡ true) c.2 good)

pub byte_lawful : (test : ℕ → Bool) → Lawful (byte_field test)
unfolding byte_reading next_byte
byte_lawful test = record {
  complete = λ n left h. rw (le-ltb (length (n ∷ left)) 1 (omega arith), (both (nat_lt n 256) (test n) h).1) refl;
  sound = byte_sound test;
}

word_again : (n : ℕ) (left : List ℕ) → n < 2 ^ 32 → next_word (word n ++ left) ≡ n
unfolding next_word word
word_again n left small = rw (le-ltb (length (to_le_bytes w32 n ++ left)) 4 (omega arith)) (from_le_bytes-to_le_bytes_4 n small)

word_reading_again : (test : ℕ → Bool) (n : ℕ) (left : List ℕ) → n < 2 ^ 32 → test n ≡ true → word_reading (test n) (word n ++ left) ≡ (Ok n, left)
unfolding word_reading word
word_reading_again test n left small good =
    rw (le-ltb (length (to_le_bytes w32 n ++ left)) 4 (omega arith), good) (ap (λ (k : ℕ). (Ok k, left)) (word_again n left small))

word_complete : (test : ℕ → Bool) (n : ℕ) (left : List ℕ) → (nat_lt n (2 ^ 32) && test n) ≡ true → word_reading (test (next_word (word n ++ left))) (word n ++ left) ≡ (Ok n, left)
word_complete test n left h =
    let small : n < 2 ^ 32 = ltb-true _ _ (both _ _ h).0 in
    ap (λ (k : ℕ). word_reading (test k) (word n ++ left)) (word_again n left small) ∙ word_reading_again test n left small (both _ _ h).1

four : (a b c d : ℕ) (left : List ℕ) → AreBytes (a ∷ b ∷ c ∷ d ∷ left) → (word (from_le_bytes w32 (a ∷ b ∷ c ∷ d ∷ [])) ≡ a ∷ b ∷ c ∷ d ∷ []) × (from_le_bytes w32 (a ∷ b ∷ c ∷ d ∷ []) < 2 ^ 32)
unfolding word
four a b c d left are = (le_bytes_4 (a ∷ b ∷ c ∷ d ∷ []) _ refl first refl, omega (arith, are 0, are 1, are 2, are 3)) where
  first : AreBytes (a ∷ b ∷ c ∷ d ∷ [])
  first zero = are 0
  first (suc zero) = are 1
  first (suc (suc zero)) = are 2
  first (suc (suc (suc zero))) = are 3
  first (suc (suc (suc (suc i)))) = omega arith

word_sound : (test : ℕ → Bool) (bytes left : List ℕ) (n : ℕ) → AreBytes bytes → word_reading (test (next_word bytes)) bytes ≡ (Ok n, left) → (word n ++ left ≡ bytes) × ((nat_lt n (2 ^ 32) && test n) ≡ true)
unfolding word_reading next_word
word_sound test [] left n are e = absurd (never_read Bad n [] left e)
word_sound test (a ∷ []) left n are e = absurd (never_read Bad n (a ∷ []) left e)
word_sound test (a ∷ b ∷ []) left n are e = absurd (never_read Bad n (a ∷ b ∷ []) left e)
word_sound test (a ∷ b ∷ c ∷ []) left n are e = absurd (never_read Bad n (a ∷ b ∷ c ∷ []) left e)
word_sound test (a ∷ b ∷ c ∷ d ∷ bytes) left n are e =
    let value = from_le_bytes w32 (a ∷ b ∷ c ∷ d ∷ []) in
    let whole : nat_lt (length (a ∷ b ∷ c ∷ d ∷ bytes)) 4 ≡ false = le-ltb (length (a ∷ b ∷ c ∷ d ∷ bytes)) 4 (omega arith) in
    let now : ◌≡◌ {A = Outcome ℕ} (if false || not (test value) then (Err Bad, a ∷ b ∷ c ∷ d ∷ bytes) else (Ok value, bytes)) (Ok n, left) = rw whole at e in
    let s = chosen false (test value) (a ∷ b ∷ c ∷ d ∷ bytes) bytes left value n now in
    let f = four a b c d bytes are in
    let good : (nat_lt value (2 ^ 32) && test value) ≡ true = rw (lt-ltb value (2 ^ 32) f.1, s.1) refl in
    let spelled : word value ++ bytes ≡ a ∷ b ∷ c ∷ d ∷ bytes = ap (λ z. z ++ bytes) f.0 in
    ((λ j. word (sym s.2 j) ++ sym s.3 j) ∙ spelled, subst (λ k. (nat_lt k (2 ^ 32) && test k) ≡ true) s.2 good)

pub word_lawful : (test : ℕ → Bool) → Lawful (word_field test)
word_lawful test = record { complete = word_complete test; sound = word_sound test }

length_word : (n : ℕ) → length (word n) ≡ 4
unfolding word
length_word n = refl

behind_word : (n : ℕ) (left : List ℕ) → drop 4 (word n ++ left) ≡ left
unfolding word
behind_word n left = refl

text_length : (t left : List ℕ) → length (word (length t) ++ (t ++ left)) ≡ 4 + (length t + length left)
text_length t left = omega (arith, length-append (word (length t)) (t ++ left), length_word (length t), length-append t left)

text_bytes_again : (t left : List ℕ) → length t < 2 ^ 32 → text_bytes (word (length t) ++ (t ++ left)) ≡ t
unfolding text_bytes
text_bytes_again t left small = rw (word_again (length t) (t ++ left) small, behind_word (length t) (t ++ left)) (take_at t left (length t) refl)

has_text_again : (t left : List ℕ) → length t < 2 ^ 32 → is_ascii t ≡ true → has_text (word (length t) ++ (t ++ left)) ≡ true
unfolding has_text
has_text_again t left small ascii =
    rw (
      word_again (length t) (t ++ left) small,
      text_bytes_again t left small,
      le-leb 4 (length (word (length t) ++ (t ++ left))) (omega (arith, text_length t left)),
      le-leb (length t) (length (word (length t) ++ (t ++ left)) - 4) (omega (arith, text_length t left)),
      ascii,
    ) refl

next_text_again : (t left : List ℕ) → length t < 2 ^ 32 → is_ascii t ≡ true → next_text (word (length t) ++ (t ++ left)) ≡ t
unfolding next_text
next_text_again t left small ascii = rw (has_text_again t left small ascii) (text_bytes_again t left small)

behind_text : (t left : List ℕ) → drop (4 + length t) (word (length t) ++ (t ++ left)) ≡ left
behind_text t left =
    ap (drop (4 + length t)) (sym (append_assoc (word (length t)) t left))
    ∙ drop_at (word (length t) ++ t) left (4 + length t) (omega (arith, length-append (word (length t)) t, length_word (length t)))

text_reading_again : (t left : List ℕ) → length t < 2 ^ 32 → is_ascii t ≡ true → text_reading true (word (length t) ++ (t ++ left)) ≡ (Ok t, left)
unfolding text_reading
text_reading_again t left small ascii = rw (has_text_again t left small ascii, next_text_again t left small ascii) (ap (λ (z : List ℕ). (Ok t, z)) (behind_text t left))

text_complete : (test : List ℕ → Bool) (t left : List ℕ) → (nat_lt (length t) (2 ^ 32) && is_ascii t && test t) ≡ true → text_reading (test (next_text (text t ++ left))) (text t ++ left) ≡ (Ok t, left)
text_complete test t left h =
    let p = both _ _ h in
    let q = both _ _ p.0 in
    let small : length t < 2 ^ 32 = ltb-true _ _ q.0 in
    let one : test (next_text (word (length t) ++ (t ++ left))) ≡ true = ap test (next_text_again t left small q.1) ∙ p.1 in
    ap (λ (z : List ℕ). text_reading (test (next_text z)) z) (append_assoc (word (length t)) t left)
    ∙ (ap (λ (b : Bool). text_reading b (word (length t) ++ (t ++ left))) one ∙ text_reading_again t left small q.1)

not_false : (b : Bool) → not b ≡ false → b ≡ true
not_false true e = refl
not_false false e = absurd cc

word_there : (bytes : List ℕ) → AreBytes bytes → 4 ≤ length bytes → (word (next_word bytes) ++ drop 4 bytes ≡ bytes) × (next_word bytes < 2 ^ 32)
unfolding word_reading
word_there bytes are le =
    let read : word_reading true bytes ≡ (Ok (next_word bytes), drop 4 bytes) = rw (le-ltb (length bytes) 4 le) refl in
    let s = word_sound (λ _. true) bytes (drop 4 bytes) (next_word bytes) are read in
    (s.0, ltb-true _ _ (both _ _ s.1).0)

text_there : (bytes : List ℕ) → AreBytes bytes → has_text bytes ≡ true → (s : List ℕ) → text_bytes bytes ≡ s → ((word (length s) ++ s) ++ drop (4 + length s) bytes ≡ bytes) × (length s < 2 ^ 32) × (is_ascii s ≡ true)
unfolding has_text text_bytes
text_there bytes are has s is =
    let p = both _ _ has in
    let q = both _ _ p.0 in
    let four : 4 ≤ length bytes = leb-true _ _ q.0 in
    let fits : next_word bytes ≤ length bytes - 4 = leb-true _ _ q.1 in
    let w = word_there bytes are four in
    let len : length s ≡ next_word bytes = ap length (sym is) ∙ length-take-le (next_word bytes) (drop 4 bytes) (omega (arith, length-drop 4 bytes)) in
    let tail : drop (4 + length s) bytes ≡ drop (length s) (drop 4 bytes) = sym (drop-drop (length s) 4 bytes) in
    let part : s ++ drop (length s) (drop 4 bytes) ≡ drop 4 bytes =
    ap (λ (n : ℕ). s ++ drop n (drop 4 bytes)) len ∙ (ap (λ (z : List ℕ). z ++ drop (next_word bytes) (drop 4 bytes)) (sym is) ∙ take-append-drop (next_word bytes) (drop 4 bytes)) in (
      append_assoc (word (length s)) s (drop (4 + length s) bytes)
          ∙ (ap (λ (z : List ℕ). word (length s) ++ (s ++ z)) tail ∙ (ap (λ (z : List ℕ). word (length s) ++ z) part ∙ (ap (λ (n : ℕ). word n ++ drop 4 bytes) len ∙ w.0))),
      omega (arith, len, w.1),
      ap is_ascii (sym is) ∙ p.1,
    )

next_is_bytes : (bytes : List ℕ) → has_text bytes ≡ true → text_bytes bytes ≡ next_text bytes
unfolding next_text
next_is_bytes bytes has = rw has refl

text_sound : (test : List ℕ → Bool) (bytes left t : List ℕ) → AreBytes bytes → text_reading (test (next_text bytes)) bytes ≡ (Ok t, left) → (text t ++ left ≡ bytes) × ((nat_lt (length t) (2 ^ 32) && is_ascii t && test t) ≡ true)
unfolding text_reading
text_sound test bytes left t are e =
    let c = chosen (not (has_text bytes)) (test (next_text bytes)) bytes (drop (4 + length (next_text bytes)) bytes) left (next_text bytes) t e in
    let has = not_false (has_text bytes) c.0 in
    let w = text_there bytes are has (next_text bytes) (next_is_bytes bytes has) in
    let good : (nat_lt (length (next_text bytes)) (2 ^ 32) && is_ascii (next_text bytes) && test (next_text bytes)) ≡ true = rw (lt-ltb _ _ w.1, w.2, c.1) refl in
    ((λ j. (word (length (sym c.2 j)) ++ sym c.2 j) ++ sym c.3 j) ∙ w.0, subst (λ (z : List ℕ). (nat_lt (length z) (2 ^ 32) && is_ascii z && test z) ≡ true) c.2 good)

pub text_lawful : (test : List ℕ → Bool) → Lawful (text_field test)
text_lawful test = record { complete = text_complete test; sound = text_sound test }

-- ---- what is made of fields

pub record Iso {A B : Type 0} (ok : B → Bool) (to : A → B) (from : B → A) (f : Format A) : Type 0 where
  pub there : (a : A) → f.meets a ≡ true → from (to a) ≡ a
  pub kept : (a : A) → f.meets a ≡ true → ok (to a) ≡ true
  pub back : (b : B) → ok b ≡ true → to (from b) ≡ b

pub made_lawful : {A B : Type 0} {f : Format A} (ok : B → Bool) (to : A → B) (from : B → A) → Lawful f → Iso ok to from f → Lawful (made ok to from f)
made_lawful {A = A} {B = B} {f = f} ok to from law iso = record {
  complete = λ b left h. rw (law.complete (from b) left (both (ok b) (f.meets (from b)) h).1) (ap (λ z. (Ok z, left)) (iso.back b (both (ok b) (f.meets (from b)) h).0));
  sound = λ bytes left b are e.
      let cut = bound (f.reads bytes) (λ a l. (Ok (to a), l)) b left e in
      let v = same_value (to cut.value) b cut.middle left cut.second in
      let s = law.sound bytes cut.middle cut.value are cut.first in
      let there : from (to cut.value) ≡ cut.value = iso.there cut.value s.1 in
      let spelled : f.spell (from (to cut.value)) ++ cut.middle ≡ bytes = rw there s.0 in
      let good : (ok (to cut.value) && f.meets (from (to cut.value))) ≡ true = rw (iso.kept cut.value s.1, there, s.1) refl in
      ((λ j. f.spell (from (sym v.0 j)) ++ sym v.1 j) ∙ spelled, subst (λ z. (ok z && f.meets (from z)) ≡ true) v.0 good);
}

pub then_lawful : {A B : Type 0} {f : Format A} {g : A → Format B} → Lawful f → ((a : A) → Lawful (g a)) → Lawful (f >> g)
then_lawful {A = A} {B = B} {f = f} {g = g} law laws = record {
  complete = λ p left h. rw (append_assoc (f.spell p.0) ((g p.0).spell p.1) left, law.complete p.0 ((g p.0).spell p.1 ++ left) (both (f.meets p.0) ((g p.0).meets p.1) h).0, (laws p.0).complete p.1 left (both (f.meets p.0) ((g p.0).meets p.1) h).1) refl;
  sound = λ bytes left p are e.
      let one = bound (f.reads bytes) (λ a m. then_read ((g a).reads m) (λ b l. (Ok (a, b), l))) p left e in
      let s = law.sound bytes one.middle one.value are one.first in
      let two = bound ((g one.value).reads one.middle) (λ b l. (Ok (one.value, b), l)) p left one.second in
      let t = (laws one.value).sound one.middle two.middle two.value (bytes_behind (f.spell one.value) one.middle bytes s.0 are) two.first in
      let v = same_value (one.value, two.value) p two.middle left two.second in
      let spelled : (f.spell one.value ++ (g one.value).spell two.value) ++ two.middle ≡ bytes = append_assoc (f.spell one.value) ((g one.value).spell two.value) two.middle ∙ (ap (λ z. f.spell one.value ++ z) t.0 ∙ s.0) in
      let good : (f.meets one.value && (g one.value).meets two.value) ≡ true = rw (s.1, t.1) refl in
      ((λ j. (f.spell (sym v.0 j).0 ++ (g (sym v.0 j).0).spell (sym v.0 j).1) ++ sym v.1 j) ∙ spelled, subst (λ q. (f.meets q.0 && (g q.0).meets q.1) ≡ true) v.0 good);
}

-- ---- codes

pub code_lawful : {A : Type 0} (number : A → ℕ) (of : ℕ → A) (test : A → Bool) → ((a : A) → of (number a) ≡ a) → Lawful (code_field number of test)
code_lawful number of test back =
    made_lawful (λ _. true) of number (byte_lawful (λ n. number (of n) == n && test (of n))) (record {
      there = λ n h. eqb-true _ _ (both _ _ (both _ _ h).1).0;
      kept = λ n h. refl;
      back = λ a h. back a;
    })

-- ---- lists

items_complete : {A : Type 0} (one : List A → Format A) → ((before : List A) → Lawful (one before)) → (xs before : List A) (left : List ℕ) → meets_items one before xs ≡ true
    → reads_items one (length xs) before (spell_items one before xs ++ left) ≡ (Ok (before ++ xs), left)
unfolding meets_items spell_items reads_items
items_complete {A = A} one laws [] before left h = ap (λ (z : List A). (Ok z, left)) (sym (append-nil before))
items_complete {A = A} one laws (x ∷ xs) before left h =
    rw (append_assoc ((one before).spell x) (spell_items one (before ++ x ∷ []) xs) left, (laws before).complete x (spell_items one (before ++ x ∷ []) xs ++ left) (both _ _ h).0)
    (items_complete one laws xs (before ++ x ∷ []) left (both _ _ h).1 ∙ ap (λ (z : List A). (Ok z, left)) (append_assoc before (x ∷ []) xs))

record Found {A : Type 0} (one : List A → Format A) (n : ℕ) (before : List A) (bytes left : List ℕ) (ys : List A) : Type 0 where
  xs : List A
  all : before ++ xs ≡ ys
  count : length xs ≡ n
  spelled : spell_items one before xs ++ left ≡ bytes
  good : meets_items one before xs ≡ true

items_sound : {A : Type 0} (one : List A → Format A) → ((before : List A) → Lawful (one before)) → (n : ℕ) (before : List A) (bytes left : List ℕ) (ys : List A) → AreBytes bytes
    → reads_items one n before bytes ≡ (Ok ys, left) → Found one n before bytes left ys
unfolding meets_items spell_items reads_items
items_sound {A = A} one laws zero before bytes left ys are e =
    let v = same_value before ys bytes left e in
    record { xs = []; all = append-nil before ∙ v.0; count = refl; spelled = sym v.1; good = refl }
items_sound {A = A} one laws (suc n) before bytes left ys are e =
    let cut = bound ((one before).reads bytes) (λ x left. reads_items one n (before ++ x ∷ []) left) ys left e in
    let s = (laws before).sound bytes cut.middle cut.value are cut.first in
    let more = items_sound one laws n (before ++ cut.value ∷ []) cut.middle left ys (bytes_behind ((one before).spell cut.value) cut.middle bytes s.0 are) cut.second in
    record {
      xs = cut.value ∷ more.xs;
      all = sym (append_assoc before (cut.value ∷ []) more.xs) ∙ more.all;
      count = ap suc more.count;
      spelled = append_assoc ((one before).spell cut.value) (spell_items one (before ++ cut.value ∷ []) more.xs) left ∙ (ap (λ (z : List ℕ). (one before).spell cut.value ++ z) more.spelled ∙ s.0);
      good = rw (s.1, more.good) refl;
    }

list_complete : {A : Type 0} (test : ℕ → Bool) (one : ℕ → List A → Format A) → ((count : ℕ) (before : List A) → Lawful (one count before)) → (xs : List A) (left : List ℕ)
    → (list_of test one).meets xs ≡ true → (list_of test one).reads ((list_of test one).spell xs ++ left) ≡ (Ok xs, left)
list_complete {A = A} test one laws xs left h =
    let p = both _ _ h in
    let items = spell_items (one (length xs)) [] xs in
    ap (λ (z : List ℕ). (list_of test one).reads z) (append_assoc (word (length xs)) items left)
    ∙ (ap (λ (o : Outcome ℕ). then_read o (λ n m. reads_items (one n) n [] m)) (word_complete test (length xs) (items ++ left) p.0) ∙ items_complete (one (length xs)) (laws (length xs)) xs [] left p.1)

list_sound : {A : Type 0} (test : ℕ → Bool) (one : ℕ → List A → Format A) → ((count : ℕ) (before : List A) → Lawful (one count before)) → (bytes left : List ℕ) (ys : List A) → AreBytes bytes
    → (list_of test one).reads bytes ≡ (Ok ys, left) → ((list_of test one).spell ys ++ left ≡ bytes) × ((list_of test one).meets ys ≡ true)
list_sound {A = A} test one laws bytes left ys are e =
    let cut = bound (word_reading (test (next_word bytes)) bytes) (λ n m. reads_items (one n) n [] m) ys left e in
    let s = word_sound test bytes cut.middle cut.value are cut.first in
    let found = items_sound (one cut.value) (laws cut.value) cut.value [] cut.middle left ys (bytes_behind (word cut.value) cut.middle bytes s.0 are) cut.second in
    let count : cut.value ≡ length ys = sym found.count ∙ ap length found.all in
    let items : spell_items (one cut.value) [] ys ++ left ≡ cut.middle = subst (λ (z : List A). spell_items (one cut.value) [] z ++ left ≡ cut.middle) found.all found.spelled in
    let good : meets_items (one cut.value) [] ys ≡ true = subst (λ (z : List A). meets_items (one cut.value) [] z ≡ true) found.all found.good in (
      append_assoc (word (length ys)) (spell_items (one (length ys)) [] ys) left
          ∙ ((λ j. word (sym count j) ++ (spell_items (one (sym count j)) [] ys ++ left)) ∙ (ap (λ (z : List ℕ). word cut.value ++ z) items ∙ s.0)),
      subst (λ (n : ℕ). ((nat_lt n (2 ^ 32) && test n) && meets_items (one n) [] ys) ≡ true) count (rw (s.1, good) refl),
    )

pub list_lawful : {A : Type 0} {one : ℕ → List A → Format A} (test : ℕ → Bool) → ((count : ℕ) (before : List A) → Lawful (one count before)) → Lawful (list_of test one)
list_lawful {one = one} test laws = record { complete = list_complete test one laws; sound = list_sound test one laws }
