-- The laws of words in memory, and of 32 bits. No other file opens `read`, `write` or `wrap`.
use Rattle.std.proofs.Common.{◌≡◌, ℕ, ◌+◌, ◌-◌, ◌*◌, ◌%◌, ◌^◌, ◌<◌, ◌≤◌, List, ◌++◌, length, take, drop, slice_index, refl, ap, ◌∙◌, arith, length-append, length-drop, length-take-le, get_or-drop, get_or-append-add}
use Rattle.std.proofs.lemmas.List.{get_or_append_left, get_or-append_right, get_or-take}
use Rattle.byteorder.specs.Endian.{little_bytes}
use Rattle.rv_steps.specs.Memory.{read, write, wrap}

-- a word from its four bytes
abbrev word : ℕ → ℕ → ℕ → ℕ → ℕ
word p q r s = p + 256 * (q + 256 * (r + 256 * s))

four : (p q r s p1 q1 r1 s1 : ℕ) → p ≡ p1 → q ≡ q1 → r ≡ r1 → s ≡ s1 → word p q r (s + 0) ≡ word p1 q1 r1 s1
four p q r s p1 q1 r1 s1 ep eq er es = omega arith

read_bytes : (m : List ℕ) (a : ℕ)
    → read m a ≡ word (slice_index m a) (slice_index m (a + 1)) (slice_index m (a + 2)) (slice_index m (a + 3))
unfolding read
read_bytes m a =
    let first = get_or-drop a m 0 0 ∙ ap (λ i. slice_index m i) (omega arith) in
    four _ _ _ _ _ _ _ _ first (get_or-drop a m 1 0) (get_or-drop a m 2 0) (get_or-drop a m 3 0)

module _ (m : List ℕ) (a v : ℕ) (room : a + 4 ≤ length m) where
  length_front : length (take a m) ≡ a
  length_front = length-take-le a m (omega arith)

  pub length_write : length (write m a v) ≡ length m
  unfolding write
  length_write = omega (arith, length-append (take a m) (little_bytes 4 v ++ drop (a + 4) m), length_front, length-drop (a + 4) m)

  byte_below : (i : ℕ) → i < a → slice_index (write m a v) i ≡ slice_index m i
  unfolding write
  byte_below i h =
      get_or_append_left (take a m) (little_bytes 4 v ++ drop (a + 4) m) 0 i (omega (arith, length_front)) ∙ get_or-take a m i 0 h

  byte_behind : (i : ℕ) → slice_index (write m a v) (a + i) ≡ slice_index (little_bytes 4 v ++ drop (a + 4) m) i
  unfolding write
  byte_behind i =
      get_or-append_right (take a m) (little_bytes 4 v ++ drop (a + 4) m) a (a + i) 0 length_front (omega arith) ∙ ap (λ k. slice_index (little_bytes 4 v ++ drop (a + 4) m) k) (omega arith)

  byte_above : (i : ℕ) → a + 4 ≤ i → slice_index (write m a v) i ≡ slice_index m i
  byte_above i h =
      let k : ℕ = i - a in
      let e : i ≡ a + k = omega arith in
      let there = ap (λ j. slice_index (write m a v) j) e ∙ byte_behind k in
      let past = get_or-append_right (little_bytes 4 v) (drop (a + 4) m) 4 k 0 refl (omega arith) in
      there ∙ past ∙ get_or-drop (a + 4) m (k - 4) 0 ∙ ap (λ j. slice_index m j) (omega arith)

  pub read_same : read (write m a v) a ≡ wrap v
  unfolding wrap
  read_same =
      let here : slice_index (write m a v) a ≡ v % 256 = ap (λ j. slice_index (write m a v) j) (omega arith) ∙ byte_behind 0 in
      let all = read_bytes (write m a v) a in
      let joined = four _ _ _ _ _ _ _ _ here (byte_behind 1) (byte_behind 2) (byte_behind 3) in
      all ∙ omega (arith, joined)

  pub read_below : (b : ℕ) → b + 4 ≤ a → read (write m a v) b ≡ read m b
  read_below b h =
      let joined = four _ _ _ _ _ _ _ _ (byte_below b (omega arith)) (byte_below (b + 1) (omega arith)) (byte_below (b + 2) (omega arith)) (byte_below (b + 3) (omega arith)) in
      omega (arith, read_bytes (write m a v) b, read_bytes m b, joined)

  pub read_above : (b : ℕ) → a + 4 ≤ b → read (write m a v) b ≡ read m b
  read_above b h =
      let joined = four _ _ _ _ _ _ _ _ (byte_above b h) (byte_above (b + 1) (omega arith)) (byte_above (b + 2) (omega arith)) (byte_above (b + 3) (omega arith)) in
      omega (arith, read_bytes (write m a v) b, read_bytes m b, joined)

pub read_lt : (m : List ℕ) (a : ℕ) → ((i : ℕ) → slice_index m i < 256) → read m a < 2 ^ 32
read_lt m a bytes = omega (arith, read_bytes m a, bytes a, bytes (a + 1), bytes (a + 2), bytes (a + 3))

pub wrap_lt : (x : ℕ) → wrap x < 2 ^ 32
unfolding wrap
wrap_lt x = omega arith

pub wrap_small : (x : ℕ) → x < 2 ^ 32 → wrap x ≡ x
unfolding wrap
wrap_small x h = omega arith

-- a negative offset
pub wrap_back : (a n : ℕ) → n ≤ a → a < 2 ^ 32 → wrap (a + (2 ^ 32 - n)) ≡ a - n
unfolding wrap
wrap_back a n le lt = omega arith

-- the word of four bytes that stand behind others
pub read_placed : (front back : List ℕ) (v : ℕ) → v < 2 ^ 32 → read (front ++ (little_bytes 4 v ++ back)) (length front) ≡ v
read_placed front back v fits =
    let m : List ℕ = front ++ (little_bytes 4 v ++ back) in
    let behind : (i : ℕ) → slice_index m (length front + i) ≡ slice_index (little_bytes 4 v ++ back) i = λ i. get_or-append-add front (little_bytes 4 v ++ back) i 0 in
    let here : slice_index m (length front) ≡ v % 256 = ap (λ j. slice_index m j) (omega arith) ∙ behind 0 in
    let joined = four _ _ _ _ _ _ _ _ here (behind 1) (behind 2) (behind 3) in
    read_bytes m (length front) ∙ omega (arith, joined)
