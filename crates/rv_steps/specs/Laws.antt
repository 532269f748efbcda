-- What programs that keep words and code in memory may rely on.
use Rattle.std.specs.Prelude.{◌≡◌, ℕ, ◌+◌, ◌-◌, ◌*◌, ◌%◌, ◌<◌, ◌≤◌, ◌^◌, pos, neg_ℤ, List, ◌++◌, length, slice_index, flat_map, All}
use Rattle.byteorder.specs.Endian.{little_bytes}
use Rattle.rv_isa.specs.Registers.{xlen}
use Rattle.rv_isa.specs.Words.{HasBits, HasUnsignedBits, immediate_bits, upper_bits, instruction_size}
use Rattle.rv_machine.specs.Machine.{word_size}
use Rattle.rv_steps.specs.Arithmetic.{offset, sum, upper_part, lower_part}
use Rattle.rv_steps.specs.Memory.{read, write, wrap}
use Rattle.rv_steps.specs.Machine.{Op, Image, place, Has}
use Rattle.rv_steps.specs.Lower.{CodeIn, SpellsAll, WordsIn}

-- A write keeps the length. The word written is read back, and every word that ends before it or begins behind it is as it was.
pub record MemoryLaws : Type 0 where
  pub length_write : (m : List ℕ) (a v : ℕ) → a + word_size ≤ length m → length (write m a v) ≡ length m
  pub read_same : (m : List ℕ) (a v : ℕ) → a + word_size ≤ length m → read (write m a v) a ≡ wrap v
  pub read_below : (m : List ℕ) (a v : ℕ) → a + word_size ≤ length m → (b : ℕ) → b + word_size ≤ a → read (write m a v) b ≡ read m b
  pub read_above : (m : List ℕ) (a v : ℕ) → a + word_size ≤ length m → (b : ℕ) → a + word_size ≤ b → read (write m a v) b ≡ read m b
  pub read_lt : (m : List ℕ) (a : ℕ) → ((i : ℕ) → slice_index m i < 2 ^ 8) → read m a < 2 ^ xlen

-- Sums of 32 bits where they are those of ℕ: an address some bytes behind a base and some bytes before it, and a number that
-- LUI and ADDI make of its parts.
pub record SumLaws : Type 0 where
  pub sum_on : (a n : ℕ) → a + n < 2 ^ xlen → sum a (offset (pos n)) ≡ a + n
  pub sum_back : (a n : ℕ) → n ≤ a → a < 2 ^ xlen → sum a (offset (neg_ℤ (pos n))) ≡ a - n
  pub parts_join : (n : ℕ) → n < 2 ^ xlen → sum (wrap (upper_part n * 2 ^ immediate_bits)) (offset (lower_part n)) ≡ n
  pub upper_fits : (n : ℕ) → HasUnsignedBits upper_bits (pos (upper_part n))
  pub lower_fits : (n : ℕ) → HasBits immediate_bits (lower_part n)

-- Words stand in memory where their bytes do. Where words spell the instructions of an image that places them, the image's
-- code stands in memory, and what is placed is fetched.
pub record CodeLaws (W E : Type 0) : Type 0 where
  pub words_in : (front back ws : List ℕ) → All (λ w. w < 2 ^ xlen) ws
      → WordsIn (front ++ (flat_map (λ w. little_bytes word_size w) ws ++ back)) (length front) ws
  pub code_in : (im : Image W E) (mem : List ℕ) (start : ℕ) (ops : List Op) (ws : List ℕ)
      → ((q : ℕ) → im.fetch q ≡ place start ops q)
      → start % instruction_size ≡ 0 → start + instruction_size * length ops ≤ im.low → im.low < 2 ^ xlen → SpellsAll start ops ws → WordsIn mem start ws → CodeIn im mem
  pub has_placed : (im : Image W E) (start : ℕ) (ops : List Op) → ((q : ℕ) → im.fetch q ≡ place start ops q) → Has im start ops
  pub has_front : (im : Image W E) (p : ℕ) (ops more : List Op) → Has im p (ops ++ more) → Has im p ops
  pub has_back : (im : Image W E) (p : ℕ) (ops more : List Op) → Has im p (ops ++ more) → Has im (p + instruction_size * length ops) more
