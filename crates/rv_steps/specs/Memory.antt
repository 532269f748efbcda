-- Memory as words: the four bytes from an address, the lowest first, as RISC-V's LW and SW take them.
use Rattle.std.specs.Prelude.{ℕ, ◌+◌, ◌%◌, ◌^◌, List, ◌++◌, take, drop}
use Rattle.byteorder.specs.Endian.{little_number, little_bytes}
use Rattle.rv_isa.specs.Registers.{xlen}
use Rattle.rv_machine.specs.Machine.{word_size}

-- the word at an address
unfoldable pub read : List ℕ → ℕ → ℕ
read m a = little_number word_size (drop a m)

-- memory with this number's low 32 bits as the word at an address
unfoldable pub write : List ℕ → ℕ → ℕ → List ℕ
write m a v = take a m ++ (little_bytes word_size v ++ drop (a + word_size) m)

-- the low 32 bits of a number
unfoldable pub wrap : ℕ → ℕ
wrap x = x % 2 ^ xlen
