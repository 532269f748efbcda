-- What stands in the place of an I format's immediate in ECALL and EBREAK: RISC-V Instruction Set Manual, volume I,
-- "Environment Call and Breakpoints".
use Rattle.std.specs.Prelude.{ℕ}

abbrev pub ecall : ℕ
ecall = 0

abbrev pub ebreak : ℕ
ebreak = 1
