-- The integer registers of RV32I by the names of the RISC-V psABI, "Integer Register Convention".
use Rattle.std.specs.Prelude.{ℕ, ◌<◌}

-- how many registers there are: RISC-V Instruction Set Manual, volume I, "Programmers' Model for Base Integer ISA"
abbrev pub register_count : ℕ
register_count = 32

-- the bits of a register
abbrev pub xlen : ℕ
xlen = 32

-- a register's number
abbrev pub IsRegister : ℕ → Type 0
IsRegister r = r < register_count

-- x0, which reads zero
abbrev pub zero : ℕ
zero = 0

-- the address to return to
abbrev pub ra : ℕ
ra = 1

-- the stack pointer
abbrev pub sp : ℕ
sp = 2

-- a temporary
abbrev pub t1 : ℕ
t1 = 6

-- arguments, and the result in the first
abbrev pub a0 : ℕ
a0 = 10

abbrev pub a1 : ℕ
a1 = 11

-- the last argument, where an environment call has the number of its service
abbrev pub a7 : ℕ
a7 = 17

-- saved by who is called
abbrev pub s10 : ℕ
s10 = 26

abbrev pub s11 : ℕ
s11 = 27
