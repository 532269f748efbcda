-- One step of an RV32IM machine: RISC-V Instruction Set Manual, volume I, chapters "RV32I" and "M".
use Rattle.std.specs.Prelude.{◌≡◌, ℕ, ◌+◌, ◌-◌, ◌*◌, ◌/◌, ◌%◌, ◌^◌, ◌≤◌, ◌==◌, nat_lt, if◌then◌else◌, Option, Some, None, min, Bool, ℤ, List, [], ◌∷◌, ◌++◌, length, replicate, take, drop, slice_index, slice_set, bit_and, bit_or, bit_xor}
use Rattle.std.specs.Option.{option_or}
use Rattle.byteorder.specs.Endian.{little_number, little_bytes}
use Rattle.rv_isa.specs.declared.instruction.Instr.{Instr}
use Rattle.rv_isa.specs.declared.instruction.Instr.TheVariants.{
  Lui,
  Auipc,
  Jal,
  Jalr,
  Beq,
  Bne,
  Blt,
  Bge,
  Bltu,
  Bgeu,
  Lb,
  Lh,
  Lw,
  Lbu,
  Lhu,
  Sb,
  Sh,
  Sw,
  Addi,
  Slti,
  Sltiu,
  Xori,
  Ori,
  Andi,
  Slli,
  Srli,
  Srai,
  Add,
  Sub,
  Sll,
  Slt,
  Sltu,
  Xor,
  Srl,
  Sra,
  Or,
  And,
  Mul,
  Mulh,
  Mulhsu,
  Mulhu,
  Div,
  Divu,
  Rem,
  Remu,
  Fence,
  Ecall,
  Ebreak,
}
use Rattle.rv_isa.specs.Registers.{register_count, zero, xlen}
use Rattle.rv_isa.specs.Words.{instruction_size, bits, amount_bits}
use Rattle.rv_isa.specs.Branches.{is_taken}
use Rattle.rv_machine.specs.declared.answers.FaultKind.{FaultKind}
use Rattle.rv_machine.specs.declared.answers.FaultKind.TheVariants.{Unaligned, Outside, ReadOnly, Break}
use Rattle.rv_machine.specs.declared.answers.Step.{Step}
use Rattle.rv_machine.specs.declared.answers.Step.TheVariants.{Went, Call, Fault}
use Rattle.rv_machine.specs.Arithmetic.{
  wrap,
  sign_extended,
  upper_value,
  sum,
  difference,
  less,
  less_unsigned,
  shift_left,
  shift_right,
  shift_right_signed,
  product,
  upper_product,
  upper_product_mixed,
  upper_product_unsigned,
  quotient,
  quotient_unsigned,
  remainder,
  remainder_unsigned,
  signed_byte,
  signed_half,
}

-- the bytes of the data of LB, LBU and SB, of LH, LHU and SH, of LW and SW
abbrev pub byte_size : ℕ
byte_size = 1

abbrev pub half_size : ℕ
half_size = 2

abbrev pub word_size : ℕ
word_size = 4

-- the most bytes of memory: each has an address, and so has the end
abbrev pub max_memory_length : ℕ
max_memory_length = 2 ^ xlen - 1

-- the last value of the count of instructions, which stands still there
abbrev pub max_retired : ℕ
max_retired = 2 ^ 128 - 1

-- What a machine holds: x0 to x31, the bytes of memory, the address below which no store may begin, the pc, and how many
-- instructions have retired.
pub record State : Type 0 where
  pub registers : List ℕ
  pub memory : List ℕ
  pub read_only : ℕ
  pub pc : ℕ
  pub retired : ℕ

-- what is so of each machine
pub record IsMachine (s : State) : Type 0 where
  pub registers : length s.registers ≡ register_count
  pub memory : length s.memory ≤ max_memory_length
  pub read_only : s.read_only ≤ length s.memory

-- registers that have these numbers, each given with the register's, and 0 in all others
abbrev pub registers_with : List (ℕ × ℕ) → List ℕ
registers_with [] = replicate register_count 0
registers_with (x ∷ xs) = slice_set (registers_with xs) x.0 x.1

-- x0 reads zero
abbrev pub register : State → ℕ → ℕ
register s r = if r == zero then 0 else slice_index s.registers r

-- a write of x0 is dropped
abbrev pub with_register : State → ℕ → ℕ → State
with_register s r v = record s { registers = if r == zero then s.registers else slice_set s.registers r v }

-- the word at the pc can be fetched
pub record IsFetched (s : State) : Type 0 where
  pub aligned : s.pc % instruction_size ≡ 0
  pub inside : s.pc + instruction_size ≤ s.read_only

abbrev pub word_at_pc : State → ℕ
word_at_pc s = little_number instruction_size (drop s.pc s.memory)

-- a fault changes nothing
abbrev pub fault : FaultKind → State → Step × State
fault kind s = (Fault kind, s)

-- where a step was a fault, the state is the same
abbrev pub KeepsOnFault : State → Step → State → Type 0
KeepsOnFault old Went new = Unit {0}
KeepsOnFault old Call new = Unit {0}
KeepsOnFault old (Fault kind) new = new ≡ old

-- the instruction retires, and the machine goes on at an address
abbrev pub retire : State → ℕ → State
retire s target = record s { pc = target; retired = min (s.retired + 1) max_retired }

-- the address behind the instruction
abbrev pub behind : State → ℕ
behind s = wrap (s.pc + instruction_size)

unfoldable pub pass : State → Step × State
pass s = (Went, retire s (behind s))

unfoldable pub put : State → ℕ → ℕ → Step × State
put s rd v = (Went, retire (with_register s rd v) (behind s))

-- an ECALL, which the environment answers
unfoldable pub call : State → Step × State
call s = (Call, retire s (behind s))

-- a jump leaves the address behind it in rd; to an address where no instruction may stand it is a fault and writes no register
unfoldable pub jump : State → ℕ → ℕ → Step × State
jump s rd target =
    if target % instruction_size == 0 then (Went, retire (with_register s rd (behind s)) target) else fault Unaligned s

-- a taken branch; one that isn't taken may have any target
unfoldable pub branch : State → Bool → ℤ → Step × State
branch s taken imm = if taken then jump s zero (sum s.pc (sign_extended imm)) else pass s

-- the address of a load or a store
abbrev pub address : State → ℕ → ℤ → ℕ
address s rs1 imm = sum (register s rs1) (sign_extended imm)

-- data that is no multiple of its size is a fault, and so is data that isn't wholly inside the memory
unfoldable pub data_fault : State → (size at : ℕ) → Option FaultKind
data_fault s size at =
    if at % size == 0 then (if nat_lt (length s.memory) (at + size) then Some Outside else None) else Some Unaligned

abbrev pub unless : Option FaultKind → State → Step × State → Step × State
unless (Some kind) s done = fault kind s
unless None s done = done

-- rd gets a number that is made of the one in the bytes, the lowest first
unfoldable pub load : State → (size : ℕ) → (ℕ → ℕ) → (rd at : ℕ) → Step × State
load s size extended rd at =
    unless (data_fault s size at) s (put s rd (extended (little_number size (drop at s.memory))))

-- memory with bytes at an address
abbrev pub with_bytes : List ℕ → ℕ → List ℕ → List ℕ
with_bytes memory at bytes = take at memory ++ (bytes ++ drop (at + length bytes) memory)

-- a store that begins below the read-only end is a fault, where the data could be read
unfoldable pub store_fault : State → (size at : ℕ) → Option FaultKind
store_fault s size at = option_or (data_fault s size at) (if nat_lt at s.read_only then Some ReadOnly else None)

unfoldable pub store : State → ℕ → List ℕ → Step × State
store s at bytes =
    unless (store_fault s (length bytes) at) s (pass (record s { memory = with_bytes s.memory at bytes }))

-- what each instruction does
abbrev pub exec : Instr → State → Step × State
exec (Lui rd imm) s = put s rd (upper_value imm)
exec (Auipc rd imm) s = put s rd (sum s.pc (upper_value imm))
exec (Jal rd imm) s = jump s rd (sum s.pc (sign_extended imm))
exec (Jalr rd rs1 imm) s = jump s rd (address s rs1 imm / 2 * 2)
exec (Beq rs1 rs2 imm) s = branch s (is_taken (Beq rs1 rs2 imm) (register s rs1) (register s rs2)) imm
exec (Bne rs1 rs2 imm) s = branch s (is_taken (Bne rs1 rs2 imm) (register s rs1) (register s rs2)) imm
exec (Blt rs1 rs2 imm) s = branch s (is_taken (Blt rs1 rs2 imm) (register s rs1) (register s rs2)) imm
exec (Bge rs1 rs2 imm) s = branch s (is_taken (Bge rs1 rs2 imm) (register s rs1) (register s rs2)) imm
exec (Bltu rs1 rs2 imm) s = branch s (is_taken (Bltu rs1 rs2 imm) (register s rs1) (register s rs2)) imm
exec (Bgeu rs1 rs2 imm) s = branch s (is_taken (Bgeu rs1 rs2 imm) (register s rs1) (register s rs2)) imm
exec (Lb rd rs1 imm) s = load s byte_size signed_byte rd (address s rs1 imm)
exec (Lh rd rs1 imm) s = load s half_size signed_half rd (address s rs1 imm)
exec (Lw rd rs1 imm) s = load s word_size (λ n. n) rd (address s rs1 imm)
exec (Lbu rd rs1 imm) s = load s byte_size (λ n. n) rd (address s rs1 imm)
exec (Lhu rd rs1 imm) s = load s half_size (λ n. n) rd (address s rs1 imm)
exec (Sb rs1 rs2 imm) s = store s (address s rs1 imm) (little_bytes byte_size (register s rs2))
exec (Sh rs1 rs2 imm) s = store s (address s rs1 imm) (little_bytes half_size (register s rs2))
exec (Sw rs1 rs2 imm) s = store s (address s rs1 imm) (little_bytes word_size (register s rs2))
exec (Addi rd rs1 imm) s = put s rd (sum (register s rs1) (sign_extended imm))
exec (Slti rd rs1 imm) s = put s rd (less (register s rs1) (sign_extended imm))
exec (Sltiu rd rs1 imm) s = put s rd (less_unsigned (register s rs1) (sign_extended imm))
exec (Xori rd rs1 imm) s = put s rd (bit_xor (register s rs1) (sign_extended imm))
exec (Ori rd rs1 imm) s = put s rd (bit_or (register s rs1) (sign_extended imm))
exec (Andi rd rs1 imm) s = put s rd (bit_and (register s rs1) (sign_extended imm))
exec (Slli rd rs1 imm) s = put s rd (shift_left (register s rs1) (bits amount_bits imm))
exec (Srli rd rs1 imm) s = put s rd (shift_right (register s rs1) (bits amount_bits imm))
exec (Srai rd rs1 imm) s = put s rd (shift_right_signed (register s rs1) (bits amount_bits imm))
exec (Add rd rs1 rs2) s = put s rd (sum (register s rs1) (register s rs2))
exec (Sub rd rs1 rs2) s = put s rd (difference (register s rs1) (register s rs2))
exec (Sll rd rs1 rs2) s = put s rd (shift_left (register s rs1) (register s rs2))
exec (Slt rd rs1 rs2) s = put s rd (less (register s rs1) (register s rs2))
exec (Sltu rd rs1 rs2) s = put s rd (less_unsigned (register s rs1) (register s rs2))
exec (Xor rd rs1 rs2) s = put s rd (bit_xor (register s rs1) (register s rs2))
exec (Srl rd rs1 rs2) s = put s rd (shift_right (register s rs1) (register s rs2))
exec (Sra rd rs1 rs2) s = put s rd (shift_right_signed (register s rs1) (register s rs2))
exec (Or rd rs1 rs2) s = put s rd (bit_or (register s rs1) (register s rs2))
exec (And rd rs1 rs2) s = put s rd (bit_and (register s rs1) (register s rs2))
exec (Mul rd rs1 rs2) s = put s rd (product (register s rs1) (register s rs2))
exec (Mulh rd rs1 rs2) s = put s rd (upper_product (register s rs1) (register s rs2))
exec (Mulhsu rd rs1 rs2) s = put s rd (upper_product_mixed (register s rs1) (register s rs2))
exec (Mulhu rd rs1 rs2) s = put s rd (upper_product_unsigned (register s rs1) (register s rs2))
exec (Div rd rs1 rs2) s = put s rd (quotient (register s rs1) (register s rs2))
exec (Divu rd rs1 rs2) s = put s rd (quotient_unsigned (register s rs1) (register s rs2))
exec (Rem rd rs1 rs2) s = put s rd (remainder (register s rs1) (register s rs2))
exec (Remu rd rs1 rs2) s = put s rd (remainder_unsigned (register s rs1) (register s rs2))
exec (Fence rd rs1 imm) s = pass s
exec Ecall s = call s
exec Ebreak s = fault Break s
