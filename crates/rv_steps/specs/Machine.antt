-- A machine of RV32IM with named registers: those that compiled code uses, with absolute targets of branches and jumps.
use Rattle.std.specs.Prelude.{◌≡◌, ℕ, zero, suc, ◌+◌, ◌-◌, ◌*◌, ◌%◌, ◌^◌, ℤ, Bool, not, ◌&&◌, ◌==◌, nat_le, nat_lt, if◌then◌else◌, List, [], ◌∷◌, length, Option, Some, None, bit_and, bit_or, bit_xor}
use Rattle.rv_isa.specs.Words.{upper_bits, instruction_size}
use Rattle.rv_isa.specs.Registers.{xlen}
use Rattle.rv_machine.specs.Machine.{word_size}
use Rattle.rv_steps.specs.Memory.{read, write, wrap}
use Rattle.rv_steps.specs.Arithmetic.{offset, sum, difference, product, quotient, remainder, shift_left, shift_right, shift_right_signed, less, less_unsigned}

-- the registers, by the psABI's names but for x0
pub data Reg : Type 0 where
  X0 Ra Sp T1 A0 A1 A7 S10 S11 : Reg

-- An instruction. The target of a branch or a jump is an address.
pub data Op : Type 0 where
  Lui : Reg → ℕ → Op
  Addi Xori Sltiu : Reg → Reg → ℤ → Op
  Slli : Reg → Reg → ℕ → Op
  Add Sub Mul Div Rem And Or Xor Sll Srl Sra Slt Sltu : Reg → Reg → Reg → Op
  -- the register that is loaded or stored, the base and the offset
  Lw Sw : Reg → Reg → ℤ → Op
  Beq Bne Bltu Bgeu : Reg → Reg → ℕ → Op
  Jal : Reg → ℕ → Op
  Jalr : Reg → Reg → ℤ → Op
  Ecall : Op

-- What the machine holds. `world` is what its services keep beside it, as the output so far.
pub record Config (W : Type 0) : Type 0 where
  pub pc : ℕ
  pub ra : ℕ
  pub sp : ℕ
  pub t1 : ℕ
  pub a0 : ℕ
  pub a1 : ℕ
  pub a7 : ℕ
  pub s10 : ℕ
  pub s11 : ℕ
  pub mem : List ℕ
  pub world : W

abbrev pub get : {W : Type 0} → Reg → Config W → ℕ
get X0 c = 0
get Ra c = c.ra
get Sp c = c.sp
get T1 c = c.t1
get A0 c = c.a0
get A1 c = c.a1
get A7 c = c.a7
get S10 c = c.s10
get S11 c = c.s11

abbrev pub put : {W : Type 0} → Reg → ℕ → Config W → Config W
put X0 v c = c
put Ra v c = record c { ra = v }
put Sp v c = record c { sp = v }
put T1 v c = record c { t1 = v }
put A0 v c = record c { a0 = v }
put A1 v c = record c { a1 = v }
put A7 v c = record c { a7 = v }
put S10 v c = record c { s10 = v }
put S11 v c = record c { s11 = v }

-- What a service does at an ECALL: the run goes on from there, or ends, or the ECALL is a fault.
pub data Served (W E : Type 0) : Type 0 where
  Resumes : Config W → Served W E
  Ends : E → W → Served W E
  Fails : Served W E

-- The code by addresses, the services, and the read-only end. A service sees the pc behind its ECALL.
pub record Image (W E : Type 0) : Type 0 where
  pub fetch : ℕ → Option Op
  pub low : ℕ
  pub serve : Config W → Served W E

-- What one instruction leads to. A fault of this machine says nothing of the machine below it.
pub data Next (W E : Type 0) : Type 0 where
  Go : Config W → Next W E
  Halt : E → W → Next W E
  Fault : Next W E

-- the same with the next instruction to come
abbrev pub next : {W : Type 0} → Config W → Config W
next c = record c { pc = c.pc + instruction_size }

-- a register takes a number
abbrev pub set : {W E : Type 0} → Reg → ℕ → Config W → Next W E
set rd v c = Go (next (put rd v c))

-- a word can be loaded from this address
abbrev pub is_word : ℕ → List ℕ → Bool
is_word a m = (a % word_size == 0) && nat_le (a + word_size) (length m)

abbrev pub load : {W E : Type 0} → Reg → ℕ → Config W → Next W E
load rd a c = if is_word a c.mem then set rd (read c.mem a) c else Fault

abbrev pub store : {W E : Type 0} → ℕ → ℕ → ℕ → Config W → Next W E
store low a v c = if is_word a c.mem && nat_le low a then Go (next (record c { mem = write c.mem a v })) else Fault

abbrev pub branch : {W E : Type 0} → Bool → ℕ → Config W → Next W E
branch test target c = if test then Go (record c { pc = target }) else Go (next c)

-- a jump that keeps where it came from
abbrev pub link : {W : Type 0} → Reg → ℕ → Config W → Config W
link rd target c = record (put rd (c.pc + instruction_size) c) { pc = target }

abbrev pub jump : {W E : Type 0} → Reg → ℕ → Config W → Next W E
jump rd target c = if target % instruction_size == 0 then Go (link rd target c) else Fault

abbrev pub after : {W E : Type 0} → Served W E → Next W E
after (Resumes c) = Go c
after (Ends e w) = Halt e w
after Fails = Fault

-- one instruction, by the chapters "RV32I" and "M" of the RISC-V manual
abbrev pub act : {W E : Type 0} → Image W E → Op → Config W → Next W E
act im (Lui rd n) c = set rd (wrap (n * 2 ^ (xlen - upper_bits))) c
act im (Addi rd rs n) c = set rd (sum (get rs c) (offset n)) c
act im (Xori rd rs n) c = set rd (bit_xor (get rs c) (offset n)) c
act im (Sltiu rd rs n) c = set rd (less_unsigned (get rs c) (offset n)) c
act im (Slli rd rs n) c = set rd (shift_left (get rs c) n) c
act im (Add rd r s) c = set rd (sum (get r c) (get s c)) c
act im (Sub rd r s) c = set rd (difference (get r c) (get s c)) c
act im (Mul rd r s) c = set rd (product (get r c) (get s c)) c
act im (Div rd r s) c = set rd (quotient (get r c) (get s c)) c
act im (Rem rd r s) c = set rd (remainder (get r c) (get s c)) c
act im (And rd r s) c = set rd (bit_and (get r c) (get s c)) c
act im (Or rd r s) c = set rd (bit_or (get r c) (get s c)) c
act im (Xor rd r s) c = set rd (bit_xor (get r c) (get s c)) c
act im (Sll rd r s) c = set rd (shift_left (get r c) (get s c)) c
act im (Srl rd r s) c = set rd (shift_right (get r c) (get s c)) c
act im (Sra rd r s) c = set rd (shift_right_signed (get r c) (get s c)) c
act im (Slt rd r s) c = set rd (less (get r c) (get s c)) c
act im (Sltu rd r s) c = set rd (less_unsigned (get r c) (get s c)) c
act im (Lw rd base n) c = load rd (sum (get base c) (offset n)) c
act im (Sw r base n) c = store im.low (sum (get base c) (offset n)) (get r c) c
act im (Beq r s target) c = branch (get r c == get s c) target c
act im (Bne r s target) c = branch (not (get r c == get s c)) target c
act im (Bltu r s target) c = branch (nat_lt (get r c) (get s c)) target c
act im (Bgeu r s target) c = branch (not (nat_lt (get r c) (get s c))) target c
act im (Jal rd target) c = Go (link rd target c)
act im (Jalr rd rs n) c = jump rd (sum (get rs c) (offset n)) c
act im Ecall c = after (im.serve (next c))

abbrev pub at : {W E : Type 0} → Image W E → Option Op → Config W → Next W E
at im None c = Fault
at im (Some op) c = act im op c

-- the instruction at the pc
unfoldable pub step : {W E : Type 0} → Image W E → Config W → Next W E
step im c = at im (im.fetch c.pc) c

-- where it went on, what comes then
abbrev pub go_then : {W E : Type 0} → Next W E → (Config W → Next W E) → Next W E
go_then (Go c) more = more c
go_then (Halt e w) more = Halt e w
go_then Fault more = Fault

-- this many instructions
unfoldable pub steps : {W E : Type 0} → Image W E → ℕ → Config W → Next W E
steps im zero c = Go c
steps im (suc n) c = go_then (step im c) (steps im n)

-- n instructions lead from c to d, and all of them retire
pub record Goes {W E : Type 0} (im : Image W E) (n : ℕ) (c d : Config W) : Type 0 where
  pub runs : steps im n c ≡ Go d

-- How a run ends. `Over` has the ending that a service gave and the number of retired instructions.
pub data Ending (W E : Type 0) : Type 0 where
  Over : E → W → ℕ → Ending W E
  Runaway : Config W → Ending W E
  Faulted : Ending W E

abbrev pub continue : {W E : Type 0} → Next W E → ℕ → (Config W → Ending W E) → Ending W E
continue (Go c) k more = more c
continue (Halt e w) k more = Over e w k
continue Fault k more = Faulted

-- at most `limit` instructions more, after `retired` of them
unfoldable pub run : {W E : Type 0} → Image W E → (limit retired : ℕ) → Config W → Ending W E
run im zero retired c = Runaway c
run im (suc limit) retired c = continue (step im c) (retired + 1) (run im limit (retired + 1))

-- the instruction at an address, in code that begins at another
abbrev pub place : ℕ → List Op → ℕ → Option Op
place start [] p = None
place start (op ∷ ops) p = if p == start then Some op else place (start + instruction_size) ops p

-- these instructions stand at an address and behind it
abbrev pub Has : {W E : Type 0} → Image W E → ℕ → List Op → Type 0
Has im p [] = Unit {0}
Has im p (op ∷ ops) = (im.fetch p ≡ Some op) × Has im (p + instruction_size) ops
