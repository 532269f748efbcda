-- What each instruction keeps.
use Rattle.std.proofs.Common.{◌≡◌, ◌≢◌, ℕ, ◌+◌, ◌%◌, ◌≤◌, ◌==◌, nat_lt, Bool, true, false, if◌then◌else◌, ℤ, Option, Some, None, List, length, take, drop, ◌++◌, slice_set, refl, ap, ◌∙◌, arith, ltb-false}
use Rattle.std.specs.Option.{option_or}
use Rattle.std.proofs.lemmas.List.{length-set, length-append, length-take-le, length-drop}
use Rattle.rv_isa.specs.Registers.{zero}
use Rattle.rv_isa.specs.Words.{instruction_size}
use Rattle.rv_isa.specs.declared.instruction.Instr.{Instr}
use Rattle.rv_isa.specs.declared.instruction.Instr.TheVariants as instr
use Rattle.rv_machine.specs.declared.answers.FaultKind.{FaultKind}
use Rattle.rv_machine.specs.declared.answers.FaultKind.TheVariants.{Unaligned, Outside, ReadOnly, Break, BadCall}
use Rattle.rv_machine.specs.declared.answers.Step.{Step}
use Rattle.rv_machine.specs.declared.answers.Step.TheVariants.{Fault}
use Rattle.rv_machine.specs.Machine.{State, IsMachine, KeepsOnFault, with_register, fault, pass, put, call, jump, branch, data_fault, store_fault, unless, load, with_bytes, store, exec}

-- the answer and the state behind an instruction, against the state before it
pub record Keeps (s : State) (r : Step × State) : Type 0 where
  pub on_fault : KeepsOnFault s r.0 r.1
  pub never : r.0 ≢ Fault BadCall
  pub registers : length r.1.registers ≡ length s.registers
  pub memory : length r.1.memory ≡ length s.memory
  pub read_only : r.1.read_only ≡ s.read_only

-- so the state behind it is a machine's
pub keeps_machine : (s : State) (r : Step × State) → Keeps s r → IsMachine s → IsMachine r.1
keeps_machine s r k m = record {
  registers = k.registers ∙ m.registers;
  memory = let small = m.memory in let same = k.memory in omega arith;
  read_only = let inside = m.read_only in let same = k.memory in let end = k.read_only in omega arith;
}

kept_fault : (kind : FaultKind) (s : State) → kind ≢ BadCall → Keeps s (fault kind s)
kept_fault kind s other = record {
  on_fault = refl;
  never = λ e. other cc;
  registers = refl;
  memory = refl;
  read_only = refl;
}

kept_register : (s : State) (r v : ℕ) → length (with_register s r v).registers ≡ length s.registers
kept_register s r v = by (r == zero)
  where
    by : (b : Bool) → length (if b then s.registers else slice_set s.registers r v) ≡ length s.registers
    by true = refl
    by false = length-set s.registers r v

kept_put : (s : State) (rd v : ℕ) → Keeps s (put s rd v)
unfolding put
kept_put s rd v = record { on_fault = tt; never = λ e. cc; registers = kept_register s rd v; memory = refl; read_only = refl }

kept_pass : (s : State) → Keeps s (pass s)
unfolding pass
kept_pass s = record { on_fault = tt; never = λ e. cc; registers = refl; memory = refl; read_only = refl }

kept_call : (s : State) → Keeps s (call s)
unfolding call
kept_call s = record { on_fault = tt; never = λ e. cc; registers = refl; memory = refl; read_only = refl }

kept_if : (s : State) (b : Bool) (x y : Step × State) → Keeps s x → Keeps s y → Keeps s (if b then x else y)
kept_if s true x y p q = p
kept_if s false x y p q = q

kept_jump : (s : State) (rd target : ℕ) → Keeps s (jump s rd target)
unfolding jump
kept_jump s rd target =
    kept_if s (target % instruction_size == 0) _ _
    (record { on_fault = tt; never = λ e. cc; registers = kept_register s rd _; memory = refl; read_only = refl })
    (kept_fault Unaligned s (λ e. cc))

kept_branch : (s : State) (taken : Bool) (imm : ℤ) → Keeps s (branch s taken imm)
unfolding branch
kept_branch s true imm = kept_jump s zero _
kept_branch s false imm = kept_pass s

-- a reason for a fault of data, and what is so where there is none
record Tells (o : Option FaultKind) (P : Type 0) : Type 0 where
  never : o ≢ Some BadCall
  none : o ≡ None → P

data_tells : (s : State) (size at : ℕ) → Tells (data_fault s size at) (at + size ≤ length s.memory)
unfolding data_fault
data_tells s size at = by (at % size == 0) (nat_lt (length s.memory) (at + size)) refl
  where
    by : (aligned past : Bool) → nat_lt (length s.memory) (at + size) ≡ past
        → Tells (if aligned then (if past then Some Outside else None) else Some Unaligned) (at + size ≤ length s.memory)
    by true true e = record { never = λ h. cc; none = λ h. absurd cc }
    by true false e = record { never = λ h. cc; none = λ h. ltb-false (length s.memory) (at + size) e }
    by false past e = record { never = λ h. cc; none = λ h. absurd cc }

store_tells : (s : State) (size at : ℕ) → Tells (store_fault s size at) (at + size ≤ length s.memory)
unfolding store_fault
store_tells s size at = by (data_fault s size at) (nat_lt at s.read_only) (data_tells s size at)
  where
    by : (o : Option FaultKind) (low : Bool) → Tells o (at + size ≤ length s.memory)
        → Tells (option_or o (if low then Some ReadOnly else None)) (at + size ≤ length s.memory)
    by (Some kind) low t = record { never = t.never; none = λ h. absurd cc }
    by None true t = record { never = λ h. cc; none = λ h. absurd cc }
    by None false t = t

kept_unless : (s : State) (o : Option FaultKind) (P : Type 0) (x : Step × State) → Tells o P → (P → Keeps s x)
    → Keeps s (unless o s x)
kept_unless s (Some kind) P x t more = kept_fault kind s (λ e. t.never (ap Some e))
kept_unless s None P x t more = more (t.none refl)

kept_load : (s : State) (size : ℕ) (extended : ℕ → ℕ) (rd at : ℕ) → Keeps s (load s size extended rd at)
unfolding load
kept_load s size extended rd at = kept_unless s _ _ _ (data_tells s size at) (λ inside. kept_put s rd _)

length-with_bytes : (m bytes : List ℕ) (at : ℕ) → at + length bytes ≤ length m → length (with_bytes m at bytes) ≡ length m
length-with_bytes m bytes at inside =
    omega (
      arith,
      length-append (take at m) (bytes ++ drop (at + length bytes) m),
      length-append bytes (drop (at + length bytes) m),
      length-take-le at m (omega arith),
      length-drop (at + length bytes) m,
    )

kept_store : (s : State) (at : ℕ) (bytes : List ℕ) → Keeps s (store s at bytes)
unfolding store pass
kept_store s at bytes =
    kept_unless s _ _ _ (store_tells s (length bytes) at)
    (λ inside. record {
      on_fault = tt;
      never = λ e. cc;
      registers = refl;
      memory = length-with_bytes s.memory bytes at inside;
      read_only = refl;
    })

pub kept : (i : Instr) (s : State) → Keeps s (exec i s)
kept (instr.Lui rd imm) s = kept_put s rd _
kept (instr.Auipc rd imm) s = kept_put s rd _
kept (instr.Jal rd imm) s = kept_jump s rd _
kept (instr.Jalr rd rs1 imm) s = kept_jump s rd _
kept (instr.Beq rs1 rs2 imm) s = kept_branch s _ imm
kept (instr.Bne rs1 rs2 imm) s = kept_branch s _ imm
kept (instr.Blt rs1 rs2 imm) s = kept_branch s _ imm
kept (instr.Bge rs1 rs2 imm) s = kept_branch s _ imm
kept (instr.Bltu rs1 rs2 imm) s = kept_branch s _ imm
kept (instr.Bgeu rs1 rs2 imm) s = kept_branch s _ imm
kept (instr.Lb rd rs1 imm) s = kept_load s _ _ rd _
kept (instr.Lh rd rs1 imm) s = kept_load s _ _ rd _
kept (instr.Lw rd rs1 imm) s = kept_load s _ _ rd _
kept (instr.Lbu rd rs1 imm) s = kept_load s _ _ rd _
kept (instr.Lhu rd rs1 imm) s = kept_load s _ _ rd _
kept (instr.Sb rs1 rs2 imm) s = kept_store s _ _
kept (instr.Sh rs1 rs2 imm) s = kept_store s _ _
kept (instr.Sw rs1 rs2 imm) s = kept_store s _ _
kept (instr.Addi rd rs1 imm) s = kept_put s rd _
kept (instr.Slti rd rs1 imm) s = kept_put s rd _
kept (instr.Sltiu rd rs1 imm) s = kept_put s rd _
kept (instr.Xori rd rs1 imm) s = kept_put s rd _
kept (instr.Ori rd rs1 imm) s = kept_put s rd _
kept (instr.Andi rd rs1 imm) s = kept_put s rd _
kept (instr.Slli rd rs1 imm) s = kept_put s rd _
kept (instr.Srli rd rs1 imm) s = kept_put s rd _
kept (instr.Srai rd rs1 imm) s = kept_put s rd _
kept (instr.Add rd rs1 rs2) s = kept_put s rd _
kept (instr.Sub rd rs1 rs2) s = kept_put s rd _
kept (instr.Sll rd rs1 rs2) s = kept_put s rd _
kept (instr.Slt rd rs1 rs2) s = kept_put s rd _
kept (instr.Sltu rd rs1 rs2) s = kept_put s rd _
kept (instr.Xor rd rs1 rs2) s = kept_put s rd _
kept (instr.Srl rd rs1 rs2) s = kept_put s rd _
kept (instr.Sra rd rs1 rs2) s = kept_put s rd _
kept (instr.Or rd rs1 rs2) s = kept_put s rd _
kept (instr.And rd rs1 rs2) s = kept_put s rd _
kept (instr.Mul rd rs1 rs2) s = kept_put s rd _
kept (instr.Mulh rd rs1 rs2) s = kept_put s rd _
kept (instr.Mulhsu rd rs1 rs2) s = kept_put s rd _
kept (instr.Mulhu rd rs1 rs2) s = kept_put s rd _
kept (instr.Div rd rs1 rs2) s = kept_put s rd _
kept (instr.Divu rd rs1 rs2) s = kept_put s rd _
kept (instr.Rem rd rs1 rs2) s = kept_put s rd _
kept (instr.Remu rd rs1 rs2) s = kept_put s rd _
kept (instr.Fence rd rs1 imm) s = kept_pass s
kept instr.Ecall s = kept_call s
kept instr.Ebreak s = kept_fault Break s (λ e. cc)
