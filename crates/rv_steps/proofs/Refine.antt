-- Each step of the machine with named registers is a step of the RV32IM machine.
use Rattle.std.proofs.Common.{◌≡◌, ◌≢◌, ℕ, zero, suc, ◌+◌, ◌-◌, ◌*◌, ◌/◌, ◌%◌, ◌^◌, ◌<◌, ◌≤◌, ℤ, pos, Bool, true, false, not, ◌&&◌, ◌==◌, nat_le, nat_lt, if◌then◌else◌, length, None, bit_xor, bit_and, bit_or, refl, sym, ap, ap₂, ◌∙◌, subst, arith, eq-eqb, le-ltb, eqb-true, leb-true, ltb-false, ltb-true}
use Rattle.std.specs.Prelude.{cond, negsuc}
use Rattle.byteorder.specs.Endian.{little_bytes}
use Rattle.rv_isa.specs.Words.{bits}
use Rattle.rv_isa.specs.declared.instruction.Instr.{Instr}
use Rattle.rv_isa.specs.declared.instruction.Instr.TheVariants as isa
use Rattle.rv_machine.specs.Machine as machine
use Rattle.rv_machine.specs.Machine.{State, exec, register, with_register}
use Rattle.rv_machine.specs.declared.answers.Step.{Step}
use Rattle.rv_machine.specs.declared.answers.Step.TheVariants.{Went, Call}
use Rattle.rv_steps.specs.Memory.{read, write, wrap}
use Rattle.rv_steps.specs.Arithmetic.{offset, sum, difference, product, quotient, remainder, shift_left, shift_right, shift_right_signed, less, less_unsigned}
use Rattle.rv_steps.specs.Machine.{Reg, X0, Ra, Sp, T1, A0, A1, A7, S10, S11, Op, Lui, Addi, Xori, Sltiu, Slli, Add, Sub, Mul, Div, Rem, And, Or, Xor, Sll, Srl, Sra, Slt, Sltu, Lw, Sw, Beq, Bne, Bltu, Bgeu, Jal, Jalr, Ecall, Config, get, put, Image, Next, Go, Fault, next, link, is_word, branch, act}
use Rattle.rv_steps.specs.Lower.{number, lower, distance, IsPlace, Reaches}
use Rattle.rv_steps.specs.Refines.{up, bump}
use Rattle.rv_steps.proofs.Memory.{read_below}

-- the way from one address to another
reach_by : (q t : ℕ) (b : Bool) → nat_lt t (suc q) ≡ b → suc q < 2 ^ 32 → t < 2 ^ 32
    → sum (suc q) (bits 32 (cond b (negsuc (suc q - suc t)) (pos (t - suc q)))) ≡ t
unfolding sum
reach_by q t true e from to = let h = ltb-true t (suc q) e in omega arith
reach_by q t false e from to = let h = ltb-false t (suc q) e in omega arith

reaches : (p t : ℕ) → p < 2 ^ 32 → t < 2 ^ 32 → sum p (bits 32 (distance p t)) ≡ t
unfolding sum
reaches zero t from to = omega arith
reaches (suc q) t from to = reach_by q t (nat_lt t (suc q)) refl from to

both : (a b : Bool) → (a && b) ≡ true → (a ≡ true) × (b ≡ true)
both true b h = (refl, h)
both false b h = (h, absurd (false_true h))
  where
    false_true : false ≡ true → ⊥
    false_true e = cc

abbrev onward : {W : Type 0} → (E : Type 0) → Config W → Next W E
onward E c = Go c

module _ {W E : Type 0} (im : Image W E) where
  go_same : (x d : Config W) (r : Next W E) → r ≡ Go x → r ≡ Go d → x ≡ d
  go_same x d r p q = cc

  go_if : (b : Bool) (x d : Config W) → (if b then onward E x else Fault) ≡ Go d → (b ≡ true) × (x ≡ d)
  go_if true x d h = (refl, go_same x d (Go x) refl h)
  go_if false x d h = absurd cc

  register_up : (n : ℕ) (c : Config W) (r : Reg) → register (up im n c) (number r) ≡ get r c
  register_up n c X0 = refl
  register_up n c Ra = refl
  register_up n c Sp = refl
  register_up n c T1 = refl
  register_up n c A0 = refl
  register_up n c A1 = refl
  register_up n c A7 = refl
  register_up n c S10 = refl
  register_up n c S11 = refl

  with_up : (n : ℕ) (c : Config W) (rd : Reg) (v : ℕ) → with_register (up im n c) (number rd) v ≡ up im n (put rd v c)
  with_up n c X0 v = refl
  with_up n c Ra v = refl
  with_up n c Sp v = refl
  with_up n c T1 v = refl
  with_up n c A0 v = refl
  with_up n c A1 v = refl
  with_up n c A7 v = refl
  with_up n c S10 v = refl
  with_up n c S11 v = refl

  pc_put : (c : Config W) (rd : Reg) (v : ℕ) → (put rd v c).pc ≡ c.pc
  pc_put c X0 v = refl
  pc_put c Ra v = refl
  pc_put c Sp v = refl
  pc_put c T1 v = refl
  pc_put c A0 v = refl
  pc_put c A1 v = refl
  pc_put c A7 v = refl
  pc_put c S10 v = refl
  pc_put c S11 v = refl

  mem_put : (c : Config W) (rd : Reg) (v : ℕ) → (put rd v c).mem ≡ c.mem
  mem_put c X0 v = refl
  mem_put c Ra v = refl
  mem_put c Sp v = refl
  mem_put c T1 v = refl
  mem_put c A0 v = refl
  mem_put c A1 v = refl
  mem_put c A7 v = refl
  mem_put c S10 v = refl
  mem_put c S11 v = refl

  world_put : (c : Config W) (rd : Reg) (v : ℕ) → (put rd v c).world ≡ c.world
  world_put c X0 v = refl
  world_put c Ra v = refl
  world_put c Sp v = refl
  world_put c T1 v = refl
  world_put c A0 v = refl
  world_put c A1 v = refl
  world_put c A7 v = refl
  world_put c S10 v = refl
  world_put c S11 v = refl

  -- the pc goes on
  behind_up : (n : ℕ) (c : Config W) → c.pc + 4 < 2 ^ 32 → machine.behind (up im n c) ≡ c.pc + 4
  behind_up n c fits = omega arith

  put_up : (n : ℕ) (c : Config W) (rd : Reg) (v : ℕ) → c.pc + 4 < 2 ^ 32
      → machine.put (up im n c) (number rd) v ≡ (Went, up im (bump n) (next (put rd v c)))
  unfolding machine.put
  put_up n c rd v fits =
      let there = behind_up n c fits ∙ ap (λ p. p + 4) (sym (pc_put c rd v)) in
      ap₂ (λ s p. let pair : Step × State = (Went, machine.retire s p) in pair) (with_up n c rd v) there

  -- the address of a load, of a store or of a jump by register
  address_up : (n : ℕ) (c : Config W) (base : Reg) (k : ℤ)
      → machine.address (up im n c) (number base) k ≡ sum (get base c) (offset k)
  address_up n c base k = ap (λ a. sum a (bits 32 k)) (register_up n c base)

  data_up : (n : ℕ) (c : Config W) (a : ℕ) → is_word a c.mem ≡ true → machine.data_fault (up im n c) 4 a ≡ None
  unfolding machine.data_fault
  data_up n c a word =
      let (aligned, inside) = both (a % 4 == 0) (nat_le (a + 4) (length c.mem)) word in
      let within : nat_lt (length c.mem) (a + 4) ≡ false = le-ltb (length c.mem) (a + 4) (leb-true (a + 4) (length c.mem) inside) in
      rw (aligned, within) refl

  load_up : (n : ℕ) (c : Config W) (rd : Reg) (a : ℕ) → c.pc + 4 < 2 ^ 32 → is_word a c.mem ≡ true
      → machine.load (up im n c) 4 (λ v. v) (number rd) a ≡ (Went, up im (bump n) (next (put rd (read c.mem a) c)))
  unfolding machine.load read
  load_up n c rd a fits word =
      ap (λ o. machine.unless o (up im n c) (machine.put (up im n c) (number rd) (read c.mem a))) (data_up n c a word) ∙ put_up n c rd (read c.mem a) fits

  pass_up : (n : ℕ) (c : Config W) → c.pc + 4 < 2 ^ 32 → machine.pass (up im n c) ≡ (Went, up im (bump n) (next c))
  unfolding machine.pass
  pass_up n c fits = ap (λ p. let pair : Step × State = (Went, machine.retire (up im n c) p) in pair) (behind_up n c fits)

  pub call_up : (n : ℕ) (c : Config W) → c.pc + 4 < 2 ^ 32 → machine.call (up im n c) ≡ (Call, up im (bump n) (next c))
  unfolding machine.call
  call_up n c fits = ap (λ p. let pair : Step × State = (Call, machine.retire (up im n c) p) in pair) (behind_up n c fits)

  store_up : (n : ℕ) (c : Config W) (a v : ℕ) → c.pc + 4 < 2 ^ 32 → (is_word a c.mem && nat_le im.low a) ≡ true
      → machine.store (up im n c) a (little_bytes 4 v) ≡ (Went, up im (bump n) (next (record c { mem = write c.mem a v })))
  unfolding machine.store machine.store_fault write
  store_up n c a v fits free =
      let (word, above) = both (is_word a c.mem) (nat_le im.low a) free in
      let behind : nat_lt a im.low ≡ false = le-ltb a im.low (leb-true im.low a above) in
      rw (data_up n c a word, behind) (pass_up n (record c { mem = write c.mem a v }) fits)

  jump_up : (n : ℕ) (c : Config W) (rd : Reg) (target : ℕ) → c.pc + 4 < 2 ^ 32 → target % 4 ≡ 0
      → machine.jump (up im n c) (number rd) target ≡ (Went, up im (bump n) (link rd target c))
  unfolding machine.jump
  jump_up n c rd target fits aligned =
      let linked = ap (λ v. with_register (up im n c) (number rd) v) (behind_up n c fits) ∙ with_up n c rd (c.pc + 4) in
      rw (eq-eqb (target % 4) 0 aligned) (ap (λ s. let pair : Step × State = (Went, machine.retire s target) in pair) linked)

  branch_up : (n : ℕ) (c d : Config W) (test : Bool) (target : ℕ) → c.pc + 4 < 2 ^ 32 → IsPlace target
      → branch test target c ≡ onward E d
      → machine.branch (up im n c) test (distance c.pc target) ≡ (Went, up im (bump n) d)
  unfolding machine.branch
  branch_up n c d true target fits place h =
      let there = reaches c.pc target (omega arith) place.1 in
      let same = go_same (record c { pc = target }) d (Go (record c { pc = target })) refl h in
      ap (λ t. machine.jump (up im n c) 0 t) there ∙ jump_up n c X0 target fits place.0 ∙ ap (λ x. let pair : Step × State = (Went, up im (bump n) x) in pair) same
  branch_up n c d false target fits place h =
      pass_up n c fits ∙ ap (λ x. let pair : Step × State = (Went, up im (bump n) x) in pair) (go_same (next c) d (Go (next c)) refl h)

-- what holds behind an instruction of the RV32IM machine that goes where the upper one went
pub record Followed {W E : Type 0} (im : Image W E) (n : ℕ) (c d : Config W) (i : Instr) : Type 0 where
  pub execs : exec i (up im n c) ≡ (Went, up im (bump n) d)
  pub keeps : (p : ℕ) → p + 4 ≤ im.low → read d.mem p ≡ read c.mem p
  pub world : d.world ≡ c.world

module _ {W E : Type 0} (im : Image W E) (n : ℕ) (c : Config W) (fits : c.pc + 4 < 2 ^ 32) where
  -- where it went is known
  followed : (x d : Config W) (i : Instr) → onward E x ≡ Go d → exec i (up im n c) ≡ (Went, up im (bump n) x)
      → ((p : ℕ) → p + 4 ≤ im.low → read x.mem p ≡ read c.mem p) → x.world ≡ c.world → Followed im n c d i
  followed x d i same execs keeps world =
      subst (λ y. Followed im n c y i) (go_same im x d (Go x) refl same) (record { execs = execs; keeps = keeps; world = world })

  keeps_put : (rd : Reg) (v p : ℕ) → p + 4 ≤ im.low → read (put rd v c).mem p ≡ read c.mem p
  keeps_put rd v p below = ap (λ m. read m p) (mem_put im c rd v)

  -- an instruction that puts a number into a register
  puts : (d : Config W) (i : Instr) (rd : Reg) (v : ℕ) → onward E (next (put rd v c)) ≡ Go d
      → exec i (up im n c) ≡ machine.put (up im n c) (number rd) v → Followed im n c d i
  puts d i rd v same e =
      followed (next (put rd v c)) d i same (e ∙ put_up im n c rd v fits) (keeps_put rd v) (world_put im c rd v)

  -- from one register, and from two
  puts_one : (d : Config W) (i : Instr) (f : ℕ → ℕ) (rd r : Reg) → onward E (next (put rd (f (get r c)) c)) ≡ Go d
      → exec i (up im n c) ≡ machine.put (up im n c) (number rd) (f (register (up im n c) (number r)))
      → Followed im n c d i
  puts_one d i f rd r same e =
      puts d i rd (f (get r c)) same (e ∙ ap (λ a. machine.put (up im n c) (number rd) (f a)) (register_up im n c r))

  puts_two : (d : Config W) (i : Instr) (f : ℕ → ℕ → ℕ) (rd r s : Reg)
      → onward E (next (put rd (f (get r c) (get s c)) c)) ≡ Go d
      → exec i (up im n c) ≡ machine.put (up im n c) (number rd) (f (register (up im n c) (number r)) (register (up im n c) (number s)))
      → Followed im n c d i
  puts_two d i f rd r s same e =
      puts d i rd (f (get r c) (get s c)) same (e ∙ ap₂ (λ a b. machine.put (up im n c) (number rd) (f a b)) (register_up im n c r) (register_up im n c s))

  loads : (d : Config W) (rd base : Reg) (k : ℤ) → act im (Lw rd base k) c ≡ Go d
      → Followed im n c d (isa.Lw (number rd) (number base) k)
  loads d rd base k same =
      let a : ℕ = sum (get base c) (offset k) in
      let (word, e) = go_if im (is_word a c.mem) (next (put rd (read c.mem a) c)) d same in
      followed (next (put rd (read c.mem a) c)) d (isa.Lw (number rd) (number base) k) (ap Go e)
      (ap (λ x. machine.load (up im n c) 4 (λ v. v) (number rd) x) (address_up im n c base k) ∙ load_up im n c rd a fits word)
      (keeps_put rd (read c.mem a)) (world_put im c rd (read c.mem a))

  stores : (d : Config W) (r base : Reg) (k : ℤ) → act im (Sw r base k) c ≡ Go d
      → Followed im n c d (isa.Sw (number base) (number r) k)
  stores d r base k same =
      let a : ℕ = sum (get base c) (offset k) in
      let v : ℕ = get r c in
      let x : Config W = next (record c { mem = write c.mem a v }) in
      let (free, e) = go_if im (is_word a c.mem && nat_le im.low a) x d same in
      let (word, above) = both (is_word a c.mem) (nat_le im.low a) free in
      let (aligned, inside) = both (a % 4 == 0) (nat_le (a + 4) (length c.mem)) word in
      let low = leb-true im.low a above in
      followed x d (isa.Sw (number base) (number r) k) (ap Go e)
      (ap₂ (λ y u. machine.store (up im n c) y (little_bytes 4 u)) (address_up im n c base k) (register_up im n c r) ∙ store_up im n c a v fits free)
      (λ p below. read_below c.mem a v (leb-true (a + 4) (length c.mem) inside) p (omega arith)) refl

  -- a branch, by the test of two registers
  branches : (d : Config W) (i : Instr) (f : ℕ → ℕ → Bool) (r s : Reg) (target : ℕ) → IsPlace target
      → branch (f (get r c) (get s c)) target c ≡ onward E d
      → exec i (up im n c) ≡ machine.branch (up im n c) (f (register (up im n c) (number r)) (register (up im n c) (number s))) (distance c.pc target)
      → Followed im n c d i
  branches d i f r s target place same e = record {
    execs =
        e ∙ ap₂ (λ a b. machine.branch (up im n c) (f a b) (distance c.pc target)) (register_up im n c r) (register_up im n c s) ∙ branch_up im n c d (f (get r c) (get s c)) target fits place same;
    keeps = λ p below. ap (λ m. read m p) (mem_branch (f (get r c) (get s c)) same);
    world = world_branch (f (get r c) (get s c)) same;
  }
    where
      mem_branch : (b : Bool) → branch b target c ≡ onward E d → d.mem ≡ c.mem
      mem_branch true h = sym (ap (λ x. x.mem) (go_same im (record c { pc = target }) d (Go (record c { pc = target })) refl h))
      mem_branch false h = sym (ap (λ x. x.mem) (go_same im (next c) d (Go (next c)) refl h))

      world_branch : (b : Bool) → branch b target c ≡ onward E d → d.world ≡ c.world
      world_branch true h =
          sym (ap (λ x. x.world) (go_same im (record c { pc = target }) d (Go (record c { pc = target })) refl h))
      world_branch false h = sym (ap (λ x. x.world) (go_same im (next c) d (Go (next c)) refl h))

  jumps : (d : Config W) (rd : Reg) (target : ℕ) → IsPlace target → onward E (link rd target c) ≡ Go d
      → Followed im n c d (isa.Jal (number rd) (distance c.pc target))
  jumps d rd target place same =
      followed (link rd target c) d (isa.Jal (number rd) (distance c.pc target)) same
      (ap (λ t. machine.jump (up im n c) (number rd) t) (reaches c.pc target (omega arith) place.1) ∙ jump_up im n c rd target fits place.0)
      (keeps_put rd (c.pc + 4)) (world_put im c rd (c.pc + 4))

  jumps_by : (d : Config W) (rd rs : Reg) (k : ℤ) → act im (Jalr rd rs k) c ≡ Go d
      → Followed im n c d (isa.Jalr (number rd) (number rs) k)
  jumps_by d rd rs k same =
      let target : ℕ = sum (get rs c) (offset k) in
      let (aligned, e) = go_if im (target % 4 == 0) (link rd target c) d same in
      let four = eqb-true (target % 4) 0 aligned in
      let even : target / 2 * 2 ≡ target = omega arith in
      followed (link rd target c) d (isa.Jalr (number rd) (number rs) k) (ap Go e)
      (ap (λ t. machine.jump (up im n c) (number rd) (t / 2 * 2)) (address_up im n c rs k) ∙ ap (λ t. machine.jump (up im n c) (number rd) t) even ∙ jump_up im n c rd target fits four)
      (keeps_put rd (c.pc + 4)) (world_put im c rd (c.pc + 4))

  pub exec_up : (op : Op) (d : Config W) → op ≢ Ecall → Reaches op → act im op c ≡ Go d → Followed im n c d (lower c.pc op)
  unfolding wrap
  exec_up (Lui rd k) d other place same = puts d (lower c.pc (Lui rd k)) rd (wrap (k * 2 ^ 12)) same refl
  exec_up (Addi rd rs k) d other place same = puts_one d (lower c.pc (Addi rd rs k)) (λ a. sum a (offset k)) rd rs same refl
  exec_up (Xori rd rs k) d other place same = puts_one d (lower c.pc (Xori rd rs k)) (λ a. bit_xor a (offset k)) rd rs same refl
  exec_up (Sltiu rd rs k) d other place same =
      puts_one d (lower c.pc (Sltiu rd rs k)) (λ a. less_unsigned a (offset k)) rd rs same refl
  exec_up (Slli rd rs k) d other place same = puts_one d (lower c.pc (Slli rd rs k)) (λ a. shift_left a k) rd rs same refl
  exec_up (Add rd r s) d other place same = puts_two d (lower c.pc (Add rd r s)) sum rd r s same refl
  exec_up (Sub rd r s) d other place same = puts_two d (lower c.pc (Sub rd r s)) difference rd r s same refl
  exec_up (Mul rd r s) d other place same = puts_two d (lower c.pc (Mul rd r s)) product rd r s same refl
  exec_up (Div rd r s) d other place same = puts_two d (lower c.pc (Div rd r s)) quotient rd r s same refl
  exec_up (Rem rd r s) d other place same = puts_two d (lower c.pc (Rem rd r s)) remainder rd r s same refl
  exec_up (And rd r s) d other place same = puts_two d (lower c.pc (And rd r s)) bit_and rd r s same refl
  exec_up (Or rd r s) d other place same = puts_two d (lower c.pc (Or rd r s)) bit_or rd r s same refl
  exec_up (Xor rd r s) d other place same = puts_two d (lower c.pc (Xor rd r s)) bit_xor rd r s same refl
  exec_up (Sll rd r s) d other place same = puts_two d (lower c.pc (Sll rd r s)) shift_left rd r s same refl
  exec_up (Srl rd r s) d other place same = puts_two d (lower c.pc (Srl rd r s)) shift_right rd r s same refl
  exec_up (Sra rd r s) d other place same = puts_two d (lower c.pc (Sra rd r s)) shift_right_signed rd r s same refl
  exec_up (Slt rd r s) d other place same = puts_two d (lower c.pc (Slt rd r s)) less rd r s same refl
  exec_up (Sltu rd r s) d other place same = puts_two d (lower c.pc (Sltu rd r s)) less_unsigned rd r s same refl
  exec_up (Lw rd base k) d other place same = loads d rd base k same
  exec_up (Sw r base k) d other place same = stores d r base k same
  exec_up (Beq r s target) d other place same =
      branches d (lower c.pc (Beq r s target)) (λ a b. a == b) r s target place same refl
  exec_up (Bne r s target) d other place same =
      branches d (lower c.pc (Bne r s target)) (λ a b. not (a == b)) r s target place same refl
  exec_up (Bltu r s target) d other place same =
      branches d (lower c.pc (Bltu r s target)) (λ a b. nat_lt a b) r s target place same refl
  exec_up (Bgeu r s target) d other place same =
      branches d (lower c.pc (Bgeu r s target)) (λ a b. not (nat_lt a b)) r s target place same refl
  exec_up (Jal rd target) d other place same = jumps d rd target place same
  exec_up (Jalr rd rs k) d other place same = jumps_by d rd rs k same
  exec_up Ecall d other place same = absurd (other refl)
