-- What the induction over a program says of its parts: where the code stands, what a frame holds, and how
-- the run of a part ends.
use Rattle.std.proofs.Common.{◌≡◌, ℕ, ◌+◌, ◌-◌, ◌*◌, ◌%◌, ◌^◌, ◌<◌, ◌≤◌, List, [], ◌∷◌, ◌++◌, length, Option, Some, refl, ◌∙◌, subst, arith}
use Rattle.rv_isa.specs.declared.instruction.Instr.{Instr}
use Rattle.rv_steps.specs.Memory.{read, write}
use Rattle.rv_steps.specs.Machine.{Op, Config, Image, Halt, step, Goes}
use Rattle.rv_steps.proofs.Memory.{length_write, read_below, read_above}
use Rattle.bcj_cli_code.specs.function.Slots.{Frame}
use Rattle.bcj_cli_code.specs.function.Run.{Ending, TurnsSpent, serve, named}
use Rattle.bcj_cli_code.proofs.Locals.{Agree, agree_same}
use Rattle.bcj_cli_language.specs.Meaning.{Environment, World, End, Goes as Onward, Stops}

-- these instructions stand at p and behind it
abbrev pub Stands : (ℕ → Option Op) → ℕ → List Instr → Type 0
Stands fetch p [] = Unit {0}
Stands fetch p (i ∷ is) = (fetch p ≡ Some (named p i)) × Stands fetch (p + 4) is

pub stands_front : (fetch : ℕ → Option Op) (p : ℕ) (is more : List Instr) → Stands fetch p (is ++ more) → Stands fetch p is
stands_front fetch p [] more h = tt
stands_front fetch p (i ∷ is) more h = (h.0, stands_front fetch (p + 4) is more h.1)

pub stands_back : (fetch : ℕ → Option Op) (p : ℕ) (is more : List Instr) → Stands fetch p (is ++ more) → Stands fetch (p + 4 * length is) more
stands_back fetch p [] more h = let e : p ≡ p + 4 * 0 = omega arith in subst (λ q. Stands fetch q more) e h
stands_back fetch p (i ∷ is) more h =
    let e : p + 4 + 4 * length is ≡ p + 4 * length (i ∷ is) = omega arith in
    subst (λ q. Stands fetch q more) e (stands_back fetch (p + 4) is more h.1)

pub stands_at : (fetch : ℕ → Option Op) (p q : ℕ) (is : List Instr) → p ≡ q → Stands fetch p is → Stands fetch q is
stands_at fetch p q is e h = subst (λ r. Stands fetch r is) e h

-- the frame begins at sp, behind the code
pub record Ground (sp : ℕ) : Type 0 where
  pub aligned : sp % 4 ≡ 0
  pub small : sp + 2032 < 2 ^ 31

abbrev pub machine : (ℕ → Option Op) → ℕ → Image (List ℕ) Ending
machine fetch sp = record { fetch = fetch; low = sp; serve = serve }

-- registers and memory hold the environment and the world
pub record InFrame (sp : ℕ) (f : Frame) (env : Environment) (w : World) (csp cs11 : ℕ) (out mem : List ℕ) : Type 0 where
  pub sp_is : csp ≡ sp
  pub turns_is : cs11 ≡ w.turns
  pub out_is : out ≡ w.out
  pub long : length mem ≡ sp + 2032
  pub few : w.turns < 2 ^ 31
  pub agree : Agree (λ i. read mem (sp + 4 * (507 - i))) f.next f.slots env

abbrev pub At : ℕ → Frame → Environment → World → Config (List ℕ) → Type 0
At sp f env w c = InFrame sp f env w c.sp c.s11 c.world c.mem

-- memory keeps the temporaries below d and the locals
pub record Keeps (sp d : ℕ) (m m1 : List ℕ) : Type 0 where
  pub long : length m1 ≡ length m
  pub temporaries : (e : ℕ) → e < d → read m1 (sp + (4 + 4 * e)) ≡ read m (sp + (4 + 4 * e))
  pub locals : (i : ℕ) → i < 100 → read m1 (sp + 4 * (507 - i)) ≡ read m (sp + 4 * (507 - i))

pub keeps_all : (sp d : ℕ) (m : List ℕ) → Keeps sp d m m
keeps_all sp d m = record { long = refl; temporaries = λ e lt. refl; locals = λ i lt. refl }

pub keeps_then : (sp d e : ℕ) (m m1 m2 : List ℕ) → d ≤ e → Keeps sp d m m1 → Keeps sp e m1 m2 → Keeps sp d m m2
keeps_then sp d e m m1 m2 le p q = record {
  long = q.long ∙ p.long;
  temporaries = λ t lt. q.temporaries t (omega arith) ∙ p.temporaries t lt;
  locals = λ i lt. q.locals i lt ∙ p.locals i lt;
}

pub keeps_write : (sp d e : ℕ) (m m1 : List ℕ) (v : ℕ) → length m ≡ sp + 2032 → d ≤ e → e ≤ 131 → Keeps sp d m m1 → Keeps sp d m (write m1 (sp + (4 + 4 * e)) v)
keeps_write sp d e m m1 v long le small k =
    let room : sp + (4 + 4 * e) + 4 ≤ length m1 = omega (arith, k.long) in
    record {
      long = length_write m1 (sp + (4 + 4 * e)) v room ∙ k.long;
      temporaries = λ t lt. read_below m1 (sp + (4 + 4 * e)) v room (sp + (4 + 4 * t)) (omega arith) ∙ k.temporaries t lt;
      locals = λ i lt. read_above m1 (sp + (4 + 4 * e)) v room (sp + 4 * (507 - i)) (omega arith) ∙ k.locals i lt;
    }

pub at_keeps : (sp d : ℕ) (f : Frame) (env : Environment) (w : World) (csp cs11 : ℕ) (out m m1 : List ℕ) → f.next ≤ 100 → Keeps sp d m m1 → InFrame sp f env w csp cs11 out m → InFrame sp f env w csp cs11 out m1
at_keeps sp d f env w csp cs11 out m m1 le k h = record {
  sp_is = h.sp_is;
  turns_is = h.turns_is;
  out_is = h.out_is;
  long = k.long ∙ h.long;
  few = h.few;
  agree = agree_same (λ i. read m (sp + 4 * (507 - i))) (λ i. read m1 (sp + 4 * (507 - i))) f.next (λ i lt. k.locals i (omega arith)) f.slots env h.agree;
}

-- the run of an expression: its value is in a0
pub record Valued (fetch : ℕ → Option Op) (sp n d v : ℕ) (c : Config (List ℕ)) : Type 0 where
  pub c1 : Config (List ℕ)
  pub goes : Goes (machine fetch sp) n c c1
  pub pc_is : c1.pc ≡ c.pc + 4 * n
  pub a0_is : c1.a0 ≡ v
  pub sp_is : c1.sp ≡ c.sp
  pub turns_is : c1.s11 ≡ c.s11
  pub out_is : c1.world ≡ c.world
  pub kept : Keeps sp d c.mem c1.mem

-- of two operands: they are in a0 and a1
pub record Both (fetch : ℕ → Option Op) (sp n d v w : ℕ) (c : Config (List ℕ)) : Type 0 where
  pub c1 : Config (List ℕ)
  pub goes : Goes (machine fetch sp) n c c1
  pub pc_is : c1.pc ≡ c.pc + 4 * n
  pub a0_is : c1.a0 ≡ v
  pub a1_is : c1.a1 ≡ w
  pub sp_is : c1.sp ≡ c.sp
  pub turns_is : c1.s11 ≡ c.s11
  pub out_is : c1.world ≡ c.world
  pub kept : Keeps sp d c.mem c1.mem

pub at_same : (sp d : ℕ) (f : Frame) (env : Environment) (w : World) (c c1 : Config (List ℕ)) → f.next ≤ 100 → c1.sp ≡ c.sp → c1.s11 ≡ c.s11 → c1.world ≡ c.world → Keeps sp d c.mem c1.mem → At sp f env w c → At sp f env w c1
at_same sp d f env w c c1 le es et eo k h =
    let r = at_keeps sp d f env w c.sp c.s11 c.world c.mem c1.mem le k h in
    record { sp_is = es ∙ r.sp_is; turns_is = et ∙ r.turns_is; out_is = eo ∙ r.out_is; long = r.long; few = r.few; agree = r.agree }

-- how the run of statements ends: W is the number of all words, `most` how many instructions may retire
pub record Reached (fetch : ℕ → Option Op) (sp W most turns target : ℕ) (f : Frame) (c : Config (List ℕ)) (env : Environment) (w : World) : Type 0 where
  pub c1 : Config (List ℕ)
  pub k : ℕ
  pub goes : Goes (machine fetch sp) k c c1
  pub pc_is : c1.pc ≡ target
  pub at : At sp f env w c1
  pub fewer : w.turns ≤ turns
  pub cost : k + W * w.turns ≤ most

pub record Spent (fetch : ℕ → Option Op) (sp most : ℕ) (c : Config (List ℕ)) (w : World) : Type 0 where
  pub c1 : Config (List ℕ)
  pub k : ℕ
  pub goes : Goes (machine fetch sp) k c c1
  pub halts : step (machine fetch sp) c1 ≡ Halt TurnsSpent w.out
  pub cost : k + 1 ≤ most

abbrev pub Out : (ℕ → Option Op) → (sp W most turns target : ℕ) → Frame → Config (List ℕ) → End → Type 0
Out fetch sp W most turns target f c (Onward env w) = Reached fetch sp W most turns target f c env w
Out fetch sp W most turns target f c (Stops w) = Spent fetch sp most c w
