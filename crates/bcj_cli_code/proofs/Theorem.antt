-- The words of a program do what its meaning says.
use Rattle.std.proofs.Common.{◌≡◌, ℕ, zero, suc, ◌+◌, ◌*◌, ◌^◌, ◌<◌, ◌≤◌, Bool, true, false, ◌==◌, if◌then◌else◌, List, [], ◌∷◌, ◌++◌, length, map, refl, sym, ap, ◌∙◌, subst, arith, length-append}
use Rattle.std.proofs.lemmas.List.{length-map, length-replicate}
use Rattle.std.proofs.Math.Nat.{mul-le-mul_left}
use Rattle.std.specs.Prelude.{All, flat_map, replicate}
use Rattle.std.specs.Int.{w32, cast_signed}
use Rattle.std.specs.Fmt.{signed_decimal}
use Rattle.byteorder.specs.Endian.{little_bytes}
use Rattle.rv_isa.specs.declared.instruction.Instr.{Instr}
use Rattle.rv_isa.specs.Words.{InRange}
use Rattle.rv_isa.proofs.ReadAgain.{in_bits}
use Rattle.rv_machine.specs.Machine.{State, max_retired}
use Rattle.rv_steps.specs.Machine.{Config, Image, Resumes, Ends, Fails, Over, run, place}
use Rattle.rv_steps.specs.Lower.{CodeIn}
use Rattle.rv_steps.specs.MachineRun.{Resumed, Ended, Refused, MachineRun}
use Rattle.rv_steps.specs.Refines.{up, Mirrors, Agrees}
use Rattle.rv_steps.proofs.Lower.{code_in, words_in}
use Rattle.rv_steps.proofs.Runs.{run_up}
use Rattle.rv_steps.proofs.Outcomes.{one_outcome}
use Rattle.rv_steps.proofs.Steps.{run_ends}
use Rattle.bcj_cli_language.specs.Tree.{Acts}
use Rattle.bcj_cli_language.specs.Bounds.{IsBounded}
use Rattle.bcj_cli_language.specs.Meaning.{meaning, printed}
use Rattle.bcj_cli_code.specs.function.Code.{program_code, program_words, instruction_word}
use Rattle.bcj_cli_code.specs.Sizes.{count_words, max_words}
use Rattle.bcj_cli_code.specs.function.Run.{Ending, Done, TurnsSpent, all_named, image, start}
use Rattle.bcj_cli_code.specs.Correct.{answer, memory_of, start_state, limit, RunsAsMeant, Correct, Sizes, ending}
use Rattle.bcj_cli_code.proofs.Sizes.{program_size}
use Rattle.bcj_cli_code.proofs.Sound.{AllSound, program_sound, all_spell}
use Rattle.bcj_cli_code.proofs.Whole.{Ended as Ended_so, code_stands, program_ends}

-- the services are those of the machine with named registers
served : (im : Image (List ℕ) Ending) (n : ℕ) (c d : Config (List ℕ)) (text : List ℕ) (b11 b13 b14 b15 : Bool) → CodeIn im c.mem
    → (if b11 then Resumes (record c { world = c.world ++ text }) else if b13 then Resumes (record c { world = c.world ++ 10 ∷ [] }) else if b14 then Ends TurnsSpent c.world else if b15 then Ends Done c.world else Fails) ≡ Resumes d
    → ((if b11 then Resumed (up im n c) (c.world ++ text) else if b13 then Resumed (up im n c) (c.world ++ 10 ∷ []) else if b14 then Ended TurnsSpent c.world else if b15 then Ended Done c.world else Refused) ≡ Resumed (up im n d) d.world) × CodeIn im d.mem
served im n c d text true b13 b14 b15 code e =
    let same : record c { world = c.world ++ text } ≡ d = cc in
    (ap (λ x. Resumed (up im n x) x.world) same, subst (λ x. CodeIn im x.mem) same code)
served im n c d text false true b14 b15 code e =
    let same : record c { world = c.world ++ 10 ∷ [] } ≡ d = cc in
    (ap (λ x. Resumed (up im n x) x.world) same, subst (λ x. CodeIn im x.mem) same code)
served im n c d text false false true b15 code e = absurd cc
served im n c d text false false false true code e = absurd cc
served im n c d text false false false false code e = absurd cc

closed : (im : Image (List ℕ) Ending) (n : ℕ) (c : Config (List ℕ)) (x : Ending) (w text : List ℕ) (b11 b13 b14 b15 : Bool)
    → (if b11 then Resumes (record c { world = c.world ++ text }) else if b13 then Resumes (record c { world = c.world ++ 10 ∷ [] }) else if b14 then Ends TurnsSpent c.world else if b15 then Ends Done c.world else Fails) ≡ Ends x w
    → (if b11 then Resumed (up im n c) (c.world ++ text) else if b13 then Resumed (up im n c) (c.world ++ 10 ∷ []) else if b14 then Ended TurnsSpent c.world else if b15 then Ended Done c.world else Refused) ≡ Ended x w
closed im n c x w text true b13 b14 b15 e = absurd cc
closed im n c x w text false true b14 b15 e = absurd cc
closed im n c x w text false false true b15 e = cc
closed im n c x w text false false false true e = cc
closed im n c x w text false false false false e = absurd cc

pub mirrors : (is : List Instr) → Mirrors (image is) answer
mirrors is = record {
  resumes = λ n c d code e. served (image is) n c d (signed_decimal (cast_signed w32 c.a0)) (c.a7 == 11) (c.a7 == 13) (c.a7 == 14) (c.a7 == 15) code e;
  ends = λ n c x w code e. closed (image is) n c x w (signed_decimal (cast_signed w32 c.a0)) (c.a7 == 11) (c.a7 == 13) (c.a7 == 14) (c.a7 == 15) e;
}

named_long : (p : ℕ) (is : List Instr) → length (all_named p is) ≡ length is
named_long p [] = refl
named_long p (i ∷ is) = ap suc (named_long (p + 4) is)

bytes_long : (ws : List ℕ) → length (flat_map (λ w. little_bytes 4 w) ws) ≡ 4 * length ws
bytes_long [] = refl
bytes_long (w ∷ ws) = omega (arith, length-append (little_bytes 4 w) (flat_map (λ v. little_bytes 4 v) ws), bytes_long ws)

pub memory_long : (ws : List ℕ) → length (memory_of ws) ≡ 4 * length ws + 2032
memory_long ws = omega (arith, length-append (flat_map (λ w. little_bytes 4 w) ws) (replicate 2032 0), bytes_long ws, length-replicate 2032 (let z : ℕ = 0 in z))

word_fits : (i : Instr) → InRange i → instruction_word i < 2 ^ 32
word_fits i h = let b = in_bits i h in omega (arith, b.opcode, b.rd, b.funct3, b.rs1, b.rs2, b.funct7)

pub words_fit : (p : ℕ) (is : List Instr) → AllSound p is → All (λ w. w < 2 ^ 32) (map instruction_word is)
words_fit p [] h k d lt = absurd (omega arith)
words_fit p (i ∷ is) h zero d lt = word_fits i h.0.in_range
words_fit p (i ∷ is) h (suc k) d lt = words_fit (p + 4) is h.1 k d (omega arith)

pub sizes : Sizes
sizes p = omega (arith, length-map (program_code p) instruction_word, program_size p)

module _ (p : Acts) (turns : ℕ) (bounded : IsBounded p) (short : length (program_words p) ≤ max_words) (few : turns < 2 ^ 31) where
  abbrev code : List Instr
  code = program_code p

  long : length (program_words p) ≡ length (program_code p)
  long = length-map (program_code p) instruction_word

  size : length (program_code p) ≤ max_words
  size = omega (arith, long, short)

  pub sound : AllSound 0 (program_code p)
  sound = program_sound p bounded.small (omega (arith, size))

  pub stands : CodeIn (image (program_code p)) (memory_of (program_words p))
  stands = code_in (image (program_code p)) (memory_of (program_words p)) 0 (all_named 0 (program_code p)) (program_words p) (λ q. refl) refl (omega (arith, named_long 0 (program_code p))) (omega (arith, size))
      (all_spell 0 (program_code p) sound) (words_in [] (replicate 2032 0) (program_words p) (words_fit 0 (program_code p) sound))

  state_at : ℕ → State
  state_at n = record {
    registers =
        0 ∷ 0 ∷ 4 * n ∷ 0 ∷ 0 ∷ 0 ∷ 0 ∷ 0 ∷ 0 ∷ 0 ∷ 0 ∷ 0 ∷ 0 ∷ 0 ∷ 0 ∷ 0
        ∷ 0 ∷ 0 ∷ 0 ∷ 0 ∷ 0 ∷ 0 ∷ 0 ∷ 0 ∷ 0 ∷ 0 ∷ 0 ∷ turns ∷ 0 ∷ 0 ∷ 0 ∷ 0 ∷ [];
    memory = memory_of (program_words p);
    read_only = 4 * n;
    pc = 0;
    retired = 0;
  }

  abbrev begin : Config (List ℕ)
  begin = start (program_code p) (memory_of (program_words p)) turns

  pub same_start : start_state (program_words p) turns ≡ up (image (program_code p)) 0 (start (program_code p) (memory_of (program_words p)) turns)
  unfolding state_at
  same_start = ap state_at long

  most : limit (program_words p) turns ≡ length (program_code p) + length (program_code p) * turns
  most = ap (λ n. (turns + 1) * n) long ∙ omega arith

  pub near : 0 + limit (program_words p) turns ≤ max_retired
  near = let h : (turns + 1) * length (program_code p) ≤ (turns + 1) * max_words = mul-le-mul_left (turns + 1) size in omega (arith, ap (λ n. (turns + 1) * n) long)

  pub ended : Ended_so (place 0 (all_named 0 (program_code p))) (4 * length (program_code p)) (length (program_code p) + length (program_code p) * turns) (start (program_code p) (memory_of (program_words p)) turns) (ending (meaning p turns)) (printed (meaning p turns))
  ended = program_ends (place 0 (all_named 0 (program_code p))) (4 * length (program_code p)) (record { aligned = omega arith; small = omega (arith, size) }) (length (program_code p)) p turns
      (start (program_code p) (memory_of (program_words p)) turns) bounded few refl refl (code_stands (program_code p))
      (record { sp_is = refl; turns_is = refl; out_is = refl; long = memory_long (program_words p) ∙ omega (arith, long); few = few; agree = tt })

  pub over : run (image (program_code p)) (limit (program_words p) turns) 0 (start (program_code p) (memory_of (program_words p)) turns) ≡ Over (ending (meaning p turns)) (printed (meaning p turns)) (ended.k + 1)
  over = run_ends ended.goes ended.halts (omega (arith, ended.cost, most))

  pub runs_as_meant : RunsAsMeant p turns
  runs_as_meant = record {
    each = λ o runs.
        let below = subst (λ s. MachineRun answer (limit (program_words p) turns) s [] o) same_start runs in
        let a = run_up (image (program_code p)) answer (mirrors (program_code p)) (limit (program_words p) turns) 0 (start (program_code p) (memory_of (program_words p)) turns) o stands near below in
        let b = subst (λ e. Agrees (image (program_code p)) (0 + limit (program_words p) turns) e o) over a in
        record { cause = b.0; output = b.1; retired = omega (arith, b.2, ended.cost, most) };
    one =
        let r = one_outcome answer (limit (program_words p) turns) (start_state (program_words p) turns) (let none : List ℕ = [] in none) in
        (r.0, r.1);
  }

pub correct : Correct
correct p turns bounded short few = runs_as_meant p turns bounded short few

all_in_range : (p : ℕ) (is : List Instr) → AllSound p is → All InRange is
all_in_range p [] h k d lt = absurd (omega arith)
all_in_range p (i ∷ is) h zero d lt = h.0.in_range
all_in_range p (i ∷ is) h (suc k) d lt = all_in_range (p + 4) is h.1 k d (omega arith)

-- each instruction of a program's code has a word
pub program_in_range : (p : Acts) (is : List Instr) → IsBounded p → count_words p ≤ max_words → is ≡ program_code p → All InRange is
program_in_range p is bounded short e = subst (λ l. All InRange l) (sym e) (all_in_range 0 (program_code p) (sound p 0 bounded (omega (arith, short, sizes p)) (omega arith)))

pub counted_short : (p : Acts) → count_words p ≤ max_words → length (program_words p) ≤ max_words
counted_short p h = omega (arith, h, sizes p)

pub counted_long : (p : Acts) → max_words < count_words p → max_words < length (program_words p)
counted_long p h = omega (arith, h, sizes p)
