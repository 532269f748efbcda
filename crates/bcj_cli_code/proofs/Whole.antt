-- The run of a whole program's code.
use Rattle.std.proofs.Common.{◌≡◌, ℕ, suc, ◌+◌, ◌*◌, ◌^◌, ◌<◌, ◌≤◌, List, [], ◌∷◌, ◌++◌, length, Option, refl, sym, ap, ◌∙◌, subst, arith}
use Rattle.rv_isa.specs.declared.instruction.Instr.{Instr}
use Rattle.rv_steps.specs.Arithmetic.{sum}
use Rattle.rv_steps.specs.Machine.{A7, Op, Config, Image, put, next, Goes, Halt, Has, step, place}
use Rattle.rv_steps.proofs.Steps.{goes_on, goes_plain, ends_svc}
use Rattle.rv_steps.proofs.Lower.{has_placed}
use Rattle.bcj_cli_language.specs.Tree.{Acts}
use Rattle.bcj_cli_language.specs.Bounds.{IsBounded}
use Rattle.bcj_cli_language.specs.Meaning.{World, End, Goes as Onward, Stops, spend, acts_end, after_turns, meaning, printed}
use Rattle.bcj_cli_code.specs.function.Slots.{Frame, frame_through}
use Rattle.bcj_cli_code.specs.function.Code.{service, turn, acts_code, program_code}
use Rattle.bcj_cli_code.specs.function.Run.{Ending, Done, all_named, image}
use Rattle.bcj_cli_code.specs.Correct.{ending}
use Rattle.bcj_cli_code.proofs.Lengths.{turn_long, program_long}
use Rattle.bcj_cli_code.proofs.Clause.{Stands, stands_front, stands_back, stands_at, Ground, machine, At, Out}
use Rattle.bcj_cli_code.proofs.Statements.{spend_out, acts_run, loops_run}

stands_of : (im : Image (List ℕ) Ending) (p : ℕ) (is : List Instr) → Has im p (all_named p is) → Stands im.fetch p is
stands_of im p [] h = tt
stands_of im p (i ∷ is) h = (h.0, stands_of im (p + 4) is h.1)

-- how a run of the whole program ends
pub record Ended (fetch : ℕ → Option Op) (sp most : ℕ) (c : Config (List ℕ)) (e : Ending) (out : List ℕ) : Type 0 where
  pub c1 : Config (List ℕ)
  pub k : ℕ
  pub goes : Goes (machine fetch sp) k c c1
  pub halts : step (machine fetch sp) c1 ≡ Halt e out
  pub cost : k + 1 ≤ most

module _ (fetch : ℕ → Option Op) (sp : ℕ) (g : Ground sp) (W : ℕ) where
  finished : (most turns target most2 : ℕ) (f : Frame) (c : Config (List ℕ)) → Stands fetch target (service 15) → most + 2 ≤ most2 → (e : End) → Out fetch sp W most turns target f c e → Ended fetch sp most2 c (ending e) (printed e)
  unfolding sum
  finished most turns target most2 f c h le (Onward env w) r =
      let s = stands_at fetch target r.c1.pc (service 15) (sym r.pc_is) h in
      let c2 : Config (List ℕ) = next (put A7 (sum 0 15) r.c1) in
      let one : Goes (machine fetch sp) 1 r.c1 c2 = goes_plain s.0 refl in
      record {
        c1 = c2;
        k = r.k + 1;
        goes = goes_on {n = r.k} {m = 1} refl r.goes one;
        halts = ends_svc (machine fetch sp) c2 s.1.0 refl ∙ ap (Halt Done) r.at.out_is;
        cost = omega (arith, r.cost);
      }
  finished most turns target most2 f c h le (Stops w) r = record { c1 = r.c1; k = r.k; goes = r.goes; halts = r.halts; cost = omega (arith, r.cost) }

  times : (t m : ℕ) → t ≡ suc m → W * t ≡ W + W * m
  times t m e = ap (λ x. W * x) e ∙ omega arith

  program_parts : (p : Acts) → Stands fetch 0 (program_code p) → (let code = acts_code (record { slots = []; next = 0 }) p in Stands fetch 0 turn × Stands fetch 20 turn × Stands fetch 40 code × Stands fetch (40 + 4 * length code) (service 15))
  unfolding program_code
  program_parts p h =
      let code = acts_code (record { slots = []; next = 0 }) p in
      let rest = code ++ service 15 in
      let one = stands_at fetch (0 + 4 * length turn) 20 (turn ++ rest) (omega (arith, turn_long)) (stands_back fetch 0 turn (turn ++ rest) h) in
      let two = stands_at fetch (20 + 4 * length turn) 40 rest (omega (arith, turn_long)) (stands_back fetch 20 turn rest one) in
      (stands_front fetch 0 turn (turn ++ rest) h, stands_front fetch 20 turn rest one, stands_front fetch 40 code (service 15) two, stands_back fetch 40 code (service 15) two)

  pub program_ends : (p : Acts) (turns : ℕ) (c : Config (List ℕ)) → IsBounded p → turns < 2 ^ 31 → W ≡ length (program_code p) → c.pc ≡ 0 → Stands fetch 0 (program_code p) → At sp (record { slots = []; next = 0 }) [] (record { turns = turns; out = [] }) c
      → Ended fetch sp (W + W * turns) c (ending (meaning p turns)) (printed (meaning p turns))
  unfolding meaning
  program_ends p turns c bounded few size here h at =
      let f : Frame = record { slots = []; next = 0 } in
      let code = acts_code f p in
      let parts = program_parts p h in
      let goal : ℕ = 40 + 4 * length code in
      let w : World = record { turns = turns; out = [] } in
      let long = program_long p in
      let body : World → End = λ v. acts_end (after_turns turns) p [] v in
      let more : World → End = λ v. spend v.turns v body in
      let all = spend_out fetch sp g W f (frame_through f p) [] w (10 + length code + W * turns) goal (λ m. 5 + length code + W * m) c (stands_at fetch 0 c.pc turn (sym here) parts.0) at (omega arith) (λ m e. omega (arith, times turns m e)) more
      (λ m e c1 pc a0 at1. spend_out fetch sp g W f (frame_through f p) [] (record { turns = m; out = [] }) (5 + length code + W * m) goal (λ k. length code + W * k) c1 (stands_at fetch 20 c1.pc turn (omega (arith, pc)) parts.1) at1 (omega arith) (λ k e2. omega (arith, times m k e2)) body
      (λ k e2 c2 pc2 a02 at2. subst (λ q. Out fetch sp W (length code + W * k) k q (frame_through f p) c2 (body (record { turns = k; out = [] }))) (omega (arith, pc, pc2))
      (acts_run fetch sp g W turns (after_turns turns) (loops_run fetch sp g W turns) p f [] (record { turns = k; out = [] }) c2 bounded.scoped bounded.small (omega (arith, bounded.declared)) (omega (arith, long)) (omega arith) (stands_at fetch 40 c2.pc code (omega (arith, pc, pc2)) parts.2) at2))) in
      finished (10 + length code + W * turns) turns goal (W + W * turns) (frame_through f p) c parts.3 (omega (arith, long)) (spend turns w more) all

-- the code of the image stands at its place
pub code_stands : (is : List Instr) → Stands (place 0 (all_named 0 is)) 0 is
code_stands is = stands_of (image is) 0 is (has_placed (image is) 0 (all_named 0 is) (λ q. refl))
