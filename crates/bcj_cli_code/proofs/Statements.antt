-- The code of statements does what the meaning says.
use Rattle.std.proofs.Common.{◌≡◌, ◌≢◌, ℕ, zero, suc, ◌+◌, ◌-◌, ◌*◌, ◌^◌, ◌<◌, ◌≤◌, Bool, true, false, List, [], ◌∷◌, ◌++◌, length, drop, Option, Some, refl, sym, ap, ◌∙◌, subst, arith, negsuc, length-append, append_assoc, if◌then◌else◌}
use Rattle.std.specs.Prelude.{Contains, nat_lt}
use Rattle.std.proofs.lemmas.Bool.Decides.{nat_tests, Decides-ltb}
use Rattle.std.specs.Int.{w32, cast_signed}
use Rattle.std.specs.Fmt.{signed_decimal}
use Rattle.rv_isa.specs.declared.instruction.Instr.{Instr}
use Rattle.rv_isa.specs.declared.instruction.Instr.TheVariants as instr
use Rattle.rv_steps.specs.Memory.{read, write}
use Rattle.rv_steps.specs.Arithmetic.{offset, sum}
use Rattle.rv_steps.specs.Machine.{Reg, X0, A0, A7, S11, Sp, Op, Config, put, next, link, Goes, Halt, step, Resumes, Ends}
use Rattle.rv_steps.specs.Machine as op
use Rattle.rv_steps.proofs.Memory.{length_write, read_same, read_below, read_above, wrap_small}
use Rattle.rv_steps.proofs.Steps.{goes_on, goes_here, goes_plain, store_word, goes_jump, goes_svc, ends_svc, bne_taken, bne_falls}
use Rattle.bcj_cli_language.specs.Tree.{Test, Act, print, declare, assign, choose, repeat, Acts, nil, cons}
use Rattle.bcj_cli_language.specs.Scopes.{IsScoped, AreScoped, declared_by, declared_in}
use Rattle.bcj_cli_language.specs.Bounds.{IsSmall, AreSmall}
use Rattle.bcj_cli_language.specs.Meaning.{Environment, World, End, Goes as Onward, Stops, value_of, assigned, is_met, line_of, continued, spend, leave, act_end, acts_end, after_turns}
use Rattle.bcj_cli_code.specs.function.Slots.{Frame, slot_of, with_local, frame_after, frame_through}
use Rattle.bcj_cli_code.specs.function.Code.{service, ahead, back, skip, turn, sum_code, test_code, store_code, print_code, choose_code, repeat_code, act_code, acts_code}
use Rattle.bcj_cli_code.specs.function.Run.{TurnsSpent}
use Rattle.bcj_cli_code.proofs.Locals.{names, Agree, agree_more, agree_same, agree_assign, agree_leave, look, value_small, names_behind, next_behind}
use Rattle.bcj_cli_code.proofs.Clause.{Stands, stands_front, stands_back, stands_at, Ground, machine, At, at_same, Valued, Spent, Out}
use Rattle.bcj_cli_code.proofs.Lengths.{turn_long, skip_long, print_long, choose_long, repeat_long}
use Rattle.bcj_cli_code.proofs.Values.{truth, sum_runs, test_runs, on_frame}

module _ (fetch : ℕ → Option Op) (sp : ℕ) (g : Ground sp) (W : ℕ) where
  -- instructions before
  pub out_after : (f : Frame) (j most1 most2 turns1 turns2 target1 target2 : ℕ) (a c : Config (List ℕ)) → Goes (machine fetch sp) j a c → most1 + j ≤ most2 → turns1 ≤ turns2 → target1 ≡ target2 → (e : End) → Out fetch sp W most1 turns1 target1 f c e → Out fetch sp W most2 turns2 target2 f a e
  out_after f j most1 most2 turns1 turns2 target1 target2 a c go le few to (Onward env w) r = record {
    c1 = r.c1;
    k = j + r.k;
    goes = goes_on {n = j} {m = r.k} refl go r.goes;
    pc_is = r.pc_is ∙ to;
    at = r.at;
    fewer = omega (arith, r.fewer);
    cost = omega (arith, r.cost);
  }
  out_after f j most1 most2 turns1 turns2 target1 target2 a c go le few to (Stops w) r = record { c1 = r.c1; k = j + r.k; goes = goes_on {n = j} {m = r.k} refl go r.goes; halts = r.halts; cost = omega (arith, r.cost) }

  -- one part and the next
  pub out_then : (f f2 : Frame) (most most2 n turns target target2 : ℕ) (c : Config (List ℕ)) → most + n ≤ most2 → (e : End) (more : Environment → World → End) → Out fetch sp W most turns target f c e
      → ((env : Environment) (w : World) (c1 : Config (List ℕ)) → c1.pc ≡ target → w.turns ≤ turns → At sp f env w c1 → Out fetch sp W (n + W * w.turns) w.turns target2 f2 c1 (more env w))
      → Out fetch sp W most2 turns target2 f2 c (continued e more)
  out_then f f2 most most2 n turns target target2 c le (Onward env w) more r onward =
      out_after f2 r.k (n + W * w.turns) most2 w.turns turns target2 target2 c r.c1 r.goes (omega (arith, r.cost)) r.fewer refl (more env w) (onward env w r.c1 r.pc_is r.fewer r.at)
  out_then f f2 most most2 n turns target target2 c le (Stops w) more r onward = record { c1 = r.c1; k = r.k; goes = r.goes; halts = r.halts; cost = omega (arith, r.cost) }

  -- a jump behind a part
  pub out_jump : (f : Frame) (most most2 turns target target2 : ℕ) (c : Config (List ℕ)) → most + 1 ≤ most2 → fetch target ≡ Some (op.Jal X0 target2) → (e : End) → Out fetch sp W most turns target f c e → Out fetch sp W most2 turns target2 f c e
  out_jump f most most2 turns target target2 c le h (Onward env w) r = record {
    c1 = record r.c1 { pc = target2 };
    k = r.k + 1;
    goes = goes_on {n = r.k} {m = 1} refl r.goes (goes_jump {rd = X0} (ap fetch r.pc_is ∙ h));
    pc_is = refl;
    at = r.at;
    fewer = r.fewer;
    cost = omega (arith, r.cost);
  }
  out_jump f most most2 turns target target2 c le h (Stops w) r = record { c1 = r.c1; k = r.k; goes = r.goes; halts = r.halts; cost = omega (arith, r.cost) }

  -- at a block's end
  pub out_leave : (f f2 : Frame) (most turns target : ℕ) (c : Config (List ℕ)) (outer : Environment) → ((env : Environment) (w : World) (c1 : Config (List ℕ)) → At sp f env w c1 → At sp f2 (drop (length env - length outer) env) w c1)
      → (e : End) → Out fetch sp W most turns target f c e → Out fetch sp W most turns target f2 c (leave outer e)
  out_leave f f2 most turns target c outer gone (Onward env w) r = record { c1 = r.c1; k = r.k; goes = r.goes; pc_is = r.pc_is; at = gone env w r.c1 r.at; fewer = r.fewer; cost = r.cost }
  out_leave f f2 most turns target c outer gone (Stops w) r = r

  -- a turn: where one is left it is spent, and a0 stays
  pub record Took (f : Frame) (env : Environment) (m : ℕ) (out : List ℕ) (c : Config (List ℕ)) : Type 0 where
    pub c1 : Config (List ℕ)
    pub goes : Goes (machine fetch sp) 2 c c1
    pub pc_is : c1.pc ≡ c.pc + 20
    pub a0_is : c1.a0 ≡ c.a0
    pub at : At sp f env (record { turns = m; out = out }) c1

  one_less : (s m : ℕ) → s ≡ suc m → m < 2 ^ 31 → sum s (offset (negsuc 0)) ≡ m
  unfolding sum
  one_less s m e h = omega arith

  took : (f : Frame) (env : Environment) (w : World) (m : ℕ) (c : Config (List ℕ)) → w.turns ≡ suc m → Stands fetch c.pc turn → At sp f env w c → Took f env m w.out c
  unfolding turn
  took f env w m c is h at =
      let s : c.s11 ≡ suc m = at.turns_is ∙ is in
      let c1 : Config (List ℕ) = record c { pc = c.pc + 16 } in
      let jumped : Goes (machine fetch sp) 1 c c1 = bne_taken {r = S11} {s = X0} h.0 (λ z. omega arith) in
      let last = stands_at fetch (c.pc + 4 + 4 + 4 + 4) (c.pc + 16) (instr.Addi 27 27 (negsuc 0) ∷ []) (omega arith) h.1.1.1.1 in
      let c2 : Config (List ℕ) = next (put S11 (sum c.s11 (offset (negsuc 0))) c1) in
      let counted : Goes (machine fetch sp) 1 c1 c2 = goes_plain last.0 refl in
      record {
        c1 = c2;
        goes = goes_on {n = 1} {m = 1} refl jumped counted;
        pc_is = omega arith;
        a0_is = refl;
        at = record { sp_is = at.sp_is; turns_is = one_less c.s11 m s (omega (arith, at.few)); out_is = at.out_is; long = at.long; few = omega (arith, at.few); agree = at.agree };
      }

  stopped : (f : Frame) (env : Environment) (w : World) (most : ℕ) (c : Config (List ℕ)) → w.turns ≡ 0 → 4 ≤ most → Stands fetch c.pc turn → At sp f env w c → Spent fetch sp most c w
  unfolding turn sum
  stopped f env w most c is le h at =
      let c1 : Config (List ℕ) = next c in
      let c2 : Config (List ℕ) = next (put A0 (sum 0 0) c1) in
      let c3 : Config (List ℕ) = next (put A7 (sum 0 14) c2) in
      let fell : Goes (machine fetch sp) 1 c c1 = bne_falls {r = S11} {s = X0} h.0 (at.turns_is ∙ is) in
      let one : Goes (machine fetch sp) 1 c1 c2 = goes_plain h.1.0 refl in
      let two : Goes (machine fetch sp) 1 c2 c3 = goes_plain h.1.1.0 refl in
      record {
        c1 = c3;
        k = 3;
        goes = goes_on {n = 1} {m = 2} refl fell (goes_on {n = 1} {m = 1} refl one two);
        halts = ends_svc (machine fetch sp) c3 h.1.1.1.0 refl ∙ ap (Halt TurnsSpent) at.out_is;
        cost = le;
      }

  pub spend_out : (f f2 : Frame) (env : Environment) (w : World) (most target : ℕ) (rest : ℕ → ℕ) (c : Config (List ℕ)) → Stands fetch c.pc turn → At sp f env w c → 4 ≤ most
      → ((m : ℕ) → w.turns ≡ suc m → rest m + 2 ≤ most) → (more : World → End)
      → ((m : ℕ) → w.turns ≡ suc m → (c1 : Config (List ℕ)) → c1.pc ≡ c.pc + 20 → c1.a0 ≡ c.a0 → At sp f env (record { turns = m; out = w.out }) c1 → Out fetch sp W (rest m) m target f2 c1 (more (record { turns = m; out = w.out })))
      → Out fetch sp W most w.turns target f2 c (spend w.turns w more)
  spend_out f f2 env w most target rest c h at le room more onward = by w.turns refl
    where
      by : (t : ℕ) → w.turns ≡ t → Out fetch sp W most w.turns target f2 c (spend t w more)
      by zero e = stopped f env w most c e le h at
      by (suc m) e =
          let r = took f env w m c e h at in
          out_after f2 2 (rest m) most m w.turns target target c r.c1 r.goes (room m e) (omega arith) refl (more (record { turns = m; out = w.out })) (onward m e r.c1 r.pc_is r.a0_is r.at)

  -- words of the frame
  place_same : (m : List ℕ) (v i : ℕ) → length m ≡ sp + 2032 → i < 100 → v < 2 ^ 32 → read (write m (sp + 4 * (507 - i)) v) (sp + 4 * (507 - i)) ≡ v
  place_same m v i long few fits = read_same m (sp + 4 * (507 - i)) v (omega arith) ∙ wrap_small v fits

  place_other : (m : List ℕ) (v i j : ℕ) → length m ≡ sp + 2032 → i < 100 → j < 100 → (j ≡ i → ⊥) → read (write m (sp + 4 * (507 - i)) v) (sp + 4 * (507 - j)) ≡ read m (sp + 4 * (507 - j))
  place_other m v i j long few few2 ne = by (nat_lt i j) refl
    where
      by : (b : Bool) → nat_lt i j ≡ b → read (write m (sp + 4 * (507 - i)) v) (sp + 4 * (507 - j)) ≡ read m (sp + 4 * (507 - j))
      by true e = let lt : i < j = (Decides-ltb i j).0 e in read_below m (sp + 4 * (507 - i)) v (omega arith) (sp + 4 * (507 - j)) (omega arith)
      by false e = let ge : j ≤ i = grind (arith, nat_tests) in let n : j ≢ i = ne in read_above m (sp + 4 * (507 - i)) v (omega arith) (sp + 4 * (507 - j)) (omega arith)

  -- what is in a0 goes to a local's place
  stored : (i : ℕ) (c : Config (List ℕ)) → i < 100 → c.sp ≡ sp → length c.mem ≡ sp + 2032 → Stands fetch c.pc (store_code i) → Goes (machine fetch sp) 1 c (next (record c { mem = write c.mem (sp + 4 * (507 - i)) c.a0 }))
  stored i c few is long h = store_word (sp + 4 * (507 - i)) h.0 (on_frame sp (4 * (507 - i)) g.small (omega arith) c.sp is) (omega (arith, g.aligned)) (omega arith) (omega arith)

  -- a conditional jump over n words behind it
  pub skip_falls_through : (n : ℕ) (c : Config (List ℕ)) → c.a0 ≡ 1 → Stands fetch c.pc (skip n) → Goes (machine fetch sp) 1 c (record c { pc = c.pc + 8 })
  unfolding skip
  skip_falls_through n c e h = bne_taken {r = A0} {s = X0} h.0 (λ z. omega arith)

  pub skip_jumps : (n : ℕ) (c : Config (List ℕ)) → c.a0 ≡ 0 → Stands fetch c.pc (skip n) → Goes (machine fetch sp) 2 c (record c { pc = c.pc + 4 + (4 * n + 4) })
  unfolding skip
  skip_jumps n c e h = goes_on {n = 1} {m = 1} refl (bne_falls {r = A0} {s = X0} h.0 e) (goes_jump {rd = X0} h.1.0)

  times : (t m : ℕ) → t ≡ suc m → W * t ≡ W + W * m
  times t m e = ap (λ x. W * x) e ∙ omega arith

  -- the number in a0 is printed, and a line end
  printed_out : (f : Frame) (env : Environment) (m v target : ℕ) (out : List ℕ) (c : Config (List ℕ)) → Stands fetch c.pc (service 11 ++ service 13) → At sp f env (record { turns = m; out = out }) c → c.a0 ≡ v → c.pc + 16 ≡ target
      → Out fetch sp W (4 + W * m) m target f c (Onward env (record { turns = m; out = out ++ line_of v }))
  unfolding sum
  printed_out f env m v target out c h at is to =
      let text : List ℕ = signed_decimal (cast_signed w32 c.a0) in
      let c2 : Config (List ℕ) = next (put A7 (sum 0 11) c) in
      let c3 : Config (List ℕ) = record (next c2) { world = c.world ++ text } in
      let c4 : Config (List ℕ) = next (put A7 (sum 0 13) c3) in
      let c5 : Config (List ℕ) = record (next c4) { world = (c.world ++ text) ++ 10 ∷ [] } in
      let one : Goes (machine fetch sp) 1 c c2 = goes_plain h.0 refl in
      let two : Goes (machine fetch sp) 1 c2 c3 = goes_svc h.1.0 refl in
      let three : Goes (machine fetch sp) 1 c3 c4 = goes_plain h.1.1.0 refl in
      let four : Goes (machine fetch sp) 1 c4 c5 = goes_svc h.1.1.1.0 refl in
      record {
        c1 = c5;
        k = 4;
        goes = goes_on {n = 1} {m = 3} refl one (goes_on {n = 1} {m = 2} refl two (goes_on {n = 1} {m = 1} refl three four));
        pc_is = omega (arith, to);
        at = record {
          sp_is = at.sp_is;
          turns_is = at.turns_is;
          out_is = append_assoc c.world text (10 ∷ []) ∙ ap (λ o. o ++ (text ++ 10 ∷ [])) at.out_is ∙ ap (λ x. out ++ line_of x) is;
          long = at.long;
          few = at.few;
          agree = at.agree;
        };
        fewer = omega arith;
        cost = omega arith;
      }

  print_parts : (p q : ℕ) → Stands fetch p print_code → p + 20 ≡ q → Stands fetch p turn × Stands fetch q (service 11 ++ service 13)
  unfolding print_code
  print_parts p q h e = (stands_front fetch p turn (service 11 ++ service 13) h, stands_at fetch (p + 4 * length turn) q (service 11 ++ service 13) (omega (arith, turn_long)) (stands_back fetch p turn (service 11 ++ service 13) h))

  print_runs : (f : Frame) (env : Environment) (w : World) (v : ℕ) (code : List Instr) (c : Config (List ℕ)) → Stands fetch c.pc (code ++ print_code) → At sp f env w c → f.next ≤ 100 → Valued fetch sp (length code) 0 v c
      → Out fetch sp W (length (code ++ print_code) + W * w.turns) w.turns (c.pc + 4 * length (code ++ print_code)) f c (spend w.turns w (λ z. Onward env (record { turns = z.turns; out = z.out ++ line_of v })))
  print_runs f env w v code c h at le r =
      let at1 = at_same sp 0 f env w c r.c1 le r.sp_is r.turns_is r.out_is r.kept at in
      let here = stands_at fetch (c.pc + 4 * length code) r.c1.pc print_code (sym r.pc_is) (stands_back fetch c.pc code print_code h) in
      let goal : ℕ = c.pc + 4 * length (code ++ print_code) in
      let more : World → End = λ z. Onward env (record { turns = z.turns; out = z.out ++ line_of v }) in
      let parts = print_parts r.c1.pc (r.c1.pc + 20) here refl in
      out_after f (length code) (9 + W * w.turns) (length (code ++ print_code) + W * w.turns) w.turns w.turns goal goal c r.c1 r.goes (omega (arith, print_long code)) (omega arith) refl (spend w.turns w more)
      (spend_out f f env w (9 + W * w.turns) goal (λ m. 4 + W * m) r.c1 parts.0 at1 (omega arith) (λ m e. omega (arith, times w.turns m e)) more
      (λ m e c1 pc a0 at2. printed_out f env m v goal w.out c1 (stands_at fetch (r.c1.pc + 20) c1.pc (service 11 ++ service 13) (sym pc) parts.1) at2 (a0 ∙ r.a0_is) (omega (arith, pc, r.pc_is, print_long code))))

  -- the value in a0 is that of a local from here on
  declare_runs : (f : Frame) (env : Environment) (w : World) (x : List ℕ) (v : ℕ) (code : List Instr) (c : Config (List ℕ)) → Stands fetch c.pc (code ++ store_code f.next) → At sp f env w c → f.next < 100 → v < 2 ^ 32 → Valued fetch sp (length code) 0 v c
      → Out fetch sp W (length (code ++ store_code f.next) + W * w.turns) w.turns (c.pc + 4 * length (code ++ store_code f.next)) (with_local f x) c (Onward (record { name = x; value = v } ∷ env) w)
  declare_runs f env w x v code c h at le fits r =
      let at1 = at_same sp 0 f env w c r.c1 (omega arith) r.sp_is r.turns_is r.out_is r.kept at in
      let here = stands_at fetch (c.pc + 4 * length code) r.c1.pc (store_code f.next) (sym r.pc_is) (stands_back fetch c.pc code (store_code f.next) h) in
      let long = length-append code (store_code f.next) in
      let fits1 : r.c1.a0 < 2 ^ 32 = omega (arith, r.a0_is) in
      record {
        c1 = next (record r.c1 { mem = write r.c1.mem (sp + 4 * (507 - f.next)) r.c1.a0 });
        k = length code + 1;
        goes = goes_on {n = length code} {m = 1} refl r.goes (stored f.next r.c1 le at1.sp_is at1.long here);
        pc_is = omega (arith, r.pc_is, long);
        at = record {
          sp_is = at1.sp_is;
          turns_is = at1.turns_is;
          out_is = at1.out_is;
          long = length_write r.c1.mem (sp + 4 * (507 - f.next)) r.c1.a0 (omega (arith, at1.long)) ∙ at1.long;
          few = at1.few;
          agree = (
            refl,
            omega arith,
            place_same r.c1.mem r.c1.a0 f.next at1.long le fits1 ∙ r.a0_is,
            fits,
            agree_same (λ i. read r.c1.mem (sp + 4 * (507 - i))) (λ i. read (write r.c1.mem (sp + 4 * (507 - f.next)) r.c1.a0) (sp + 4 * (507 - i))) f.next (λ i lt. place_other r.c1.mem r.c1.a0 f.next i at1.long le (omega arith) (λ z. omega arith)) f.slots env at1.agree,
          );
        };
        fewer = omega arith;
        cost = omega (arith, long);
      }

  assign_runs : (f : Frame) (env : Environment) (w : World) (x : List ℕ) (v : ℕ) (code : List Instr) (c : Config (List ℕ)) → Stands fetch c.pc (code ++ store_code (slot_of f.slots x)) → At sp f env w c → f.next ≤ 100 → Contains (names f.slots) x → v < 2 ^ 32 → Valued fetch sp (length code) 0 v c
      → Out fetch sp W (length (code ++ store_code (slot_of f.slots x)) + W * w.turns) w.turns (c.pc + 4 * length (code ++ store_code (slot_of f.slots x))) f c (Onward (assigned env x v) w)
  assign_runs f env w x v code c h at le known fits r =
      let i : ℕ = slot_of f.slots x in
      let at1 = at_same sp 0 f env w c r.c1 le r.sp_is r.turns_is r.out_is r.kept at in
      let low : slot_of f.slots x < f.next = (look (λ j. read r.c1.mem (sp + 4 * (507 - j))) f.next f.slots env x at1.agree known).1 in
      let few : slot_of f.slots x < 100 = omega arith in
      let here = stands_at fetch (c.pc + 4 * length code) r.c1.pc (store_code i) (sym r.pc_is) (stands_back fetch c.pc code (store_code i) h) in
      let long = length-append code (store_code i) in
      let fits1 : r.c1.a0 < 2 ^ 32 = omega (arith, r.a0_is) in
      record {
        c1 = next (record r.c1 { mem = write r.c1.mem (sp + 4 * (507 - i)) r.c1.a0 });
        k = length code + 1;
        goes = goes_on {n = length code} {m = 1} refl r.goes (stored i r.c1 few at1.sp_is at1.long here);
        pc_is = omega (arith, r.pc_is, long);
        at = record {
          sp_is = at1.sp_is;
          turns_is = at1.turns_is;
          out_is = at1.out_is;
          long = length_write r.c1.mem (sp + 4 * (507 - i)) r.c1.a0 (omega (arith, at1.long)) ∙ at1.long;
          few = at1.few;
          agree = agree_assign (λ j. read r.c1.mem (sp + 4 * (507 - j))) (λ j. read (write r.c1.mem (sp + 4 * (507 - i)) r.c1.a0) (sp + 4 * (507 - j))) f.next f.slots env x v at1.agree known fits
              (place_same r.c1.mem r.c1.a0 i at1.long few fits1 ∙ r.a0_is) (λ j lt ne. place_other r.c1.mem r.c1.a0 i j at1.long few (omega arith) ne);
        };
        fewer = omega arith;
        cost = omega (arith, long);
      }

  pub choose_parts : (test first second : List Instr) (p q : ℕ) → Stands fetch p (choose_code test first second) → p + 4 * length test ≡ q
      → Stands fetch p test × Stands fetch q (skip (length first + 1)) × Stands fetch (q + 8) first × (fetch (q + 8 + 4 * length first) ≡ Some (op.Jal X0 (q + 8 + 4 * length first + (4 * length second + 4)))) × Stands fetch (q + 8 + 4 * length first + 4) second
  unfolding choose_code
  choose_parts test first second p q h e =
      let n : ℕ = length first + 1 in
      let rest = first ++ ahead (length second) ∷ second in
      let one = stands_at fetch (p + 4 * length test) q (skip n ++ rest) e (stands_back fetch p test (skip n ++ rest) h) in
      let two = stands_at fetch (q + 4 * length (skip n)) (q + 8) rest (omega (arith, skip_long n)) (stands_back fetch q (skip n) rest one) in
      let three = stands_back fetch (q + 8) first (ahead (length second) ∷ second) two in
      (stands_front fetch p test (skip n ++ rest) h, stands_front fetch q (skip n) rest one, stands_front fetch (q + 8) first (ahead (length second) ∷ second) two, three.0, three.1)

  choose_runs : (f f3 : Frame) (env : Environment) (w : World) (test first second : List Instr) (b : Bool) (c : Config (List ℕ)) → f.next ≤ 100 → Stands fetch c.pc (choose_code test first second) → At sp f env w c → Valued fetch sp (length test) 0 (truth b) c → (e e2 : End)
      → ((c1 : Config (List ℕ)) → Stands fetch c1.pc first → At sp f env w c1 → Out fetch sp W (length first + W * w.turns) w.turns (c1.pc + 4 * length first) f3 c1 e)
      → ((c1 : Config (List ℕ)) → Stands fetch c1.pc second → At sp f env w c1 → Out fetch sp W (length second + W * w.turns) w.turns (c1.pc + 4 * length second) f3 c1 e2)
      → Out fetch sp W (length (choose_code test first second) + W * w.turns) w.turns (c.pc + 4 * length (choose_code test first second)) f3 c (if b then e else e2)
  choose_runs f f3 env w test first second true c le h at r e e2 one two =
      let at1 = at_same sp 0 f env w c r.c1 le r.sp_is r.turns_is r.out_is r.kept at in
      let parts = choose_parts test first second c.pc r.c1.pc h (sym r.pc_is) in
      let c2 : Config (List ℕ) = record r.c1 { pc = r.c1.pc + 8 } in
      let entered = goes_on {n = length test} {m = 1} refl r.goes (skip_falls_through (length first + 1) r.c1 r.a0_is parts.1) in
      let goal : ℕ = r.c1.pc + 8 + 4 * length first + (4 * length second + 4) in
      out_after f3 (length test + 1) (length first + W * w.turns + 1) (length (choose_code test first second) + W * w.turns) w.turns w.turns goal (c.pc + 4 * length (choose_code test first second)) c c2 entered (omega (arith, choose_long test first second)) (omega arith) (omega (arith, choose_long test first second, r.pc_is)) e
      (out_jump f3 (length first + W * w.turns) (length first + W * w.turns + 1) w.turns (r.c1.pc + 8 + 4 * length first) goal c2 (omega arith) parts.3 e (one c2 parts.2 at1))
  choose_runs f f3 env w test first second false c le h at r e e2 one two =
      let at1 = at_same sp 0 f env w c r.c1 le r.sp_is r.turns_is r.out_is r.kept at in
      let parts = choose_parts test first second c.pc r.c1.pc h (sym r.pc_is) in
      let c2 : Config (List ℕ) = record r.c1 { pc = r.c1.pc + 4 + (4 * (length first + 1) + 4) } in
      let entered = goes_on {n = length test} {m = 2} refl r.goes (skip_jumps (length first + 1) r.c1 r.a0_is parts.1) in
      let there = stands_at fetch (r.c1.pc + 8 + 4 * length first + 4) c2.pc second (omega arith) parts.4 in
      out_after f3 (length test + 2) (length second + W * w.turns) (length (choose_code test first second) + W * w.turns) w.turns w.turns (c2.pc + 4 * length second) (c.pc + 4 * length (choose_code test first second)) c c2 entered (omega (arith, choose_long test first second)) (omega arith) (omega (arith, choose_long test first second, r.pc_is)) e2
      (two c2 there at1)

  repeat_parts : (test body : List Instr) (p q r : ℕ) → Stands fetch p (repeat_code test body) → p + 20 ≡ q → q + 4 * length test ≡ r
      → Stands fetch p turn × Stands fetch q test × Stands fetch r (skip (length body + 1)) × Stands fetch (r + 8) body × (fetch (r + 8 + 4 * length body) ≡ Some (op.Jal X0 p))
  unfolding repeat_code
  repeat_parts test body p q r h eq er =
      let n : ℕ = length body + 1 in
      let last = back (length turn + length test + 2 + length body) ∷ [] in
      let rest = test ++ (skip n ++ (body ++ last)) in
      let one = stands_at fetch (p + 4 * length turn) q rest (omega (arith, turn_long)) (stands_back fetch p turn rest h) in
      let two = stands_at fetch (q + 4 * length test) r (skip n ++ (body ++ last)) er (stands_back fetch q test (skip n ++ (body ++ last)) one) in
      let three = stands_at fetch (r + 4 * length (skip n)) (r + 8) (body ++ last) (omega (arith, skip_long n)) (stands_back fetch r (skip n) (body ++ last) two) in
      let four = stands_back fetch (r + 8) body last three in
      let to : r + 8 + 4 * length body - (4 * (length turn + length test + 2 + length body) - 1 + 1) ≡ p = omega (arith, turn_long) in
      (stands_front fetch p turn rest h, stands_front fetch q test (skip n ++ (body ++ last)) one, stands_front fetch r (skip n) (body ++ last) two, stands_front fetch (r + 8) body last three, four.0 ∙ ap (λ a. Some (op.Jal X0 a)) to)

  -- a loop's turn behind its TURN: the test, and then the body and the next turn, or the end
  loop_turn : (f f2 : Frame) (env : Environment) (v : World) (test body : List Instr) (b : Bool) (n goal p q : ℕ) (c : Config (List ℕ)) → f.next ≤ 100 → At sp f env v c → Valued fetch sp (length test) 0 (truth b) c → c.pc + 4 * length test ≡ q
      → Stands fetch q (skip (length body + 1)) → Stands fetch (q + 8) body → fetch (q + 8 + 4 * length body) ≡ Some (op.Jal X0 p) → q + 8 + 4 * length body + 4 ≡ goal → (e : End) (more : Environment → World → End)
      → ((c1 : Config (List ℕ)) → Stands fetch c1.pc body → At sp f env v c1 → Out fetch sp W (length body + W * v.turns) v.turns (c1.pc + 4 * length body) f c1 e)
      → ((env1 : Environment) (w1 : World) (c1 : Config (List ℕ)) → c1.pc ≡ p → w1.turns ≤ v.turns → At sp f env1 w1 c1 → Out fetch sp W (n + W * w1.turns) w1.turns goal f2 c1 (more env1 w1))
      → ((c1 : Config (List ℕ)) → At sp f env v c1 → At sp f2 env v c1)
      → Out fetch sp W (length test + 1 + (length body + W * v.turns + 1 + n)) v.turns goal f2 c (if b then continued e more else Onward env v)
  loop_turn f f2 env v test body true n goal p q c le at r here skips inside jumps ends e more turns_in onward wider =
      let at1 = at_same sp 0 f env v c r.c1 le r.sp_is r.turns_is r.out_is r.kept at in
      let same : q ≡ r.c1.pc = omega (arith, r.pc_is) in
      let c2 : Config (List ℕ) = record r.c1 { pc = r.c1.pc + 8 } in
      let entered = goes_on {n = length test} {m = 1} refl r.goes (skip_falls_through (length body + 1) r.c1 r.a0_is (stands_at fetch q r.c1.pc (skip (length body + 1)) same skips)) in
      let from : fetch (r.c1.pc + 8 + 4 * length body) ≡ Some (op.Jal X0 p) = ap (λ x. fetch (x + 8 + 4 * length body)) (sym same) ∙ jumps in
      let run = turns_in c2 (stands_at fetch (q + 8) c2.pc body (omega (arith, same)) inside) at1 in
      let jumped = out_jump f (length body + W * v.turns) (length body + W * v.turns + 1) v.turns (c2.pc + 4 * length body) p c2 (omega arith) from e run in
      let all = out_then f f2 (length body + W * v.turns + 1) (length body + W * v.turns + 1 + n) n v.turns p goal c2 (omega arith) e more jumped onward in
      out_after f2 (length test + 1) (length body + W * v.turns + 1 + n) (length test + 1 + (length body + W * v.turns + 1 + n)) v.turns v.turns goal goal c c2 entered (omega arith) (omega arith) refl (continued e more) all
  loop_turn f f2 env v test body false n goal p q c le at r here skips inside jumps ends e more turns_in onward wider =
      let at1 = at_same sp 0 f env v c r.c1 le r.sp_is r.turns_is r.out_is r.kept at in
      let same : q ≡ r.c1.pc = omega (arith, r.pc_is) in
      record {
        c1 = record r.c1 { pc = r.c1.pc + 4 + (4 * (length body + 1) + 4) };
        k = length test + 2;
        goes = goes_on {n = length test} {m = 2} refl r.goes (skip_jumps (length body + 1) r.c1 r.a0_is (stands_at fetch q r.c1.pc (skip (length body + 1)) same skips));
        pc_is = omega (arith, same);
        at = wider r.c1 at1;
        fewer = omega arith;
        cost = omega arith;
      }

  repeat_runs : (f f2 : Frame) (env : Environment) (w : World) (test body : List Instr) (b : Bool) (c : Config (List ℕ)) → f.next ≤ 100 → length (repeat_code test body) ≤ W → Stands fetch c.pc (repeat_code test body) → At sp f env w c
      → (inner : World → End) (more : Environment → World → End)
      → ((v : World) (c1 : Config (List ℕ)) → Stands fetch c1.pc test → At sp f env v c1 → Valued fetch sp (length test) 0 (truth b) c1)
      → ((m : ℕ) (c1 : Config (List ℕ)) → w.turns ≡ suc m → Stands fetch c1.pc body → At sp f env (record { turns = m; out = w.out }) c1 → Out fetch sp W (length body + W * m) m (c1.pc + 4 * length body) f c1 (inner (record { turns = m; out = w.out })))
      → ((env1 : Environment) (w1 : World) (c1 : Config (List ℕ)) → suc w1.turns ≤ w.turns → c1.pc ≡ c.pc → At sp f env1 w1 c1 → Out fetch sp W (length (repeat_code test body) + W * w1.turns) w1.turns (c.pc + 4 * length (repeat_code test body)) f2 c1 (more env1 w1))
      → ((v : World) (c1 : Config (List ℕ)) → At sp f env v c1 → At sp f2 env v c1)
      → Out fetch sp W (length (repeat_code test body) + W * w.turns) w.turns (c.pc + 4 * length (repeat_code test body)) f2 c (spend w.turns w (λ v. if b then continued (inner v) more else Onward env v))
  repeat_runs f f2 env w test body b c le within h at inner more checks turns_in onward wider =
      let n : ℕ = length (repeat_code test body) in
      let goal : ℕ = c.pc + 4 * n in
      let long = repeat_long test body in
      let parts = repeat_parts test body c.pc (c.pc + 20) (c.pc + 20 + 4 * length test) h refl refl in
      spend_out f f2 env w (n + W * w.turns) goal (λ m. length test + 1 + (length body + W * m + 1 + n)) c parts.0 at (omega (arith, long)) (λ m e. omega (arith, long, times w.turns m e)) (λ v. if b then continued (inner v) more else Onward env v)
      (λ m e c1 pc a0 at1.
      let v : World = record { turns = m; out = w.out } in
      loop_turn f f2 env v test body b n goal c.pc (c.pc + 20 + 4 * length test) c1 le at1 (checks v c1 (stands_at fetch (c.pc + 20) c1.pc test (sym pc) parts.1) at1) (omega (arith, pc)) parts.2 parts.3 parts.4 (omega (arith, long)) (inner v) more
      (λ c2 s at2. turns_in m c2 e s at2) (λ env1 w1 c2 at_p fewer at2. onward env1 w1 c2 (omega arith) at_p at2) (λ c2 at2. wider v c2 at2))

  at_more : (f f2 : Frame) (env : Environment) (w : World) (c : Config (List ℕ)) → f2.slots ≡ f.slots → f.next ≤ f2.next → At sp f env w c → At sp f2 env w c
  at_more f f2 env w c e le h =
      let vs : ℕ → ℕ = λ i. read c.mem (sp + 4 * (507 - i)) in
      record {
        sp_is = h.sp_is;
        turns_is = h.turns_is;
        out_is = h.out_is;
        long = h.long;
        few = h.few;
        agree = subst (λ l. Agree vs f2.next l env) (sym e) (agree_more vs f.next f2.next le f.slots env h.agree);
      }

  -- behind a block
  at_leave : (f f2 : Frame) (p : Acts) (env env1 : Environment) (w w1 : World) (c c1 : Config (List ℕ)) → f2.slots ≡ f.slots → f.next ≤ f2.next → At sp f env w c → At sp (frame_through f p) env1 w1 c1 → At sp f2 (drop (length env1 - length env) env1) w1 c1
  at_leave f f2 p env env1 w w1 c c1 e le g h =
      let vs : ℕ → ℕ = λ i. read c.mem (sp + 4 * (507 - i)) in
      let ws : ℕ → ℕ = λ i. read c1.mem (sp + 4 * (507 - i)) in
      at_more f f2 (drop (length env1 - length env) env1) w1 c1 e le
      (record { sp_is = h.sp_is; turns_is = h.turns_is; out_is = h.out_is; long = h.long; few = h.few; agree = agree_leave vs ws (frame_through f p).next f p env env1 g.agree h.agree })

  -- what is said of a statement, where F says what it does
  abbrev pub ActRuns : ℕ → (Act → Environment → World → End) → Act → Type 0
  ActRuns bound F a = (f : Frame) (env : Environment) (w : World) (c : Config (List ℕ)) → IsScoped (names f.slots) a → IsSmall a → f.next + declared_by a ≤ 100 → length (act_code f a) ≤ W → w.turns ≤ bound
      → Stands fetch c.pc (act_code f a) → At sp f env w c → Out fetch sp W (length (act_code f a) + W * w.turns) w.turns (c.pc + 4 * length (act_code f a)) (frame_after f a) c (F a env w)

  abbrev pub ActsRun : ℕ → (Acts → Environment → World → End) → Acts → Type 0
  ActsRun bound F p = (f : Frame) (env : Environment) (w : World) (c : Config (List ℕ)) → AreScoped (names f.slots) p → AreSmall p → f.next + declared_in p ≤ 100 → length (acts_code f p) ≤ W → w.turns ≤ bound
      → Stands fetch c.pc (acts_code f p) → At sp f env w c → Out fetch sp W (length (acts_code f p) + W * w.turns) w.turns (c.pc + 4 * length (acts_code f p)) (frame_through f p) c (F p env w)

  abbrev pub Loops : ℕ → (Act → Environment → World → End) → Type 0
  Loops bound again = (t : Test) (a : Acts) → ActRuns bound again (repeat t a)

  choose_ends : (env : Environment) (b : Bool) (e e2 : End) → leave env (if b then e else e2) ≡ (if b then leave env e else leave env e2)
  choose_ends env true e e2 = refl
  choose_ends env false e e2 = refl

  mutual
    pub act_runs : (bound : ℕ) (again : Act → Environment → World → End) → Loops bound again → (a : Act) → ActRuns (suc bound) (act_end again) a
    act_runs bound again loops (print e) f env w c scoped small room within few h at =
        print_runs f env w (value_of env e) (sum_code f.slots 0 e) c h at (omega arith) (sum_runs fetch sp g f env w (omega arith) e 0 c scoped small.0 (omega (arith, small.1)) (stands_front fetch c.pc (sum_code f.slots 0 e) print_code h) at)
    act_runs bound again loops (declare x e) f env w c scoped small room within few h at =
        declare_runs f env w x (value_of env e) (sum_code f.slots 0 e) c h at (omega arith) (value_small (λ i. read c.mem (sp + 4 * (507 - i))) f.next f.slots env at.agree e small.0)
        (sum_runs fetch sp g f env w (omega arith) e 0 c scoped.0 small.0 (omega (arith, small.1)) (stands_front fetch c.pc (sum_code f.slots 0 e) (store_code f.next) h) at)
    act_runs bound again loops (assign x e) f env w c scoped small room within few h at =
        assign_runs f env w x (value_of env e) (sum_code f.slots 0 e) c h at (omega arith) scoped.0 (value_small (λ i. read c.mem (sp + 4 * (507 - i))) f.next f.slots env at.agree e small.0)
        (sum_runs fetch sp g f env w (omega arith) e 0 c scoped.1 small.0 (omega (arith, small.1)) (stands_front fetch c.pc (sum_code f.slots 0 e) (store_code (slot_of f.slots x)) h) at)
    act_runs bound again loops (choose t a b) f env w c scoped small room within few h at =
        let f2 : Frame = record { slots = f.slots; next = f.next + declared_in a } in
        let f3 : Frame = frame_after f (choose t a b) in
        let first = acts_code f a in
        let second = acts_code f2 b in
        let long = choose_long (test_code f.slots t) first second in
        let r = test_runs fetch sp g f env w (omega arith) t c scoped.0 small.0 (choose_parts (test_code f.slots t) first second c.pc (c.pc + 4 * length (test_code f.slots t)) h refl).0 at in
        subst (λ e. Out fetch sp W (length (act_code f (choose t a b)) + W * w.turns) w.turns (c.pc + 4 * length (act_code f (choose t a b))) f3 c e) (sym (choose_ends env (is_met env t) (acts_end again a env w) (acts_end again b env w)))
        (choose_runs f f3 env w (test_code f.slots t) first second (is_met env t) c (omega arith) h at r (leave env (acts_end again a env w)) (leave env (acts_end again b env w))
        (λ c1 s at1. out_leave (frame_through f a) f3 (length first + W * w.turns) w.turns (c1.pc + 4 * length first) c1 env (λ env1 w1 c2 at2. at_leave f f3 a env env1 w w1 c1 c2 refl (omega arith) at1 at2) (acts_end again a env w)
        (acts_run bound again loops a f env w c1 scoped.1 small.1 (omega arith) (omega (arith, long)) few s at1))
        (λ c1 s at1. out_leave (frame_through f2 b) f3 (length second + W * w.turns) w.turns (c1.pc + 4 * length second) c1 env (λ env1 w1 c2 at2. at_leave f2 f3 b env env1 w w1 c1 c2 refl (omega arith) (at_more f f2 env w c1 refl (omega arith) at1) at2) (acts_end again b env w)
        (acts_run bound again loops b f2 env w c1 scoped.2 small.2 (omega arith) (omega (arith, long)) few s (at_more f f2 env w c1 refl (omega arith) at1))))
    act_runs bound again loops (repeat t a) f env w c scoped small room within few h at =
        let f3 : Frame = frame_after f (repeat t a) in
        let body = acts_code f a in
        let long = repeat_long (test_code f.slots t) body in
        repeat_runs f f3 env w (test_code f.slots t) body (is_met env t) c (omega arith) within h at (λ v. leave env (acts_end again a env v)) (again (repeat t a))
        (λ v c1 s at1. test_runs fetch sp g f env v (omega arith) t c1 scoped.0 small.0 s at1)
        (λ m c1 e s at1. let v : World = record { turns = m; out = w.out } in
        out_leave (frame_through f a) f (length body + W * m) m (c1.pc + 4 * length body) c1 env (λ env1 w1 c2 at2. at_leave f f a env env1 v w1 c1 c2 refl (omega arith) at1 at2) (acts_end again a env v)
        (acts_run bound again loops a f env v c1 scoped.1 small.1 room (omega (arith, long)) (omega arith) s at1))
        (λ env1 w1 c1 fewer at_start at1. subst (λ p. Out fetch sp W (length (act_code f (repeat t a)) + W * w1.turns) w1.turns (p + 4 * length (act_code f (repeat t a))) f3 c1 (again (repeat t a) env1 w1)) at_start
        (loops t a f env1 w1 c1 scoped small room within (omega arith) (stands_at fetch c.pc c1.pc (act_code f (repeat t a)) (sym at_start) h) at1))
        (λ v c1 at1. at_more f f3 env v c1 refl (omega arith) at1)

    pub acts_run : (bound : ℕ) (again : Act → Environment → World → End) → Loops bound again → (p : Acts) → ActsRun (suc bound) (acts_end again) p
    acts_run bound again loops nil f env w c scoped small room within few h at = record { c1 = c; k = 0; goes = goes_here; pc_is = omega arith; at = at; fewer = omega arith; cost = omega arith }
    acts_run bound again loops (cons a rest) f env w c scoped small room within few h at =
        let f1 : Frame = frame_after f a in
        let one = act_code f a in
        let more = acts_code f1 rest in
        let long = length-append one more in
        let goal : ℕ = c.pc + 4 * length (one ++ more) in
        out_then f1 (frame_through f1 rest) (length one + W * w.turns) (length (one ++ more) + W * w.turns) (length more) w.turns (c.pc + 4 * length one) goal c (omega (arith, long)) (act_end again a env w) (acts_end again rest)
        (act_runs bound again loops a f env w c scoped.0 small.0 (omega arith) (omega (arith, long)) few (stands_front fetch c.pc one more h) at)
        (λ env1 w1 c1 here fewer at1. subst (λ p. Out fetch sp W (length more + W * w1.turns) w1.turns p (frame_through f1 rest) c1 (acts_end again rest env1 w1)) (omega (arith, here, long))
        (acts_run bound again loops rest f1 env1 w1 c1 (subst (λ l. AreScoped l rest) (sym (names_behind f a)) scoped.1) small.1 (omega (arith, next_behind f a)) (omega (arith, long)) (omega arith) (stands_at fetch (c.pc + 4 * length one) c1.pc more (sym here) (stands_back fetch c.pc one more h)) at1))

  -- loops, by the turns that are left
  pub loops_run : (n : ℕ) → Loops n (after_turns n)
  unfolding after_turns
  loops_run zero t a f env w c scoped small room within few h at = stopped f env w (length (act_code f (repeat t a)) + W * w.turns) c (omega arith) (omega (arith, repeat_long (test_code f.slots t) (acts_code f a)))
      (repeat_parts (test_code f.slots t) (acts_code f a) c.pc (c.pc + 20) (c.pc + 20 + 4 * length (test_code f.slots t)) h refl refl).0 at
  loops_run (suc n) t a f env w c scoped small room within few h at = act_runs n (after_turns n) (loops_run n) (repeat t a) f env w c scoped small room within few h at
