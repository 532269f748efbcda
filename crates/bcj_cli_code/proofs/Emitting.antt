-- What the functions that write code keep.
use Rattle.std.proofs.Common.{◌≡◌, ℕ, suc, ◌+◌, ◌-◌, ◌^◌, ◌<◌, ◌≤◌, List, [], ◌∷◌, ◌++◌, length, drop, refl, sym, ap, ◌∙◌, subst, arith, append_assoc, length-append, get_or}
use Rattle.std.proofs.Math.Seq.{drop-append_seam, drop-cons}
use Rattle.std.proofs.Math.ListN.{drop_of_length-le}
use Rattle.rv_isa.specs.declared.instruction.Instr.{Instr}
use Rattle.bcj_cli_language.specs.declared.tree.Statement.{Statement}
use Rattle.bcj_cli_language.specs.Plain.{act_of, acts_of}
use Rattle.bcj_cli_language.specs.Tree.{Test, Act, choose, repeat, Acts, nil, cons}
use Rattle.bcj_cli_language.specs.Scopes.{declared_in}
use Rattle.bcj_cli_language.specs.Bounds.{IsBounded}
use Rattle.bcj_cli_code.specs.declared.scope.Local.{Local}
use Rattle.bcj_cli_code.specs.function.Slots.{Frame, frame_after, frame_through}
use Rattle.bcj_cli_code.specs.function.Code.{ahead, back, skip, turn, test_code, choose_code, repeat_code, act_code, acts_code}
use Rattle.std.specs.Prelude.{slice_set}
use Rattle.bcj_cli_code.proofs.Patch.{patch_choose, patch_repeat}
use Rattle.bcj_cli_code.specs.function.Room.{Fits, FitsOne}
use Rattle.bcj_cli_code.specs.Sizes.{acts_words, count_words, max_words}
use Rattle.bcj_cli_code.proofs.Locals.{slots_through, next_through, next_behind}
use Rattle.bcj_cli_code.proofs.Lengths.{turn_long, skip_long}
use Rattle.bcj_cli_code.proofs.Sizes.{test_size, act_size, acts_size}

-- the statements before are written, those of `rest` are to be
pub record Progress (code0 : List Instr) (f0 : Frame) (all : Acts) (code : List Instr) (f : Frame) (rest : Acts) : Type 0 where
  pub written : code ++ acts_code f rest ≡ code0 ++ acts_code f0 all
  pub frames : frame_through f rest ≡ frame_through f0 all
  pub fits : Fits (length code) f.next rest

pub progress_start : (code : List Instr) (f : Frame) (all : Acts) → Fits (length code) f.next all → Progress code f all code f all
progress_start code f all h = record { written = refl; frames = refl; fits = h }

pub fits_first : (n k : ℕ) (a : Act) (rest : Acts) → Fits n k (cons a rest) → FitsOne n k a
fits_first n k a rest h = record { small = h.small.0; locals = omega (arith, h.locals); reach = omega (arith, h.reach) }

fits_rest : (code code1 : List Instr) (f f1 : Frame) (a : Act) (rest : Acts) → code1 ≡ code ++ act_code f a → f1 ≡ frame_after f a → Fits (length code) f.next (cons a rest) → Fits (length code1) f1.next rest
fits_rest code code1 f f1 a rest e ef h = record {
  small = h.small.1;
  locals = omega (arith, h.locals, ap (λ x. x.next) ef, next_behind f a);
  reach = omega (arith, h.reach, ap length e, length-append code (act_code f a), act_size f a);
}

pub progress_step : (code0 : List Instr) (f0 : Frame) (all : Acts) (code code1 : List Instr) (f f1 : Frame) (a : Act) (rest : Acts) → code1 ≡ code ++ act_code f a → f1 ≡ frame_after f a → Progress code0 f0 all code f (cons a rest) → Progress code0 f0 all code1 f1 rest
progress_step code0 f0 all code code1 f f1 a rest e ef h = record {
  written = ap (λ x. code1 ++ acts_code x rest) ef ∙ ap (λ l. l ++ acts_code (frame_after f a) rest) e ∙ append_assoc code (act_code f a) (acts_code (frame_after f a) rest) ∙ h.written;
  frames = ap (λ x. frame_through x rest) ef ∙ h.frames;
  fits = fits_rest code code1 f f1 a rest e ef h.fits;
}

-- the statement at i and those behind it
pub acts_at : (block : List Statement) (i : ℕ) (s : Statement) → i < length block → s ≡ get_or block i s → acts_of (drop i block) ≡ cons (act_of s) (acts_of (drop (i + 1) block))
acts_at block i s lt e =
    ap acts_of (drop-cons block i s lt) ∙ ap (λ x. cons (act_of x) (acts_of (drop (suc i) block))) (sym e) ∙ ap (λ k. cons (act_of s) (acts_of (drop k block))) (let k : suc i ≡ i + 1 = omega arith in k)

pub acts_end : (block : List Statement) (i : ℕ) → length block ≤ i → acts_of (drop i block) ≡ nil
acts_end block i le = ap acts_of (drop_of_length-le block {i = i} le)

-- behind a block
pub frame_leaves : (f f0 : Frame) (p : Acts) (n : ℕ) → f ≡ frame_through f0 p → n ≡ length f0.slots → (let g : Frame = record { slots = drop (length f.slots - n) f.slots; next = f.next } in g) ≡ record { slots = f0.slots; next = f0.next + declared_in p }
frame_leaves f f0 p n e en =
    let s = slots_through f0 p in
    let gone : Frame → Frame = λ g. record { slots = drop (length g.slots - n) g.slots; next = g.next } in
    let cut : List Local → Frame = λ l. record { slots = drop (length l - n) l; next = (frame_through f0 p).next } in
    let short : ℕ → Frame = λ k. record { slots = drop k (s.0 ++ f0.slots); next = (frame_through f0 p).next } in
    let with_slots : List Local → Frame = λ l. record { slots = l; next = (frame_through f0 p).next } in
    let with_next : ℕ → Frame = λ k. record { slots = f0.slots; next = k } in
    let k : length (s.0 ++ f0.slots) - n ≡ length s.0 = omega (arith, length-append s.0 f0.slots) in
    ap gone e ∙ ap cut s.1 ∙ ap short k ∙ ap with_slots (drop-append_seam s.0 f0.slots) ∙ ap with_next (next_through f0 p)

pub fits_at : (n k : ℕ) (block : List Statement) (i : ℕ) (s : Statement) → i < length block → s ≡ get_or block i s → Fits n k (acts_of (drop i block)) → FitsOne n k (act_of s)
fits_at n k block i s lt e h = fits_first n k (act_of s) (acts_of (drop (i + 1) block)) (subst (λ p. Fits n k p) (acts_at block i s lt e) h)

pub progress_at : (code0 : List Instr) (f0 : Frame) (all : Acts) (code code1 : List Instr) (f f1 : Frame) (block : List Statement) (i : ℕ) (s : Statement) → i < length block → s ≡ get_or block i s → code1 ≡ code ++ act_code f (act_of s) → f1 ≡ frame_after f (act_of s)
    → Progress code0 f0 all code f (acts_of (drop i block)) → Progress code0 f0 all code1 f1 (acts_of (drop (i + 1) block))
progress_at code0 f0 all code code1 f f1 block i s lt is e ef h =
    progress_step code0 f0 all code code1 f f1 (act_of s) (acts_of (drop (i + 1) block)) e ef (subst (λ p. Progress code0 f0 all code f p) (acts_at block i s lt is) h)

pub frames_end : (f f0 : Frame) (all : Acts) (block : List Statement) (i : ℕ) → length block ≤ i → frame_through f (acts_of (drop i block)) ≡ frame_through f0 all → f ≡ frame_through f0 all
frames_end f f0 all block i le e = ap (λ p. frame_through f p) (sym (acts_end block i le)) ∙ e

-- what a choice leaves its blocks
module _ (f : Frame) (t : Test) (a : Act) (l1 l2 : List Statement) (is : a ≡ choose t (acts_of l1) (acts_of l2)) (c0 c1 c2 : List Instr) (e1 : c1 ≡ c0 ++ test_code f.slots t) (e2 : c2 ≡ c1 ++ skip 0) (h : FitsOne (length c0) f.next a) where
  chosen : FitsOne (length c0) f.next (choose t (acts_of l1) (acts_of l2))
  chosen = subst (λ x. FitsOne (length c0) f.next x) is h

  before : length c2 ≡ length c0 + length (test_code f.slots t) + 2
  before = omega (arith, ap length e1, ap length e2, length-append c0 (test_code f.slots t), length-append c1 (skip 0), skip_long 0)

  pub first_fits : (r1 : List Statement) → r1 ≡ l1 → Fits (length c2) f.next (acts_of r1)
  first_fits r1 er = subst (λ l. Fits (length c2) f.next (acts_of l)) (sym er) (record { small = chosen.small.1; locals = omega (arith, chosen.locals); reach = omega (arith, chosen.reach, before, test_size f.slots t) })

  module _ (f1 : Frame) (r1 r2 : List Statement) (c3 c4 : List Instr) (er : r1 ≡ l1) (er2 : r2 ≡ l2) (ef : f1 ≡ record { slots = f.slots; next = f.next + declared_in (acts_of r1) }) (e3 : c3 ≡ c2 ++ acts_code f (acts_of r1)) (e4 : c4 ≡ c3 ++ ahead 0 ∷ []) where
    after_first : length c4 ≡ length c2 + length (acts_code f (acts_of r1)) + 1
    after_first = omega (arith, ap length e3, ap length e4, length-append c2 (acts_code f (acts_of r1)), length-append c3 (ahead 0 ∷ []))

    pub second_fits : Fits (length c4) f1.next (acts_of r2)
    second_fits = subst (λ l. Fits (length c4) f1.next (acts_of l)) (sym er2) (record {
      small = chosen.small.2;
      locals = omega (arith, chosen.locals, ap (λ x. x.next) ef, ap (λ l. declared_in (acts_of l)) er);
      reach = omega (arith, chosen.reach, before, after_first, test_size f.slots t, acts_size f (acts_of r1), ap (λ l. acts_words (acts_of l)) er);
    })

    pub jumps_ahead : (at1 at2 : ℕ) → at1 ≡ length c1 + 1 → at2 ≡ length c3 → at1 < at2 + 1
    jumps_ahead at1 at2 m1 m2 = omega (arith, ap length e2, length-append c1 (skip 0), skip_long 0, ap length e3, length-append c2 (acts_code f (acts_of r1)))

    pub jumps_near : (c5 : List Instr) → c5 ≡ c4 ++ acts_code f1 (acts_of r2) → length c5 ≤ 2 ^ 18
    jumps_near c5 e5 = omega (arith, second_fits.reach, ap length e5, length-append c4 (acts_code f1 (acts_of r2)), acts_size f1 (acts_of r2))

    pub choose_written : (c5 c6 c7 : List Instr) (at1 at2 end : ℕ) → at1 ≡ length c1 + 1 → at2 ≡ length c3 → c5 ≡ c4 ++ acts_code f1 (acts_of r2) → c6 ≡ slice_set c5 at1 (ahead (at2 + 1 - at1 - 1)) → end ≡ length c6 → c7 ≡ slice_set c6 at2 (ahead (end - at2 - 1)) → c7 ≡ c0 ++ act_code f a
    choose_written c5 c6 c7 at1 at2 end m1 m2 e5 e6 m3 e7 =
        let test = test_code f.slots t in
        patch_choose c0 test (acts_code f (acts_of r1)) (acts_code f1 (acts_of r2)) c1 c2 c3 c4 c5 c6 c7 at1 at2 end e1 e2 m1 e3 e4 m2 e5 e6 m3 e7
        ∙ ap (λ x. c0 ++ choose_code test (acts_code f (acts_of r1)) (acts_code x (acts_of r2))) ef
        ∙ ap (λ l. c0 ++ choose_code test (acts_code f (acts_of l)) (acts_code (record { slots = f.slots; next = f.next + declared_in (acts_of l) }) (acts_of r2))) er
        ∙ ap (λ l. c0 ++ choose_code test (acts_code f (acts_of l1)) (acts_code (record { slots = f.slots; next = f.next + declared_in (acts_of l1) }) (acts_of l))) er2
        ∙ ap (λ x. c0 ++ act_code f x) (sym is)

-- what a loop leaves its block
module _ (f : Frame) (t : Test) (a : Act) (l : List Statement) (is : a ≡ repeat t (acts_of l)) (c0 c1 c2 c3 : List Instr) (e1 : c1 ≡ c0 ++ turn) (e2 : c2 ≡ c1 ++ test_code f.slots t) (e3 : c3 ≡ c2 ++ skip 0) (h : FitsOne (length c0) f.next a) where
  repeated : FitsOne (length c0) f.next (repeat t (acts_of l))
  repeated = subst (λ x. FitsOne (length c0) f.next x) is h

  loop_before : length c3 ≡ length c0 + 5 + length (test_code f.slots t) + 2
  loop_before = omega (arith, ap length e1, ap length e2, ap length e3, length-append c0 turn, length-append c1 (test_code f.slots t), length-append c2 (skip 0), turn_long, skip_long 0)

  pub body_fits : (r : List Statement) → r ≡ l → Fits (length c3) f.next (acts_of r)
  body_fits r er = subst (λ x. Fits (length c3) f.next (acts_of x)) (sym er) (record { small = repeated.small.1; locals = repeated.locals; reach = omega (arith, repeated.reach, loop_before, test_size f.slots t) })

  module _ (r : List Statement) (c4 : List Instr) (er : r ≡ l) (e4 : c4 ≡ c3 ++ acts_code f (acts_of r)) where
    body_long : length c4 + 1 ≤ 2 ^ 18
    body_long = omega (arith, repeated.reach, loop_before, test_size f.slots t, acts_size f (acts_of r), ap (λ x. acts_words (acts_of x)) er, ap length e4, length-append c3 (acts_code f (acts_of r)))

    pub back_near : (start far : ℕ) → start ≡ length c0 → far ≡ length c4 → far - start < 2 ^ 18
    back_near start far ms mf = omega (arith, body_long, loop_before)

    module _ (c5 : List Instr) (k : Instr) (e5 : c5 ≡ c4 ++ k ∷ []) where
      pub loop_near : length c5 ≤ 2 ^ 18
      loop_near = omega (arith, body_long, ap length e5, length-append c4 (k ∷ []))

      pub loop_ahead : (at end : ℕ) → at ≡ length c2 + 1 → end ≡ length c5 → at < end
      loop_ahead at end ma me = omega (arith, ap length e3, length-append c2 (skip 0), skip_long 0, ap length e4, length-append c3 (acts_code f (acts_of r)), ap length e5, length-append c4 (k ∷ []))

    pub repeat_written : (c5 c6 : List Instr) (start at far end : ℕ) → start ≡ length c0 → at ≡ length c2 + 1 → far ≡ length c4 → c5 ≡ c4 ++ back (far - start) ∷ [] → end ≡ length c5 → c6 ≡ slice_set c5 at (ahead (end - at - 1)) → c6 ≡ c0 ++ act_code f a
    repeat_written c5 c6 start at far end ms ma mf e5 me e6 =
        let test = test_code f.slots t in
        patch_repeat c0 test (acts_code f (acts_of r)) c1 c2 c3 c4 c5 c6 start at far end ms e1 e2 e3 ma e4 mf e5 me e6
        ∙ ap (λ x. c0 ++ repeat_code test (acts_code f (acts_of x))) er
        ∙ ap (λ x. c0 ++ act_code f x) (sym is)

-- behind the first two turns
pub start_fits : (p : Acts) (c0 c1 c2 : List Instr) (f : Frame) → IsBounded p → count_words p ≤ max_words → c0 ≡ [] → c1 ≡ c0 ++ turn → c2 ≡ c1 ++ turn → f ≡ record { slots = []; next = 0 } → Fits (length c2) f.next p
start_fits p c0 c1 c2 f bounded short e0 e1 e2 ef = record {
  small = bounded.small;
  locals = omega (arith, bounded.declared, ap (λ x. x.next) ef);
  reach = omega (arith, ap length e0, ap length e1, ap length e2, length-append c0 turn, length-append c1 turn, turn_long);
}
