-- A jump is filled in behind the instructions that it passes.
use Rattle.std.proofs.Common.{◌≡◌, ℕ, ◌+◌, ◌-◌, List, [], ◌∷◌, ◌++◌, length, sym, ap, ◌∙◌, arith, append_assoc, length-append}
use Rattle.std.specs.Prelude.{slice_set, pos}
use Rattle.std.proofs.Math.Seq.{set-append_seam}
use Rattle.std.proofs.Math.ListN.{length-set}
use Rattle.rv_isa.specs.declared.instruction.Instr.{Instr}
use Rattle.rv_isa.specs.declared.instruction.Instr.TheVariants as instr
use Rattle.bcj_cli_code.specs.function.Code.{ahead, back, skip, turn, choose_code, repeat_code}

two_writes : (c a b : List Instr) (x y i j : Instr) → slice_set (slice_set (c ++ x ∷ (a ++ y ∷ b)) (length c) i) (length (c ++ i ∷ a)) j ≡ c ++ i ∷ (a ++ j ∷ b)
two_writes c a b x y i j =
    ap (λ l. slice_set l (length (c ++ i ∷ a)) j) (set-append_seam c x (a ++ y ∷ b) i ∙ sym (append_assoc c (i ∷ a) (y ∷ b)))
    ∙ set-append_seam (c ++ i ∷ a) y b j
    ∙ append_assoc c (i ∷ a) (j ∷ b)

pub patch_choose : (base test first second c1 c2 c3 c4 c5 c6 c7 : List Instr) (at1 at2 end : ℕ) → c1 ≡ base ++ test → c2 ≡ c1 ++ skip 0 → at1 ≡ length c1 + 1 → c3 ≡ c2 ++ first → c4 ≡ c3 ++ ahead 0 ∷ [] → at2 ≡ length c3 → c5 ≡ c4 ++ second
    → c6 ≡ slice_set c5 at1 (ahead (at2 + 1 - at1 - 1)) → end ≡ length c6 → c7 ≡ slice_set c6 at2 (ahead (end - at2 - 1)) → c7 ≡ base ++ choose_code test first second
unfolding skip choose_code
patch_choose base test first second c1 c2 c3 c4 c5 c6 c7 at1 at2 end e1 e2 m1 e3 e4 m2 e5 e6 m3 e7 =
    let b = instr.Bne 10 0 (pos 8) in
    let front : List Instr = c1 ++ b ∷ [] in
    let i = ahead (at2 + 1 - at1 - 1) in
    let j = ahead (end - at2 - 1) in
    let l2 = ap length e2 ∙ length-append c1 (b ∷ ahead 0 ∷ []) in
    let l3 = ap length e3 ∙ length-append c2 first in
    let l4 = ap length e4 ∙ length-append c3 (ahead 0 ∷ []) in
    let l5 = ap length e5 ∙ length-append c4 second in
    let l6 = ap length e6 ∙ length-set c5 at1 i in
    let d1 : at2 + 1 - at1 - 1 ≡ length first + 1 = omega arith in
    let d2 : end - at2 - 1 ≡ length second = omega arith in
    let p1 : at1 ≡ length front = omega (arith, length-append c1 (b ∷ [])) in
    let p2 : at2 ≡ length (front ++ i ∷ first) = omega (arith, length-append c1 (b ∷ []), length-append front (i ∷ first)) in
    let all : c5 ≡ (((c1 ++ b ∷ ahead 0 ∷ []) ++ first) ++ ahead 0 ∷ []) ++ second = cc in
    let flat : (((c1 ++ b ∷ ahead 0 ∷ []) ++ first) ++ ahead 0 ∷ []) ++ second ≡ front ++ ahead 0 ∷ (first ++ ahead 0 ∷ second) = simp append_assoc in
    let six : c6 ≡ slice_set (front ++ ahead 0 ∷ (first ++ ahead 0 ∷ second)) (length front) i = e6 ∙ ap (λ l. slice_set l at1 i) (all ∙ flat) ∙ ap (λ n. slice_set (front ++ ahead 0 ∷ (first ++ ahead 0 ∷ second)) n i) p1 in
    e7 ∙ ap (λ l. slice_set l at2 j) six ∙ ap (λ n. slice_set (slice_set (front ++ ahead 0 ∷ (first ++ ahead 0 ∷ second)) (length front) i) n j) p2
    ∙ two_writes front first second (ahead 0) (ahead 0) i j
    ∙ append_assoc c1 (b ∷ []) (i ∷ (first ++ j ∷ second))
    ∙ ap (λ l. l ++ b ∷ i ∷ (first ++ j ∷ second)) e1
    ∙ append_assoc base test (b ∷ i ∷ (first ++ j ∷ second))
    ∙ ap (λ n. base ++ (test ++ b ∷ ahead n ∷ (first ++ j ∷ second))) d1
    ∙ ap (λ n. base ++ (test ++ b ∷ ahead (length first + 1) ∷ (first ++ ahead n ∷ second))) d2

pub patch_repeat : (base test body c1 c2 c3 c4 c5 c6 : List Instr) (start at far end : ℕ) → start ≡ length base → c1 ≡ base ++ turn → c2 ≡ c1 ++ test → c3 ≡ c2 ++ skip 0 → at ≡ length c2 + 1 → c4 ≡ c3 ++ body → far ≡ length c4 → c5 ≡ c4 ++ back (far - start) ∷ []
    → end ≡ length c5 → c6 ≡ slice_set c5 at (ahead (end - at - 1)) → c6 ≡ base ++ repeat_code test body
unfolding skip repeat_code
patch_repeat base test body c1 c2 c3 c4 c5 c6 start at far end m0 e1 e2 e3 m1 e4 m2 e5 m3 e6 =
    let b = instr.Bne 10 0 (pos 8) in
    let front : List Instr = c2 ++ b ∷ [] in
    let i = ahead (end - at - 1) in
    let k = back (far - start) in
    let l1 = ap length e1 ∙ length-append base turn in
    let l2 = ap length e2 ∙ length-append c1 test in
    let l3 = ap length e3 ∙ length-append c2 (b ∷ ahead 0 ∷ []) in
    let l4 = ap length e4 ∙ length-append c3 body in
    let l5 = ap length e5 ∙ length-append c4 (k ∷ []) in
    let d1 : end - at - 1 ≡ length body + 1 = omega arith in
    let d2 : far - start ≡ length turn + length test + 2 + length body = omega arith in
    let p1 : at ≡ length front = omega (arith, length-append c2 (b ∷ [])) in
    let all : c5 ≡ ((c2 ++ b ∷ ahead 0 ∷ []) ++ body) ++ k ∷ [] = cc in
    let flat : ((c2 ++ b ∷ ahead 0 ∷ []) ++ body) ++ k ∷ [] ≡ front ++ ahead 0 ∷ (body ++ k ∷ []) = simp append_assoc in
    e6 ∙ ap (λ l. slice_set l at i) (all ∙ flat) ∙ ap (λ n. slice_set (front ++ ahead 0 ∷ (body ++ k ∷ [])) n i) p1
    ∙ set-append_seam front (ahead 0) (body ++ k ∷ []) i
    ∙ append_assoc c2 (b ∷ []) (i ∷ (body ++ k ∷ []))
    ∙ ap (λ l. l ++ b ∷ i ∷ (body ++ k ∷ [])) (e2 ∙ ap (λ l. l ++ test) e1 ∙ append_assoc base turn test)
    ∙ append_assoc base (turn ++ test) (b ∷ i ∷ (body ++ k ∷ []))
    ∙ ap (λ l. base ++ l) (append_assoc turn test (b ∷ i ∷ (body ++ k ∷ [])))
    ∙ ap (λ n. base ++ (turn ++ (test ++ b ∷ ahead n ∷ (body ++ k ∷ [])))) d1
    ∙ ap (λ n. base ++ (turn ++ (test ++ b ∷ ahead (length body + 1) ∷ (body ++ back n ∷ [])))) d2
