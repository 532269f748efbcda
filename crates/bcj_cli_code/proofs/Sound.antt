-- Each instruction of the code has a word, and is the one that its name says.
use Rattle.std.proofs.Common.{◌≡◌, ℕ, ◌+◌, ◌-◌, ◌*◌, ◌%◌, ◌^◌, ◌<◌, ◌≤◌, Bool, true, false, nat_lt, ℤ, pos, negsuc, List, [], ◌∷◌, ◌++◌, length, map, refl, sym, ap, ◌∙◌, subst, arith, length-append, if◌then◌else◌}
use Rattle.std.proofs.lemmas.Bool.Decides.{nat_tests, Decides-ltb}
use Rattle.std.proofs.lemmas.Int.{ints}
use Rattle.rv_isa.specs.declared.instruction.Instr.{Instr}
use Rattle.rv_isa.specs.declared.instruction.Instr.TheVariants as instr
use Rattle.rv_isa.specs.Words.{InRange, HasBits, Spells}
use Rattle.rv_steps.specs.Machine.{X0, Reg}
use Rattle.rv_steps.specs.Machine as op
use Rattle.rv_steps.specs.Lower.{lower, distance, Reaches, SpellsAll}
use Rattle.bcj_cli_language.specs.declared.tree.Operator.{Operator}
use Rattle.bcj_cli_language.specs.declared.tree.Operator.TheVariants as operator
use Rattle.bcj_cli_language.specs.declared.tree.Comparison.{Comparison}
use Rattle.bcj_cli_language.specs.declared.tree.Comparison.TheVariants as comparison
use Rattle.bcj_cli_language.specs.Tree.{Sum, number, local, binary, Test, Act, print, declare, assign, choose, repeat, Acts, nil, cons}
use Rattle.bcj_cli_language.specs.Scopes.{declared_in}
use Rattle.bcj_cli_language.specs.Bounds.{temporaries_of, IsSmallTest, IsSmall, AreSmall}
use Rattle.bcj_cli_code.specs.declared.scope.Local.{Local}
use Rattle.bcj_cli_code.specs.function.Slots.{Frame, slot_of, frame_after}
use Rattle.bcj_cli_code.specs.function.Code.{upper, temporary, place, service, ahead, back, skip, turn, operation, comparison_code, joined, operands_code, sum_code, test_code, store_code, print_code, choose_code, repeat_code, act_code, acts_code, program_code, instruction_word}
use Rattle.bcj_cli_code.specs.function.Code as code
use Rattle.bcj_cli_code.specs.function.Run.{reg, named, all_named}
use Rattle.bcj_cli_code.proofs.Lengths.{turn_long, skip_long, print_long, choose_long, repeat_long, program_long}

pub record Sound (p : ℕ) (i : Instr) : Type 0 where
  pub lowers : lower p (named p i) ≡ i
  pub in_range : InRange i
  pub reaches : Reaches (named p i)

abbrev pub AllSound : ℕ → List Instr → Type 0
AllSound p [] = Unit {0}
AllSound p (i ∷ is) = Sound p i × AllSound (p + 4) is

both_sound : (p : ℕ) (is more : List Instr) → AllSound p is → AllSound (p + 4 * length is) more → AllSound p (is ++ more)
both_sound p [] more h k = let e : p + 4 * 0 ≡ p = omega arith in subst (λ q. AllSound q more) e k
both_sound p (i ∷ is) more h k =
    let e : p + 4 * length (i ∷ is) ≡ p + 4 + 4 * length is = omega arith in
    (h.0, both_sound (p + 4) is more h.1 (subst (λ q. AllSound q more) e k))

sound_at : (p q : ℕ) (is : List Instr) → p ≡ q → AllSound p is → AllSound q is
sound_at p q is e h = subst (λ r. AllSound r is) e h

pub all_spell : (p : ℕ) (is : List Instr) → AllSound p is → SpellsAll p (all_named p is) (map instruction_word is)
all_spell p [] h = tt
all_spell p (i ∷ is) h = (subst (λ j. Spells j (instruction_word i)) (sym h.0.lowers) (record { in_range = h.0.in_range; word = refl }), h.0.reaches, all_spell (p + 4) is h.1)

forward : (p n : ℕ) → distance p (p + n) ≡ pos n
forward p n = omega (arith, ints)

backward : (p n : ℕ) → 0 < n → n ≤ p → distance p (p - (n - 1 + 1)) ≡ negsuc (n - 1)
backward p n above le = omega (arith, ints)

small_bits : (b : Bool) (n : ℕ) → nat_lt (n % 2 ^ 12) 2048 ≡ b → HasBits 12 (if b then pos (n % 2 ^ 12) else negsuc (4095 - n % 2 ^ 12))
small_bits true n e = (Decides-ltb (n % 2 ^ 12) 2048).0 e
small_bits false n e = let ge : 2048 ≤ n % 2 ^ 12 = grind (arith, nat_tests) in omega arith

sound_addi : (p rd rs : ℕ) (n : ℤ) → lower p (named p (instr.Addi rd rs n)) ≡ instr.Addi rd rs n → InRange (instr.Addi rd rs n) → Sound p (instr.Addi rd rs n)
sound_addi p rd rs n e r = record { lowers = e; in_range = r; reaches = tt }

service_sound : (p n : ℕ) → n < 2048 → AllSound p (service n)
service_sound p n h = (sound_addi p 17 0 (pos n) refl (omega arith, omega arith, h), (record { lowers = refl; in_range = tt; reaches = tt }, tt))

ahead_sound : (p n : ℕ) → p % 4 ≡ 0 → p + 4 * n + 4 < 2 ^ 20 → Sound p (ahead n)
ahead_sound p n aligned room = record {
  lowers = ap (λ d. instr.Jal 0 d) (forward p (4 * n + 4));
  in_range = (omega arith, omega arith, omega arith);
  reaches = (omega arith, omega arith);
}

back_sound : (p n : ℕ) → p % 4 ≡ 0 → p < 2 ^ 20 → 0 < n → 4 * n ≤ p → Sound p (back n)
back_sound p n aligned room above le = record {
  lowers = ap (λ d. instr.Jal 0 d) (backward p (4 * n) (omega arith) le);
  in_range = (omega arith, omega arith, omega arith);
  reaches = (omega arith, omega arith);
}

bne_sound : (p r s n : ℕ) → lower p (op.Bne (reg r) (reg s) (p + n)) ≡ instr.Bne r s (distance p (p + n)) → p % 4 ≡ 0 → p < 2 ^ 20 → n < 2048 → n % 4 ≡ 0 → r < 32 → s < 32 → Sound p (instr.Bne r s (pos n))
bne_sound p r s n e aligned room few even hr hs = record {
  lowers = e ∙ ap (λ d. instr.Bne r s d) (forward p n);
  in_range = (hr, hs, omega arith, omega arith);
  reaches = (omega arith, omega arith);
}

skip_sound : (p n : ℕ) → p % 4 ≡ 0 → p + 4 * n + 8 < 2 ^ 20 → AllSound p (skip n)
unfolding skip
skip_sound p n aligned room = (bne_sound p 10 0 8 refl aligned (omega arith) (omega arith) refl (omega arith) (omega arith), (ahead_sound (p + 4) n (omega arith) (omega arith), tt))

turn_sound : (p : ℕ) → p % 4 ≡ 0 → p < 2 ^ 20 → AllSound p turn
unfolding turn
turn_sound p aligned room = (
  bne_sound p 27 0 16 refl aligned room (omega arith) refl (omega arith) (omega arith),
  (
    sound_addi (p + 4) 10 0 (pos 0) refl (omega arith, omega arith, omega arith),
    (
      sound_addi (p + 4 + 4) 17 0 (pos 14) refl (omega arith, omega arith, omega arith),
      (
        record { lowers = refl; in_range = tt; reaches = tt },
        (sound_addi (p + 4 + 4 + 4 + 4) 27 27 (negsuc 0) refl (omega arith, omega arith, omega arith), tt),
      ),
    ),
  ),
)

plain : (p : ℕ) (i : Instr) → lower p (named p i) ≡ i → InRange i → Reaches (named p i) → Sound p i
plain p i e r t = record { lowers = e; in_range = r; reaches = t }

operation_sound : (p : ℕ) (o : Operator) → Sound p (operation o)
operation_sound p operator.Add = plain p (operation operator.Add) refl (omega arith, omega arith, omega arith) tt
operation_sound p operator.Sub = plain p (operation operator.Sub) refl (omega arith, omega arith, omega arith) tt
operation_sound p operator.Mul = plain p (operation operator.Mul) refl (omega arith, omega arith, omega arith) tt

comparison_sound : (p : ℕ) (k : Comparison) → AllSound p (comparison_code k)
comparison_sound p comparison.Less = (plain p (instr.Slt 10 10 11) refl (omega arith, omega arith, omega arith) tt, tt)
comparison_sound p comparison.LessEqual = (plain p (instr.Slt 10 11 10) refl (omega arith, omega arith, omega arith) tt, (plain (p + 4) (instr.Xori 10 10 (pos 1)) refl (omega arith, omega arith, omega arith) tt, tt))
comparison_sound p comparison.Greater = (plain p (instr.Slt 10 11 10) refl (omega arith, omega arith, omega arith) tt, tt)
comparison_sound p comparison.GreaterEqual = (plain p (instr.Slt 10 10 11) refl (omega arith, omega arith, omega arith) tt, (plain (p + 4) (instr.Xori 10 10 (pos 1)) refl (omega arith, omega arith, omega arith) tt, tt))
comparison_sound p comparison.Equal = (plain p (instr.Sub 10 10 11) refl (omega arith, omega arith, omega arith) tt, (plain (p + 4) (instr.Sltiu 10 10 (pos 1)) refl (omega arith, omega arith, omega arith) tt, tt))
comparison_sound p comparison.NotEqual = (plain p (instr.Sub 10 10 11) refl (omega arith, omega arith, omega arith) tt, (plain (p + 4) (instr.Sltu 10 0 10) refl (omega arith, omega arith, omega arith) tt, tt))

operands_sound : (p d : ℕ) (left right rest : List Instr) → d ≤ 131 → AllSound p left → ((q : ℕ) → AllSound q right) → ((q : ℕ) → AllSound q rest) → AllSound p (operands_code d left right rest)
operands_sound p d left right rest le a b c =
    let q : ℕ = p + 4 * length left in
    both_sound p left (instr.Sw 2 10 (temporary d) ∷ (right ++ joined d rest)) a (
      plain q (instr.Sw 2 10 (temporary d)) refl (omega arith, omega arith, omega arith) tt,
      both_sound (q + 4) right (joined d rest) (b (q + 4)) (
        plain (q + 4 + 4 * length right) (instr.Addi 11 10 (pos 0)) refl (omega arith, omega arith, omega arith) tt,
        (
          plain (q + 4 + 4 * length right + 4) (instr.Lw 10 2 (temporary d)) refl (omega arith, omega arith, omega arith) tt,
          c (q + 4 + 4 * length right + 4 + 4),
        ),
      ),
    )

sum_sound : (slots : List Local) (e : Sum) (d p : ℕ) → d + temporaries_of e ≤ 131 → AllSound p (sum_code slots d e)
sum_sound slots (number n) d p room = (plain p (instr.Lui 10 (upper n)) refl (omega arith, omega arith) tt, (plain (p + 4) (instr.Addi 10 10 (code.lower n)) refl (omega arith, omega arith, small_bits (nat_lt (n % 2 ^ 12) 2048) n refl) tt, tt))
sum_sound slots (local x) d p room = (plain p (instr.Lw 10 2 (place (slot_of slots x))) refl (omega arith, omega arith, omega arith) tt, tt)
sum_sound slots (binary o a b) d p room = operands_sound p d (sum_code slots d a) (sum_code slots (d + 1) b) (operation o ∷ []) (omega arith) (sum_sound slots a d p (omega arith)) (λ q. sum_sound slots b (d + 1) q (omega arith)) (λ q. (operation_sound q o, tt))

test_sound : (slots : List Local) (t : Test) (p : ℕ) → IsSmallTest t → AllSound p (test_code slots t)
test_sound slots t p small = operands_sound p 0 (sum_code slots 0 t.left) (sum_code slots 1 t.right) (comparison_code t.comparison) (omega arith) (sum_sound slots t.left 0 p (omega (arith, small.0.1))) (λ q. sum_sound slots t.right 1 q (omega (arith, small.1.1))) (λ q. comparison_sound q t.comparison)

store_sound : (p i : ℕ) → AllSound p (store_code i)
store_sound p i = (plain p (instr.Sw 2 10 (place i)) refl (omega arith, omega arith, omega arith) tt, tt)

print_sound : (p : ℕ) → p % 4 ≡ 0 → p < 2 ^ 20 → AllSound p print_code
unfolding print_code
print_sound p aligned room = both_sound p turn (service 11 ++ service 13) (turn_sound p aligned room) (both_sound (p + 4 * length turn) (service 11) (service 13) (service_sound (p + 4 * length turn) 11 (omega arith)) (service_sound (p + 4 * length turn + 4 * 2) 13 (omega arith)))

choose_sound : (p : ℕ) (test first second : List Instr) → p % 4 ≡ 0 → p + 4 * length (choose_code test first second) < 2 ^ 20 → AllSound p test
    → ((q : ℕ) → q % 4 ≡ 0 → q + 4 * length first < 2 ^ 20 → AllSound q first) → ((q : ℕ) → q % 4 ≡ 0 → q + 4 * length second < 2 ^ 20 → AllSound q second) → AllSound p (choose_code test first second)
unfolding choose_code
choose_sound p test first second aligned room a b c =
    let long = choose_long test first second in
    let n : ℕ = length first + 1 in
    let q : ℕ = p + 4 * length test in
    let r : ℕ = q + 4 * length (skip n) in
    let s : ℕ = r + 4 * length first in
    let at_r : r ≡ q + 8 = omega (arith, skip_long n) in
    both_sound p test (skip n ++ (first ++ ahead (length second) ∷ second)) a
    (both_sound q (skip n) (first ++ ahead (length second) ∷ second) (skip_sound q n (omega arith) (omega (arith, long)))
    (both_sound r first (ahead (length second) ∷ second) (b r (omega (arith, at_r)) (omega (arith, at_r, long)))
    (ahead_sound s (length second) (omega (arith, at_r)) (omega (arith, at_r, long)), c (s + 4) (omega (arith, at_r)) (omega (arith, at_r, long)))))

repeat_sound : (p : ℕ) (test body : List Instr) → p % 4 ≡ 0 → p + 4 * length (repeat_code test body) < 2 ^ 20 → ((q : ℕ) → AllSound q test)
    → ((q : ℕ) → q % 4 ≡ 0 → q + 4 * length body < 2 ^ 20 → AllSound q body) → AllSound p (repeat_code test body)
unfolding repeat_code
repeat_sound p test body aligned room a b =
    let long = repeat_long test body in
    let n : ℕ = length body + 1 in
    let m : ℕ = length turn + length test + 2 + length body in
    let o : ℕ = p + 4 * length turn in
    let q : ℕ = o + 4 * length test in
    let r : ℕ = q + 4 * length (skip n) in
    let s : ℕ = r + 4 * length body in
    let at_o : o ≡ p + 20 = omega (arith, turn_long) in
    let at_r : r ≡ q + 8 = omega (arith, skip_long n) in
    both_sound p turn (test ++ (skip n ++ (body ++ back m ∷ []))) (turn_sound p aligned (omega arith))
    (both_sound o test (skip n ++ (body ++ back m ∷ [])) (a o)
    (both_sound q (skip n) (body ++ back m ∷ []) (skip_sound q n (omega (arith, at_o)) (omega (arith, at_o, long)))
    (both_sound r body (back m ∷ []) (b r (omega (arith, at_o, at_r)) (omega (arith, at_o, at_r, long)))
    (back_sound s m (omega (arith, at_o, at_r)) (omega (arith, at_o, at_r, long)) (omega (arith, turn_long)) (omega (arith, turn_long, at_o, at_r)), tt))))

mutual
  act_sound : (f : Frame) (a : Act) (p : ℕ) → IsSmall a → p % 4 ≡ 0 → p + 4 * length (act_code f a) < 2 ^ 20 → AllSound p (act_code f a)
  act_sound f (print e) p small aligned room =
      both_sound p (sum_code f.slots 0 e) print_code (sum_sound f.slots e 0 p (omega (arith, small.1))) (print_sound (p + 4 * length (sum_code f.slots 0 e)) (omega arith) (omega (arith, print_long (sum_code f.slots 0 e))))
  act_sound f (declare x e) p small aligned room =
      both_sound p (sum_code f.slots 0 e) (store_code f.next) (sum_sound f.slots e 0 p (omega (arith, small.1))) (store_sound (p + 4 * length (sum_code f.slots 0 e)) f.next)
  act_sound f (assign x e) p small aligned room =
      both_sound p (sum_code f.slots 0 e) (store_code (slot_of f.slots x)) (sum_sound f.slots e 0 p (omega (arith, small.1))) (store_sound (p + 4 * length (sum_code f.slots 0 e)) (slot_of f.slots x))
  act_sound f (choose t a b) p small aligned room =
      let f2 : Frame = record { slots = f.slots; next = f.next + declared_in a } in
      choose_sound p (test_code f.slots t) (acts_code f a) (acts_code f2 b) aligned room (test_sound f.slots t p small.0) (λ q h k. acts_sound f a q small.1 h k) (λ q h k. acts_sound f2 b q small.2 h k)
  act_sound f (repeat t a) p small aligned room =
      repeat_sound p (test_code f.slots t) (acts_code f a) aligned room (λ q. test_sound f.slots t q small.0) (λ q h k. acts_sound f a q small.1 h k)

  acts_sound : (f : Frame) (ps : Acts) (p : ℕ) → AreSmall ps → p % 4 ≡ 0 → p + 4 * length (acts_code f ps) < 2 ^ 20 → AllSound p (acts_code f ps)
  acts_sound f nil p small aligned room = tt
  acts_sound f (cons a rest) p small aligned room =
      let f2 : Frame = frame_after f a in
      let long = length-append (act_code f a) (acts_code f2 rest) in
      both_sound p (act_code f a) (acts_code f2 rest) (act_sound f a p small.0 aligned (omega (arith, long))) (acts_sound f2 rest (p + 4 * length (act_code f a)) small.1 (omega arith) (omega (arith, long)))

pub program_sound : (p : Acts) → AreSmall p → 4 * length (program_code p) < 2 ^ 20 → AllSound 0 (program_code p)
unfolding program_code
program_sound p small room =
    let long = program_long p in
    let code = acts_code (record { slots = []; next = 0 }) p in
    let a : ℕ = 0 + 4 * length turn in
    let b : ℕ = a + 4 * length turn in
    both_sound 0 turn (turn ++ (code ++ service 15)) (turn_sound 0 refl (omega arith))
    (both_sound a turn (code ++ service 15) (turn_sound a (omega arith) (omega (arith, turn_long)))
    (both_sound b code (service 15) (acts_sound (record { slots = []; next = 0 }) p b small (omega arith) (omega (arith, turn_long, long))) (service_sound (b + 4 * length code) 15 (omega arith))))
