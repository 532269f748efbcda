-- The code of expressions and comparisons brings their values into a0.
use Rattle.std.proofs.Common.{◌≡◌, ◌≢◌, ℕ, ◌+◌, ◌-◌, ◌*◌, ◌/◌, ◌%◌, ◌^◌, ◌<◌, ◌≤◌, Bool, true, false, not, ◌==◌, nat_lt, List, [], ◌∷◌, ◌++◌, length, Option, refl, sym, ap, ◌∙◌, subst, arith, pos, negsuc, length-append, if◌then◌else◌}
use Rattle.std.specs.Prelude.{bit_xor}
use Rattle.std.proofs.lemmas.Bool.Decides.{nat_tests, Decides-ltb, Decides-eqb, Decides-like, Decides-not, same_from_decides}
use Rattle.rv_isa.specs.declared.instruction.Instr.{Instr}
use Rattle.rv_isa.specs.declared.instruction.Instr.TheVariants as instr
use Rattle.rv_steps.specs.Memory.{read, write, wrap}
use Rattle.rv_steps.specs.Arithmetic.{offset, sum, difference, product, less, less_unsigned}
use Rattle.rv_steps.specs.Machine.{A0, A1, Op, Config, put, next, Goes}
use Rattle.rv_steps.proofs.Memory.{read_same, wrap_small}
use Rattle.rv_steps.proofs.Steps.{goes_on, goes_plain, store_word, load_word}
use Rattle.bcj_cli_language.specs.declared.tree.Operator.{Operator}
use Rattle.bcj_cli_language.specs.declared.tree.Operator.TheVariants as operator
use Rattle.bcj_cli_language.specs.declared.tree.Comparison.{Comparison}
use Rattle.bcj_cli_language.specs.declared.tree.Comparison.TheVariants as comparison
use Rattle.bcj_cli_language.specs.Tree.{Sum, number, local, binary, Test}
use Rattle.bcj_cli_language.specs.Scopes.{IsScopedSum, IsScopedTest}
use Rattle.bcj_cli_language.specs.Bounds.{temporaries_of, HasSmallNumbers, IsSmallTest}
use Rattle.bcj_cli_language.specs.Meaning.{Environment, World, value_of, applied, compared, is_less, is_met}
use Rattle.bcj_cli_code.specs.function.Slots.{Frame, slot_of}
use Rattle.bcj_cli_code.specs.function.Code.{lower, temporary, operation, joined, operands_code, sum_code, test_code, comparison_code}
use Rattle.bcj_cli_code.proofs.Locals.{names, look, value_small}
use Rattle.bcj_cli_code.proofs.Clause.{Stands, stands_front, stands_back, stands_at, Ground, machine, At, keeps_all, keeps_then, keeps_write, at_same, Valued, Both}

low_part : (b : Bool) (n : ℕ) → nat_lt (n % 2 ^ 12) 2048 ≡ b → n < 2 ^ 31 → sum (wrap ((n + 2048) / 2 ^ 12 % 2 ^ 20 * 2 ^ 12)) (offset (if b then pos (n % 2 ^ 12) else negsuc (4095 - n % 2 ^ 12))) ≡ n
unfolding wrap sum
low_part true n e h = let lt : n % 2 ^ 12 < 2048 = (Decides-ltb (n % 2 ^ 12) 2048).0 e in omega arith
low_part false n e h = let ge : 2048 ≤ n % 2 ^ 12 = grind (arith, nat_tests) in omega arith

number_value : (n : ℕ) → n < 2 ^ 31 → sum (wrap ((n + 2048) / 2 ^ 12 % 2 ^ 20 * 2 ^ 12)) (offset (lower n)) ≡ n
number_value n h = low_part (nat_lt (n % 2 ^ 12) 2048) n refl h

pub on_frame : (sp k : ℕ) → sp + 2032 < 2 ^ 31 → k ≤ 2028 → (a : ℕ) → a ≡ sp → sum a (offset (pos k)) ≡ sp + k
unfolding sum
on_frame sp k small le a e = omega arith

sum_zero : (z : ℕ) → z < 2 ^ 32 → sum z 0 ≡ z
unfolding sum
sum_zero z h = omega arith

-- 1 for true, 0 for false
abbrev pub truth : Bool → ℕ
truth b = if b then 1 else 0

truth_not : (b : Bool) → bit_xor (truth b) 1 ≡ truth (not b)
truth_not true = refl
truth_not false = refl

less_truth : (v z : ℕ) → less v z ≡ truth (is_less v z)
unfolding less
less_truth v z = refl

equal_test : (v z : ℕ) → v < 2 ^ 32 → z < 2 ^ 32 → nat_lt (difference v z) 1 ≡ (v == z)
unfolding difference
equal_test v z hv hz =
    same_from_decides {P = v ≡ z} (nat_lt (difference v z) 1) (v == z) (Decides-like {P = difference v z < 1} (nat_lt (difference v z) 1) (λ lt. omega arith) (λ e. omega arith) (Decides-ltb (difference v z) 1)) (Decides-eqb v z)

equal_truth : (v z : ℕ) → v < 2 ^ 32 → z < 2 ^ 32 → less_unsigned (difference v z) 1 ≡ truth (compared comparison.Equal v z)
unfolding less_unsigned
equal_truth v z hv hz = ap truth (equal_test v z hv hz)

differ_test : (v z : ℕ) → v < 2 ^ 32 → z < 2 ^ 32 → nat_lt 0 (difference v z) ≡ not (v == z)
unfolding difference
differ_test v z hv hz =
    same_from_decides {P = v ≡ z → ⊥} (nat_lt 0 (difference v z)) (not (v == z)) (Decides-like {P = 0 < difference v z} (nat_lt 0 (difference v z)) (λ lt e. omega arith) (λ ne. let n : v ≢ z = ne in omega arith) (Decides-ltb 0 (difference v z))) (Decides-not (v == z) (Decides-eqb v z))

differ_truth : (v z : ℕ) → v < 2 ^ 32 → z < 2 ^ 32 → less_unsigned 0 (difference v z) ≡ truth (compared comparison.NotEqual v z)
unfolding less_unsigned
differ_truth v z hv hz = ap truth (differ_test v z hv hz)

module _ (fetch : ℕ → Option Op) (sp : ℕ) (g : Ground sp) where
  -- the right operand is evaluated while the left one waits
  pub operands : (f : Frame) (env : Environment) (w : World) (d v z : ℕ) (left right rest : List Instr) (c : Config (List ℕ)) → f.next ≤ 100 → d ≤ 131 → v < 2 ^ 32 → z < 2 ^ 32
      → Stands fetch c.pc (operands_code d left right rest) → At sp f env w c → Valued fetch sp (length left) d v c
      → ((c2 : Config (List ℕ)) → Stands fetch c2.pc right → At sp f env w c2 → Valued fetch sp (length right) (d + 1) z c2)
      → (b : Both fetch sp (length left + (1 + (length right + 2))) d v z c) × Stands fetch b.c1.pc rest
  operands f env w d v z left right rest c le small fits fits2 h at r more =
      let behind = stands_at fetch (c.pc + 4 * length left) r.c1.pc (instr.Sw 2 10 (temporary d) ∷ (right ++ joined d rest)) (sym r.pc_is) (stands_back fetch c.pc left (instr.Sw 2 10 (temporary d) ∷ (right ++ joined d rest)) h) in
      let at1 = at_same sp d f env w c r.c1 le r.sp_is r.turns_is r.out_is r.kept at in
      let c2 : Config (List ℕ) = next (record r.c1 { mem = write r.c1.mem (sp + (4 + 4 * d)) r.c1.a0 }) in
      let room : sp + (4 + 4 * d) + 4 ≤ length r.c1.mem = omega (arith, at1.long) in
      let saved : Goes (machine fetch sp) 1 r.c1 c2 = store_word (sp + (4 + 4 * d)) behind.0 (on_frame sp (4 + 4 * d) g.small (omega arith) r.c1.sp at1.sp_is) (omega (arith, g.aligned)) (omega arith) room in
      let kept2 = keeps_write sp d d c.mem r.c1.mem r.c1.a0 at.long (omega arith) small r.kept in
      let at2 = at_same sp d f env w c c2 le r.sp_is r.turns_is r.out_is kept2 at in
      let s = more c2 (stands_front fetch c2.pc right (joined d rest) behind.1) at2 in
      let last = stands_at fetch (c2.pc + 4 * length right) s.c1.pc (joined d rest) (sym s.pc_is) (stands_back fetch c2.pc right (joined d rest) behind.1) in
      let c3 : Config (List ℕ) = next (put A1 (sum s.c1.a0 (offset (pos 0))) s.c1) in
      let moved : Goes (machine fetch sp) 1 s.c1 c3 = goes_plain last.0 refl in
      let at3 = at_same sp (d + 1) f env w c2 s.c1 le s.sp_is s.turns_is s.out_is s.kept at2 in
      let c4 : Config (List ℕ) = next (put A0 (read s.c1.mem (sp + (4 + 4 * d))) c3) in
      let loaded : Goes (machine fetch sp) 1 c3 c4 = load_word (sp + (4 + 4 * d)) last.1.0 (on_frame sp (4 + 4 * d) g.small (omega arith) s.c1.sp at3.sp_is) (omega (arith, g.aligned)) (omega (arith, at3.long)) in
      let e1 : s.c1.pc + 4 + 4 ≡ c.pc + 4 * (length left + (1 + (length right + 2))) = omega (arith, s.pc_is, r.pc_is) in
      let back : read s.c1.mem (sp + (4 + 4 * d)) ≡ v = s.kept.temporaries d (omega arith) ∙ read_same r.c1.mem (sp + (4 + 4 * d)) r.c1.a0 room ∙ ap wrap r.a0_is ∙ wrap_small v fits in
      let over : sum s.c1.a0 (offset (pos 0)) ≡ z = ap (λ x. sum x 0) s.a0_is ∙ sum_zero z fits2 in (
        record {
          c1 = c4;
          goes = goes_on {n = length left} {m = 1 + (length right + 2)} refl r.goes (goes_on {n = 1} {m = length right + 2} refl saved (goes_on {n = length right} {m = 2} refl s.goes (goes_on {n = 1} {m = 1} refl moved loaded)));
          pc_is = e1;
          a0_is = back;
          a1_is = over;
          sp_is = s.sp_is ∙ r.sp_is;
          turns_is = s.turns_is ∙ r.turns_is;
          out_is = s.out_is ∙ r.out_is;
          kept = keeps_then sp d (d + 1) c.mem c2.mem s.c1.mem (omega arith) kept2 s.kept;
        },
        last.1.1,
      )

  -- one more instruction puts a value into a0
  pub one_more : (n d v z x y : ℕ) (c : Config (List ℕ)) (b : Both fetch sp n d v z c) → x ≡ y → Goes (machine fetch sp) 1 b.c1 (next (put A0 x b.c1)) → Valued fetch sp (n + 1) d y c
  one_more n d v z x y c b e go = record {
    c1 = next (put A0 x b.c1);
    goes = goes_on {n = n} {m = 1} refl b.goes go;
    pc_is = omega (arith, b.pc_is);
    a0_is = e;
    sp_is = b.sp_is;
    turns_is = b.turns_is;
    out_is = b.out_is;
    kept = b.kept;
  }

  two_more : (n d v z x x2 y : ℕ) (c : Config (List ℕ)) (b : Both fetch sp n d v z c) → x2 ≡ y → Goes (machine fetch sp) 1 b.c1 (next (put A0 x b.c1)) → Goes (machine fetch sp) 1 (next (put A0 x b.c1)) (next (put A0 x2 (next (put A0 x b.c1)))) → Valued fetch sp (n + 2) d y c
  two_more n d v z x x2 y c b e go go2 = record {
    c1 = next (put A0 x2 (next (put A0 x b.c1)));
    goes = goes_on {n = n} {m = 2} refl b.goes (goes_on {n = 1} {m = 1} refl go go2);
    pc_is = omega (arith, b.pc_is);
    a0_is = e;
    sp_is = b.sp_is;
    turns_is = b.turns_is;
    out_is = b.out_is;
    kept = b.kept;
  }

  operated : (o : Operator) (n d v z : ℕ) (c : Config (List ℕ)) (b : Both fetch sp n d v z c) → Stands fetch b.c1.pc (operation o ∷ []) → Valued fetch sp (n + 1) d (applied o v z) c
  unfolding sum difference product
  operated operator.Add n d v z c b h = one_more n d v z _ (applied operator.Add v z) c b (omega (arith, b.a0_is, b.a1_is)) (goes_plain h.0 refl)
  operated operator.Sub n d v z c b h = one_more n d v z _ (applied operator.Sub v z) c b (omega (arith, b.a0_is, b.a1_is)) (goes_plain h.0 refl)
  operated operator.Mul n d v z c b h = one_more n d v z _ (applied operator.Mul v z) c b (ap (λ x. x * b.c1.a1 % 2 ^ 32) b.a0_is ∙ ap (λ y. v * y % 2 ^ 32) b.a1_is) (goes_plain h.0 refl)

  binary_long : (l r d : ℕ) (o : Operator) (left right : List Instr) → length left + (1 + (length right + 2)) + 1 ≡ length (operands_code d left right (operation o ∷ []))
  binary_long l r d o left right = simp length-append (omega arith)

  as_long : (n m d v : ℕ) (c : Config (List ℕ)) → n ≡ m → Valued fetch sp n d v c → Valued fetch sp m d v c
  as_long n m d v c e r = subst (λ k. Valued fetch sp k d v c) e r

  pub sum_runs : (f : Frame) (env : Environment) (w : World) → f.next ≤ 100 → (e : Sum) (d : ℕ) (c : Config (List ℕ)) → IsScopedSum (names f.slots) e → HasSmallNumbers e → d + temporaries_of e ≤ 131
      → Stands fetch c.pc (sum_code f.slots d e) → At sp f env w c → Valued fetch sp (length (sum_code f.slots d e)) d (value_of env e) c
  sum_runs f env w le (number n) d c scoped small room h at = record {
    c1 = next (put A0 (sum (wrap ((n + 2048) / 2 ^ 12 % 2 ^ 20 * 2 ^ 12)) (offset (lower n))) (next (put A0 (wrap ((n + 2048) / 2 ^ 12 % 2 ^ 20 * 2 ^ 12)) c)));
    goes = goes_on {n = 1} {m = 1} refl (goes_plain h.0 refl) (goes_plain h.1.0 refl);
    pc_is = omega arith;
    a0_is = number_value n small;
    sp_is = refl;
    turns_is = refl;
    out_is = refl;
    kept = keeps_all sp d c.mem;
  }
  sum_runs f env w le (local x) d c scoped small room h at =
      let seen = look (λ i. read c.mem (sp + 4 * (507 - i))) f.next f.slots env x at.agree scoped in
      let i : ℕ = slot_of f.slots x in
      record {
        c1 = next (put A0 (read c.mem (sp + 4 * (507 - i))) c);
        goes = load_word (sp + 4 * (507 - i)) h.0 (on_frame sp (4 * (507 - i)) g.small (omega arith) c.sp at.sp_is) (omega (arith, g.aligned)) (omega (arith, at.long, seen.1));
        pc_is = refl;
        a0_is = seen.0;
        sp_is = refl;
        turns_is = refl;
        out_is = refl;
        kept = keeps_all sp d c.mem;
      }
  sum_runs f env w le (binary o a b) d c scoped small room h at =
      let left = sum_code f.slots d a in
      let right = sum_code f.slots (d + 1) b in
      let r = sum_runs f env w le a d c scoped.0 small.0 (omega arith) (stands_front fetch c.pc left (instr.Sw 2 10 (temporary d) ∷ (right ++ joined d (operation o ∷ []))) h) at in
      let both = operands f env w d (value_of env a) (value_of env b) left right (operation o ∷ []) c le (omega arith)
      (value_small (λ i. read c.mem (sp + 4 * (507 - i))) f.next f.slots env at.agree a small.0)
      (value_small (λ i. read c.mem (sp + 4 * (507 - i))) f.next f.slots env at.agree b small.1) h at r
      (λ c2 s at2. sum_runs f env w le b (d + 1) c2 scoped.1 small.1 (omega arith) s at2) in
      as_long _ _ d _ c (binary_long 0 0 d o left right) (operated o _ d (value_of env a) (value_of env b) c both.0 both.1)

  tested : (k : Comparison) (n v z : ℕ) (c : Config (List ℕ)) (b : Both fetch sp n 0 v z c) → v < 2 ^ 32 → z < 2 ^ 32 → Stands fetch b.c1.pc (comparison_code k) → Valued fetch sp (n + length (comparison_code k)) 0 (truth (compared k v z)) c
  tested comparison.Less n v z c b hv hz h =
      one_more n 0 v z (less b.c1.a0 b.c1.a1) _ c b (ap (λ x. less x b.c1.a1) b.a0_is ∙ ap (less v) b.a1_is ∙ less_truth v z) (goes_plain h.0 refl)
  tested comparison.LessEqual n v z c b hv hz h =
      two_more n 0 v z (less b.c1.a1 b.c1.a0) (bit_xor (less b.c1.a1 b.c1.a0) 1) _ c b (ap (λ x. bit_xor (less b.c1.a1 x) 1) b.a0_is ∙ ap (λ y. bit_xor (less y v) 1) b.a1_is ∙ ap (λ x. bit_xor x 1) (less_truth z v) ∙ truth_not (is_less z v)) (goes_plain h.0 refl) (goes_plain h.1.0 refl)
  tested comparison.Greater n v z c b hv hz h =
      one_more n 0 v z (less b.c1.a1 b.c1.a0) _ c b (ap (λ x. less b.c1.a1 x) b.a0_is ∙ ap (λ y. less y v) b.a1_is ∙ less_truth z v) (goes_plain h.0 refl)
  tested comparison.GreaterEqual n v z c b hv hz h =
      two_more n 0 v z (less b.c1.a0 b.c1.a1) (bit_xor (less b.c1.a0 b.c1.a1) 1) _ c b (ap (λ x. bit_xor (less x b.c1.a1) 1) b.a0_is ∙ ap (λ y. bit_xor (less v y) 1) b.a1_is ∙ ap (λ x. bit_xor x 1) (less_truth v z) ∙ truth_not (is_less v z)) (goes_plain h.0 refl) (goes_plain h.1.0 refl)
  tested comparison.Equal n v z c b hv hz h =
      two_more n 0 v z (difference b.c1.a0 b.c1.a1) (less_unsigned (difference b.c1.a0 b.c1.a1) 1) _ c b (ap (λ x. less_unsigned (difference x b.c1.a1) 1) b.a0_is ∙ ap (λ y. less_unsigned (difference v y) 1) b.a1_is ∙ equal_truth v z hv hz) (goes_plain h.0 refl) (goes_plain h.1.0 refl)
  tested comparison.NotEqual n v z c b hv hz h =
      two_more n 0 v z (difference b.c1.a0 b.c1.a1) (less_unsigned 0 (difference b.c1.a0 b.c1.a1)) _ c b (ap (λ x. less_unsigned 0 (difference x b.c1.a1)) b.a0_is ∙ ap (λ y. less_unsigned 0 (difference v y)) b.a1_is ∙ differ_truth v z hv hz) (goes_plain h.0 refl) (goes_plain h.1.0 refl)

  test_long : (left right rest : List Instr) → length left + (1 + (length right + 2)) + length rest ≡ length (operands_code 0 left right rest)
  test_long left right rest = simp length-append (omega arith)

  -- a comparison
  pub test_runs : (f : Frame) (env : Environment) (w : World) → f.next ≤ 100 → (t : Test) (c : Config (List ℕ)) → IsScopedTest (names f.slots) t → IsSmallTest t
      → Stands fetch c.pc (test_code f.slots t) → At sp f env w c → Valued fetch sp (length (test_code f.slots t)) 0 (truth (is_met env t)) c
  test_runs f env w le t c scoped small h at =
      let left = sum_code f.slots 0 t.left in
      let right = sum_code f.slots 1 t.right in
      let rest = comparison_code t.comparison in
      let hv = value_small (λ i. read c.mem (sp + 4 * (507 - i))) f.next f.slots env at.agree t.left small.0.0 in
      let hz = value_small (λ i. read c.mem (sp + 4 * (507 - i))) f.next f.slots env at.agree t.right small.1.0 in
      let r = sum_runs f env w le t.left 0 c scoped.0 small.0.0 (omega (arith, small.0.1)) (stands_front fetch c.pc left (instr.Sw 2 10 (temporary 0) ∷ (right ++ joined 0 rest)) h) at in
      let both = operands f env w 0 (value_of env t.left) (value_of env t.right) left right rest c le (omega arith) hv hz h at r
      (λ c2 s at2. sum_runs f env w le t.right 1 c2 scoped.1 small.1.0 (omega (arith, small.1.1)) s at2) in
      as_long _ _ 0 _ c (test_long left right rest) (tested t.comparison _ (value_of env t.left) (value_of env t.right) c both.0 hv hz both.1)
