-- In assembled code each jump and branch reaches its label.
use Rattle.std.proofs.Common.{◌≡◌, ℕ, suc, ◌+◌, ◌*◌, List, [], ◌∷◌, ◌++◌, length, Option, Some, None, refl, ap, ◌∙◌, inl, inr, zero, zero-add, add-zero, sym, add-one, append_assoc, length-append, arith}
use Rattle.std.specs.Prelude.{ℤ, pos, ◌+ℤ◌, ◌<ℤ◌, ◌≤ℤ◌, ◌==◌, ◌↔◌, Bool, true, false, not, nat_lt, int_lt, IsTrue, if◌then◌else◌, unwrap_or, slice_get}
use Rattle.std.specs.Int.{w32, cast_signed}
use Rattle.std.specs.List.{AllZip}
use Rattle.std.proofs.lemmas.Int.{ints, by_lt_z}
use Rattle.std.proofs.lemmas.Bool.{cases_eq}
use Rattle.std.proofs.lemmas.Bool.Decides.{nat_tests, Decides-eqb, Decides-ltb, Decides-not, Decides-like}
use Rattle.rv_isa.specs.declared.instruction.Instr.{Instr}
use Rattle.rv_isa.specs.declared.instruction.Instr.TheVariants.{Jal, Beq, Bne, Blt, Bge, Bltu, Bgeu}
use Rattle.rv_isa.specs.Registers as register
use Rattle.rv_isa.specs.Words.{instruction_size, Spells}
use Rattle.bcj_asm.specs.declared.item.Item.{Item}
use Rattle.bcj_asm.specs.declared.item.Item.TheVariants.{Word, Jump, Branch, Place}
use Rattle.bcj_asm.specs.declared.item.Label.{Label}
use Rattle.bcj_asm.specs.declared.forms.Form.{Form}
use Rattle.bcj_asm.specs.declared.forms.Form.TheVariants.{Short, Long}
use Rattle.bcj_asm.specs.declared.forms.Formed.{Formed}
use Rattle.bcj_asm.specs.Forms.{in_form, size, sizes, last_of, own_place, place_in, places_in, target_in, distance, next_behind, next_forms, rounds, all_long, formed}
use Rattle.bcj_asm.specs.Assembly.{over_next, aimed, opposite, emitted, all_emitted, instructions_of}
use Rattle.bcj_asm.specs.Reach.{Stands, JumpsTo, BranchesTo, PlacesNot, Unplaced, items_in, LabelsAreReached, OppositeIsTakenElse, TakenIsTested}
use Rattle.bcj_asm.proofs.Steps.{all_emitted-append, place_in-append}

-- ---- what stands where

length-emitted : (t : ℕ → ℕ) (here : ℕ) (f : Form) (x : Item) → length (emitted t here f x) ≡ size f x
length-emitted t here f (Word i) = refl
length-emitted t here f (Jump rd to) = refl
length-emitted t here Short (Branch i to) = refl
length-emitted t here Long (Branch i to) = refl
length-emitted t here f (Place l) = refl

length-all_emitted : (t : ℕ → ℕ) (here : ℕ) (xs : List Formed) → length (all_emitted t here xs) ≡ sizes xs
length-all_emitted t here [] = refl
length-all_emitted t here (x ∷ xs) =
    let s = size x.form x.item in
    omega (
      arith,
      length-append (emitted t here x.form x.item) (all_emitted t (here + s) xs),
      length-emitted t here x.form x.item,
      length-all_emitted t (here + s) xs,
    )

one_later : (code : List ℕ) (w place : ℕ) (i : Instr) → Stands code place i → Stands (w ∷ code) (place + 1) i
one_later code w place i h = record { w = h.w; there = rw add-one h.there; spells = h.spells }

stands_first : (is js : List Instr) (i : Instr) (code : List ℕ) → AllZip Spells (is ++ i ∷ js) code → Stands code (length is) i
stands_first [] js i [] h = absurd h
stands_first [] js i (w ∷ ws) h = record { w = w; there = refl; spells = h.0 }
stands_first (k ∷ is) js i [] h = absurd h
stands_first (k ∷ is) js i (w ∷ ws) h =
    rw (← add-one (length is)) (one_later ws w (length is) i (stands_first is js i ws h.1))

stands_second : (is js : List Instr) (i k : Instr) (code : List ℕ) → AllZip Spells (is ++ i ∷ k ∷ js) code
    → Stands code (length is + 1) k
stands_second is js i k code h =
    let h' = rw (← append_assoc is (i ∷ []) (k ∷ js)) at h in
    rw (length-append is (i ∷ [])) at (stands_first (is ++ i ∷ []) js k code h')

item_split : (t : ℕ → ℕ) (front back : List Formed) (x : Formed)
    → all_emitted t 0 (front ++ x ∷ back)
    ≡ all_emitted t 0 front
    ++ (emitted t (sizes front) x.form x.item ++ all_emitted t (sizes front + size x.form x.item) back)
item_split t front back x =
    all_emitted-append t 0 front (x ∷ back)
    ∙ ap
    (λ n. all_emitted t 0 front ++ (emitted t n x.form x.item ++ all_emitted t (n + size x.form x.item) back))
    (zero-add (sizes front))

first_of_item : (t : ℕ → ℕ) (xs front back : List Formed) (x : Formed) (i : Instr) (js : List Instr) (code : List ℕ)
    → xs ≡ front ++ x ∷ back → emitted t (sizes front) x.form x.item ≡ i ∷ js
    → AllZip Spells (all_emitted t 0 xs) code → Stands code (sizes front) i
first_of_item t xs front back x i js code split is h =
    let rest = all_emitted t (sizes front + size x.form x.item) back in
    let e : all_emitted t 0 xs ≡ all_emitted t 0 front ++ (i ∷ js ++ rest) =
    ap (λ (ys : List Formed). all_emitted t 0 ys) split ∙ item_split t front back x
    ∙ ap (λ (ks : List Instr). all_emitted t 0 front ++ (ks ++ rest)) is in
    rw (length-all_emitted t 0 front) at (stands_first (all_emitted t 0 front) (js ++ rest) i code (rw e at h))

second_of_item : (t : ℕ → ℕ) (xs front back : List Formed) (x : Formed) (i k : Instr) (js : List Instr) (code : List ℕ)
    → xs ≡ front ++ x ∷ back → emitted t (sizes front) x.form x.item ≡ i ∷ k ∷ js
    → AllZip Spells (all_emitted t 0 xs) code → Stands code (sizes front + 1) k
second_of_item t xs front back x i k js code split is h =
    let rest = all_emitted t (sizes front + size x.form x.item) back in
    let e : all_emitted t 0 xs ≡ all_emitted t 0 front ++ (i ∷ k ∷ (js ++ rest)) =
    ap (λ (ys : List Formed). all_emitted t 0 ys) split ∙ item_split t front back x
    ∙ ap (λ (ks : List Instr). all_emitted t 0 front ++ (ks ++ rest)) is in
    rw (length-all_emitted t 0 front) at (stands_second (all_emitted t 0 front) (js ++ rest) i k code (rw e at h))

-- ---- where labels lead

own_other : (here l m : ℕ) → (l ≡ m → ⊥) → (if l == m then Some here else None) ≡ None
own_other here l m h = grind (arith, nat_tests)

own_none : (here : ℕ) (x : Item) (l : ℕ) → PlacesNot l x → own_place here x l ≡ None
own_none here (Word i) l h = refl
own_none here (Jump rd to) l h = refl
own_none here (Branch i to) l h = refl
own_none here (Place m) l h = own_other here l m.0 h

unplaced_none : (here l : ℕ) (xs : List Formed) → Unplaced l xs → place_in here xs l ≡ None
unplaced_none here l [] h = refl
unplaced_none here l (x ∷ xs) h =
    rw (unplaced_none (here + size x.form x.item) l xs h.1) (own_none here x.item l h.0)

own_here : (here m : ℕ) → (if m == m then Some here else None) ≡ Some here
own_here here m = grind (arith, nat_tests)

placed_here : (here l : ℕ) (to : Label) (f : Form) (behind : List Formed) → l ≡ to.0 → Unplaced l behind
    → place_in here (in_form f (Place to) ∷ behind) l ≡ Some here
placed_here here l to f behind e h =
    rw (unplaced_none (here + 0) l behind h, ← e) (own_here here l)

target_at : (xs before behind : List Formed) (f : Form) (to : Label) → xs ≡ before ++ in_form f (Place to) ∷ behind
    → Unplaced to.0 behind → target_in xs to.0 ≡ sizes before
target_at xs before behind f to split h =
    let e : place_in 0 xs to.0 ≡ Some (0 + sizes before) =
    ap (λ (ys : List Formed). place_in 0 ys to.0) split
    ∙ place_in-append 0 before (in_form f (Place to) ∷ behind) to.0
    ∙ ap (λ (o : Option ℕ). last_of (place_in 0 before to.0) o)
    (placed_here (0 + sizes before) to.0 to f behind refl h) in
    ap (λ (o : Option ℕ). unwrap_or o 0) e ∙ zero-add (sizes before)

there_by_distance : (here to : ℕ) → pos (instruction_size * here) +ℤ distance here to ≡ pos (instruction_size * to)
there_by_distance here to = omega (arith, ints)

-- ---- the law

jumps : (xs : List Formed) (code : List ℕ) → AllZip Spells (instructions_of xs) code
    → (front back before behind : List Formed) (f g : Form) (rd : ℕ) (to : Label)
    → xs ≡ front ++ in_form f (Jump rd to) ∷ back → xs ≡ before ++ in_form g (Place to) ∷ behind
    → Unplaced to.0 behind → JumpsTo code rd (sizes front) (sizes before)
jumps xs code h front back before behind f g rd to at placed only =
    let e = target_at xs before behind g to placed only in
    let s = first_of_item (target_in xs) xs front back (in_form f (Jump rd to))
    (Jal rd (distance (sizes front) (target_in xs to.0))) [] code at refl h in
    record {
      imm = distance (sizes front) (sizes before);
      stands = rw e at s;
      target = there_by_distance (sizes front) (sizes before);
    }

branches : (xs : List Formed) (code : List ℕ) → AllZip Spells (instructions_of xs) code
    → (front back before behind : List Formed) (f g : Form) (i : Instr) (to : Label)
    → xs ≡ front ++ in_form f (Branch i to) ∷ back → xs ≡ before ++ in_form g (Place to) ∷ behind
    → Unplaced to.0 behind → BranchesTo f code i (sizes front) (sizes before)
branches xs code h front back before behind Short g i to at placed only =
    let e = target_at xs before behind g to placed only in
    let s = first_of_item (target_in xs) xs front back (in_form Short (Branch i to))
    (aimed i (distance (sizes front) (target_in xs to.0))) [] code at refl h in
    record {
      imm = distance (sizes front) (sizes before);
      stands = rw e at s;
      target = there_by_distance (sizes front) (sizes before);
    }
branches xs code h front back before behind Long g i to at placed only =
    let e = target_at xs before behind g to placed only in
    let j = Jal register.zero (distance (sizes front + 1) (target_in xs to.0)) in
    let b = aimed (opposite i) over_next in
    let s = second_of_item (target_in xs) xs front back (in_form Long (Branch i to)) b j [] code at refl h in
    record {
      passes = first_of_item (target_in xs) xs front back (in_form Long (Branch i to)) b (j ∷ []) code at refl h;
      jumps = record {
        imm = distance (sizes front + 1) (sizes before);
        stands = rw e at s;
        target = there_by_distance (sizes front + 1) (sizes before);
      };
    }

as_long : (is : List Instr) (code : List ℕ) → AllZip Spells is code → length code ≡ length is
as_long [] [] h = refl
as_long [] (w ∷ ws) h = absurd h
as_long (i ∷ is) [] h = absurd h
as_long (i ∷ is) (w ∷ ws) h = ap suc (as_long is ws h.1)

same_items_behind : (front xs : List Formed) → items_in (next_behind front xs) ≡ items_in xs
same_items_behind front [] = refl
same_items_behind front (x ∷ xs) = ap (λ (ys : List Item). x.item ∷ ys) (same_items_behind (front ++ x ∷ []) xs)

same_items_in : (n : ℕ) (xs : List Formed) → items_in (rounds n xs) ≡ items_in xs
same_items_in zero xs = refl
same_items_in (suc n) xs = same_items_in n (next_forms xs) ∙ same_items_behind [] xs

same_at_first : (items : List Item) → items_in (all_long items) ≡ items
same_at_first [] = refl
same_at_first (x ∷ xs) = ap (λ (ys : List Item). x ∷ ys) (same_at_first xs)

pub same_items : (items : List Item) → items_in (formed items) ≡ items
same_items items = same_items_in (length items) (all_long items) ∙ same_at_first items

place_there : (here : ℕ) (front back : List Formed) (x : Formed)
    → slice_get (places_in here (front ++ x ∷ back)) (length front) ≡ Some (here + sizes front)
place_there here [] back x = ap (λ n. Some n) (sym (add-zero here))
place_there here (y ∷ front) back x =
    let s = size y.form y.item in
    let e : here + s + sizes front ≡ here + (s + sizes front) = omega arith in
    rw e at (place_there (here + s) front back x)

place_of_item : (xs front back : List Formed) (x : Formed) → xs ≡ front ++ x ∷ back
    → slice_get (places_in 0 xs) (length front) ≡ Some (sizes front)
place_of_item xs front back x split =
    ap (λ (ys : List Formed). slice_get (places_in 0 ys) (length front)) split
    ∙ place_there 0 front back x
    ∙ ap (λ n. Some n) (zero-add (sizes front))

pub reached : LabelsAreReached
reached items code h = record {
  same = same_items items;
  len = as_long (all_emitted (target_in (formed items)) 0 (formed items)) code h
      ∙ length-all_emitted (target_in (formed items)) 0 (formed items);
  place = place_of_item (formed items);
  word = λ front back f i at.
      first_of_item (target_in (formed items)) (formed items) front back (in_form f (Word i)) i [] code at refl h;
  jump = jumps (formed items) code h;
  branch = branches (formed items) code h;
}

-- ---- the opposite branch

same_or_not : (a b : ℕ) → ((a ≡ b → ⊥) → ⊥) → a ≡ b
same_or_not a b h = elim (cases_eq a b) [ inl e ↦ e | inr n ↦ absurd (h n) ]

less_or_not : (y z : ℤ) → (y <ℤ z → ⊥) → z ≤ℤ y
less_or_not y z h = by_lt_z y z (λ k. absurd (h k)) (λ k. k)

not_less_or : (y z : ℤ) → (z ≤ℤ y → ⊥) → y <ℤ z
not_less_or y z h = by_lt_z y z (λ k. k) (λ k. absurd (h k))

not_both : (y z : ℤ) → z ≤ℤ y → y <ℤ z → ⊥
not_both y z h k = omega (arith, ints)

pub opposite_else : OppositeIsTakenElse
opposite_else (Beq r s imm) h z = record { registers = refl; taken = λ a b. (λ n. n, λ n. n) }
opposite_else (Bne r s imm) h z = record { registers = refl; taken = λ a b. (λ e n. n e, same_or_not a b) }
opposite_else (Blt r s imm) h z = record { registers = refl; taken = λ a b. (not_both _ _, less_or_not _ _) }
opposite_else (Bge r s imm) h z = record { registers = refl; taken = λ a b. (λ k n. not_both _ _ n k, not_less_or _ _) }
opposite_else (Bltu r s imm) h z = record { registers = refl; taken = λ a b. (λ k n. omega arith, λ n. omega arith) }
opposite_else (Bgeu r s imm) h z = record { registers = refl; taken = λ a b. (λ k n. omega arith, λ n. omega arith) }
opposite_else _ h z = absurd h

-- ---- the machine's tests

less_tested : (y z : ℤ) → IsTrue (int_lt y z) ↔ (y <ℤ z)
less_tested y z = by (int_lt y z) refl
  where
    by : (t : Bool) → int_lt y z ≡ t → IsTrue t ↔ (y <ℤ z)
    by true e = (λ _. omega (arith, ints), λ _. refl)
    by false e = (λ h. absurd cc, λ h. absurd (omega (arith, ints)))

pub taken_tested : TakenIsTested
taken_tested (Beq r s imm) h a b = Decides-eqb a b
taken_tested (Bne r s imm) h a b = Decides-not (a == b) (Decides-eqb a b)
taken_tested (Blt r s imm) h a b = less_tested (cast_signed w32 a) (cast_signed w32 b)
taken_tested (Bge r s imm) h a b =
    let y : ℤ = cast_signed w32 a in
    let z : ℤ = cast_signed w32 b in
    Decides-like (not (int_lt y z)) (less_or_not y z) (not_both y z) (Decides-not (int_lt y z) (less_tested y z))
taken_tested (Bltu r s imm) h a b = Decides-ltb a b
taken_tested (Bgeu r s imm) h a b =
    Decides-like (not (nat_lt a b)) (λ n. omega arith) (λ k n. omega arith) (Decides-not (nat_lt a b) (Decides-ltb a b))
taken_tested _ h a b = absurd h
