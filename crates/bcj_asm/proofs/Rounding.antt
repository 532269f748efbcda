-- The rounds in which branches become short.
use Rattle.std.proofs.Common.{◌≡◌, ℕ, zero, suc, ◌+◌, ◌-◌, ◌*◌, ◌<◌, ◌≤◌, Bool, true, false, List, [], ◌∷◌, ◌++◌, length, get_or, take, drop, Option, Some, None, refl, ap, sym, ◌∙◌, inl, inr, zero-add, append_assoc, arith}
use Rattle.std.specs.Prelude.{not, unwrap_or, ◌==◌, ◌↔◌, if◌then◌else◌, nat_le, ℤ, pos, negsuc, IsTrue}
use Rattle.std.specs.List.{AllZip}
use Rattle.std.specs.Ordering.{nat_cmp}
use Rattle.std.specs.BTreeMap.{BTreeMap, get}
use Rattle.std.proofs.lemmas.List.{append-nil, take_more, drop_more}
use Rattle.std.proofs.lemmas.Int.{ints}
use Rattle.std.proofs.lemmas.Bool.Decides.{nat_tests, leb_tells}
use Rattle.rv_isa.specs.declared.instruction.Instr.{Instr}
use Rattle.rv_isa.specs.Words.{HasBits, branch_bits}
use Rattle.bcj_asm.specs.declared.item.Item.{Item}
use Rattle.bcj_asm.specs.declared.item.Item.TheVariants.{Word, Jump, Branch, Place}
use Rattle.bcj_asm.specs.declared.item.Label.{Label}
use Rattle.bcj_asm.specs.declared.forms.Form.{Form}
use Rattle.bcj_asm.specs.declared.forms.Form.TheVariants.{Short, Long}
use Rattle.bcj_asm.specs.declared.forms.Formed.{Formed}
use Rattle.bcj_asm.specs.Forms.{in_form, branch_size, size, sizes, last_of, own_place, place_in, target_in, distance, reaches, reaches_as_one, next_form, next_behind, next_forms, rounds, all_long, formed}
use Rattle.bcj_asm.specs.Rounds.{StaysShort, FormsOnlyShrink, FormsAreSettled, ShortWhereReaching}
use Rattle.bcj_asm.specs.function.Places.{as_one, form_at, named_place}
use Rattle.bcj_asm.specs.function.Emitting.{Fits, AllFit}
use Rattle.bcj_asm.proofs.Steps.{place_in-append, unwrap_last_of, last_of-none, target_bound, taken_more, split_at}

-- ---- what a branch reaches, in words

-- a place is near another
record Near (here to : ℕ) : Type 0 where
  ahead : to ≤ here + 1023
  back : here ≤ to + 1024

words_ahead : (n : ℕ) → reaches (pos (4 * n)) ≡ nat_le n 1023
words_ahead n = grind (arith, nat_tests)

words_back : (n : ℕ) → 0 < n → nat_le (4 * n - 1) 4095 ≡ nat_le n 1024
words_back n h = grind (arith, nat_tests)

pub reaches_ahead : (here to : ℕ) → here ≤ to → nat_le (to - here) 1023 ≡ reaches (distance here to)
reaches_ahead here to h =
    let e : distance here to ≡ pos (4 * (to - here)) = omega (arith, ints) in
    sym (ap reaches e ∙ words_ahead (to - here))

pub reaches_back : (here to : ℕ) → to < here → nat_le (here - to) 1024 ≡ reaches (distance here to)
reaches_back here to h =
    let e : distance here to ≡ negsuc (4 * (here - to) - 1) = omega (arith, ints) in
    sym (ap reaches e ∙ words_back (here - to) (omega arith))

le_true : (a b : ℕ) → nat_le a b ≡ true → a ≤ b
le_true a b h = grind (arith, nat_tests)

true_le : (a b : ℕ) → a ≤ b → nat_le a b ≡ true
true_le a b h = grind (arith, nat_tests)

near_from : (here to : ℕ) → reaches (distance here to) ≡ true → Near here to
near_from here to h = elim (leb_tells here to) [
  | inl l ↦
      let e = l.1 in
      let k : to - here ≤ 1023 = le_true (to - here) 1023 (reaches_ahead here to e ∙ h) in
      record { ahead = omega arith; back = omega arith }
  | inr r ↦
      let e = r.1 in
      let k : here - to ≤ 1024 = le_true (here - to) 1024 (reaches_back here to e ∙ h) in
      record { ahead = omega arith; back = omega arith }
]

near_to : (here to : ℕ) → Near here to → reaches (distance here to) ≡ true
near_to here to n = elim (leb_tells here to) [
  | inl l ↦ let e = l.1 in sym (reaches_ahead here to e) ∙ true_le (to - here) 1023 (omega (arith, n.ahead))
  | inr r ↦ let e = r.1 in sym (reaches_back here to e) ∙ true_le (here - to) 1024 (omega (arith, n.back))
]

pub branch_has_bits : (z : ℤ) → IsTrue (reaches z) → HasBits branch_bits z
branch_has_bits (pos n) h = let k = le_true n 4094 h in omega arith
branch_has_bits (negsuc n) h = let k = le_true n 4095 h in omega arith

-- ---- places where branches become short

shrinks : (f g : Form) (x : Item) → (f ≡ Short → g ≡ Short) → size g x ≤ size f x
shrinks f g (Word i) h = omega arith
shrinks f g (Jump rd to) h = omega arith
shrinks Short g (Branch i to) h = rw (h refl) (omega arith)
shrinks Long Short (Branch i to) h = omega arith
shrinks Long Long (Branch i to) h = omega arith
shrinks f g (Place l) h = omega arith

pub shrink : (xs ys : List Formed) → AllZip StaysShort xs ys → sizes ys ≤ sizes xs
shrink [] [] p = omega arith
shrink [] (y ∷ ys) p = absurd p
shrink (x ∷ xs) [] p = absurd p
shrink (x ∷ xs) (y ∷ ys) p =
    let e = p.0.item in
    rw e (omega (arith, shrinks x.form y.form x.item p.0.short, shrink xs ys p.1))

-- what holds of the places that the items may give to a label, before and after, holds of the one that they give
own_carried : (Q : ℕ → ℕ → Type 0) (l : ℕ) (x : Item) (h h' d d' : ℕ) → Q h h' → Q d d'
    → Q (unwrap_or (own_place h x l) d) (unwrap_or (own_place h' x l) d')
own_carried Q l (Word i) h h' d d' k q = q
own_carried Q l (Jump rd to) h h' d d' k q = q
own_carried Q l (Branch i to) h h' d d' k q = q
own_carried Q l (Place m) h h' d d' k q =
    elim (l == m.0) as (λ v. Q (unwrap_or (if v then Some h else None) d) (unwrap_or (if v then Some h' else None) d'))
    [ true ↦ k | false ↦ q ]

carried : (Q : ℕ → ℕ → Type 0) (l : ℕ) (xs ys : List Formed) (h h' d d' : ℕ) → AllZip StaysShort xs ys
    → ((p p' : ℕ) → h ≤ p → p' + h ≤ p + h' → h' ≤ p' → Q p p') → Q d d'
    → Q (unwrap_or (place_in h xs l) d) (unwrap_or (place_in h' ys l) d')
carried Q l [] [] h h' d d' z each q = q
carried Q l [] (y ∷ ys) h h' d d' z each q = absurd z
carried Q l (x ∷ xs) [] h h' d d' z each q = absurd z
carried Q l (x ∷ xs) (y ∷ ys) h h' d d' z each q =
    let e = z.0.item in
    let s = size x.form x.item in
    let s' = size y.form x.item in
    let m : s' ≤ s = shrinks x.form y.form x.item z.0.short in
    let o = own_place h x.item l in
    let o' = own_place h' x.item l in
    let r = carried Q l xs ys (h + s) (h' + s') (unwrap_or o d) (unwrap_or o' d') z.1
    (λ p p' a b c. each p p' (omega arith) (omega arith) (omega arith))
    (own_carried Q l x.item h h' d d' (each h h' (omega arith) (omega arith) (omega arith)) q) in
    rw (e, unwrap_last_of o (place_in (h + s) xs l) d, unwrap_last_of o' (place_in (h' + s') ys l) d') r

-- a place before the end comes no further from it
own_gap : (l : ℕ) (x : Item) (h h' d d' s s' : ℕ) → s' ≤ s → h' + d ≤ h + d'
    → h' + s' + unwrap_or (own_place h x l) d ≤ h + s + unwrap_or (own_place h' x l) d'
own_gap l x h h' d d' s s' m g =
    own_carried (λ p p'. h' + s' + p ≤ h + s + p') l x h h' d d' (omega arith) (omega arith)

gap : (l : ℕ) (xs ys : List Formed) (h h' d d' : ℕ) → AllZip StaysShort xs ys → h' + d ≤ h + d'
    → h' + sizes ys + unwrap_or (place_in h xs l) d ≤ h + sizes xs + unwrap_or (place_in h' ys l) d'
gap l [] [] h h' d d' z g = omega arith
gap l [] (y ∷ ys) h h' d d' z g = absurd z
gap l (x ∷ xs) [] h h' d d' z g = absurd z
gap l (x ∷ xs) (y ∷ ys) h h' d d' z g =
    let e = z.0.item in
    let s = size x.form x.item in
    let s' = size y.form x.item in
    let o = own_place h x.item l in
    let o' = own_place h' x.item l in
    let k = own_gap l x.item h h' d d' s s' (shrinks x.form y.form x.item z.0.short) g in
    let r = gap l xs ys (h + s) (h' + s') (unwrap_or o d) (unwrap_or o' d') z.1 k in
    rw (e, unwrap_last_of o (place_in (h + s) xs l) d, unwrap_last_of o' (place_in (h' + s') ys l) d') (omega (arith, r))

-- where a label leads, by what stands behind a branch and by what stands before it
target_between : (front back : List Formed) (f : Form) (i : Instr) (to : Label) (l : ℕ)
    → target_in (front ++ in_form f (Branch i to) ∷ back) l
    ≡ unwrap_or (place_in (sizes front + branch_size f) back l) (target_in front l)
target_between front back f i to l =
    ap (λ (o : Option ℕ). unwrap_or o 0) (place_in-append 0 front (in_form f (Branch i to) ∷ back) l)
    ∙ unwrap_last_of (place_in 0 front l) (last_of None (place_in (0 + sizes front + branch_size f) back l)) 0
    ∙ ap (λ (o : Option ℕ). unwrap_or o (target_in front l)) (sym (last_of-none (place_in (0 + sizes front + branch_size f) back l)))
    ∙ ap (λ n. unwrap_or (place_in (n + branch_size f) back l) (target_in front l)) (zero-add (sizes front))

-- a branch that reaches as one word reaches so where other branches become short
still_reaches : (front front' back back' : List Formed) (i : Instr) (to : Label)
    → AllZip StaysShort front front' → AllZip StaysShort back back'
    → reaches_as_one front (Branch i to) to.0 back ≡ true → reaches_as_one front' (Branch i to) to.0 back' ≡ true
still_reaches front front' back back' i to z y h =
    let b = sizes front in
    let b' = sizes front' in
    let l = to.0 in
    let t = target_in front l in
    let t' = target_in front' l in
    let g : 0 + b' + t ≤ 0 + b + t' = gap l front front' 0 0 0 0 z (omega arith) in
    let u = target_bound front l in
    let u' = target_bound front' l in
    let n = near_from b (target_in (front ++ in_form Short (Branch i to) ∷ back) l) h in
    let first : Near b t → Near b' t' = λ k. record { ahead = omega (arith, k.ahead); back = omega (arith, k.back) } in
    let r = carried (λ p p'. Near b p → Near b' p') l back back' (b + 1) (b' + 1) t t' y
    (λ p p' x v w k. record { ahead = omega (arith, k.ahead); back = omega (arith, k.back) }) first
    (rw (target_between front back Short i to l) at n) in
    near_to b' (target_in (front' ++ in_form Short (Branch i to) ∷ back') l)
    (rw (target_between front' back' Short i to l) r)

-- ---- from round to round

short_if : (t t' : Bool) → (t ≡ true → t' ≡ true) → (if t then Short else Long) ≡ Short → (if t' then Short else Long) ≡ Short
short_if true t' k h = rw (k refl) refl
short_if false t' k h = absurd cc

form_stays : (front front' back back' : List Formed) (x : Item)
    → AllZip StaysShort front front' → AllZip StaysShort back back'
    → next_form front x back ≡ Short → next_form front' x back' ≡ Short
form_stays front front' back back' (Word i) z y h = h
form_stays front front' back back' (Jump rd to) z y h = h
form_stays front front' back back' (Branch i to) z y h =
    short_if (reaches_as_one front (Branch i to) to.0 back) (reaches_as_one front' (Branch i to) to.0 back')
    (still_reaches front front' back back' i to z y) h
form_stays front front' back back' (Place l) z y h = h

stays-append : (xs ys : List Formed) (x y : Formed) → AllZip StaysShort xs ys → StaysShort x y
    → AllZip StaysShort (xs ++ x ∷ []) (ys ++ y ∷ [])
stays-append [] [] x y z h = (h, tt)
stays-append [] (w ∷ ys) x y z h = absurd z
stays-append (v ∷ xs) [] x y z h = absurd z
stays-append (v ∷ xs) (w ∷ ys) x y z h = (z.0, stays-append xs ys x y z.1 h)

next_stays : (front front' xs ys : List Formed) → AllZip StaysShort front front' → AllZip StaysShort xs ys
    → AllZip StaysShort (next_behind front xs) (next_behind front' ys)
next_stays front front' [] [] z p = tt
next_stays front front' [] (y ∷ ys) z p = absurd p
next_stays front front' (x ∷ xs) [] z p = absurd p
next_stays front front' (x ∷ xs) (y ∷ ys) z p =
    let e = p.0.item in
    let k : next_form front x.item xs ≡ Short → next_form front' y.item ys ≡ Short =
    λ h. rw e (form_stays front front' xs ys x.item z p.1 h) in (
      record { item = e; short = k },
      next_stays (front ++ x ∷ []) (front' ++ y ∷ []) xs ys (stays-append front front' x y z p.0) p.1,
    )

long_first : (front : List Formed) (items : List Item) → AllZip StaysShort (all_long items) (next_behind front (all_long items))
long_first front [] = tt
long_first front (x ∷ xs) =
    (record { item = refl; short = λ h. absurd cc }, long_first (front ++ in_form Long x ∷ []) xs)

grows : (n : ℕ) (xs : List Formed) → AllZip StaysShort xs (next_forms xs)
    → AllZip StaysShort (rounds n xs) (next_forms (rounds n xs))
grows zero xs h = h
grows (suc n) xs h = grows n (next_forms xs) (next_stays [] [] xs (next_forms xs) tt h)

pub only_shrink : FormsOnlyShrink
only_shrink items n = grows n (all_long items) (long_first [] items)

-- ---- the last round

abbrev is_long : Form → ℕ
is_long Short = 0
is_long Long = 1

-- how many items have the long form
abbrev longs : List Formed → ℕ
longs [] = 0
longs (x ∷ xs) = is_long x.form + longs xs

fewer_here : (f g : Form) → (f ≡ Short → g ≡ Short) → is_long g ≤ is_long f
fewer_here Short g h = rw (h refl) (omega arith)
fewer_here Long Short h = omega arith
fewer_here Long Long h = omega arith

fewer : (xs ys : List Formed) → AllZip StaysShort xs ys → longs ys ≤ longs xs
fewer [] [] z = omega arith
fewer [] (y ∷ ys) z = absurd z
fewer (x ∷ xs) [] z = absurd z
fewer (x ∷ xs) (y ∷ ys) z = omega (arith, fewer_here x.form y.form z.0.short, fewer xs ys z.1)

same_here : (f g : Form) → (f ≡ Short → g ≡ Short) → is_long f ≤ is_long g → g ≡ f
same_here Short g h k = h refl
same_here Long Short h k = absurd (omega arith)
same_here Long Long h k = refl

same_formed : (f g : Form) (x y : Item) → f ≡ g → x ≡ y → in_form f x ≡ in_form g y
same_formed f g x y h k = rw (h, k) refl

as_many_long : (xs ys : List Formed) → AllZip StaysShort xs ys → longs xs ≤ longs ys → ys ≡ xs
as_many_long [] [] z k = refl
as_many_long [] (y ∷ ys) z k = absurd z
as_many_long (x ∷ xs) [] z k = absurd z
as_many_long (x ∷ xs) (y ∷ ys) z k =
    let a = fewer_here x.form y.form z.0.short in
    let b = fewer xs ys z.1 in
    let e = same_here x.form y.form z.0.short (omega arith) in
    let first : y ≡ x = same_formed y.form x.form y.item x.item e z.0.item in
    let rest : ys ≡ xs = as_many_long xs ys z.1 (omega arith) in
    cc

pub rounds_same : (n : ℕ) (xs : List Formed) → next_forms xs ≡ xs → rounds n xs ≡ xs
rounds_same zero xs h = refl
rounds_same (suc n) xs h = ap (λ (ys : List Formed). rounds n ys) h ∙ rounds_same n xs h

settle : (n : ℕ) (xs : List Formed) → AllZip StaysShort xs (next_forms xs) → longs xs ≤ n
    → next_forms (rounds n xs) ≡ rounds n xs
settle zero xs h k = as_many_long xs (next_forms xs) h (omega arith)
settle (suc n) xs h k = elim (leb_tells (longs xs) (longs (next_forms xs))) [
  | inl l ↦
      let e = as_many_long xs (next_forms xs) h l.1 in
      let r : rounds n (next_forms xs) ≡ xs = ap (λ (ys : List Formed). rounds n ys) e ∙ rounds_same n xs e in
      ap (λ (ys : List Formed). next_forms ys) r ∙ e ∙ sym r
  | inr r ↦
      let less = r.1 in
      settle n (next_forms xs) (next_stays [] [] xs (next_forms xs) tt h) (omega arith)
]

longs_at_first : (items : List Item) → longs (all_long items) ≤ length items
longs_at_first [] = omega arith
longs_at_first (x ∷ xs) = omega (arith, longs_at_first xs)

pub settled : FormsAreSettled
settled items = settle (length items) (all_long items) (long_first [] items) (longs_at_first items)

-- ---- one item in the last round

form_of_item : (pre front back : List Formed) (x : Formed)
    → next_behind pre (front ++ x ∷ back) ≡ front ++ x ∷ back → next_form (pre ++ front) x.item back ≡ x.form
form_of_item pre [] back x h =
    let e : in_form (next_form pre x.item back) x.item ≡ x = cc in
    rw (append-nil pre) (ap (λ (z : Formed). z.form) e)
form_of_item pre (y ∷ front) back x h =
    let e : next_behind (pre ++ y ∷ []) (front ++ x ∷ back) ≡ front ++ x ∷ back = cc in
    rw (append_assoc pre (y ∷ []) front) at (form_of_item (pre ++ y ∷ []) front back x e)

pub form_settled : (items : List Item) (front back : List Formed) (x : Formed) → formed items ≡ front ++ x ∷ back
    → next_form front x.item back ≡ x.form
form_settled items front back x split =
    let h : next_forms (front ++ x ∷ back) ≡ front ++ x ∷ back = rw split at (settled items) in
    form_of_item [] front back x h

short_when : (t : Bool) (f : Form) → (if t then Short else Long) ≡ f → (f ≡ Short) ↔ IsTrue t
short_when true f h = (λ k. refl, λ k. sym h)
short_when false f h = (λ k. absurd cc, λ k. absurd cc)

pub short_where : ShortWhereReaching
short_where items front back f i to split =
    short_when (reaches_as_one front (Branch i to) to.0 back) f (form_settled items front back (in_form f (Branch i to)) split)

-- each short branch reaches
fits_at : (t : ℕ → ℕ) (items : List Item) (front back : List Formed) (f : Form) (x : Item)
    → ((l : ℕ) → t l ≡ target_in (formed items) l) → formed items ≡ front ++ in_form f x ∷ back
    → Fits t (sizes front) f x
fits_at t items front back f (Word i) same split = tt
fits_at t items front back f (Jump rd to) same split = tt
fits_at t items front back Long (Branch i to) same split = tt
fits_at t items front back Short (Branch i to) same split =
    let k = (short_where items front back Short i to split).0 refl in
    let e : t to.0 ≡ target_in (front ++ in_form Short (Branch i to) ∷ back) to.0 =
    same to.0 ∙ ap (λ (ys : List Formed). target_in ys to.0) split in
    rw e k
fits_at t items front back f (Place l) same split = tt

pub all_fit : (t : ℕ → ℕ) (items : List Item) (xs : List Formed) → xs ≡ formed items
    → ((l : ℕ) → t l ≡ target_in xs l) → AllFit t xs
all_fit t items xs e same front back x split =
    fits_at t items front back x.form x.item (rw e at same) (sym e ∙ split)

-- ---- a round by places

as_one_far : (b w t : ℕ) → b < t → as_one b w t ≡ t - (w - 1)
as_one_far b w t h = grind (arith, nat_tests)

as_one_near : (b w t : ℕ) → t ≤ b → as_one b w t ≡ t
as_one_near b w t h = grind (arith, nat_tests)

own_shifted : (l : ℕ) (x : Item) (h h' b w d d' : ℕ) → h + 1 ≡ h' + w → b < h' → 1 ≤ w → as_one b w d ≡ d'
    → as_one b w (unwrap_or (own_place h x l) d) ≡ unwrap_or (own_place h' x l) d'
own_shifted l x h h' b w d d' e k o q =
    own_carried (λ p p'. as_one b w p ≡ p') l x h h' d d' (as_one_far b w h (omega arith) ∙ omega arith) q

shifted : (l : ℕ) (xs : List Formed) (h h' b w d d' : ℕ) → h + 1 ≡ h' + w → b < h' → 1 ≤ w → as_one b w d ≡ d'
    → as_one b w (unwrap_or (place_in h xs l) d) ≡ unwrap_or (place_in h' xs l) d'
shifted l [] h h' b w d d' e k o q = q
shifted l (x ∷ xs) h h' b w d d' e k o q =
    let s = size x.form x.item in
    let m = own_place h x.item l in
    let m' = own_place h' x.item l in
    rw (unwrap_last_of m (place_in (h + s) xs l) d, unwrap_last_of m' (place_in (h' + s) xs l) d')
    (shifted l xs (h + s) (h' + s) b w (unwrap_or m d) (unwrap_or m' d') (omega arith) (omega arith) o
    (own_shifted l x.item h h' b w d d' e k o q))

some_size : (f : Form) → 1 ≤ branch_size f
some_size Short = omega arith
some_size Long = omega arith

as_one_target : (front back : List Formed) (f : Form) (i : Instr) (to : Label) (l : ℕ)
    → as_one (sizes front) (branch_size f) (target_in (front ++ in_form f (Branch i to) ∷ back) l)
    ≡ target_in (front ++ in_form Short (Branch i to) ∷ back) l
as_one_target front back f i to l =
    let b = sizes front in
    let w = branch_size f in
    rw (target_between front back f i to l, target_between front back Short i to l)
    (shifted l back (b + w) (b + 1) b w (target_in front l) (target_in front l) (omega arith) (omega arith) (some_size f)
    (as_one_near b w (target_in front l) (target_bound front l)))

pub form_by_place : (t : ℕ → ℕ) (front back : List Formed) (f : Form) (x : Item)
    → ((l : ℕ) → t l ≡ target_in (front ++ in_form f x ∷ back) l) → form_at t (sizes front) f x ≡ next_form front x back
form_by_place t front back f (Word i) same = refl
form_by_place t front back f (Jump rd to) same = refl
form_by_place t front back f (Branch i to) same =
    rw (same to.0, as_one_target front back f i to to.0) refl
form_by_place t front back f (Place l) same = refl

-- where a table leads
pub named_target : (named : BTreeMap ℕ ℕ) (xs : List Formed) → ((l : ℕ) → get nat_cmp named l ≡ place_in 0 xs l)
    → (l : ℕ) → named_place named l ≡ target_in xs l
named_target named xs same l = rw (same l) refl

-- one more item of a round
pub round_more : (t : ℕ → ℕ) (xs : List Formed) (i : ℕ) (x d : Formed) (old new : List Formed) (here : ℕ)
    → i < length xs → x ≡ get_or xs i d → ((l : ℕ) → t l ≡ target_in xs l) → here ≡ sizes (take i xs)
    → new ≡ old ++ in_form (form_at t here x.form x.item) x.item ∷ []
    → old ++ next_behind (take i xs) (drop i xs) ≡ next_forms xs
    → new ++ next_behind (take (i + 1) xs) (drop (i + 1) xs) ≡ next_forms xs
round_more t xs i x d old new here l e same eh en h =
    let front = take i xs in
    let back = drop (i + 1) xs in
    let split = split_at xs i x d l e in
    let m : drop i xs ≡ x ∷ back = rw (← e) at (drop_more xs i d l) in
    let same' : (q : ℕ) → t q ≡ target_in (front ++ x ∷ back) q =
    λ q. same q ∙ ap (λ (ys : List Formed). target_in ys q) split in
    let f : form_at t here x.form x.item ≡ next_form front x.item back =
    ap (λ n. form_at t n x.form x.item) eh ∙ form_by_place t front back x.form x.item same' in
    let n : new ≡ old ++ in_form (next_form front x.item back) x.item ∷ [] =
    en ∙ ap (λ (g : Form). old ++ in_form g x.item ∷ []) f in
    let k : old ++ (in_form (next_form front x.item back) x.item ∷ next_behind (front ++ x ∷ []) back) ≡ next_forms xs =
    ap (λ (ys : List Formed). old ++ next_behind front ys) (sym m) ∙ h in
    ap (λ (ys : List Formed). ys ++ next_behind (take (i + 1) xs) back) n
    ∙ ap (λ (ys : List Formed). (old ++ in_form (next_form front x.item back) x.item ∷ []) ++ next_behind ys back)
    (taken_more xs i x d l e)
    ∙ append_assoc old (in_form (next_form front x.item back) x.item ∷ []) (next_behind (front ++ x ∷ []) back)
    ∙ k

pub round_same : (xs : List Formed) (i : ℕ) (x d : Formed) (old new : List Formed) (f : Form)
    → i < length xs → x ≡ get_or xs i d → new ≡ old ++ in_form f x.item ∷ [] → f ≡ x.form → old ≡ take i xs
    → new ≡ take (i + 1) xs
round_same xs i x d old new f l e en ef eo =
    en ∙ ap (λ (g : Form). old ++ in_form g x.item ∷ []) ef
    ∙ ap (λ (ys : List Formed). ys ++ x ∷ []) eo
    ∙ sym (taken_more xs i x d l e)

pub short_by_place : (t : ℕ → ℕ) (here : ℕ) (f : Form) (x : Item) (i : Instr) (to : Label) (p q : ℕ) (n : Bool)
    → x ≡ Branch i to → p ≡ t to.0 → q ≡ as_one here (branch_size f) p → n ≡ reaches (distance here q) → n ≡ true
    → Short ≡ form_at t here f x
short_by_place t here f x i to p q n ex ep eq en h =
    rw (ex, ← ep, ← eq, ← en, h) refl

pub long_by_place : (t : ℕ → ℕ) (here : ℕ) (f : Form) (x : Item) (i : Instr) (to : Label) (p q : ℕ) (n : Bool)
    → x ≡ Branch i to → p ≡ t to.0 → q ≡ as_one here (branch_size f) p → n ≡ reaches (distance here q) → n ≡ false
    → Long ≡ form_at t here f x
long_by_place t here f x i to p q n ex ep eq en h =
    rw (ex, ← ep, ← eq, ← en, h) refl

long-append : (xs ys : List Item) → all_long (xs ++ ys) ≡ all_long xs ++ all_long ys
long-append [] ys = refl
long-append (x ∷ xs) ys = ap (λ (zs : List Formed). in_form Long x ∷ zs) (long-append xs ys)

pub long_more : (items : List Item) (i : ℕ) (x d : Item) → i < length items → x ≡ get_or items i d
    → all_long (take (i + 1) items) ≡ all_long (take i items) ++ in_form Long x ∷ []
long_more items i x d l e =
    let m : take (i + 1) items ≡ take i items ++ x ∷ [] = rw (← e) at (take_more items i d l) in
    ap (λ (ys : List Item). all_long ys) m ∙ long-append (take i items) (x ∷ [])

pub longs_few : (items : List Item) → length (all_long items) ≡ length items
longs_few [] = refl
longs_few (x ∷ xs) = ap suc (longs_few xs)

as_many_behind : (front xs : List Formed) → length (next_behind front xs) ≡ length xs
as_many_behind front [] = refl
as_many_behind front (x ∷ xs) = ap suc (as_many_behind (front ++ x ∷ []) xs)

pub as_many_next : (xs : List Formed) → length (next_forms xs) ≡ length xs
as_many_next xs = as_many_behind [] xs

-- the rounds that are left
pub one_round_less : (n k : ℕ) (xs ys : List Formed) → k < n → ys ≡ next_forms xs → rounds (n - (k + 1)) ys ≡ rounds (n - k) xs
one_round_less n k xs ys h e =
    let m : n - k ≡ suc (n - (k + 1)) = omega arith in
    rw (m, e) refl

pub first_round : (items : List Item) (xs : List Formed) → xs ≡ all_long items → rounds (length items - 0) xs ≡ formed items
first_round items xs e =
    let m : length items - 0 ≡ length items = omega arith in
    rw (m, e) refl

is_false : (b : Bool) → not b ≡ true → b ≡ false
is_false true h = absurd cc
is_false false h = refl

-- a round that changed nothing is the last
pub no_more_rounds : (n k : ℕ) (xs vs ys : List Formed) (changed : Bool) (zs : List Formed) → vs ≡ xs → ys ≡ next_forms vs
    → (changed ≡ false → ys ≡ vs) → not changed ≡ true → rounds (n - k) xs ≡ zs → ys ≡ zs
no_more_rounds n k xs vs ys changed zs v e same t h =
    let s : ys ≡ xs = same (is_false changed t) ∙ v in
    let next : next_forms xs ≡ xs = rw v at (sym e ∙ s) in
    s ∙ sym (rounds_same (n - k) xs next) ∙ h
