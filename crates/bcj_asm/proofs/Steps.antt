-- Sizes, places and instructions of items one after another.
use Rattle.std.proofs.Common.{◌≡◌, ℕ, ◌+◌, ◌<◌, ◌≤◌, true, false, List, [], ◌∷◌, ◌++◌, length, get_or, take, drop, Option, Some, None, refl, ap, sym, ◌∙◌, add-zero, zero-add, append_assoc, arith}
use Rattle.std.specs.Prelude.{pos, unwrap_or, ◌==◌, if◌then◌else◌}
use Rattle.std.proofs.lemmas.List.{append-nil, take_more, drop_more, take-append-drop}
use Rattle.rv_isa.specs.declared.instruction.Instr.{Instr}
use Rattle.rv_isa.specs.declared.instruction.Instr.TheVariants.{Lui}
use Rattle.bcj_asm.specs.declared.item.Item.{Item}
use Rattle.bcj_asm.specs.declared.item.Item.TheVariants.{Word, Jump, Branch, Place}
use Rattle.bcj_asm.specs.declared.forms.Form.{Form}
use Rattle.bcj_asm.specs.declared.forms.Form.TheVariants.{Short, Long}
use Rattle.bcj_asm.specs.declared.forms.Formed.{Formed}
use Rattle.bcj_asm.specs.Forms.{last_of, own_place, place_in, places_in, target_in, size, sizes}
use Rattle.bcj_asm.specs.Assembly.{emitted, all_emitted}

-- an item to stand in where none is
abbrev pub some_formed : Formed
some_formed = record { form = Short; item = Word (Lui 0 (pos 0)) }

pub sizes-append : (xs ys : List Formed) → sizes (xs ++ ys) ≡ sizes xs + sizes ys
sizes-append [] ys = sym (zero-add (sizes ys))
sizes-append (x ∷ xs) ys = omega (arith, sizes-append xs ys)

pub all_emitted-append : (t : ℕ → ℕ) (here : ℕ) (xs ys : List Formed)
    → all_emitted t here (xs ++ ys) ≡ all_emitted t here xs ++ all_emitted t (here + sizes xs) ys
all_emitted-append t here [] ys = ap (λ n. all_emitted t n ys) (sym (add-zero here))
all_emitted-append t here (x ∷ xs) ys =
    let s = size x.form x.item in
    let e : here + s + sizes xs ≡ here + (s + sizes xs) = omega arith in
    ap (λ (is : List Instr). emitted t here x.form x.item ++ is)
    (all_emitted-append t (here + s) xs ys ∙ ap (λ n. all_emitted t (here + s) xs ++ all_emitted t n ys) e)
    ∙ sym (append_assoc (emitted t here x.form x.item) (all_emitted t (here + s) xs) (all_emitted t (here + (s + sizes xs)) ys))

pub last_of-none : (o : Option ℕ) → o ≡ last_of None o
last_of-none None = refl
last_of-none (Some p) = refl

last_of-assoc : (a b c : Option ℕ) → last_of a (last_of b c) ≡ last_of (last_of a b) c
last_of-assoc a b None = refl
last_of-assoc a b (Some p) = refl

pub place_in-append : (here : ℕ) (xs ys : List Formed) (q : ℕ)
    → place_in here (xs ++ ys) q ≡ last_of (place_in here xs q) (place_in (here + sizes xs) ys q)
place_in-append here [] ys q =
    ap (λ n. place_in n ys q) (sym (add-zero here)) ∙ last_of-none (place_in (here + 0) ys q)
place_in-append here (x ∷ xs) ys q =
    let s = size x.form x.item in
    let e : here + s + sizes xs ≡ here + (s + sizes xs) = omega arith in
    ap (λ (o : Option ℕ). last_of (own_place here x.item q) o)
    (place_in-append (here + s) xs ys q ∙ ap (λ n. last_of (place_in (here + s) xs q) (place_in n ys q)) e)
    ∙ last_of-assoc (own_place here x.item q) (place_in (here + s) xs q) (place_in (here + (s + sizes xs)) ys q)

-- no place lies behind the last word
own_bound : (here : ℕ) (x : Item) (q d b : ℕ) → d ≤ b → here ≤ b → unwrap_or (own_place here x q) d ≤ b
own_bound here (Word i) q d b h k = h
own_bound here (Jump rd to) q d b h k = h
own_bound here (Branch i to) q d b h k = h
own_bound here (Place m) q d b h k =
    elim (q == m.0) as (λ v. unwrap_or (if v then Some here else None) d ≤ b) [ true ↦ k | false ↦ h ]

pub unwrap_last_of : (a o : Option ℕ) (d : ℕ) → unwrap_or (last_of a o) d ≡ unwrap_or o (unwrap_or a d)
unwrap_last_of a None d = refl
unwrap_last_of a (Some p) d = refl

pub place_bound : (here : ℕ) (xs : List Formed) (q d : ℕ) → d ≤ here + sizes xs → unwrap_or (place_in here xs q) d ≤ here + sizes xs
place_bound here [] q d h = h
place_bound here (x ∷ xs) q d h =
    let s = size x.form x.item in
    let e : here + s + sizes xs ≡ here + (s + sizes xs) = omega arith in
    let d' = unwrap_or (own_place here x.item q) d in
    let k : d' ≤ here + s + sizes xs = rw e (own_bound here x.item q d (here + (s + sizes xs)) h (omega arith)) in
    let r : unwrap_or (place_in (here + s) xs q) d' ≤ here + s + sizes xs = place_bound (here + s) xs q d' k in
    rw (unwrap_last_of (own_place here x.item q) (place_in (here + s) xs q) d) (rw e at r)

pub target_bound : (xs : List Formed) (q : ℕ) → target_in xs q ≤ sizes xs
target_bound xs q = rw zero-add at (place_bound 0 xs q 0 (omega arith))

-- one more item
pub taken_more : (xs : List Formed) (i : ℕ) (x d : Formed) → i < length xs → x ≡ get_or xs i d
    → take (i + 1) xs ≡ take i xs ++ x ∷ []
taken_more xs i x d l e = rw (← e) at (take_more xs i d l)

-- an item between those before it and those behind it
pub split_at : (xs : List Formed) (i : ℕ) (x d : Formed) → i < length xs → x ≡ get_or xs i d
    → xs ≡ take i xs ++ x ∷ drop (i + 1) xs
split_at xs i x d l e =
    sym (take-append-drop i xs) ∙ ap (λ (ys : List Formed). take i xs ++ ys) (rw (← e) at (drop_more xs i d l))

pub sizes_more : (xs : List Formed) (i : ℕ) (x d : Formed) → i < length xs → x ≡ get_or xs i d
    → sizes (take (i + 1) xs) ≡ sizes (take i xs) + size x.form x.item
sizes_more xs i x d l e =
    rw (taken_more xs i x d l e, sizes-append (take i xs) (x ∷ [])) (omega arith)

pub all_emitted_more : (t : ℕ → ℕ) (xs : List Formed) (i : ℕ) (x d : Formed) → i < length xs → x ≡ get_or xs i d
    → all_emitted t 0 (take (i + 1) xs) ≡ all_emitted t 0 (take i xs) ++ emitted t (sizes (take i xs)) x.form x.item
all_emitted_more t xs i x d l e =
    ap (λ (ys : List Formed). all_emitted t 0 ys) (taken_more xs i x d l e)
    ∙ all_emitted-append t 0 (take i xs) (x ∷ [])
    ∙ simp (zero-add, append-nil)

pub place_more : (xs : List Formed) (i : ℕ) (x d : Formed) (q : ℕ) → i < length xs → x ≡ get_or xs i d
    → place_in 0 (take (i + 1) xs) q ≡ last_of (place_in 0 (take i xs) q) (own_place (sizes (take i xs)) x.item q)
place_more xs i x d q l e =
    ap (λ (ys : List Formed). place_in 0 ys q) (taken_more xs i x d l e)
    ∙ place_in-append 0 (take i xs) (x ∷ []) q
    ∙ simp zero-add

pub places_in-append : (here : ℕ) (xs ys : List Formed)
    → places_in here (xs ++ ys) ≡ places_in here xs ++ places_in (here + sizes xs) ys
places_in-append here [] ys = ap (λ n. places_in n ys) (sym (add-zero here))
places_in-append here (x ∷ xs) ys =
    let s = size x.form x.item in
    let e : here + s + sizes xs ≡ here + (s + sizes xs) = omega arith in
    ap (λ (ps : List ℕ). here ∷ ps)
    (places_in-append (here + s) xs ys ∙ ap (λ n. places_in (here + s) xs ++ places_in n ys) e)

pub places_more : (xs : List Formed) (i : ℕ) (x d : Formed) → i < length xs → x ≡ get_or xs i d
    → places_in 0 (take (i + 1) xs) ≡ places_in 0 (take i xs) ++ sizes (take i xs) ∷ []
places_more xs i x d l e =
    ap (λ (ys : List Formed). places_in 0 ys) (taken_more xs i x d l e)
    ∙ places_in-append 0 (take i xs) (x ∷ [])
    ∙ simp zero-add

pub placed_more : (xs : List Formed) (i : ℕ) (x d : Formed) (old new : List ℕ) (here : ℕ) → i < length xs → x ≡ get_or xs i d
    → new ≡ old ++ here ∷ [] → old ≡ places_in 0 (take i xs) → here ≡ sizes (take i xs) → new ≡ places_in 0 (take (i + 1) xs)
placed_more xs i x d old new here l e en eo eh =
    en ∙ ap (λ (ps : List ℕ). ps ++ here ∷ []) eo ∙ ap (λ n. places_in 0 (take i xs) ++ n ∷ []) eh
    ∙ sym (places_more xs i x d l e)

-- an item has room among all of them
pub sizes_room : (xs : List Formed) (i : ℕ) (x d : Formed) → i < length xs → x ≡ get_or xs i d
    → sizes (take i xs) + size x.form x.item ≤ sizes xs
sizes_room xs i x d l e =
    let m : sizes (take (i + 1) xs) + sizes (drop (i + 1) xs) ≡ sizes xs =
    sym (sizes-append (take (i + 1) xs) (drop (i + 1) xs)) ∙ ap sizes (take-append-drop (i + 1) xs) in
    omega (arith, m, sizes_more xs i x d l e)

pub size_few : (f : Form) (x : Item) → size f x ≤ 2
size_few f (Word i) = omega arith
size_few f (Jump rd to) = omega arith
size_few Short (Branch i to) = omega arith
size_few Long (Branch i to) = omega arith
size_few f (Place l) = omega arith
