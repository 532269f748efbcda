-- A list that grows at its end, read from there.
use Rattle.std.proofs.Common.{◌≡◌, ℕ, suc, ◌-◌, ◌<◌, ◌≤◌, Bool, true, false, List, [], ◌∷◌, ◌++◌, length, take, drop, sym, ap, ◌∙◌, arith, if◌then◌else◌, reverse, get_or, length-drop}
use Rattle.std.specs.Str.{bytes_eq}
use Rattle.std.proofs.lemmas.List.{reverse-append, length-reverse, take-append-drop}
use Rattle.std.proofs.Math.Seq.{drop-append_seam, take-suc}
use Rattle.bcj_cli_code.specs.declared.scope.Local.{Local}
use Rattle.bcj_cli_code.specs.function.Slots.{Frame, slot_of}

pub reverse_take : (xs : List Local) (n : ℕ) → reverse (take n xs) ≡ drop (length (reverse xs) - n) (reverse xs)
reverse_take xs n =
    let parts : reverse xs ≡ reverse (drop n xs) ++ reverse (take n xs) = ap reverse (sym (take-append-drop n xs)) ∙ reverse-append (take n xs) (drop n xs) in
    let long : length (reverse xs) - n ≡ length (reverse (drop n xs)) = omega (arith, length-reverse xs, length-reverse (drop n xs), length-drop n xs) in
    sym (ap (λ k. drop k (reverse xs)) long ∙ ap (drop (length (reverse (drop n xs)))) parts ∙ drop-append_seam (reverse (drop n xs)) (reverse (take n xs)))

reverse_more : (xs : List Local) (i : ℕ) (d : Local) → i < length xs → reverse (take (suc i) xs) ≡ get_or xs i d ∷ reverse (take i xs)
reverse_more xs i d h = ap reverse (take-suc xs i d h) ∙ reverse-append (take i xs) (get_or xs i d ∷ [])

-- the local at i has the name, or the search goes on below it
pub slot_here : (xs : List Local) (i : ℕ) (d : Local) (x : List ℕ) → i < length xs → bytes_eq x (get_or xs i d).name ≡ true → slot_of (reverse (take (suc i) xs)) x ≡ (get_or xs i d).number
slot_here xs i d x h e = ap (λ l. slot_of l x) (reverse_more xs i d h) ∙ ap (λ b. if b then (get_or xs i d).number else slot_of (reverse (take i xs)) x) e

pub slot_below : (xs : List Local) (i : ℕ) (d : Local) (x : List ℕ) → i < length xs → bytes_eq x (get_or xs i d).name ≡ false → slot_of (reverse (take (suc i) xs)) x ≡ slot_of (reverse (take i xs)) x
slot_below xs i d x h e = ap (λ l. slot_of l x) (reverse_more xs i d h) ∙ ap (λ b. if b then (get_or xs i d).number else slot_of (reverse (take i xs)) x) e

abbrev pub frame : List Local → ℕ → Frame
frame xs next = record { slots = reverse xs; next = next }

pub frame_take : (xs ys : List Local) (next n : ℕ) (f : Frame) → frame xs next ≡ f → ys ≡ take n xs → frame ys next ≡ record { slots = drop (length f.slots - n) f.slots; next = f.next }
frame_take xs ys next n f v e =
    let gone : Frame → Frame = λ g. record { slots = drop (length g.slots - n) g.slots; next = g.next } in
    let cut : List Local → Frame = λ l. record { slots = l; next = next } in
    ap cut (ap reverse e ∙ reverse_take xs n) ∙ ap gone v

one_less : (i : ℕ) → 0 < i → suc (i - 1) ≡ i
one_less i h = omega arith

-- at i - 1
pub slot_found : (xs : List Local) (i : ℕ) (r : Local) (x a b : List ℕ) (t : Bool) → 0 < i → i ≤ length xs → r ≡ get_or xs (i - 1) r → a ≡ x → b ≡ r.name → t ≡ bytes_eq a b → t ≡ true → slot_of (reverse (take i xs)) x ≡ r.number
slot_found xs i r x a b t above le is ea eb et e =
    let same : bytes_eq x (get_or xs (i - 1) r).name ≡ true = ap (λ y. bytes_eq y (get_or xs (i - 1) r).name) (sym ea) ∙ ap (λ l. bytes_eq a l.name) (sym is) ∙ ap (bytes_eq a) (sym eb) ∙ sym et ∙ e in
    ap (λ k. slot_of (reverse (take k xs)) x) (sym (one_less i above)) ∙ slot_here xs (i - 1) r x (omega arith) same ∙ ap (λ l. l.number) (sym is)

pub slot_passed : (xs : List Local) (i : ℕ) (r : Local) (x a b : List ℕ) (t : Bool) → 0 < i → i ≤ length xs → r ≡ get_or xs (i - 1) r → a ≡ x → b ≡ r.name → t ≡ bytes_eq a b → t ≡ false → slot_of (reverse (take i xs)) x ≡ slot_of (reverse (take (i - 1) xs)) x
slot_passed xs i r x a b t above le is ea eb et e =
    let same : bytes_eq x (get_or xs (i - 1) r).name ≡ false = ap (λ y. bytes_eq y (get_or xs (i - 1) r).name) (sym ea) ∙ ap (λ l. bytes_eq a l.name) (sym is) ∙ ap (bytes_eq a) (sym eb) ∙ sym et ∙ e in
    ap (λ k. slot_of (reverse (take k xs)) x) (sym (one_less i above)) ∙ slot_below xs (i - 1) r x (omega arith) same
