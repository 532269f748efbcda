-- Lists that are written part by part.
use Rattle.std.proofs.Common.{◌≡◌, ℕ, suc, ◌+◌, ◌≤◌, ◌<◌, List, [], ◌∷◌, ◌++◌, length, get_or, drop, sym, ap, subst, ◌∙◌, append_assoc, add-one, arith, length-append, drop-cons}
use Rattle.std.specs.List.{flat_map}
use Rattle.std.proofs.lemmas.List.{append-nil, drop_all}
use Rattle.bcj_elf.specs.declared.object.Symbol.{Symbol}
use Rattle.bcj_elf.specs.Plain.{PlainObject, plain_symbol, plain_symbols}
use Rattle.bcj_elf.specs.Layout.{section_names, padding, headers, terminated, strings, sizes}
use Rattle.bcj_elf.specs.Spelling.{zeros, rela, entry, entries, file_header, header_bytes, spelling}

-- what was written before the rest
pub before : (old a rest x y : List ℕ) → x ≡ old ++ a → y ≡ x ++ rest → y ≡ old ++ (a ++ rest)
before old a rest x y e f = f ∙ ap (λ (z : List ℕ). z ++ rest) e ∙ append_assoc old a rest

-- the element at i and what is behind it
pub one_more : {A : Type 0} (xs : List A) (i : ℕ) (x : A) → i < length xs → x ≡ get_or xs i x → drop i xs ≡ x ∷ drop (i + 1) xs
one_more {A = A} xs i x lt e = rw add-one (drop-cons xs i x lt ∙ ap (λ (y : A). y ∷ drop (suc i) xs) (sym e))

pub entries_go_on : (out new total : List ℕ) (at n : ℕ) (s : Symbol) (front rest : List Symbol) → front ≡ s ∷ rest → n ≡ length s.name.items → new ≡ out ++ entry at (plain_symbol s)
    → out ++ entries at (plain_symbols front) ≡ total → new ++ entries (at + (n + 1)) (plain_symbols rest) ≡ total
unfolding entries
entries_go_on out new total at n s front rest e len wrote so_far =
    let now : out ++ (entry at (plain_symbol s) ++ entries (at + length s.name.items + 1) (plain_symbols rest)) ≡ total = subst (λ (f : List Symbol). out ++ entries at (plain_symbols f) ≡ total) e so_far in
    let place : at + (n + 1) ≡ at + length s.name.items + 1 = omega (arith, len) in
    ap (λ (z : List ℕ). z ++ entries (at + (n + 1)) (plain_symbols rest)) wrote ∙ append_assoc out (entry at (plain_symbol s)) (entries (at + (n + 1)) (plain_symbols rest))
    ∙ ap (λ (k : ℕ). out ++ (entry at (plain_symbol s) ++ entries k (plain_symbols rest))) place ∙ now

pub room_goes_on : (total at n : ℕ) (s : Symbol) (front rest : List Symbol) → front ≡ s ∷ rest → n ≡ length s.name.items
    → at + length (flat_map terminated (plain_symbols front)) ≡ total → at + (n + 1) + length (flat_map terminated (plain_symbols rest)) ≡ total
room_goes_on total at n s front rest e len so_far =
    let now : at + length ((s.name.items ++ 0 ∷ []) ++ flat_map terminated (plain_symbols rest)) ≡ total = subst (λ (f : List Symbol). at + length (flat_map terminated (plain_symbols f)) ≡ total) e so_far in
    omega (arith, len, now, length-append (s.name.items ++ 0 ∷ []) (flat_map terminated (plain_symbols rest)), length-append s.name.items (0 ∷ []))

pub entries_end : (out total : List ℕ) (at i : ℕ) (ss : List Symbol) → length ss ≤ i → out ++ entries at (plain_symbols (drop i ss)) ≡ total → out ≡ total
unfolding entries
entries_end out total at i ss le so_far = sym (append-nil out) ∙ subst (λ (f : List Symbol). out ++ entries at (plain_symbols f) ≡ total) (drop_all i ss le) so_far

-- The names that are left at the end have no bytes.
pub room_ends : (total at i : ℕ) (ss : List Symbol) → length ss ≤ i → at + length (flat_map terminated (plain_symbols (drop i ss))) ≡ total → at ≡ total
room_ends total at i ss le so_far = let now : at + 0 ≡ total = subst (λ (f : List Symbol). at + length (flat_map terminated (plain_symbols f)) ≡ total) (drop_all i ss le) so_far in omega arith

-- a file that was written part by part
pub spelled : (o : PlainObject) (x0 x1 x2 x3 x4 x5 x6 x7 x8 x9 x10 x11 x12 : List ℕ)
    → x0 ≡ file_header (sizes o) → x1 ≡ x0 ++ o.text → x2 ≡ x1 ++ flat_map rela o.text_relocs → x3 ≡ x2 ++ o.tab → x4 ≡ x3 ++ flat_map rela o.tab_relocs
    → x5 ≡ x4 ++ o.rec → x6 ≡ x5 ++ zeros (padding (length o.rec)) → x7 ≡ x6 ++ zeros 16 → x8 ≡ x7 ++ entries 1 o.symbols → x9 ≡ x8 ++ strings o.symbols
    → x10 ≡ x9 ++ zeros (padding (length (strings o.symbols))) → x11 ≡ x10 ++ section_names → x12 ≡ x11 ++ flat_map header_bytes (headers (sizes o)) → x12 ≡ spelling o
unfolding spelling
spelled o x0 x1 x2 x3 x4 x5 x6 x7 x8 x9 x10 x11 x12 e0 e1 e2 e3 e4 e5 e6 e7 e8 e9 e10 e11 e12 =
    before [] (file_header (sizes o)) _ x0 x12 e0 (before x0 o.text _ x1 x12 e1 (before x1 (flat_map rela o.text_relocs) _ x2 x12 e2 (before x2 o.tab _ x3 x12 e3
    (before x3 (flat_map rela o.tab_relocs) _ x4 x12 e4 (before x4 o.rec _ x5 x12 e5 (before x5 (zeros (padding (length o.rec))) _ x6 x12 e6 (before x6 (zeros 16) _ x7 x12 e7
    (before x7 (entries 1 o.symbols) _ x8 x12 e8 (before x8 (strings o.symbols) _ x9 x12 e9 (before x9 (zeros (padding (length (strings o.symbols)))) _ x10 x12 e10
    (before x10 section_names (flat_map header_bytes (headers (sizes o))) x11 x12 e11 e12)))))))))))
