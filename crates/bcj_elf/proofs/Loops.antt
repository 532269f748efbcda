-- Reading one after the other, as loops do.
use Rattle.std.proofs.Common.{◌≡◌, ◌≢◌, ℕ, zero, suc, ◌+◌, ◌/◌, ◌≤◌, ◌<◌, List, [], ◌∷◌, ◌++◌, length, get_or, drop, refl, sym, ap, subst, ◌∙◌, append_assoc, add-one, arith, drop-cons, length-drop}
use Rattle.std.proofs.lemmas.List.{append-nil, drop_all}
use Rattle.bcj_elf.specs.declared.object.Relocation.{Relocation}
use Rattle.bcj_elf.specs.Elf.{symbol_size, relocation_size}
use Rattle.bcj_elf.specs.Plain.{PlainSymbol}
use Rattle.bcj_elf.specs.function.Reading.{relocation_at, relocations_at, symbol_at, symbols_at}
use Rattle.bcj_elf.specs.Layout.{name_len}

pub relocations_go_on : (found : List Relocation) (rest : List ℕ) (total : List Relocation) → relocation_size ≤ length rest → found ++ relocations_at (length rest / relocation_size) rest ≡ total
    → (found ++ relocation_at rest ∷ []) ++ relocations_at (length (drop relocation_size rest) / relocation_size) (drop relocation_size rest) ≡ total
unfolding relocations_at
relocations_go_on found rest total le so_far =
    let k : length rest / relocation_size ≡ suc (length (drop relocation_size rest) / relocation_size) = omega (arith, length-drop relocation_size rest) in
    append_assoc found (relocation_at rest ∷ []) (relocations_at (length (drop relocation_size rest) / relocation_size) (drop relocation_size rest))
    ∙ subst (λ (n : ℕ). found ++ relocations_at n rest ≡ total) k so_far

pub relocations_end : (found : List Relocation) (rest : List ℕ) (total : List Relocation) → length rest < relocation_size → found ++ relocations_at (length rest / relocation_size) rest ≡ total → found ≡ total
unfolding relocations_at
relocations_end found rest total lt so_far =
    let k : length rest / relocation_size ≡ 0 = omega arith in
    sym (append-nil found) ∙ subst (λ (n : ℕ). found ++ relocations_at n rest ≡ total) k so_far

pub symbols_go_on : (found : List PlainSymbol) (rest names : List ℕ) (total : List PlainSymbol) → symbol_size ≤ length rest → found ++ symbols_at (length rest / symbol_size) rest names ≡ total
    → (found ++ symbol_at rest names ∷ []) ++ symbols_at (length (drop symbol_size rest) / symbol_size) (drop symbol_size rest) (drop (name_len names + 1) names) ≡ total
unfolding symbols_at
symbols_go_on found rest names total le so_far =
    let k : length rest / symbol_size ≡ suc (length (drop symbol_size rest) / symbol_size) = omega (arith, length-drop symbol_size rest) in
    append_assoc found (symbol_at rest names ∷ []) (symbols_at (length (drop symbol_size rest) / symbol_size) (drop symbol_size rest) (drop (name_len names + 1) names))
    ∙ subst (λ (n : ℕ). found ++ symbols_at n rest names ≡ total) k so_far

pub symbols_end : (found : List PlainSymbol) (rest names : List ℕ) (total : List PlainSymbol) → length rest < symbol_size → found ++ symbols_at (length rest / symbol_size) rest names ≡ total → found ≡ total
unfolding symbols_at
symbols_end found rest names total lt so_far =
    let k : length rest / symbol_size ≡ 0 = omega arith in
    sym (append-nil found) ∙ subst (λ (n : ℕ). found ++ symbols_at n rest names ≡ total) k so_far

name_len-suc : (b : ℕ) (bytes : List ℕ) → b ≢ 0 → name_len (b ∷ bytes) ≡ suc (name_len bytes)
unfolding name_len
name_len-suc zero bytes ne = absurd (ne refl)
name_len-suc (suc b) bytes ne = refl

at_place : (names : List ℕ) (i : ℕ) → i < length names → drop i names ≡ get_or names i 0 ∷ drop (i + 1) names
at_place names i lt = rw add-one (drop-cons names i 0 lt)

pub name_goes_on : (names : List ℕ) (i : ℕ) → i < length names → get_or names i 0 ≢ 0 → i + name_len (drop i names) ≡ name_len names → i + 1 + name_len (drop (i + 1) names) ≡ name_len names
name_goes_on names i lt ne so_far =
    let e : name_len (drop i names) ≡ suc (name_len (drop (i + 1) names)) = ap name_len (at_place names i lt) ∙ name_len-suc (get_or names i 0) (drop (i + 1) names) ne in
    omega arith

pub name_ends : (names : List ℕ) (i : ℕ) → i < length names → get_or names i 0 ≡ 0 → i + name_len (drop i names) ≡ name_len names → i ≡ name_len names
unfolding name_len
name_ends names i lt z so_far =
    let e : name_len (drop i names) ≡ 0 = ap name_len (at_place names i lt ∙ ap (λ (b : ℕ). b ∷ drop (i + 1) names) z) in
    omega arith

pub name_is_all : (names : List ℕ) (i : ℕ) → length names ≤ i → i + name_len (drop i names) ≡ name_len names → i ≡ name_len names
unfolding name_len
name_is_all names i le so_far =
    let e : name_len (drop i names) ≡ 0 = ap name_len (drop_all i names le) in
    omega arith

pub name_is_all_at : (names : List ℕ) (i : ℕ) → length names ≤ i → i ≤ length names → i + name_len (drop i names) ≡ name_len names → length names ≡ name_len names
name_is_all_at names i le ge so_far = let e : i ≡ name_len names = name_is_all names i le so_far in omega arith
