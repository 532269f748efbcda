-- What the tests of an object say.
use Rattle.std.proofs.Common.{◌≡◌, ℕ, ◌+◌, ◌<◌, ◌≤◌, ◌^◌, Bool, true, false, List, [], ◌∷◌, length, drop, All, get_or, refl, sym, ap, subst, ◌∙◌, arith}
use Rattle.std.specs.Prelude.{◌&&◌}
use Rattle.std.specs.List.{AllByRecursion}
use Rattle.std.proofs.lemmas.Bool.{ltb-true, leb-true}
use Rattle.std.proofs.lemmas.List.Elements.{All-from_recursion}
use Rattle.bcj_elf.specs.declared.object.Section.{Section}
use Rattle.bcj_elf.specs.declared.object.Section.TheVariants.{Text, Tab}
use Rattle.bcj_elf.specs.declared.object.Symbol.{Symbol}
use Rattle.bcj_elf.specs.Plain.{plain_symbol, plain_symbols}
use Rattle.bcj_elf.specs.declared.object.Relocation.{Relocation}
use Rattle.bcj_elf.specs.Rules.{is_in_place, is_bound, are_relocations, is_named, is_region, are_symbols}

pub both : (a b : Bool) → (a && b) ≡ true → (a ≡ true) × (b ≡ true)
both true b e = (refl, e)
both false b e = absurd cc

-- The numbers of a relocation have room in their fields.
pub record HasRoom (r : Relocation) : Type 0 where
  pub offset : r.offset < 2 ^ 32
  pub symbol : r.symbol < 2 ^ 24
  pub addend : r.addend < 2 ^ 32

has_room : (section : Section) (bytes : List ℕ) (symbols least : ℕ) (r : Relocation) → length bytes < 2 ^ 32 → is_in_place bytes least r ≡ true → is_bound section symbols r ≡ true → HasRoom r
unfolding is_in_place is_bound
has_room section bytes symbols least r small p b =
    let p3 = both _ _ p in
    let p2 = both _ _ p3.0 in
    let fits : r.offset + 4 ≤ length bytes = leb-true _ _ p2.1 in
    let b4 = both _ _ b in
    let b3 = both _ _ b4.0 in
    record { offset = omega arith; symbol = ltb-true _ _ b3.1; addend = ltb-true _ _ b4.1 }

pub have_room : (section : Section) (bytes : List ℕ) (symbols least : ℕ) (rs : List Relocation) → length bytes < 2 ^ 32 → are_relocations section bytes symbols least rs ≡ true → AllByRecursion HasRoom rs
have_room section bytes symbols least [] small h = tt
have_room section bytes symbols least (r ∷ rs) small h =
    let more = both _ _ h in
    let here = both _ _ more.0 in
    (has_room section bytes symbols least r small here.0 here.1, have_room section bytes symbols (r.offset + 1) rs small more.1)

symbols_small : (rs : List Relocation) → AllByRecursion HasRoom rs → AllByRecursion (λ r. r.symbol < 2 ^ 24) rs
symbols_small [] h = tt
symbols_small (r ∷ rs) h = (h.0.symbol, symbols_small rs h.1)

pub symbols_fit : (section : Section) (bytes : List ℕ) (symbols : ℕ) (rs : List Relocation) → length bytes < 2 ^ 32 → are_relocations section bytes symbols 0 rs ≡ true → All (λ r. r.symbol < 2 ^ 24) rs
symbols_fit section bytes symbols rs small h = All-from_recursion (λ r. r.symbol < 2 ^ 24) rs (symbols_small rs (have_room section bytes symbols 0 rs small h))

-- a pair of symbols that meets the rules is one step
pub pairs_go_on : (text tab text_at tab_at : ℕ) (ss others : List Symbol) (x y : Symbol) (total : Bool) → 2 ≤ length ss → x ≡ get_or ss 0 x → y ≡ get_or ss 1 y → others ≡ drop 2 ss
    → is_named x.name.items y.name.items ≡ true → is_region Text text text_at (plain_symbol x) ≡ true → is_region Tab tab tab_at (plain_symbol y) ≡ true
    → are_symbols text tab text_at tab_at (plain_symbols ss) ≡ total → are_symbols text tab (text_at + x.size) (tab_at + y.size) (plain_symbols others) ≡ total
pairs_go_on text tab text_at tab_at [] others x y total le ex ey eo named code tables so_far = absurd (omega arith)
pairs_go_on text tab text_at tab_at (a ∷ []) others x y total le ex ey eo named code tables so_far = absurd (omega arith)
pairs_go_on text tab text_at tab_at (a ∷ b ∷ ss) others x y total le ex ey eo named code tables so_far =
    let front : are_symbols text tab text_at tab_at (plain_symbols (x ∷ y ∷ others)) ≡ total =
    subst (λ (z : List Symbol). are_symbols text tab text_at tab_at (plain_symbols z) ≡ total) (ap (λ z. z ∷ b ∷ ss) (sym ex) ∙ ap (λ z. x ∷ z ∷ ss) (sym ey) ∙ ap (λ (z : List Symbol). x ∷ y ∷ z) (sym eo)) so_far in
    let tests : (is_named x.name.items y.name.items && is_region Text text text_at (plain_symbol x) && is_region Tab tab tab_at (plain_symbol y)) ≡ true = rw (named, code, tables) refl in
    sym (ap (λ (z : Bool). z && are_symbols text tab (text_at + x.size) (tab_at + y.size) (plain_symbols others)) tests) ∙ front
