-- Sizes of sections whose parts stand at the last value of their type.
use Rattle.std.proofs.Common.{◌≡◌, refl, ap, sym, ◌∙◌, ℕ, ◌+◌, ◌*◌, arith}
use Rattle.bcj_symbolic_measure.specs.Totals.{capped, plus}
use Rattle.bcj_symbolic_measure.specs.Objects.{aligned, placed, file_size}
use Rattle.bcj_symbolic_measure.proofs.TotalLemmas.{plus-like, plus-plus, capped-twice}

placed-capped : (at bytes : ℕ) → capped (placed (capped at) (capped bytes)) ≡ capped (placed at bytes)
unfolding placed aligned capped
placed-capped at bytes = omega arith

pub placed-like : (a b m n : ℕ) → capped a ≡ capped b → capped m ≡ capped n → capped (placed a m) ≡ capped (placed b n)
placed-like a b m n e f = sym (placed-capped a m) ∙ (λ i. capped (placed (e i) (f i))) ∙ placed-capped b n

-- a section that was placed behind what is known
pub placed-behind : (result a b m n : ℕ) → result ≡ capped (placed a m) → capped a ≡ capped b → capped m ≡ capped n → capped result ≡ capped (placed b n)
placed-behind result a b m n r e f = ap capped r ∙ capped-twice (placed a m) ∙ placed-like a b m n e f

pub capped-of : (a n : ℕ) → a ≡ capped n → capped a ≡ capped n
capped-of a n e = ap capped e ∙ capped-twice n

four : (n : ℕ) → capped (4 * capped n) ≡ capped (4 * n)
unfolding capped
four n = omega arith

twelve : (n : ℕ) → capped (12 * capped n) ≡ capped (12 * n)
unfolding capped
twelve n = omega arith

sixteen : (n : ℕ) → capped (16 * capped n) ≡ capped (16 * n)
unfolding capped
sixteen n = omega arith

pub four-like : (m n : ℕ) → capped m ≡ capped n → capped (4 * m) ≡ capped (4 * n)
four-like m n e = sym (four m) ∙ ap (λ k. capped (4 * k)) e ∙ four n

pub twelve-like : (m n : ℕ) → capped m ≡ capped n → capped (12 * m) ≡ capped (12 * n)
twelve-like m n e = sym (twelve m) ∙ ap (λ k. capped (12 * k)) e ∙ twelve n

pub sixteen-like : (m n : ℕ) → capped m ≡ capped n → capped (16 * m) ≡ capped (16 * n)
sixteen-like m n e = sym (sixteen m) ∙ ap (λ k. capped (16 * k)) e ∙ sixteen n

pub added-like : (t a b : ℕ) → capped a ≡ capped b → capped (t + a) ≡ capped (t + b)
unfolding plus
added-like t a b e = plus-like t a b e

-- one symbol and two a class
pub symbols-like : (n : ℕ) → capped (plus (plus 1 n) n) ≡ capped (1 + 2 * n)
unfolding plus capped
symbols-like n = omega arith

pub file_size-like : (text text' relocations relocations' tables tables' classes records records' names names' : ℕ)
    → capped text ≡ capped text' → capped relocations ≡ capped relocations' → capped tables ≡ capped tables'
    → capped records ≡ capped records' → capped names ≡ capped names'
    → capped (file_size text relocations tables classes records names) ≡ capped (file_size text' relocations' tables' classes records' names')
unfolding file_size
file_size-like text text' relocations relocations' tables tables' classes records records' names names' e f g h k =
    placed-like _ _ _ _
    (placed-like _ _ _ _
    (placed-like _ _ _ _
    (placed-like _ _ _ _
    (placed-like _ _ _ _
    (placed-like _ _ _ _
    (placed-like _ _ _ _
    (placed-like _ _ _ _
    (placed-like 52 52 (4 * text) (4 * text') refl (four-like _ _ e))
    (twelve-like _ _ f))
    (four-like _ _ g))
    refl)
    (added-like 8 _ _ h))
    refl)
    (added-like 1 _ _ k))
    refl)
    refl

-- sections that are placed one behind the other
pub file-built : (text relocations tables classes records names counted symbol_count text_size text_relocations_size tables_size table_relocations_size records_size symbols_size names_size at1 at2 at3 at4 at5 at6 at7 at8 result : ℕ)
    → counted ≡ plus 1 classes → symbol_count ≡ plus counted classes
    → text_size ≡ capped (4 * text) → text_relocations_size ≡ capped (12 * relocations) → tables_size ≡ capped (4 * tables) → table_relocations_size ≡ capped (12 * classes)
    → records_size ≡ plus 8 records → symbols_size ≡ capped (16 * symbol_count) → names_size ≡ plus 1 names
    → at1 ≡ capped (placed 52 text_size) → at2 ≡ capped (placed at1 text_relocations_size) → at3 ≡ capped (placed at2 tables_size) → at4 ≡ capped (placed at3 table_relocations_size)
    → at5 ≡ capped (placed at4 records_size) → at6 ≡ capped (placed at5 symbols_size) → at7 ≡ capped (placed at6 names_size) → at8 ≡ capped (placed at7 76)
    → result ≡ capped (placed at8 360)
    → result ≡ capped (file_size text relocations tables classes records names)
unfolding file_size plus
file-built text relocations tables classes records names counted symbol_count text_size text_relocations_size tables_size table_relocations_size records_size symbols_size names_size at1 at2 at3 at4 at5 at6 at7 at8 result ec es e1 e2 e3 e4 e5 e6 e7 a1 a2 a3 a4 a5 a6 a7 a8 r =
    let p1 : capped at1 ≡ capped (placed 52 (4 * text)) = placed-behind at1 52 52 text_size (4 * text) a1 refl (capped-of _ _ e1) in
    let p2 : capped at2 ≡ capped (placed (placed 52 (4 * text)) (12 * relocations)) = placed-behind at2 at1 _ text_relocations_size (12 * relocations) a2 p1 (capped-of _ _ e2) in
    let p3 : capped at3 ≡ capped (placed (placed (placed 52 (4 * text)) (12 * relocations)) (4 * tables)) = placed-behind at3 at2 _ tables_size (4 * tables) a3 p2 (capped-of _ _ e3) in
    let p4 : capped at4 ≡ capped (placed (placed (placed (placed 52 (4 * text)) (12 * relocations)) (4 * tables)) (12 * classes)) = placed-behind at4 at3 _ table_relocations_size (12 * classes) a4 p3 (capped-of _ _ e4) in
    let p5 : capped at5 ≡ capped (placed (placed (placed (placed (placed 52 (4 * text)) (12 * relocations)) (4 * tables)) (12 * classes)) (8 + records)) = placed-behind at5 at4 _ records_size (8 + records) a5 p4 (capped-of _ _ e5) in
    let count : capped symbol_count ≡ capped (1 + 2 * classes) = ap capped (es ∙ ap (λ k. plus k classes) ec) ∙ symbols-like classes in
    let p6 : capped at6 ≡ capped (placed (placed (placed (placed (placed (placed 52 (4 * text)) (12 * relocations)) (4 * tables)) (12 * classes)) (8 + records)) (16 * (1 + 2 * classes))) = placed-behind at6 at5 _ symbols_size (16 * (1 + 2 * classes)) a6 p5 (capped-of _ _ e6 ∙ sixteen-like _ _ count) in
    let p7 : capped at7 ≡ capped (placed (placed (placed (placed (placed (placed (placed 52 (4 * text)) (12 * relocations)) (4 * tables)) (12 * classes)) (8 + records)) (16 * (1 + 2 * classes))) (1 + names)) = placed-behind at7 at6 _ names_size (1 + names) a7 p6 (capped-of _ _ e7) in
    let p8 : capped at8 ≡ capped (placed (placed (placed (placed (placed (placed (placed (placed 52 (4 * text)) (12 * relocations)) (4 * tables)) (12 * classes)) (8 + records)) (16 * (1 + 2 * classes))) (1 + names)) 76) = placed-behind at8 at7 _ 76 76 a8 p7 refl in
    r ∙ placed-like at8 _ 360 360 p8 refl

-- the records of a class, part by part
pub record-sum : (t h f m r p e : ℕ)
    → plus (plus (plus (plus (plus (plus (plus (plus (plus t h) f) m) 4) r) p) 16) e) 4 ≡ plus t (h + (f + (m + ((4 + r) + (p + (16 + (e + 4)))))))
record-sum t h f m r p e =
    plus-plus _ e 4
    ∙ plus-plus _ 16 (e + 4)
    ∙ plus-plus _ p (16 + (e + 4))
    ∙ plus-plus _ r (p + (16 + (e + 4)))
    ∙ plus-plus _ 4 (r + (p + (16 + (e + 4))))
    ∙ plus-plus _ m (4 + (r + (p + (16 + (e + 4)))))
    ∙ plus-plus _ f (m + (4 + (r + (p + (16 + (e + 4))))))
    ∙ plus-plus t h (f + (m + (4 + (r + (p + (16 + (e + 4)))))))
    ∙ ap (plus t) (omega arith)
