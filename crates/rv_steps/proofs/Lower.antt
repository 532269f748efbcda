-- Code in memory, from lists of instructions and of words.
use Rattle.std.proofs.Common.{◌≡◌, ℕ, suc, ◌+◌, ◌*◌, ◌%◌, ◌^◌, ◌<◌, ◌≤◌, Bool, true, false, ◌==◌, if◌then◌else◌, List, [], ◌∷◌, ◌++◌, length, Some, refl, sym, ap, ◌∙◌, subst, arith, append_assoc, length-append, eqb-true, eq-eqb, ne_eqb}
use Rattle.std.specs.Prelude.{flat_map, All}
use Rattle.byteorder.specs.Endian.{little_bytes}
use Rattle.rv_isa.specs.Words.{Spells}
use Rattle.rv_steps.specs.Memory.{read}
use Rattle.rv_steps.specs.Machine.{Op, Image, place, Has}
use Rattle.rv_steps.specs.Lower.{lower, Reaches, Stands, CodeIn, SpellsAll, WordsIn}
use Rattle.rv_steps.proofs.Memory.{read_placed}

-- code that is placed stands there
place_behind : (start : ℕ) (op : Op) (ops : List Op) (p : ℕ) → start < p → place start (op ∷ ops) p ≡ place (start + 4) ops p
place_behind start op ops p h = ap (λ b. if b then Some op else place (start + 4) ops p) (ne_eqb p start (omega arith))

place_here : (start : ℕ) (op : Op) (ops : List Op) → place start (op ∷ ops) start ≡ Some op
place_here start op ops = ap (λ b. if b then Some op else place (start + 4) ops start) (eq-eqb start start refl)

module _ {W E : Type 0} (im : Image W E) where
  has_more : (p : ℕ) (ops : List Op) → ((q : ℕ) → p ≤ q → im.fetch q ≡ place p ops q) → Has im p ops
  has_more p [] same = tt
  has_more p (op ∷ ops) same =
      (same p (omega arith) ∙ place_here p op ops, has_more (p + 4) ops (λ q h. same q (omega arith) ∙ place_behind p op ops q (omega arith)))

  pub has_placed : (start : ℕ) (ops : List Op) → ((q : ℕ) → im.fetch q ≡ place start ops q) → Has im start ops
  has_placed start ops same = has_more start ops (λ q h. same q)

stands_at : (mem : List ℕ) (low p : ℕ) (op : Op) (w : ℕ) → p % 4 ≡ 0 → p + 4 ≤ low → Spells (lower p op) w
    → Reaches op → read mem p ≡ w → Stands mem low p op
stands_at mem low p op w aligned inside s r e =
    record { aligned = aligned; inside = inside; spells = subst (λ v. Spells (lower p op) v) (sym e) s; reaches = r }

-- code from lists of instructions and words that spell them
code_at : (mem : List ℕ) (low start : ℕ) (ops : List Op) (ws : List ℕ) → start % 4 ≡ 0 → start + 4 * length ops ≤ low
    → SpellsAll start ops ws → WordsIn mem start ws → (p : ℕ) (op : Op) → place start ops p ≡ Some op
    → Stands mem low p op
code_at mem low start [] ws aligned inside spelled there p op h = absurd cc
code_at mem low start (o ∷ ops) [] aligned inside spelled there p op h = absurd spelled
code_at mem low start (o ∷ ops) (w ∷ ws) aligned inside spelled there p op h =
    here (code_at mem low (start + 4) ops ws (omega arith) (omega arith) spelled.2 there.1 p op) (p == start) refl
  where
    here : (place (start + 4) ops p ≡ Some op → Stands mem low p op) → (b : Bool) → (p == start) ≡ b → Stands mem low p op
    here rest true e =
        let q : p ≡ start = eqb-true p start e in
        let found : Some o ≡ Some op = ap (λ b. if b then Some o else place (start + 4) ops p) (sym e) ∙ h in
        let first : o ≡ op = cc in
        let it = stands_at mem low start o w aligned (omega arith) spelled.0 spelled.1 there.0 in
        subst (λ x. Stands mem low x op) (sym q) (subst (λ x. Stands mem low start x) first it)
    here rest false e =
        let found : place (start + 4) ops p ≡ Some op = ap (λ b. if b then Some o else place (start + 4) ops p) (sym e) ∙ h in
        rest found

-- the code of an image that is placed as a list
pub code_in : {W E : Type 0} (im : Image W E) (mem : List ℕ) (start : ℕ) (ops : List Op) (ws : List ℕ)
    → ((q : ℕ) → im.fetch q ≡ place start ops q) → start % 4 ≡ 0 → start + 4 * length ops ≤ im.low → im.low < 2 ^ 32
    → SpellsAll start ops ws → WordsIn mem start ws → CodeIn im mem
code_in im mem start ops ws same aligned inside fits spelled there =
    record { stands = λ p op h. code_at mem im.low start ops ws aligned inside spelled there p op (sym (same p) ∙ h); low_fits = fits }

-- words stand in memory as their bytes
pub words_in : (front back : List ℕ) (ws : List ℕ) → All (λ w. w < 2 ^ 32) ws
    → WordsIn (front ++ (flat_map (λ w. little_bytes 4 w) ws ++ back)) (length front) ws
words_in front back [] small = tt
words_in front back (w ∷ ws) small =
    let first : w < 2 ^ 32 = small 0 0 (omega arith) in
    let rest : List ℕ = flat_map (λ v. little_bytes 4 v) ws ++ back in
    let more = words_in (front ++ little_bytes 4 w) back ws (λ k d h. small (suc k) d (omega arith)) in
    let joined = subst (λ m. WordsIn m (length (front ++ little_bytes 4 w)) ws) (append_assoc front (little_bytes 4 w) rest) more in
    let e : length (front ++ little_bytes 4 w) ≡ length front + 4 = omega (arith, length-append front (little_bytes 4 w)) in
    (read_placed front rest w first, subst (λ n. WordsIn (front ++ (little_bytes 4 w ++ rest)) n ws) e joined)
