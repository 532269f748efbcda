-- Lists, one element further.
use Rattle.std.proofs.Common.{◌≡◌, ◌∙◌, ◌+◌, ◌-◌, ◌<◌, ◌++◌, ◌∷◌, [], List, ap, sym, ℕ, suc, take, length, get_or, Some, slice_get, append_assoc, replicate, arith}
use Rattle.std.proofs.lemmas.List.{take_more, replicate-append-replicate}
use Rattle.std.proofs.lemmas.Option.{slice_get_within, get_or_from_slice_get}

-- the front of a list with one element more
pub take_next : {A : Type 0} (xs : List A) (k : ℕ) (x : A) → slice_get xs k ≡ Some x → take (k + 1) xs ≡ take k xs ++ x ∷ []
take_next xs k x e =
    let within : k < length xs = slice_get_within xs k x e in
    take_more xs k x within ∙ ap (λ y. take k xs ++ y ∷ []) (get_or_from_slice_get xs k x x e)

-- a list that is made of others element by element, one element further
pub front_step : (start before after whole : List ℕ) (k x : ℕ) → before ≡ start ++ take k whole → after ≡ before ++ x ∷ [] → slice_get whole k ≡ Some x → after ≡ start ++ take (k + 1) whole
front_step start before after whole k x b a there =
    a ∙ (ap (λ ws. ws ++ x ∷ []) b ∙ (append_assoc start (take k whole) (x ∷ []) ∙ ap (λ ws. start ++ ws) (sym (take_next whole k x there))))

-- a list with one element more, and then others
pub pushed : (before between after rest : List ℕ) (x : ℕ) → between ≡ before ++ x ∷ [] → after ≡ between ++ rest → after ≡ before ++ x ∷ rest
pushed before between after rest x one more = more ∙ (ap (λ ws. ws ++ rest) one ∙ append_assoc before (x ∷ []) rest)

-- a list with four elements more, and then others
pub pushed_four : (w0 w1 w2 w3 w4 w5 rest : List ℕ) (a b d e : ℕ) → w1 ≡ w0 ++ a ∷ [] → w2 ≡ w1 ++ b ∷ [] → w3 ≡ w2 ++ d ∷ [] → w4 ≡ w3 ++ e ∷ [] → w5 ≡ w4 ++ rest
    → w5 ≡ w0 ++ a ∷ b ∷ d ∷ e ∷ rest
pushed_four w0 w1 w2 w3 w4 w5 rest a b d e h1 h2 h3 h4 h5 =
    let last : w5 ≡ w3 ++ e ∷ rest = pushed w3 w4 w5 rest e h4 h5 in
    let third : w5 ≡ w2 ++ d ∷ e ∷ rest = pushed w2 w3 w5 (e ∷ rest) d h3 last in
    let second : w5 ≡ w1 ++ b ∷ d ∷ e ∷ rest = pushed w1 w2 w5 (d ∷ e ∷ rest) b h2 third in
    pushed w0 w1 w5 (b ∷ d ∷ e ∷ rest) a h1 second

-- zeros behind zeros
pub zeros_behind : (before between after : List ℕ) (a b : ℕ) → between ≡ before ++ replicate a 0 → after ≡ between ++ replicate b 0 → after ≡ before ++ replicate (a + b) 0
zeros_behind before between after a b one more =
    more ∙ (ap (λ ws. ws ++ replicate b 0) one ∙ (append_assoc before (replicate a 0) (replicate b 0) ∙ ap (λ ws. before ++ ws) (replicate-append-replicate a b 0)))

-- the last of so many
pub last_is : (xs : List ℕ) (n x : ℕ) → length xs ≡ suc n → slice_get xs n ≡ Some x → get_or xs (length xs - 1) 0 ≡ x
last_is xs n x count there =
    let place : length xs - 1 ≡ n = omega arith in
    ap (λ k. get_or xs k 0) place ∙ get_or_from_slice_get xs n x 0 there
