-- A front that is shorter than what was asked for is all there was.
use Rattle.std.proofs.Common.{◌≡◌, ℕ, ◌+◌, ◌≤◌, List, [], ◌++◌, length, take, Option, Some, None, IfSome, option_map, ap, sym, ◌∙◌, arith}
use Rattle.std.proofs.Math.ListN.{drop_of_length-le}
use Rattle.std.proofs.lemmas.List.{append-nil, length-take, take-append-drop}

take_all : (n : ℕ) (xs : List ℕ) → length xs ≤ n → take n xs ≡ xs
take_all n xs h =
    sym (append-nil (take n xs)) ∙ ap (λ t. take n xs ++ t) (sym (drop_of_length-le xs h)) ∙ take-append-drop n xs

-- into the empty list old, at most asked bytes were read of what was left, and no more than the limit came
pub all_read : (left : Option (List ℕ)) (limit asked : ℕ) (old new bytes : List ℕ)
    → old ≡ [] → bytes ≡ new → asked ≡ limit + 1 → length new ≤ limit
    → IfSome (option_map (take asked) left) (λ xs. new ≡ old ++ xs) → IfSome left (λ xs. bytes ≡ xs)
all_read None limit asked old new bytes none same one_more short read = tt
all_read (Some xs) limit asked old new bytes none same one_more short read =
    let front : new ≡ take asked xs = read ∙ ap (λ t. t ++ take asked xs) none in
    let within : length xs ≤ asked = omega (arith, length-take asked xs, ap length front) in
    same ∙ front ∙ take_all asked xs within
