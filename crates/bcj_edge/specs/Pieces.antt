-- Laws of what sinks took, for callers that put a text piece by piece.
use Rattle.std.specs.Prelude.{◌≡◌, ℕ, ◌+◌, ◌≤◌, List, [], ◌++◌, length, take, Option, Some, None, IfSome}
use Rattle.std.proofs.Common.{ap, sym, subst, ◌∙◌, append_assoc, arith, length-append, append-nil}
use Rattle.std.proofs.Math.Seq.{take-append-add, take-length}
use Rattle.std.proofs.lemmas.List.{take-append-le}
use Rattle.bcj_edge.specs.Causes.{Appends, AppendsFront}

-- a piece and then another one are the two together
pub appends_twice : (a b c : Option (List ℕ)) (x y : List ℕ) → Appends a b x → Appends b c y → Appends a c (x ++ y)
appends_twice None b c x y p q = tt
appends_twice (Some xs) b c x y p q =
    let P : Option (List ℕ) → Type 0 = λ t. IfSome t (λ ys. c ≡ Some (ys ++ y)) in
    let r : c ≡ Some ((xs ++ x) ++ y) = subst P p q in
    r ∙ ap (λ ys. Some ys) (append_assoc xs x y)

-- a front of a piece is a front of what begins with the piece
pub front_of_front : (a b : Option (List ℕ)) (x y : List ℕ) → AppendsFront a b x → AppendsFront a b (x ++ y)
front_of_front None b x y p = tt
front_of_front (Some xs) b x y p =
    let within : p.0 ≤ length x = p.1 in
    let longer : p.0 ≤ length (x ++ y) = omega (arith, length-append x y) in
    (p.0, longer, p.2 ∙ ap (λ ys. Some (xs ++ ys)) (sym (take-append-le p.0 x y within)))

-- a piece and then a front of another one are a front of the two together
pub appends_then_front : (a b c : Option (List ℕ)) (x y : List ℕ) → Appends a b x → AppendsFront b c y → AppendsFront a c (x ++ y)
appends_then_front None b c x y p q = tt
appends_then_front (Some xs) b c x y p q =
    let P : Option (List ℕ) → Type 0 = λ t. IfSome t (λ ys. (n : ℕ) × (n ≤ length y) × (c ≡ Some (ys ++ take n y))) in
    let r : (n : ℕ) × (n ≤ length y) × (c ≡ Some ((xs ++ x) ++ take n y)) = subst P p q in
    let within : r.0 ≤ length y = r.1 in
    let longer : length x + r.0 ≤ length (x ++ y) = omega (arith, length-append x y) in (
      length x + r.0,
      longer,
      r.2 ∙ ap (λ ys. Some ys) (append_assoc xs x (take r.0 y)) ∙ ap (λ ys. Some (xs ++ ys)) (sym (take-append-add x y r.0)),
    )

-- a whole piece is a front of it
pub front_of_whole : (a b : Option (List ℕ)) (x : List ℕ) → Appends a b x → AppendsFront a b x
front_of_whole None b x p = tt
front_of_whole (Some xs) b x p =
    (length x, omega arith, p ∙ ap (λ ys. Some (xs ++ ys)) (sym (take-length x)))

-- an empty piece appends nothing
pub appends_nothing : (a : Option (List ℕ)) → Appends a a []
appends_nothing None = tt
appends_nothing (Some xs) = ap (λ ys. Some ys) (sym (append-nil xs))

-- nothing is a front of every piece
pub front_of_nothing : (a : Option (List ℕ)) (x : List ℕ) → AppendsFront a a x
front_of_nothing None x = tt
front_of_nothing (Some xs) x = (0, omega arith, ap (λ ys. Some ys) (sym (append-nil xs)))
