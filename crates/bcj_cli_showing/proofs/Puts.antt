-- What a loop of puts keeps: a front of the bytes is taken, and the rest is still to come.
use Rattle.std.proofs.Common.{◌≡◌, ◌-◌, ◌≤◌, ℕ, List, [], ◌++◌, length, take, drop, Option, refl, ap, sym, subst, ◌∙◌, arith, append_assoc}
use Rattle.std.proofs.Math.Seq.{take-length}
use Rattle.std.proofs.lemmas.List.{take-append-drop, length-drop}
use Rattle.bcj_edge.specs.Causes.{Rose, Appends, AppendsFront}
use Rattle.bcj_edge.specs.Pieces.{appends_nothing, appends_twice, appends_then_front, front_of_front}

-- a front that was taken, and the rest
pub record Put (old new : Option (List ℕ)) (before now : ℕ) (bytes rest : List ℕ) : Type 0 where
  pub front : List ℕ
  pub split : bytes ≡ front ++ rest
  pub taken : Appends old new front
  pub later : before ≤ now

-- nothing is put yet
pub put_start : (a : Option (List ℕ)) (n : ℕ) (bytes : List ℕ) → Put a a n n bytes bytes
put_start a n bytes = record { front = []; split = refl; taken = appends_nothing a; later = omega arith }

-- a slice from an index on, as code takes it
rest_whole : (n : ℕ) (xs : List ℕ) → take (length xs - n) (drop n xs) ≡ drop n xs
rest_whole n xs = ap (λ k. take k (drop n xs)) (sym (length-drop n xs)) ∙ take-length (drop n xs)

-- one piece more
pub put_more : (a b c : Option (List ℕ)) (k m n : ℕ) (bytes rest : List ℕ) (count : ℕ) → Put a b k m bytes rest → Appends b c (take count rest) → m ≤ n → Put a c k n bytes (take (length rest - count) (drop count rest))
put_more a b c k m n bytes rest count p took later =
    let before : k ≤ m = p.later in
    record {
      front = p.front ++ take count rest;
      split =
          p.split
          ∙ ap (λ l. p.front ++ l) (sym (take-append-drop count rest) ∙ ap (λ l. take count rest ++ l) (sym (rest_whole count rest)))
          ∙ sym (append_assoc p.front (take count rest) (take (length rest - count) (drop count rest)));
      taken = appends_twice a b c p.front (take count rest) p.taken took;
      later = omega arith;
    }

-- all bytes
pub put_all : (a b c : Option (List ℕ)) (k m : ℕ) (bytes rest : List ℕ) → Put a b k m bytes rest → Appends b c rest → Appends a c bytes
put_all a b c k m bytes rest p took = rw p.split (appends_twice a b c p.front rest p.taken took)

-- a front of them, where the last put took a front of what was left
pub put_part : (a b c : Option (List ℕ)) (k m : ℕ) (bytes rest : List ℕ) → Put a b k m bytes rest → AppendsFront b c rest → AppendsFront a c bytes
put_part a b c k m bytes rest p took = rw p.split (appends_then_front a b c p.front rest p.taken took)

-- a count that rose behind others rose
pub rose_later : (k m n : ℕ) → k ≤ m → Rose m n → Rose k n
rose_later k m n before rose = omega arith

-- a front of them, where the last put took a front of a piece
pub put_piece_part : (a b c : Option (List ℕ)) (k m : ℕ) (bytes rest : List ℕ) (count : ℕ) → Put a b k m bytes rest → AppendsFront b c (take count rest) → AppendsFront a c bytes
put_piece_part a b c k m bytes rest count p took =
    let P : List ℕ → Type 0 = λ l. AppendsFront b c l in
    put_part a b c k m bytes rest p (subst P (take-append-drop count rest) (front_of_front b c (take count rest) (drop count rest) took))
