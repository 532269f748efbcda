-- What a loop of short writes keeps: a front of the bytes is written, and the rest is still to come.
use Rattle.std.proofs.Common.{◌≡◌, ℕ, List, [], ◌++◌, length, take, drop, Option, Some, None, refl, ap, sym, ◌∙◌, append_assoc}
use Rattle.std.proofs.lemmas.List.{append-nil, take-append-drop, nil_from_length}
use Rattle.std.specs.Io.KnownBytes as known
use Rattle.bcj_edge.specs.Causes.{Appends, AppendsFront}
use Rattle.bcj_edge.specs.Pieces.{appends_nothing, front_of_front, front_of_whole}

pub record Written (old new : Option (List ℕ)) (bytes rest : List ℕ) : Type 0 where
  pub front : List ℕ
  pub split : bytes ≡ front ++ rest
  pub taken : Appends old new front

keeps_same : (b c : Option (List ℕ)) (ys : List ℕ) → b ≡ Some ys → known.Keeps b c → c ≡ Some ys
keeps_same None c ys e k = cc
keeps_same (Some xs) None ys e k = absurd k
keeps_same (Some xs) (Some zs) ys e k = ap (λ (t : List ℕ). Some t) k ∙ e

appends_same : (b c : Option (List ℕ)) (ys piece : List ℕ) → b ≡ Some ys → known.Appends b c piece → c ≡ Some (ys ++ piece)
appends_same None c ys piece e k = cc
appends_same (Some xs) None ys piece e k = absurd k
appends_same (Some xs) (Some zs) ys piece e k = cc

pub written_start : (a : Option (List ℕ)) (bytes : List ℕ) → Written a a bytes bytes
written_start a bytes = record { front = []; split = refl; taken = appends_nothing a }

pub written_same : (a b c : Option (List ℕ)) (bytes rest : List ℕ) → Written a b bytes rest → known.Keeps b c → Written a c bytes rest
written_same None b c bytes rest w k = record { front = w.front; split = w.split; taken = tt }
written_same (Some xs) b c bytes rest w k =
    record { front = w.front; split = w.split; taken = keeps_same b c (xs ++ w.front) w.taken k }

pub written_more : (a b c : Option (List ℕ)) (bytes rest : List ℕ) (n : ℕ)
    → Written a b bytes rest → known.Appends b c (take n rest) → Written a c bytes (drop n rest)
written_more a b c bytes rest n w k = record {
  front = w.front ++ take n rest;
  split = w.split ∙ ap (λ t. w.front ++ t) (sym (take-append-drop n rest)) ∙ sym (append_assoc w.front (take n rest) (drop n rest));
  taken = more a w.taken;
}
  where
    more : (a : Option (List ℕ)) → Appends a b w.front → Appends a c (w.front ++ take n rest)
    more None t = tt
    more (Some xs) t = appends_same b c (xs ++ w.front) (take n rest) t k ∙ ap (λ (t : List ℕ). Some t) (append_assoc xs w.front (take n rest))

pub written_all : (a b : Option (List ℕ)) (bytes rest : List ℕ) → Written a b bytes rest → length rest ≡ 0 → Appends a b bytes
written_all None b bytes rest w e = tt
written_all (Some xs) b bytes rest w e =
    let none : rest ≡ [] = nil_from_length rest e in
    let whole : bytes ≡ w.front = w.split ∙ ap (λ t. w.front ++ t) none ∙ append-nil w.front in
    w.taken ∙ ap (λ t. Some (xs ++ t)) (sym whole)

pub written_front : (a b : Option (List ℕ)) (bytes rest : List ℕ) → Written a b bytes rest → AppendsFront a b bytes
written_front a b bytes rest w =
    rw w.split (front_of_front a b w.front rest (front_of_whole a b w.front w.taken))
