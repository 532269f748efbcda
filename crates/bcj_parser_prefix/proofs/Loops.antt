-- Loops that have a turn for each token that is left. Another run of such a loop may begin with other tokens, and so with
-- another count of turns: as each turn takes a token, both are enough. Where the loop comes to the end of the text both runs
-- have the same tokens, and so as many turns; there a turn need take none.
use Rattle.std.proofs.Common.{◌≡◌, ℕ, zero, suc, ◌<◌, ◌≤◌, Bool, true, false, [], ◌∷◌, ◌++◌, length, Ok, Err, if◌then◌else◌, refl, sym, ◌∙◌, ap, subst, arith, append_assoc, length-append}
use Rattle.bcj_parser_rules.specs.declared.terminal.Terminal.{Terminal}
use Rattle.bcj_parser_rules.specs.declared.stop.Stop.TheVariants.{TooMany}
use Rattle.bcj_parser_rules.specs.Lexemes.{Lexemes}
use Rattle.bcj_parser_rules.specs.Lexemes.{terminal_at}
use Rattle.bcj_parser_rules.specs.function.Steps.{Outcome, Parser, then_read, ◌>>=◌, pure, look, skip}
use Rattle.bcj_parser_rules.specs.Texts.{SameFirst}
use Rattle.bcj_parser_prefix.specs.Known.{Knows}
use Rattle.bcj_parser_prefix.proofs.Agreement.{same_whole, none_same, none_left, Shrinks, Match, agree_pure, agree_skip, terminal_same}

-- enough turns: no fewer than tokens, and at the end of the text the same
abbrev Enough : {A : Type 0} → ℕ → (ℕ → Parser A) → Lexemes → Outcome A → Type 0
Enough n q j o = (turns : ℕ) → length j ≤ turns → (o.1 ≡ [] → turns ≡ n) → q turns j ≡ o

-- a loop that has so many turns
pub record Loop {A : Type 0} (strict full : Bool) (n : ℕ) (p : Parser A) (q : ℕ → Parser A) : Type 0 where
  pub at : (i : Lexemes) → length i ≤ n → Knows strict full (Enough n q) i (p i)

-- a turn of a loop that has so many behind it
pub record Turn {A : Type 0} (strict full : Bool) (n : ℕ) (p : Parser A) (q : ℕ → Parser A) : Type 0 where
  pub at : (i : Lexemes) → length i ≤ suc n → Knows strict full (λ j o. (turns : ℕ) → length j ≤ suc turns → (o.1 ≡ [] → turns ≡ n) → q turns j ≡ o) i (p i)

pub turn_match : {A : Type 0} {strict full : Bool} {n : ℕ} {p q : Parser A} → Match false strict full p q → Turn strict full n p (λ turns. q)
turn_match {strict = strict} {full = full} {p = p} {q = q} h = record {
  at = λ i le. let k : Knows strict full (λ j y. q j ≡ y) i (p i) = h.at i in
      record { before = k.before; whole = k.whole; same = λ b s kept turns enough end. k.same b s kept };
}

-- a limit that is met is not kept
pub turn_too_many : {A : Type 0} {strict full : Bool} {n : ℕ} (q : ℕ → Parser A) → full ≡ false → Turn strict full n (λ i. (Err TooMany, i)) q
turn_too_many q e = record { at = λ i le. record { before = []; whole = refl; same = λ b s kept. absurd (cc) } }

no_lexemes : (i : Lexemes) → length i ≤ 0 → i ≡ []
no_lexemes [] le = refl
no_lexemes (t ∷ i) le = absurd (omega (arith, le))

pub loop_none : {A : Type 0} {strict full : Bool} {p : Parser A} (q : ℕ → Parser A) → Match false strict full p (q zero) → Loop strict full zero p q
loop_none {strict = strict} {full = full} {p = p} q h = record {
  at = λ i le. let k : Knows strict full (λ j y. q zero j ≡ y) i (p i) = h.at i in
      let left : (p i).1 ≡ [] = none_left k.before (p i).1 (sym (no_lexemes i le) ∙ k.whole) in
      record { before = k.before; whole = k.whole; same = λ b s kept turns enough end. ap (λ n. q n (k.before ++ b)) (end (none_same b (subst (λ y. SameFirst y b) left s))) ∙ k.same b s kept };
}

turns_left : {n : ℕ} (before b : Lexemes) (turns : ℕ) → length (before ++ b) ≤ turns → (b ≡ [] → turns ≡ suc n) → (m : ℕ) × (turns ≡ suc m)
turns_left before b (suc turns) enough end = (turns, refl)
turns_left before [] zero enough end = absurd (omega (arith, end refl))
turns_left before (u ∷ b) zero enough end = absurd (omega (arith, enough, length-append before (u ∷ b)))

pub loop_turn : {A : Type 0} {strict full : Bool} {n : ℕ} {p : Parser A} (q : ℕ → Parser A) → Turn strict full n p (λ turns. q (suc turns)) → Loop strict full (suc n) p q
loop_turn {strict = strict} {full = full} {n = n} {p = p} q h = record {
  at = λ i le. let k : Knows strict full (λ j o. (turns : ℕ) → length j ≤ suc turns → (o.1 ≡ [] → turns ≡ n) → q (suc turns) j ≡ o) i (p i) = h.at i le in
      record {
        before = k.before;
        whole = k.whole;
        same = λ b s kept turns enough end. let m = turns_left {n = n} k.before b turns enough end in
            ap (λ y. q y (k.before ++ b)) m.1 ∙ k.same b s kept m.0 (rw (← m.1) enough) (λ e. omega (arith, m.1, end e));
      };
}

pub turn_at : {A V : Type 0} {strict full : Bool} {n : ℕ} (view : Lexemes → V) → ((i j : Lexemes) → SameFirst i j → view i ≡ view j) → {f : V → Parser A} (g : ℕ → V → Parser A)
    → ((v : V) → Turn strict full n (f v) (λ turns. g turns v)) → Turn strict full n (λ i. f (view i) i) (λ turns i. g turns (view i) i)
turn_at {strict = strict} {full = full} {n = n} view same {f = f} g h = record {
  at = λ i le. let k : Knows strict full (λ j o. (turns : ℕ) → length j ≤ suc turns → (o.1 ≡ [] → turns ≡ n) → g turns (view i) j ≡ o) i (f (view i) i) = (h (view i)).at i le in
      record {
        before = k.before;
        whole = k.whole;
        same = λ b s kept turns enough end.
            let there : SameFirst i (k.before ++ b) = subst (λ y. SameFirst y (k.before ++ b)) (sym k.whole) (same_whole k.before (f (view i) i).1 b s) in
            ap (λ v. g turns v (k.before ++ b)) (sym (same i (k.before ++ b) there)) ∙ k.same b s kept turns enough end;
      };
}

pub turn_look : {A : Type 0} {strict full : Bool} {n : ℕ} {f : Terminal → Parser A} (g : ℕ → Terminal → Parser A) → ((k : Terminal) → Turn strict full n (f k) (λ turns. g turns k))
    → Turn strict full n (look f) (λ turns. look (g turns))
turn_look g h = turn_at terminal_at terminal_same g h

pub turn_if : {A : Type 0} {strict full : Bool} {n : ℕ} (test : Terminal → Bool) {p p' : Parser A} {q q' : ℕ → Parser A} → Turn strict full n p q → Turn strict full n p' q'
    → Turn strict full n (λ i. if test (terminal_at i) then p i else p' i) (λ turns i. if test (terminal_at i) then q turns i else q' turns i)
turn_if {strict = strict} {full = full} {n = n} test {p = p} {p' = p'} {q = q} {q' = q'} a b =
    turn_at terminal_at terminal_same {f = λ k i. if test k then p i else p' i} (λ turns k i. if test k then q turns i else q' turns i) (λ k. by (test k))
  where
    by : (c : Bool) → Turn strict full n (λ i. if c then p i else p' i) (λ turns i. if c then q turns i else q' turns i)
    by true = a
    by false = b

-- a first step in front of turns that are enough for what it leaves
abbrev Bound : {A B : Type 0} → ℕ → Parser A → (ℕ → A → Parser B) → Lexemes → Outcome B → Type 0
Bound n q g j o = (turns : ℕ) → length j ≤ suc turns → (o.1 ≡ [] → turns ≡ n) → then_read (q j) (g turns) ≡ o

bind_turn : {A B : Type 0} {strict full : Bool} {n : ℕ} {q : Parser A} (f : A → Parser B) (g : ℕ → A → Parser B) (i : Lexemes) (o : Outcome A) → Knows strict full (λ j y. q j ≡ y) i o
    → Shrinks i o → length i ≤ suc n → ((x : A) → Loop strict full n (f x) (λ turns. g turns x)) → Knows strict full (Bound n q g) i (then_read o f)
bind_turn {q = q} f g i (Err e, a) k takes le h = record {
  before = k.before;
  whole = k.whole;
  same = λ b s kept turns enough end. ap (λ y. then_read y (g turns)) (k.same b s kept);
}
bind_turn {strict = strict} {full = full} {n = n} {q = q} f g i (Ok x, a) k takes le h =
    let m : Knows strict full (Enough n (λ turns. g turns x)) a (f x a) = (h x).at a (fits i a k.before k.whole le takes) in
    record {
      before = k.before ++ m.before;
      whole = k.whole ∙ ap (λ y. k.before ++ y) m.whole ∙ sym (append_assoc k.before m.before (f x a).1);
      same = λ b s kept turns enough end.
          let there : SameFirst a (m.before ++ b) = subst (λ y. SameFirst y (m.before ++ b)) (sym m.whole) (same_whole m.before (f x a).1 b s) in
          let enough' : length (m.before ++ b) ≤ turns = left i a k.before m.before (f x a).1 b turns k.whole m.whole s enough end le takes in
          ap (λ y. then_read (q y) (g turns)) (append_assoc k.before m.before b) ∙ ap (λ y. then_read y (g turns)) (k.same (m.before ++ b) there tt) ∙ m.same b s kept turns enough' end;
    }
  where
    fits : (i a before : Lexemes) → i ≡ before ++ a → length i ≤ suc n → (0 < length i → length a < length i) → length a ≤ n
    fits [] a before e le takes = omega (arith, ap length (none_left before a e))
    fits (t ∷ i) a before e le takes = omega (arith, le, takes (omega arith))

    left : (i a before between c b : Lexemes) (turns : ℕ) → i ≡ before ++ a → a ≡ between ++ c → SameFirst c b → length (before ++ between ++ b) ≤ suc turns → (b ≡ [] → turns ≡ n)
        → length i ≤ suc n → (0 < length i → length a < length i) → length (between ++ b) ≤ turns
    left i a before between [] [] turns e e2 s enough end le takes = omega (arith, fits i a before e le takes, end refl, ap length e2, length-append between [])
    left i a before between [] (u ∷ b) turns e e2 s enough end le takes = absurd s
    left i a before between (t ∷ c) [] turns e e2 s enough end le takes = absurd s
    left i a before between (t ∷ c) (u ∷ b) turns e e2 s enough end le takes =
        let some : 0 < length i = omega (arith, ap length e, length-append before a, ap length e2, length-append between (t ∷ c)) in
        omega (arith, takes some, ap length e, length-append before a, enough, length-append (before ++ between) (u ∷ b), length-append before between, length-append between (u ∷ b))

-- each turn takes a token
pub turn_bind : {A B : Type 0} {strict full : Bool} {n : ℕ} {p q : Parser A} {f : A → Parser B} (g : ℕ → A → Parser B) → Match true strict full p q
    → ((x : A) → Loop strict full n (f x) (λ turns. g turns x)) → Turn strict full n (p >>= f) (λ turns. q >>= g turns)
turn_bind {p = p} {f = f} g a b = record { at = λ i le. bind_turn f g i (p i) (a.at i) (a.takes refl i) le b }

pub turn_skip : {A : Type 0} {strict full : Bool} {n : ℕ} {p : Parser A} (q : ℕ → Parser A) → Loop strict full n p q → Turn strict full n (skip p) (λ turns. skip (q turns))
turn_skip {p = p} q h = turn_bind {A = Unit {0}} {p = skip (pure tt)} {q = skip (pure tt)} {f = λ u. p} (λ turns u. q turns) (agree_skip agree_pure) (λ u. h)

same_none : (a b : Lexemes) → b ≡ [] → SameFirst a b → a ≡ []
same_none [] b e s = refl
same_none (t ∷ a) [] e s = absurd s
same_none (t ∷ a) (u ∷ b) e s = absurd (cc)

-- as many turns as tokens
pub agree_loop : {A : Type 0} {strict full : Bool} (p q : ℕ → Parser A) → ((n : ℕ) → Loop strict full n (p n) q) → Match false strict full (λ i. p (length i) i) (λ i. q (length i) i)
agree_loop {strict = strict} {full = full} p q h = record {
  at = λ i. let k : Knows strict full (Enough (length i) q) i (p (length i) i) = (h (length i)).at i (omega arith) in
      record {
        before = k.before;
        whole = k.whole;
        same = λ b s kept. k.same b s kept (length (k.before ++ b)) (omega arith) (λ e.
            ap length (ap (λ y. k.before ++ y) (e ∙ sym (same_none (p (length i) i).1 b e s)) ∙ sym k.whole));
      };
  takes = λ s. absurd (cc);
}
