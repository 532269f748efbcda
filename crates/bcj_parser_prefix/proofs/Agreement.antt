-- Parsers that agree: outcomes, steps one behind the other, and choices by the next token. A lemma for each way to put
-- parsers together, so that the agreement of a parser has its shape.
use Rattle.std.proofs.Common.{◌≡◌, ℕ, ◌<◌, ◌≤◌, Bool, true, false, [], ◌∷◌, ◌++◌, length, Ok, Err, if◌then◌else◌, refl, sym, ◌∙◌, ap, subst, arith, append_assoc, length-append}
use Rattle.bcj_parser_rules.specs.declared.kind.Mark.{Mark}
use Rattle.bcj_parser_rules.specs.declared.kind.Mark.TheVariants as mark
use Rattle.bcj_parser_rules.specs.declared.terminal.Terminal.{Terminal}
use Rattle.bcj_parser_rules.specs.declared.stop.Site.{Site}
use Rattle.bcj_parser_rules.specs.declared.stop.Stop.TheVariants.{Refused, TooDeep, TooMany}
use Rattle.bcj_parser_rules.specs.Lexemes.{Lexeme, Lexemes}
use Rattle.bcj_parser_rules.specs.Lexemes.{first_at}
use Rattle.bcj_parser_rules.specs.Lexemes.{first, terminal_at}
use Rattle.bcj_parser_rules.specs.Marks.{is_mark}
use Rattle.bcj_parser_rules.specs.function.Steps.{Outcome, Parser, then_read, ◌>>=◌, ◌>>◌, pure, refuse, deep, rest, look, here, skip, taken, sees, expect, named}
use Rattle.bcj_parser_rules.specs.Texts.{SameFirst}
use Rattle.bcj_parser_prefix.specs.Known.{Kept, Knows, Agrees}

-- ---- tokens

pub same_whole : (before a b : Lexemes) → SameFirst a b → SameFirst (before ++ a) (before ++ b)
same_whole [] a b s = s
same_whole (t ∷ r) a b s = refl

first_same : (i j : Lexemes) → SameFirst i j → first i ≡ first j
first_same [] [] s = refl
first_same [] (u ∷ j) s = absurd s
first_same (t ∷ i) [] s = absurd s
first_same (t ∷ i) (u ∷ j) s = s

pub at_same : (i j : Lexemes) → SameFirst i j → first_at i ≡ first_at j
at_same [] [] s = refl
at_same [] (u ∷ j) s = absurd s
at_same (t ∷ i) [] s = absurd s
at_same (t ∷ i) (u ∷ j) s = ap (λ k. k.at) s

pub none_same : (b : Lexemes) → SameFirst [] b → b ≡ []
none_same [] s = refl
none_same (t ∷ b) s = absurd s

none_whole : (before a : Lexemes) → [] ≡ before ++ a → before ≡ []
none_whole [] a e = refl
none_whole (t ∷ r) a e = absurd (cc)

pub none_left : (before a : Lexemes) → [] ≡ before ++ a → a ≡ []
none_left [] a e = sym e
none_left (t ∷ r) a e = absurd (cc)

-- ---- parsers

-- an outcome that is no stop leaves fewer tokens, where there are any
abbrev pub Shrinks : {A : Type 0} → Lexemes → Outcome A → Type 0
Shrinks i o = elim o.0 [ Ok x ↦ 0 < length i → length o.1 < length i | Err e ↦ Unit {0} ]

-- the second answers as the first does; where some are to be taken, the first takes a token at least, as the turns of a
-- loop have to
pub record Match {A : Type 0} (some strict full : Bool) (p q : Parser A) : Type 0 where
  pub at : Agrees strict full p q
  pub takes : some ≡ true → (i : Lexemes) → Shrinks i (p i)

bind_knows : {A B : Type 0} {strict full : Bool} {q : Parser A} (f g : A → Parser B) (i : Lexemes) (o : Outcome A) → Knows strict full (λ j y. q j ≡ y) i o
    → ((x : A) (a : Lexemes) → o ≡ (Ok x, a) → Knows strict full (λ j y. g x j ≡ y) a (f x a)) → Knows strict full (λ j y. then_read (q j) g ≡ y) i (then_read o f)
bind_knows {q = q} f g i (Err e, a) k h = record { before = k.before; whole = k.whole; same = λ b s kept. ap (λ y. then_read y g) (k.same b s kept) }
bind_knows {q = q} f g i (Ok x, a) k h =
    let m : Knows _ _ (λ j y. g x j ≡ y) a (f x a) = h x a refl in
    record {
      before = k.before ++ m.before;
      whole = k.whole ∙ ap (λ y. k.before ++ y) m.whole ∙ sym (append_assoc k.before m.before (f x a).1);
      same = λ b s kept.
          let there : SameFirst a (m.before ++ b) = subst (λ y. SameFirst y (m.before ++ b)) (sym m.whole) (same_whole m.before (f x a).1 b s) in
          ap (λ y. then_read (q y) g) (append_assoc k.before m.before b) ∙ ap (λ y. then_read y g) (k.same (m.before ++ b) there tt) ∙ m.same b s kept;
    }

-- no outcome leaves more tokens than there were
keeps : {A : Type 0} {strict full : Bool} {Q : Lexemes → Outcome A → Type 0} (i : Lexemes) (o : Outcome A) → Knows strict full Q i o → length o.1 ≤ length i
keeps i o k = omega (arith, ap length k.whole, length-append k.before o.1)

takes_first : {A B : Type 0} (f : A → Parser B) (i : Lexemes) (o : Outcome A) → Shrinks i o → ((x : A) (a : Lexemes) → o ≡ (Ok x, a) → length (f x a).1 ≤ length a) → Shrinks i (then_read o f)
takes_first f i (Err e, a) s h = tt
takes_first f i (Ok x, a) s h = shrinks_on a i (f x a) (h x a refl) s
  where
    shrinks_on : {A : Type 0} (a i : Lexemes) (o : Outcome A) → length o.1 ≤ length a → (0 < length i → length a < length i) → Shrinks i o
    shrinks_on a i (Err e, c) le s = tt
    shrinks_on a i (Ok y, c) le s = λ some. omega (arith, le, s some)

takes_second : {A B : Type 0} (f : A → Parser B) (i : Lexemes) (o : Outcome A) → length o.1 ≤ length i → ((x : A) (a : Lexemes) → Shrinks a (f x a)) → ((x : A) (a : Lexemes) → length (f x a).1 ≤ length a) → Shrinks i (then_read o f)
takes_second f i (Err e, a) le s h = tt
takes_second f i (Ok x, a) le s h = shrinks_on a i (f x a) le (s x a) (h x a)
  where
    shrinks_on : {A : Type 0} (a i : Lexemes) (o : Outcome A) → length a ≤ length i → Shrinks a o → length o.1 ≤ length a → Shrinks i o
    shrinks_on a i (Err e, c) le s h = tt
    shrinks_on [] i (Ok y, c) le s h = λ some. omega (arith, h, some)
    shrinks_on (t ∷ a) i (Ok y, c) le s h = λ some. omega (arith, le, s (omega arith))

-- ---- steps

pub agree_bind : {A B : Type 0} {some strict full : Bool} {p q : Parser A} {f g : A → Parser B} → Match some strict full p q → ((x : A) → Match false strict full (f x) (g x))
    → Match some strict full (p >>= f) (q >>= g)
agree_bind {p = p} {f = f} {g = g} a b = record {
  at = λ i. bind_knows f g i (p i) (a.at i) (λ x m e. (b x).at m);
  takes = λ s i. takes_first f i (p i) (a.takes s i) (λ x m e. keeps m (f x m) ((b x).at m));
}

-- where it is known what the first reads
pub agree_where : {A B : Type 0} {some strict full : Bool} {p q : Parser A} {f g : A → Parser B} (P : A → Type 0) → Match some strict full p q
    → ((i : Lexemes) (x : A) (m : Lexemes) → p i ≡ (Ok x, m) → P x) → ((x : A) → P x → Match false strict full (f x) (g x)) → Match some strict full (p >>= f) (q >>= g)
agree_where {p = p} {f = f} {g = g} P a reads b = record {
  at = λ i. bind_knows f g i (p i) (a.at i) (λ x m e. (b x (reads i x m e)).at m);
  takes = λ s i. takes_first f i (p i) (a.takes s i) (λ x m e. keeps m (f x m) ((b x (reads i x m e)).at m));
}

-- what takes a token where none need be taken
pub agree_any : {A : Type 0} {some strict full : Bool} {p q : Parser A} → Match true strict full p q → Match some strict full p q
agree_any h = record { at = h.at; takes = λ s i. h.takes refl i }

-- the same outcomes
pub agree_is : {A : Type 0} {some strict full : Bool} {p p' q : Parser A} → ((i : Lexemes) → p i ≡ p' i) → Match some strict full p q → Match some strict full p' q
agree_is {strict = strict} {full = full} {q = q} e h = record {
  at = λ i. subst (λ o. Knows strict full (λ j y. q j ≡ y) i o) (e i) (h.at i);
  takes = λ s i. subst (λ o. Shrinks i o) (e i) (h.takes s i);
}

-- where the second takes a token
pub agree_behind : {A B : Type 0} {some strict full : Bool} {p q : Parser A} {f g : A → Parser B} → Match false strict full p q → ((x : A) → Match some strict full (f x) (g x))
    → Match some strict full (p >>= f) (q >>= g)
agree_behind {p = p} {f = f} {g = g} a b = record {
  at = λ i. bind_knows f g i (p i) (a.at i) (λ x m e. (b x).at m);
  takes = λ s i. takes_second f i (p i) (keeps i (p i) (a.at i)) (λ x m. (b x).takes s m) (λ x m. keeps m (f x m) ((b x).at m));
}

pub agree_then : {A B : Type 0} {some strict full : Bool} {p q : Parser A} {p' q' : Parser B} → Match some strict full p q → Match false strict full p' q'
    → Match some strict full (p >> p') (q >> q')
agree_then a b = agree_bind a (λ _. b)

-- ---- outcomes

stays : {A : Type 0} {strict full : Bool} {q : Parser A} (i : Lexemes) (o : Outcome A) → o.1 ≡ i → ((b : Lexemes) → SameFirst i b → Kept strict full o.0 → q b ≡ (o.0, b)) → Knows strict full (λ j y. q j ≡ y) i o
stays i o e h = record { before = []; whole = sym e; same = λ b s kept. h b (subst (λ y. SameFirst y b) e s) kept }

pub agree_pure : {A : Type 0} {strict full : Bool} {x : A} → Match false strict full (pure x) (pure x)
agree_pure {x = x} = record { at = λ i. stays i (Ok x, i) refl (λ b s k. refl); takes = λ s. absurd (cc) }

pub agree_refuse : {A : Type 0} {some strict full : Bool} {w : Site} → Match {A = A} some strict full (refuse w) (refuse w)
agree_refuse {w = w} = record { at = λ i. stays i (Err (Refused w), i) refl (λ b s k. refl); takes = λ s i. tt }

-- no room, where the other parser has none either if the rooms are the same
pub agree_deep : {A : Type 0} {some strict full : Bool} {q : Parser A} → (strict ≡ true → (b : Lexemes) → q b ≡ (Err TooDeep, b)) → Match some strict full deep q
agree_deep h = record { at = λ i. stays i (Err TooDeep, i) refl (λ b s k. h k b); takes = λ s i. tt }

-- no room, where the other is larger
pub agree_lost : {A : Type 0} {some strict full : Bool} {q : Parser A} → strict ≡ false → Match some strict full deep q
agree_lost e = agree_deep (λ s. absurd (cc))

pub agree_too_many : {A : Type 0} {some strict full : Bool} → Match {A = A} some strict full (λ i. (Err TooMany, i)) (λ i. (Err TooMany, i))
agree_too_many = record { at = λ i. stays i (Err TooMany, i) refl (λ b s k. refl); takes = λ s i. tt }

-- ---- the next token

-- what is seen of the tokens by the first one alone is the same in front of other tokens
at_knows : {A V : Type 0} {strict full : Bool} (view : Lexemes → V) → ((i j : Lexemes) → SameFirst i j → view i ≡ view j) → (g : V → Parser A) (i : Lexemes) (o : Outcome A)
    → Knows strict full (λ j y. g (view i) j ≡ y) i o → Knows strict full (λ j y. g (view j) j ≡ y) i o
at_knows view same g i o k = record {
  before = k.before;
  whole = k.whole;
  same = λ b s kept.
      let there : SameFirst i (k.before ++ b) = subst (λ y. SameFirst y (k.before ++ b)) (sym k.whole) (same_whole k.before o.1 b s) in
      ap (λ v. g v (k.before ++ b)) (sym (same i (k.before ++ b) there)) ∙ k.same b s kept;
}

pub agree_at : {A V : Type 0} {some strict full : Bool} (view : Lexemes → V) → ((i j : Lexemes) → SameFirst i j → view i ≡ view j) → {f g : V → Parser A}
    → ((v : V) → Match some strict full (f v) (g v)) → Match some strict full (λ i. f (view i) i) (λ i. g (view i) i)
agree_at view same {f = f} {g = g} h = record {
  at = λ i. at_knows view same g i (f (view i) i) ((h (view i)).at i);
  takes = λ s i. (h (view i)).takes s i;
}

pub terminal_same : (i j : Lexemes) → SameFirst i j → terminal_at i ≡ terminal_at j
terminal_same i j s = ap (λ k. k.terminal) (first_same i j s)

pub agree_look : {A : Type 0} {some strict full : Bool} {f g : Terminal → Parser A} → ((k : Terminal) → Match some strict full (f k) (g k)) → Match some strict full (look f) (look g)
agree_look h = agree_at terminal_at terminal_same h

pub agree_here : {A : Type 0} {some strict full : Bool} {f g : ℕ → Parser A} → ((at : ℕ) → Match some strict full (f at) (g at)) → Match some strict full (here f) (here g)
agree_here h = agree_at first_at at_same h

-- a choice by a test of the next terminal
pub agree_if : {A : Type 0} {some strict full : Bool} (test : Terminal → Bool) {p q p' q' : Parser A} → Match some strict full p q → Match some strict full p' q'
    → Match some strict full (λ i. if test (terminal_at i) then p i else p' i) (λ i. if test (terminal_at i) then q i else q' i)
agree_if {some = some} {strict = strict} {full = full} test {p = p} {q = q} {p' = p'} {q' = q'} a b = agree_at terminal_at terminal_same {f = λ k i. if test k then p i else p' i} {g = λ k i. if test k then q i else q' i} (λ k. by (test k))
  where
    by : (c : Bool) → Match some strict full (λ i. if c then p i else p' i) (λ i. if c then q i else q' i)
    by true = a
    by false = b

-- a choice by what is known before
pub agree_choice : {A : Type 0} {some strict full : Bool} (c : Bool) {p q p' q' : Parser A} → Match some strict full p q → Match some strict full p' q'
    → Match some strict full (if c then p else p') (if c then q else q')
agree_choice true a b = a
agree_choice false a b = b

taken_knows : {A : Type 0} {strict full : Bool} (f g : Lexeme → Parser A) → ((t : Lexeme) → Agrees strict full (f t) (g t)) → Agrees strict full (taken f) (taken g)
taken_knows f g h [] =
    let k : Knows _ _ (λ j y. g (first []) j ≡ y) [] (f (first []) []) = h (first []) [] in
    record {
      before = [];
      whole = sym (none_left k.before (f (first []) []).1 k.whole);
      same = λ b s kept.
          let b_is : b ≡ [] = none_same b (subst (λ y. SameFirst y b) (none_left k.before (f (first []) []).1 k.whole) s) in
          let e : g (first []) (k.before ++ b) ≡ ((f (first []) []).0, b) = k.same b s kept in
          ap (λ y. g (first y) (rest y)) b_is ∙ ap (g (first [])) (sym (ap (λ y. y ++ b) (none_whole k.before (f (first []) []).1 k.whole) ∙ b_is)) ∙ e;
    }
taken_knows f g h (t ∷ r) =
    let k : Knows _ _ (λ j y. g t j ≡ y) r (f t r) = h t r in
    record { before = t ∷ k.before; whole = ap (λ y. t ∷ y) k.whole; same = λ b s kept. k.same b s kept }

taken_takes : {A : Type 0} (i : Lexemes) (o : Outcome A) → length o.1 ≤ length (rest i) → Shrinks i o
taken_takes i (Err e, a) le = tt
taken_takes [] (Ok x, a) le = λ some. absurd (omega (arith, some))
taken_takes (t ∷ r) (Ok x, a) le = λ some. omega (arith, le)

pub agree_taken : {A : Type 0} {some strict full : Bool} {f g : Lexeme → Parser A} → ((t : Lexeme) → Match false strict full (f t) (g t)) → Match some strict full (taken f) (taken g)
agree_taken {f = f} {g = g} h = record {
  at = taken_knows f g (λ t. (h t).at);
  takes = λ s i. taken_takes i (f (first i) (rest i)) (keeps (rest i) (f (first i) (rest i)) ((h (first i)).at (rest i)));
}

pub agree_skip : {A : Type 0} {some strict full : Bool} {p q : Parser A} → Match false strict full p q → Match some strict full (skip p) (skip q)
agree_skip h = agree_taken (λ t. h)

pub agree_expect : {some strict full : Bool} (k : Mark) (w : Site) → Match some strict full (expect k w) (expect k w)
unfolding expect
agree_expect k w = agree_if (is_mark k) (agree_skip agree_pure) agree_refuse

pub agree_named : {some strict full : Bool} (w : Site) → Match some strict full (named w) (named w)
unfolding named
agree_named w = agree_if (is_mark mark.Identifier) (agree_taken (λ t. agree_pure {x = t.word})) agree_refuse

-- no room for what a terminal begins, where the other room is larger
pub agree_expect_lost : {A : Type 0} {some strict full : Bool} (k : Mark) (w : Site) (q : Parser A) → strict ≡ false
    → Match some strict full (λ i. if sees k i then (Err TooDeep, i) else (Err (Refused w), i)) (expect k w >> q)
unfolding expect
agree_expect_lost {A = A} {some = some} {strict = strict} {full = full} k w q e =
    agree_at terminal_at terminal_same {f = λ s i. if is_mark k s then (Err TooDeep, i) else (Err (Refused w), i)} {g = λ s i. then_read {A = Unit {0}} (if is_mark k s then (Ok tt, rest i) else (Err (Refused w), i)) (λ u. q)}
    (λ s. by (is_mark k s))
  where
    by : (c : Bool) → Match {A = A} some strict full (λ i. if c then (Err TooDeep, i) else (Err (Refused w), i)) (λ i. then_read {A = Unit {0}} (if c then (Ok tt, rest i) else (Err (Refused w), i)) (λ u. q))
    by true = agree_lost e
    by false = agree_refuse

-- no room, where the other is larger and refuses what is refused here
pub agree_roomless : {A : Type 0} {some strict full : Bool} (test : Terminal → Bool) (w : Site) {q : Parser A} → strict ≡ false
    → ((i : Lexemes) → test (terminal_at i) ≡ false → q i ≡ (Err (Refused w), i)) → Match some strict full (λ i. if test (terminal_at i) then (Err TooDeep, i) else (Err (Refused w), i)) q
agree_roomless {A = A} {strict = strict} {full = full} test w {q = q} e refused = record { at = λ i. by i (test (terminal_at i)) refl; takes = λ s i. stops i (test (terminal_at i)) }
  where
    by : (i : Lexemes) (c : Bool) → test (terminal_at i) ≡ c → Knows strict full (λ j y. q j ≡ y) i (if c then (Err TooDeep, i) else (Err (Refused w), i))
    by i true is = stays i (Err TooDeep, i) refl (λ b s k. absurd (cc))
    by i false is = stays i (Err (Refused w), i) refl (λ b s k. refused b (ap test (sym (terminal_same i b s)) ∙ is))

    stops : (i : Lexemes) (c : Bool) → Shrinks {A = A} i (if c then (Err TooDeep, i) else (Err (Refused w), i))
    stops i true = tt
    stops i false = tt

pub agree_look_roomless : {A : Type 0} {some strict full : Bool} (test : Terminal → Bool) (w : Site) {q : Parser A} → strict ≡ false
    → ((i : Lexemes) → test (terminal_at i) ≡ false → q i ≡ (Err (Refused w), i)) → Match some strict full (look (λ k. if test k then deep else refuse w)) q
agree_look_roomless {A = A} {some = some} {strict = strict} {full = full} test w {q = q} e refused =
    record { at = λ i. by i (test (terminal_at i)) (m.at i); takes = λ s i. stops i (test (terminal_at i)) (m.takes s i) }
  where
    m : Match {A = A} some strict full (λ i. if test (terminal_at i) then (Err TooDeep, i) else (Err (Refused w), i)) q
    m = agree_roomless test w e refused

    by : (i : Lexemes) (c : Bool) → Knows strict full (λ j y. q j ≡ y) i (if c then (Err TooDeep, i) else (Err (Refused w), i)) → Knows strict full (λ j y. q j ≡ y) i ((if c then deep else refuse w) i)
    by i true k = k
    by i false k = k

    stops : (i : Lexemes) (c : Bool) → Shrinks {A = A} i (if c then (Err TooDeep, i) else (Err (Refused w), i)) → Shrinks {A = A} i ((if c then deep else refuse w) i)
    stops i true k = tt
    stops i false k = tt
