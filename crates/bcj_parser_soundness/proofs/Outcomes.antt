-- What holds of an outcome, whether something was read or not.
use Rattle.std.proofs.Common.{◌≡◌, ℕ, Bool, true, false, List, [], ◌∷◌, refl, Result, Ok, Err, if◌then◌else◌}
use Rattle.bcj_parser_rules.specs.declared.kind.Mark.{Mark}
use Rattle.bcj_parser_rules.specs.declared.kind.Mark.TheVariants as mark
use Rattle.bcj_parser_rules.specs.declared.terminal.Terminal.TheVariants as terminal
use Rattle.bcj_parser_rules.specs.declared.stop.Site.{Site}
use Rattle.bcj_parser_rules.specs.declared.stop.Stop.{Stop}
use Rattle.bcj_parser_rules.specs.declared.stop.Stop.TheVariants.{Refused, TooDeep, TooMany, NoMemory}
use Rattle.bcj_parser_rules.specs.Lexemes.{Lexeme, Lexemes}
use Rattle.bcj_parser_rules.specs.function.Kinds.{terminal_of_mark}
use Rattle.bcj_parser_rules.specs.function.Steps.{Outcome, Parser, continued, then_read, ◌>>◌, ◌>>=◌, sees, expect, named}
use Rattle.bcj_parser_soundness.specs.Laws.{Ends, Both}
use Rattle.bcj_parser_soundness.proofs.Terminals.{IfSeen, seen_mark, unseen}

pub record Meets {A : Type 0} (P : A → Lexemes → Type 0) (E : Stop → Lexemes → Type 0) (o : Outcome A) : Type 0 where
  pub both : Both P E o

-- of what stops a part of a unit, which knows no limit of types
abbrev pub Failed : Stop → Lexemes → Type 0
Failed (Refused site) a = Unit {0}
Failed TooDeep a = Unit {0}
Failed TooMany a = ⊥
Failed NoMemory a = ⊥

pub read : {A : Type 0} {P : A → Lexemes → Type 0} {E : Stop → Lexemes → Type 0} {x : A} {a : Lexemes} → P x a → Meets P E (Ok x, a)
read p = record { both = p }

pub stopped : {A : Type 0} {P : A → Lexemes → Type 0} {E : Stop → Lexemes → Type 0} {e : Stop} {a : Lexemes} → E e a → Meets P E (Err e, a)
stopped h = record { both = h }

pub refused : {A : Type 0} {P : A → Lexemes → Type 0} {w : Site} {a : Lexemes} → Meets P Failed (Err (Refused w), a)
refused = record { both = tt }

pub roomless : {A : Type 0} {P : A → Lexemes → Type 0} {a : Lexemes} → Meets P Failed (Err TooDeep, a)
roomless = record { both = tt }

bind_by : {A B : Type 0} {P : B → Lexemes → Type 0} {E F : Stop → Lexemes → Type 0} {Q : A → Lexemes → Type 0} (r : Result A Stop) (a : Lexemes) (f : A → Parser B) → Ends Q F r a
    → ((e : Stop) (a : Lexemes) → F e a → E e a) → ((x : A) (m : Lexemes) → Q x m → Meets P E (f x m)) → Meets P E (continued r a f)
bind_by (Ok x) a f h fail next = next x a h
bind_by (Err e) a f h fail next = stopped (fail e a h)

-- one parser behind another, where the second one stops for other reasons
pub bind_both : {A B : Type 0} {P : B → Lexemes → Type 0} {E F : Stop → Lexemes → Type 0} {Q : A → Lexemes → Type 0} {o : Outcome A} {f : A → Parser B} → Meets Q F o
    → ((e : Stop) (a : Lexemes) → F e a → E e a) → ((x : A) (m : Lexemes) → Q x m → Meets P E (f x m)) → Meets P E (then_read o f)
bind_both {o = o} {f = f} h fail next = bind_by o.0 o.1 f h.both fail next

pub bind : {A B : Type 0} {P : B → Lexemes → Type 0} {E : Stop → Lexemes → Type 0} {Q : A → Lexemes → Type 0} {o : Outcome A} {f : A → Parser B} → Meets Q E o
    → ((x : A) (m : Lexemes) → Q x m → Meets P E (f x m)) → Meets P E (then_read o f)
bind h next = bind_both h (λ e a f. f) next

-- the same outcome, of which more is known
pub weaken : {A : Type 0} {P Q : A → Lexemes → Type 0} {E : Stop → Lexemes → Type 0} {o : Outcome A} → Meets Q E o → ((x : A) (m : Lexemes) → Q x m → P x m) → Meets P E o
weaken {A} {P} {Q} {E} {o} h f = record { both = by o.0 o.1 h.both } where
  by : (r : Result A Stop) (a : Lexemes) → Ends Q E r a → Ends P E r a
  by (Ok x) a q = f x a q
  by (Err e) a q = q

-- ---- tokens

-- a choice by the next terminal
pub choose_else : {A : Type 0} (P : Lexemes → A → Lexemes → Type 0) (k : Mark) (X Y : Parser A) → ((t : Lexeme) → t.terminal ≡ terminal_of_mark k → (n : Lexemes) → Meets (P (t ∷ n)) Failed (X (t ∷ n)))
    → ((i : Lexemes) → sees k i ≡ false → Meets (P i) Failed (Y i)) → (i : Lexemes) → Meets (P i) Failed (if sees k i then X i else Y i)
choose_else P k X Y seen other [] = rw (unseen k) (other [] (unseen k))
choose_else {A} P k X Y seen other (t ∷ r) = by (sees k (t ∷ r)) (seen_mark k t.terminal) refl where
  by : (x : Bool) → IfSeen k t.terminal x → sees k (t ∷ r) ≡ x → Meets (P (t ∷ r)) Failed (if x then X (t ∷ r) else Y (t ∷ r))
  by true e h = seen t e r
  by false e h = other (t ∷ r) h

pub choose : {A : Type 0} (P : Lexemes → A → Lexemes → Type 0) (k : Mark) (X Y : Parser A) → ((t : Lexeme) → t.terminal ≡ terminal_of_mark k → (n : Lexemes) → Meets (P (t ∷ n)) Failed (X (t ∷ n)))
    → ((i : Lexemes) → Meets (P i) Failed (Y i)) → (i : Lexemes) → Meets (P i) Failed (if sees k i then X i else Y i)
choose P k X Y seen other = choose_else P k X Y seen (λ i _. other i)

-- a terminal that must come
pub expect_terminal : {A : Type 0} (P : Lexemes → A → Lexemes → Type 0) (k : Mark) (w : Site) (q : Parser A) → ((t : Lexeme) → t.terminal ≡ terminal_of_mark k → (n : Lexemes) → Meets (P (t ∷ n)) Failed (q n))
    → (i : Lexemes) → Meets (P i) Failed ((expect k w >> q) i)
unfolding expect
expect_terminal P k w q seen [] = rw (unseen k) refused
expect_terminal {A} P k w q seen (t ∷ r) = by (sees k (t ∷ r)) (seen_mark k t.terminal) where
  by : (x : Bool) → IfSeen k t.terminal x → Meets (P (t ∷ r)) Failed (then_read (if x then (Ok (tt {0}), r) else (Err (Refused w), t ∷ r)) (λ _. q))
  by true e = seen t e r
  by false e = refused

pub expect_name : {A : Type 0} (P : Lexemes → A → Lexemes → Type 0) (w : Site) (f : List ℕ → Parser A) → ((t : Lexeme) → t.terminal ≡ terminal.Identifier → (n : Lexemes) → Meets (P (t ∷ n)) Failed (f t.word n))
    → (i : Lexemes) → Meets (P i) Failed ((named w >>= f) i)
unfolding named
expect_name P w f seen [] = refused
expect_name {A} P w f seen (t ∷ r) = by (sees mark.Identifier (t ∷ r)) (seen_mark mark.Identifier t.terminal) where
  by : (x : Bool) → IfSeen mark.Identifier t.terminal x → Meets (P (t ∷ r)) Failed (then_read (if x then (Ok t.word, r) else (Err (Refused w), t ∷ r)) f)
  by true e = seen t e r
  by false e = refused

-- the same behind other tokens, where H is known of those that are left
pub choose_else_by : {A : Type 0} {P : A → Lexemes → Type 0} (H : Lexemes → Type 0) (k : Mark) (X Y : Parser A)
    → ((t : Lexeme) → t.terminal ≡ terminal_of_mark k → (n : Lexemes) → H (t ∷ n) → Meets P Failed (X (t ∷ n))) → ((i : Lexemes) → sees k i ≡ false → H i → Meets P Failed (Y i))
    → (i : Lexemes) → H i → Meets P Failed (if sees k i then X i else Y i)
choose_else_by H k X Y seen other [] h = rw (unseen k) (other [] (unseen k) h)
choose_else_by {A} {P} H k X Y seen other (t ∷ r) h = by (sees k (t ∷ r)) (seen_mark k t.terminal) refl where
  by : (x : Bool) → IfSeen k t.terminal x → sees k (t ∷ r) ≡ x → Meets P Failed (if x then X (t ∷ r) else Y (t ∷ r))
  by true e f = seen t e r h
  by false e f = other (t ∷ r) f h

pub choose_by : {A : Type 0} {P : A → Lexemes → Type 0} (H : Lexemes → Type 0) (k : Mark) (X Y : Parser A)
    → ((t : Lexeme) → t.terminal ≡ terminal_of_mark k → (n : Lexemes) → H (t ∷ n) → Meets P Failed (X (t ∷ n))) → ((i : Lexemes) → H i → Meets P Failed (Y i))
    → (i : Lexemes) → H i → Meets P Failed (if sees k i then X i else Y i)
choose_by H k X Y seen other = choose_else_by H k X Y seen (λ i _. other i)

pub terminal_behind : {A : Type 0} {P : A → Lexemes → Type 0} (H : Lexemes → Type 0) (k : Mark) (w : Site) (q : Parser A)
    → ((t : Lexeme) → t.terminal ≡ terminal_of_mark k → (n : Lexemes) → H (t ∷ n) → Meets P Failed (q n)) → (i : Lexemes) → H i → Meets P Failed ((expect k w >> q) i)
unfolding expect
terminal_behind H k w q seen [] h = rw (unseen k) refused
terminal_behind {A} {P} H k w q seen (t ∷ r) h = by (sees k (t ∷ r)) (seen_mark k t.terminal) where
  by : (x : Bool) → IfSeen k t.terminal x → Meets P Failed (then_read (if x then (Ok (tt {0}), r) else (Err (Refused w), t ∷ r)) (λ _. q))
  by true e = seen t e r h
  by false e = refused

pub name_behind : {A : Type 0} {P : A → Lexemes → Type 0} (H : Lexemes → Type 0) (w : Site) (f : List ℕ → Parser A)
    → ((t : Lexeme) → t.terminal ≡ terminal.Identifier → (n : Lexemes) → H (t ∷ n) → Meets P Failed (f t.word n)) → (i : Lexemes) → H i → Meets P Failed ((named w >>= f) i)
unfolding named
name_behind H w f seen [] h = refused
name_behind {A} {P} H w f seen (t ∷ r) h = by (sees mark.Identifier (t ∷ r)) (seen_mark mark.Identifier t.terminal) where
  by : (x : Bool) → IfSeen mark.Identifier t.terminal x → Meets P Failed (then_read (if x then (Ok t.word, r) else (Err (Refused w), t ∷ r)) f)
  by true e = seen t e r h
  by false e = refused

-- a parser, and a terminal that must come behind
pub bind_terminal : {A B : Type 0} {P : B → Lexemes → Type 0} {Q : A → Lexemes → Type 0} {o : Outcome A} {f : A → Parser B} (k : Mark) (w : A → Site) → Meets Q Failed o
    → ((x : A) (t : Lexeme) → t.terminal ≡ terminal_of_mark k → (n : Lexemes) → Q x (t ∷ n) → Meets P Failed (f x n)) → Meets P Failed (then_read o (λ x. expect k (w x) >> f x))
bind_terminal {Q = Q} {f = f} k w h next = bind h (λ x. terminal_behind (Q x) k (w x) (f x) (next x))

pub bind_name : {A B : Type 0} {P : B → Lexemes → Type 0} {Q : A → Lexemes → Type 0} {o : Outcome A} (w : Site) (f : A → List ℕ → Parser B) → Meets Q Failed o
    → ((x : A) (t : Lexeme) → t.terminal ≡ terminal.Identifier → (n : Lexemes) → Q x (t ∷ n) → Meets P Failed (f x t.word n)) → Meets P Failed (then_read o (λ x. named w >>= f x))
bind_name {Q = Q} w f h next = bind h (λ x. name_behind (Q x) w (f x) (next x))
