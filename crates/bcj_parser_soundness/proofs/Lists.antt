-- Lists and types: what is read item by item.
use Rattle.std.proofs.Common.{◌≡◌, ℕ, zero, suc, ◌+◌, ◌≤◌, max, Bool, true, false, List, [], ◌∷◌, ◌++◌, length, sym, ap, ◌∙◌, subst, Ok, if◌then◌else◌, append-nil, append_assoc, arith}
use Rattle.bcj_parser_trees.specs.declared.names.Base.{Base}
use Rattle.bcj_parser_trees.specs.declared.names.Base.TheVariants as base
use Rattle.bcj_parser_trees.specs.declared.names.TypeName.{TypeName}
use Rattle.bcj_parser_rules.specs.declared.kind.Mark.TheVariants as mark
use Rattle.bcj_parser_rules.specs.declared.kind.TypeBeginning.{TypeBeginning}
use Rattle.bcj_parser_rules.specs.declared.kind.TypeBeginning.TheVariants as typed
use Rattle.bcj_parser_rules.specs.declared.terminal.Terminal.{Terminal}
use Rattle.bcj_parser_rules.specs.declared.terminal.Terminal.TheVariants as terminal
use Rattle.bcj_parser_rules.specs.declared.stop.Site.{Site}
use Rattle.bcj_parser_rules.specs.declared.stop.Site.TheVariants as site
use Rattle.bcj_parser_rules.specs.Lexemes.{Lexeme, Lexemes}
use Rattle.bcj_parser_rules.specs.Grammar.{Brackets, no_pair, pair, IsBase, int_base, boolean_base, named_base, TypeRead, type_read}
use Rattle.bcj_parser_rules.specs.Lexemes.{terminal_at}
use Rattle.bcj_parser_rules.specs.function.Kinds.{type_beginning}
use Rattle.bcj_parser_rules.specs.function.Steps.{Parser, then_read}
use Rattle.bcj_parser_rules.specs.function.Expressions.{separated, listed, many, brackets, type_of_base, type_by, type_name}
use Rattle.bcj_parser_soundness.proofs.Terminals.{TypeBeginsSo, type_begins_so}
use Rattle.bcj_parser_soundness.proofs.Outcomes.{Meets, Failed, read, refused, roomless, bind, weaken, choose, choose_by, expect_terminal}

-- one or more items with commas between; the height is that of the highest
pub data Separated {A : Type 0} (R : Lexemes → A × ℕ → Lexemes → Type 0) : Lexemes → Lexemes → List A → ℕ → Type 0 where
  single : {i a : Lexemes} {x : A} {g : ℕ} → R i (x, g) a → Separated R i a (x ∷ []) g
  further : {t : Lexeme} {i n a : Lexemes} {x : A} {xs : List A} {g h : ℕ} → R i (x, g) (t ∷ n) → t.terminal ≡ terminal.Comma → Separated R n a xs h → Separated R i a (x ∷ xs) (max g h)

-- lists, one behind the other
pub data Repeated {A : Type 0} (R : Lexemes → List A × ℕ → Lexemes → Type 0) : Lexemes → Lexemes → List A → ℕ → Type 0 where
  done : {a : Lexemes} → Repeated R a a [] 0
  again : {i n a : Lexemes} {xs ys : List A} {g h : ℕ} → R i (xs, g) n → Repeated R n a ys h → Repeated R i a (xs ++ ys) (max g h)

max_assoc : (a b c : ℕ) → max a (max b c) ≡ max (max a b) c
max_assoc a b c = omega arith

pub max_none : (a : ℕ) → max a 0 ≡ a
max_none a = omega arith

none_max : (a : ℕ) → a ≡ max 0 a
none_max a = omega arith

separated_as : {A : Type 0} {R : Lexemes → A × ℕ → Lexemes → Type 0} {i a : Lexemes} {xs : List A} {g h : ℕ} → g ≡ h → Separated R i a xs g → Separated R i a xs h
separated_as {R = R} {i} {a} {xs} e d = subst (Separated R i a xs) e d

repeated_as : {A : Type 0} {R : Lexemes → List A × ℕ → Lexemes → Type 0} {i a : Lexemes} {xs ys : List A} {g h : ℕ} → xs ≡ ys → g ≡ h → Repeated R i a xs g → Repeated R i a ys h
repeated_as {R = R} {i} {a} {xs} {ys} {g} {h} e f d = subst (Repeated R i a ys) f (subst (λ zs. Repeated R i a zs g) e d)

separated_behind : {A : Type 0} {R : Lexemes → A × ℕ → Lexemes → Type 0} {t : Lexeme} {i n a : Lexemes} {x : A} {xs : List A} {g h : ℕ} → Separated R i (t ∷ n) xs h → t.terminal ≡ terminal.Comma → R n (x, g) a
    → Separated R i a (xs ++ x ∷ []) (max h g)
separated_behind (single d) c r = further d c (single r)
separated_behind {g = g} (further {g = f} {h = h} d c q) e r = separated_as (max_assoc f h g) (further d c (separated_behind q e r))

pub repeated_behind : {A : Type 0} {R : Lexemes → List A × ℕ → Lexemes → Type 0} {i n a : Lexemes} {xs ys : List A} {g h : ℕ} → Repeated R i n xs h → R n (ys, g) a → Repeated R i a (xs ++ ys) (max h g)
repeated_behind {ys = ys} {g = g} done r = repeated_as (append-nil ys) (max_none g ∙ none_max g) (again r done)
repeated_behind {ys = zs} {g = g} (again {xs = xs} {ys = ys} {g = f} {h = h} d q) r = repeated_as (sym (append_assoc xs ys zs)) (max_assoc f h g) (again d (repeated_behind q r))

pub repeated_once : {A : Type 0} {R : Lexemes → List A × ℕ → Lexemes → Type 0} {i a : Lexemes} {xs : List A} {g : ℕ} → R i (xs, g) a → Repeated R i a xs g
repeated_once {xs = xs} {g = g} r = repeated_as (append-nil xs) (max_none g) (again r done)

abbrev pub SeparatedRead : {A : Type 0} → (Lexemes → A × ℕ → Lexemes → Type 0) → Lexemes → List A × ℕ → Lexemes → Type 0
SeparatedRead R i p a = Separated R i a p.0 p.1

abbrev pub RepeatedRead : {A : Type 0} → (Lexemes → List A × ℕ → Lexemes → Type 0) → Lexemes → List A × ℕ → Lexemes → Type 0
RepeatedRead R i p a = Repeated R i a p.0 p.1

separated_sound : {A : Type 0} {R : Lexemes → A × ℕ → Lexemes → Type 0} (one : Parser (A × ℕ)) → ((i : Lexemes) → Meets (R i) Failed (one i)) → (turns : ℕ) (found : List A) (high : ℕ) (j i : Lexemes)
    → Separated R j i found high → Meets (SeparatedRead R j) Failed (separated one turns found high i)
unfolding separated
separated_sound one sound zero found high j = λ i d. read d
separated_sound {R = R} one sound (suc turns) found high j = choose_by (λ i. Separated R j i found high) mark.Comma _ _
    (λ t e n d. bind (sound n) (λ x a r. separated_sound one sound turns (found ++ x.0 ∷ []) (max high x.1) j a (separated_behind d e r)))
    (λ i d. read d)

pub listed_sound : {A : Type 0} {R : Lexemes → A × ℕ → Lexemes → Type 0} (front one : Parser (A × ℕ)) (j i : Lexemes) → Meets (R j) Failed (front i) → ((i : Lexemes) → Meets (R i) Failed (one i))
    → Meets (SeparatedRead R j) Failed (listed front one i)
unfolding listed
listed_sound front one j i begun sound = bind begun (λ x n r. separated_sound one sound (length n) (x.0 ∷ []) x.1 j n (single r))

-- what holds of the items found so far, and with each further one, holds of all
pub many_keeps : {A : Type 0} {R : Lexemes → List A × ℕ → Lexemes → Type 0} (I : List A × ℕ → Lexemes → Type 0) (goes_on : Terminal → Bool) (one : Parser (List A × ℕ))
    → ((i : Lexemes) → Meets (R i) Failed (one i)) → ((p x : List A × ℕ) (i n : Lexemes) → I p i → R i x n → I (p.0 ++ x.0, max p.1 x.1) n)
    → (turns : ℕ) (found : List A) (high : ℕ) (i : Lexemes) → I (found, high) i → Meets I Failed (many goes_on one turns found high i)
unfolding many
many_keeps I goes_on one sound step zero found high i d = read d
many_keeps {A} I goes_on one sound step (suc turns) found high i d = by (many_keeps I goes_on one sound step turns) (goes_on (terminal_at i)) where
  by : ((found : List A) (high : ℕ) (i : Lexemes) → I (found, high) i → Meets I Failed (many goes_on one turns found high i)) → (x : Bool)
      → Meets I Failed (if x then then_read (one i) (λ x. many goes_on one turns (found ++ x.0) (max high x.1)) else (Ok (found, high), i))
  by next true = bind (sound i) (λ x a r. next (found ++ x.0) (max high x.1) a (step (found, high) x i a d r))
  by next false = read d

pub many_sound : {A : Type 0} {R : Lexemes → List A × ℕ → Lexemes → Type 0} (goes_on : Terminal → Bool) (one : Parser (List A × ℕ)) → ((i : Lexemes) → Meets (R i) Failed (one i))
    → (turns : ℕ) (found : List A) (high : ℕ) (j i : Lexemes) → Repeated R j i found high → Meets (RepeatedRead R j) Failed (many goes_on one turns found high i)
many_sound {R = R} goes_on one sound turns found high j i d = many_keeps (RepeatedRead R j) goes_on one sound (λ p x i n d r. repeated_behind d r) turns found high i d

-- lists behind a first one
pub record Further {A : Type 0} (R : Lexemes → List A × ℕ → Lexemes → Type 0) (found : List A) (low : ℕ) (j : Lexemes) (p : List A × ℕ) (a : Lexemes) : Type 0 where
  pub more : List A
  pub high : ℕ
  pub repeated : Repeated R j a more high
  pub all : p.0 ≡ found ++ more
  pub highest : p.1 ≡ max low high

pub further_sound : {A : Type 0} {R : Lexemes → List A × ℕ → Lexemes → Type 0} (goes_on : Terminal → Bool) (one : Parser (List A × ℕ)) → ((i : Lexemes) → Meets (R i) Failed (one i))
    → (turns : ℕ) (found : List A) (low : ℕ) (i : Lexemes) → Meets (Further R found low i) Failed (many goes_on one turns found low i)
further_sound {A} {R} goes_on one sound turns found low i = many_keeps (Further R found low i) goes_on one sound step turns found low i
    (record { more = []; high = 0; repeated = done; all = sym (append-nil found); highest = sym (max_none low) }) where
      step : (p x : List A × ℕ) (k n : Lexemes) → Further R found low i p k → R k x n → Further R found low i (p.0 ++ x.0, max p.1 x.1) n
      step p x k n d r = record {
        more = d.more ++ x.0;
        high = max d.high x.1;
        repeated = repeated_behind d.repeated r;
        all = ap (λ l. l ++ x.0) d.all ∙ append_assoc found d.more x.0;
        highest = ap (λ l. max l x.1) d.highest ∙ sym (max_assoc low d.high x.1);
      }

pub separated_within : {A : Type 0} {R : Lexemes → A × ℕ → Lexemes → Type 0} {i a : Lexemes} {xs : List A} {h : ℕ} (n : ℕ) → ((i : Lexemes) (x : A × ℕ) (a : Lexemes) → R i x a → x.1 ≤ n)
    → Separated R i a xs h → h ≤ n
separated_within n f (single {i} {a} {x} {g} d) = f i (x, g) a d
separated_within n f (further {t = t} {i = i} {n = k} {x = x} {g = g} d c q) = omega (arith, f i (x, g) (t ∷ k) d, separated_within n f q)

pub repeated_within : {A : Type 0} {R : Lexemes → List A × ℕ → Lexemes → Type 0} {i a : Lexemes} {xs : List A} {h : ℕ} (n : ℕ) → ((i : Lexemes) (x : List A × ℕ) (a : Lexemes) → R i x a → x.1 ≤ n)
    → Repeated R i a xs h → h ≤ n
repeated_within n f done = omega arith
repeated_within n f (again {i = i} {n = k} {xs = xs} {g = g} d q) = omega (arith, f i (xs, g) k d, repeated_within n f q)

-- ---- types

pub record PairsRead (d most : ℕ) (i : Lexemes) (e : ℕ) (a : Lexemes) : Type 0 where
  pub more : ℕ
  pub all : e ≡ d + more
  pub pairs : Brackets i a more
  pub low : e ≤ most

pub brackets_sound : (w : Site) (turns d : ℕ) (i : Lexemes) → Meets (PairsRead d (turns + d) i) Failed (brackets w turns d i)
unfolding brackets
brackets_sound w zero d = choose (PairsRead d (zero + d)) mark.LeftBracket _ _ (λ t e n. roomless) (λ i. read (record { more = 0; all = omega arith; pairs = no_pair; low = omega arith }))
brackets_sound w (suc turns) d = choose (PairsRead d (suc turns + d)) mark.LeftBracket _ _
    (λ t e. expect_terminal (λ n. PairsRead d (suc turns + d) (t ∷ n)) mark.RightBracket w _ (λ u f n. weaken (brackets_sound w turns (suc d) n)
    (λ x a q. record { more = suc q.more; all = omega arith; pairs = pair e f q.pairs; low = omega arith })))
    (λ i. read (record { more = 0; all = omega arith; pairs = no_pair; low = omega arith }))

pub all_pairs : {most e : ℕ} {i a : Lexemes} → PairsRead 0 most i e a → Brackets i a e
all_pairs {e = e} {i} {a} q = let f : q.more ≡ e = omega arith in subst (Brackets i a) f q.pairs

pub pairs_behind : {most e : ℕ} {t u : Lexeme} {i a : Lexemes} → t.terminal ≡ terminal.LeftBracket → u.terminal ≡ terminal.RightBracket → PairsRead 1 most i e a → Brackets (t ∷ u ∷ i) a e
pairs_behind {e = e} {t} {u} {i} {a} g h q = let f : suc q.more ≡ e = omega arith in subst (Brackets (t ∷ u ∷ i) a) f (pair g h q.pairs)

pub record TypeWithin (n : ℕ) (i : Lexemes) (ty : TypeName) (a : Lexemes) : Type 0 where
  pub read : TypeRead i a ty
  pub low : ty.dims ≤ n

pub type_of_base_sound : (n : ℕ) (b : Base) (t : Lexeme) → IsBase t b → (i : Lexemes) → Meets (TypeWithin n (t ∷ i)) Failed (type_of_base n b i)
type_of_base_sound n b t e i = bind (brackets_sound site.Elsewhere n 0 i) (λ d a q. read (record { read = type_read e (all_pairs q); low = omega (arith, q.low) }))

pub type_name_sound : (n : ℕ) (w : Site) (i : Lexemes) → Meets (TypeWithin n i) Failed (type_name n w i)
unfolding type_name
type_name_sound n w [] = refused
type_name_sound n w (t ∷ i) = by (type_beginning t.terminal) (type_begins_so t.terminal) where
  by : (k : TypeBeginning) → TypeBeginsSo k t.terminal → Meets (TypeWithin n (t ∷ i)) Failed (type_by n w k (t ∷ i))
  by typed.Int e = type_of_base_sound n base.Int t (int_base e) i
  by typed.Bool e = type_of_base_sound n base.Bool t (boolean_base e) i
  by typed.Name e = type_of_base_sound n (base.Named t.word) t (named_base e) i
  by typed.Nothing e = refused
