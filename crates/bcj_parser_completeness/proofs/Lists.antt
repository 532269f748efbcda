-- Lists of items: each item is read, and so the list is
use Rattle.std.proofs.Common.{◌≡◌, refl, ap, sym, ◌∙◌, ℕ, zero, suc, ◌<◌, ◌≤◌, max, Bool, true, false, List, [], ◌∷◌, ◌++◌, length, Ok, arith}
use Rattle.std.proofs.lemmas.List.{append_assoc, append-nil}
use Rattle.bcj_parser_rules.specs.declared.kind.Mark.TheVariants as mark
use Rattle.bcj_parser_rules.specs.declared.terminal.Terminal.{Terminal}
use Rattle.bcj_parser_rules.specs.declared.terminal.Terminal.TheVariants as terminal
use Rattle.bcj_parser_rules.specs.Lexemes.{Lexeme, Lexemes}
use Rattle.bcj_parser_rules.specs.Lexemes.{terminal_at}
use Rattle.bcj_parser_rules.specs.Marks.{is_mark}
use Rattle.bcj_parser_rules.specs.function.Steps.{Outcome, Parser, sees}
use Rattle.bcj_parser_rules.specs.function.Expressions.{separated, listed, many}
use Rattle.bcj_parser_completeness.proofs.Terminals.{seen, unseen}
use Rattle.bcj_parser_completeness.proofs.Steps.{bind, taking, passing}

abbrev pub the_outcome : (A : Type 0) → List A → ℕ → Lexemes → Outcome (List A × ℕ)
the_outcome A xs h a = (Ok (xs, h), a)

pub read_as : {A : Type 0} {xs ys : List A} {g h : ℕ} (a : Lexemes) → xs ≡ ys → g ≡ h → the_outcome A xs g a ≡ the_outcome A ys h a
read_as a p q = rw (p, q) refl

no_more : {A : Type 0} (found : List A) (high : ℕ) (a : Lexemes) → the_outcome A found high a ≡ the_outcome A (found ++ []) (max high 0) a
no_more found high a = read_as a (sym (append-nil found)) (omega arith)

one_more : {A : Type 0} (found xs ys : List A) (high g h : ℕ) (a : Lexemes) → the_outcome A ((found ++ xs) ++ ys) (max (max high g) h) a ≡ the_outcome A (found ++ (xs ++ ys)) (max high (max g h)) a
one_more found xs ys high g h a = read_as a (append_assoc found xs ys) (omega arith)

-- further items, each behind a comma
pub data Further {A : Type 0} (one : Parser (A × ℕ)) : Lexemes → Lexemes → List A → ℕ → Type 0 where
  stop : {a : Lexemes} → sees mark.Comma a ≡ false → Further one a a [] 0
  more : {t : Lexeme} {m n a : Lexemes} {x : A} {xs : List A} {g h : ℕ} → t.terminal ≡ terminal.Comma → one m ≡ (Ok (x, g), n) → length n ≤ length m → Further one n a xs h → Further one (t ∷ m) a (x ∷ xs) (max g h)

further_reads : {A : Type 0} {one : Parser (A × ℕ)} {i a : Lexemes} {xs : List A} {h : ℕ} → Further one i a xs h → (turns : ℕ) → length i ≤ turns → (found : List A) (high : ℕ)
    → separated one turns found high i ≡ (Ok (found ++ xs, max high h), a)
unfolding separated
further_reads (stop {a = a} e) zero l found high = no_more found high a
further_reads (stop {a = a} e) (suc turns) l found high = passing e _ (no_more found high a)
further_reads (more {t = t} {m = m} {n = n} {a = a} {x = x} {xs = xs} {g = g} {h = h} c o k f) zero l found high = absurd (omega arith)
further_reads (more {t = t} {m = m} {n = n} {a = a} {x = x} {xs = xs} {g = g} {h = h} c o k f) (suc turns) l found high =
    taking (seen mark.Comma t m c) _ (bind o _ (further_reads f turns (omega arith) (found ++ x ∷ []) (max high g) ∙ one_more found (x ∷ []) xs high g h a))

pub listed_reads : {A : Type 0} (front one : Parser (A × ℕ)) (i : Lexemes) {m a : Lexemes} {x : A} {xs : List A} {g h : ℕ} → front i ≡ (Ok (x, g), m) → Further one m a xs h → listed front one i ≡ (Ok (x ∷ xs, max g h), a)
unfolding listed
listed_reads front one i {m = m} {x = x} {g = g} o f = bind o _ (further_reads f (length m) (omega arith) (x ∷ []) g)

-- items as long as the next terminal goes on so
pub data Many {A : Type 0} (goes_on : Terminal → Bool) (one : Parser (List A × ℕ)) : Lexemes → Lexemes → List A → ℕ → Type 0 where
  done : {a : Lexemes} → goes_on (terminal_at a) ≡ false → Many goes_on one a a [] 0
  turn : {i m a : Lexemes} {xs ys zs : List A} {g h k : ℕ} → goes_on (terminal_at i) ≡ true → one i ≡ (Ok (xs, g), m) → length m < length i → Many goes_on one m a ys h → xs ++ ys ≡ zs → max g h ≡ k
      → Many goes_on one i a zs k

pub many_reads : {A : Type 0} {goes_on : Terminal → Bool} {one : Parser (List A × ℕ)} {i a : Lexemes} {xs : List A} {h : ℕ} → Many goes_on one i a xs h → (turns : ℕ) → length i ≤ turns → (found : List A) (high : ℕ)
    → many goes_on one turns found high i ≡ (Ok (found ++ xs, max high h), a)
unfolding many
many_reads (done {a = a} e) zero l found high = no_more found high a
many_reads (done {a = a} e) (suc turns) l found high = passing e _ (no_more found high a)
many_reads (turn {i = i} {m = m} {a = a} {xs = xs} {ys = ys} {g = g} {h = h} e o k f p q) zero l found high = absurd (omega arith)
many_reads (turn {i = i} {m = m} {a = a} {xs = xs} {ys = ys} {g = g} {h = h} e o k f p q) (suc turns) l found high =
    taking e _ (bind o _ (many_reads f turns (omega arith) (found ++ xs) (max high g) ∙ one_more found xs ys high g h a ∙ read_as a (ap (λ l. found ++ l) p) (ap (max high) q)))

-- a first item and further ones, up to a closing terminal; the first one begins at `from`, of which some tokens may be taken
pub record Line {A : Type 0} (front one : Parser (A × ℕ)) (closing : Terminal) (from i a : Lexemes) (xs : List A) (h : ℕ) : Type 0 where
  pub last : Lexeme
  pub closes : last.terminal ≡ closing
  pub behind : Lexemes
  pub item : A
  pub others : List A
  pub low : ℕ
  pub high : ℕ
  pub fronts : front i ≡ (Ok (item, low), behind)
  pub shorter : length behind ≤ length from
  pub further : Further one behind (last ∷ a) others high
  pub whole : item ∷ others ≡ xs
  pub height : max low high ≡ h

pub line_last : {A : Type 0} {front : Parser (A × ℕ)} (one : Parser (A × ℕ)) {closing : Terminal} (from i : Lexemes) {a : Lexemes} {t : Lexeme} {x : A} {h : ℕ} → front i ≡ (Ok (x, h), t ∷ a) → length (t ∷ a) ≤ length from → t.terminal ≡ closing
    → is_mark mark.Comma closing ≡ false → Line front one closing from i a (x ∷ []) h
line_last one from i {a = a} {t = t} {x = x} {h = h} e l c n = record {
  last = t;
  closes = c;
  behind = t ∷ a;
  item = x;
  others = [];
  low = h;
  high = 0;
  fronts = e;
  shorter = l;
  further = stop (unseen mark.Comma (t ∷ a) c n);
  whole = refl;
  height = omega arith;
}

pub line_more : {A : Type 0} {front : Parser (A × ℕ)} {one : Parser (A × ℕ)} {closing : Terminal} (from i : Lexemes) {m a : Lexemes} {t : Lexeme} {x : A} {xs : List A} {g h : ℕ} → front i ≡ (Ok (x, g), t ∷ m) → length (t ∷ m) ≤ length from
    → t.terminal ≡ terminal.Comma → Line one one closing m m a xs h → Line front one closing from i a (x ∷ xs) (max g h)
line_more from i {m = m} {t = t} {x = x} {g = g} e l c r = record {
  last = r.last;
  closes = r.closes;
  behind = t ∷ m;
  item = x;
  others = r.item ∷ r.others;
  low = g;
  high = max r.low r.high;
  fronts = e;
  shorter = l;
  further = more c r.fronts r.shorter r.further;
  whole = ap (λ l. x ∷ l) r.whole;
  height = ap (max g) r.height;
}

pub line_reads : {A : Type 0} {front one : Parser (A × ℕ)} {closing : Terminal} {from i a : Lexemes} {xs : List A} {h : ℕ} → (r : Line front one closing from i a xs h) → listed front one i ≡ (Ok (xs, h), r.last ∷ a)
line_reads {front = front} {one = one} {i = i} {a = a} r = listed_reads front one i r.fronts r.further ∙ read_as (r.last ∷ a) r.whole r.height

-- the same items, read by another front
pub line_from : {A : Type 0} {front one : Parser (A × ℕ)} {closing : Terminal} {from i a : Lexemes} {xs : List A} {h : ℕ} (other : Parser (A × ℕ)) (start j : Lexemes) → (r : Line front one closing from i a xs h) → other j ≡ front i
    → length from ≤ length start → Line other one closing start j a xs h
line_from {from = from} other start j r e l = record {
  last = r.last;
  closes = r.closes;
  behind = r.behind;
  item = r.item;
  others = r.others;
  low = r.low;
  high = r.high;
  fronts = e ∙ r.fronts;
  shorter = let s : length r.behind ≤ length from = r.shorter in omega arith;
  further = r.further;
  whole = r.whole;
  height = r.height;
}
