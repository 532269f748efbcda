-- One turn of the loop that reads the types of a text
use Rattle.std.proofs.Common.{◌≡◌, ℕ, suc, ◌+◌, ◌-◌, ◌<◌, ◌≤◌, max, [], ◌∷◌, ◌++◌, sym, ap, ◌∙◌, refl, Ok, Err, length, arith}
use Rattle.bcj_parser_trees.specs.Trees.{PlainType, PlainUnit}
use Rattle.bcj_parser_rules.specs.declared.kind.UnitBeginning.{UnitBeginning}
use Rattle.bcj_parser_rules.specs.declared.kind.UnitBeginning.TheVariants as unit_begin
use Rattle.bcj_parser_rules.specs.declared.stop.Stop.{Stop}
use Rattle.bcj_parser_rules.specs.declared.stop.Stop.TheVariants.{TooMany}
use Rattle.bcj_parser_rules.specs.Lexemes.{Lexemes}
use Rattle.bcj_parser_rules.specs.Lexemes.{terminal_at}
use Rattle.bcj_parser_rules.specs.function.Kinds.{unit_beginning}
use Rattle.bcj_parser_rules.specs.function.Steps.{Outcome, Parser, rest}
use Rattle.bcj_parser_rules.specs.function.Declarations.{type_declaration, type_within, unit_by, unit_end, types_from, unit}
use Rattle.bcj_parser_cursor.proofs.Turns.{fewer}

abbrev pub Answer : Type 0
Answer = Outcome (PlainUnit × ℕ)

pub unit_is : (r limit : ℕ) (i : Lexemes) → unit r limit i ≡ types_from r (length i) limit [] 0 i
unfolding unit
unit_is r limit i = refl

-- what the types behind the next one are read by
abbrev further : ℕ → ℕ → PlainUnit → ℕ → ℕ → PlainType × ℕ → Parser (PlainUnit × ℕ)
further r k found high left d = types_from r k left (found ++ d.0 ∷ []) (max high d.1)

turn : (r k left : ℕ) (found : PlainUnit) (high : ℕ) (i : Lexemes) (u : UnitBeginning) → unit_beginning (terminal_at i) ≡ u → types_from r (suc k) left found high i ≡ unit_by r (types_from r k) left found high u i
unfolding types_from
turn r k left found high i u e = ap (λ u. unit_by r (types_from r k) left found high u i) e

begun : (X : Answer) (r n at left : ℕ) (found : PlainUnit) (high : ℕ) (i : Lexemes) → at < n → X ≡ types_from r (n - at) left found high i → X ≡ types_from r (suc (n - (at + 1))) left found high i
begun X r n at left found high i b h = h ∙ ap (λ k. types_from r k left found high i) (fewer n at b)

pub semicolon_turn : (X : Answer) (r n at left : ℕ) (found : PlainUnit) (high : ℕ) (i a : Lexemes) → at < n → X ≡ types_from r (n - at) left found high i → unit_beginning (terminal_at i) ≡ unit_begin.Semicolon → a ≡ rest i
    → X ≡ types_from r (n - (at + 1)) left found high a
semicolon_turn X r n at left found high i a b h e s = begun X r n at left found high i b h ∙ turn r (n - (at + 1)) left found high i _ e ∙ ap (types_from r (n - (at + 1)) left found high) (sym s)

pub unit_ends : (X : Answer) (r n at left : ℕ) (found : PlainUnit) (high : ℕ) (i : Lexemes) → at < n → X ≡ types_from r (n - at) left found high i → unit_beginning (terminal_at i) ≡ unit_begin.Nothing → X ≡ unit_end found high i
unit_ends X r n at left found high i b h e = begun X r n at left found high i b h ∙ turn r (n - (at + 1)) left found high i _ e

pub unit_over : (X : Answer) (r n at left : ℕ) (found : PlainUnit) (high : ℕ) (i : Lexemes) → n ≤ at → X ≡ types_from r (n - at) left found high i → X ≡ unit_end found high i
unfolding types_from
unit_over X r n at left found high i b h = let z : n - at ≡ 0 = omega arith in h ∙ ap (λ k. types_from r k left found high i) z

-- ---- where a type begins

type_by : (r k left : ℕ) (found : PlainUnit) (high : ℕ) (i : Lexemes) (u : UnitBeginning) → (u ≡ unit_begin.Semicolon → ⊥) → (u ≡ unit_begin.Nothing → ⊥) → unit_by r (types_from r k) left found high u i ≡ type_within r (further r k found high) left i
type_by r k left found high i unit_begin.Semicolon s n = absurd (s refl)
type_by r k left found high i unit_begin.Nothing s n = absurd (n refl)
type_by r k left found high i unit_begin.Public s n = refl
type_by r k left found high i unit_begin.Abstract s n = refl
type_by r k left found high i unit_begin.Class s n = refl
type_by r k left found high i unit_begin.Interface s n = refl

-- the turn is one of a type
pub record TypeTurn (X : Answer) (r n at left : ℕ) (found : PlainUnit) (high : ℕ) (i : Lexemes) : Type 0 where
  pub turns : at < n
  pub so_far : X ≡ types_from r (n - at) left found high i
  pub no_semicolon : unit_beginning (terminal_at i) ≡ unit_begin.Semicolon → ⊥
  pub something : unit_beginning (terminal_at i) ≡ unit_begin.Nothing → ⊥

within : {X : Answer} {r n at left : ℕ} {found : PlainUnit} {high : ℕ} {i : Lexemes} → TypeTurn X r n at left found high i → X ≡ type_within r (further r (n - (at + 1)) found high) left i
within {X = X} {r = r} {n = n} {at = at} {left = left} {found = found} {high = high} {i = i} t =
    begun X r n at left found high i t.turns t.so_far ∙ turn r (n - (at + 1)) left found high i _ refl ∙ type_by r (n - (at + 1)) left found high i _ t.no_semicolon t.something

pub types_full : {X : Answer} {r n at left : ℕ} {found : PlainUnit} {high : ℕ} {i : Lexemes} → TypeTurn X r n at left found high i → left ≡ 0 → X ≡ (Err TooMany, i)
types_full {r = r} {n = n} {at = at} {found = found} {high = high} {i = i} t z = within t ∙ ap (λ l. type_within r (further r (n - (at + 1)) found high) l i) z

pub type_turn : {X : Answer} {r n at left : ℕ} {found : PlainUnit} {high : ℕ} {i : Lexemes} (less : ℕ) (more : PlainUnit) (higher : ℕ) (d : PlainType) (h : ℕ) (a : Lexemes) → TypeTurn X r n at left found high i
    → left ≡ suc less → type_declaration r i ≡ (Ok (d, h), a) → more ≡ found ++ d ∷ [] → higher ≡ max high h → X ≡ types_from r (n - (at + 1)) less more higher a
type_turn {r = r} {n = n} {at = at} {found = found} {high = high} {i = i} less more higher d h a t l o m g =
    within t ∙ ap (λ l. type_within r (further r (n - (at + 1)) found high) l i) l ∙ rw o refl ∙ (λ j. types_from r (n - (at + 1)) less (sym m j) (sym g j) a)

pub type_refused : {X : Answer} {r n at left : ℕ} {found : PlainUnit} {high : ℕ} {i : Lexemes} (less : ℕ) (e : Stop) (a : Lexemes) → TypeTurn X r n at left found high i → left ≡ suc less → type_declaration r i ≡ (Err e, a) → X ≡ (Err e, a)
type_refused {r = r} {n = n} {at = at} {found = found} {high = high} {i = i} less e a t l o = within t ∙ ap (λ l. type_within r (further r (n - (at + 1)) found high) l i) l ∙ rw o refl

pub max_low : (high other higher bound : ℕ) → higher ≡ max high other → high ≤ bound → other ≤ bound → higher ≤ bound
max_low high other higher bound e h o = omega (arith, e)
