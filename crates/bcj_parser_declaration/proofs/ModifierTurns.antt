-- One turn of the loops that read modifiers
use Rattle.std.proofs.Common.{◌≡◌, ℕ, suc, ◌+◌, ◌-◌, ◌<◌, ◌≤◌, Bool, true, Option, Some, None, sym, ap, ◌∙◌, refl, Ok, arith, false}
use Rattle.bcj_parser_trees.specs.declared.names.Mods.{Mods}
use Rattle.bcj_parser_rules.specs.declared.kind.UnitBeginning.{UnitBeginning}
use Rattle.bcj_parser_rules.specs.declared.kind.UnitBeginning.TheVariants as unit_begin
use Rattle.bcj_parser_rules.specs.Lexemes.{Lexemes}
use Rattle.bcj_parser_rules.specs.Grammar.{with_modifier}
use Rattle.bcj_parser_rules.specs.Lexemes.{terminal_at}
use Rattle.bcj_parser_rules.specs.function.Kinds.{unit_beginning}
use Rattle.bcj_parser_rules.specs.function.Steps.{Outcome, rest}
use Rattle.bcj_parser_rules.specs.function.Declarations.{modifiers, modifiers_by, type_modifiers, type_modifiers_by}
use Rattle.bcj_parser_cursor.proofs.Turns.{fewer}

-- by what the modifiers become with the next terminal
turn : (k : ℕ) (before : Mods) (i : Lexemes) (o : Option Mods) → with_modifier (terminal_at i) before ≡ o → modifiers (suc k) before i ≡ modifiers_by (modifiers k) before o i
unfolding modifiers
turn k before i o e = ap (λ o. modifiers_by (modifiers k) before o i) e

pub modifiers_turn : (X : Outcome Mods) (n at : ℕ) (before more : Mods) (i a : Lexemes) → at < n → X ≡ modifiers (n - at) before i → with_modifier (terminal_at i) before ≡ Some more → a ≡ rest i → X ≡ modifiers (n - (at + 1)) more a
modifiers_turn X n at before more i a b h o s = h ∙ ap (λ k. modifiers k before i) (fewer n at b) ∙ turn (n - (at + 1)) before i (Some more) o ∙ ap (modifiers (n - (at + 1)) more) (sym s)

pub modifiers_end : (X : Outcome Mods) (n at : ℕ) (before : Mods) (i : Lexemes) → at < n → X ≡ modifiers (n - at) before i → with_modifier (terminal_at i) before ≡ None → X ≡ (Ok before, i)
modifiers_end X n at before i b h o = h ∙ ap (λ k. modifiers k before i) (fewer n at b) ∙ turn (n - (at + 1)) before i None o

pub modifiers_over : (X : Outcome Mods) (n at : ℕ) (before : Mods) (i : Lexemes) → n ≤ at → X ≡ modifiers (n - at) before i → X ≡ (Ok before, i)
unfolding modifiers
modifiers_over X n at before i b h = let z : n - at ≡ 0 = omega arith in h ∙ ap (λ k. modifiers k before i) z

-- ---- of a type

type_turn : (k : ℕ) (before : Bool) (i : Lexemes) (u : UnitBeginning) → unit_beginning (terminal_at i) ≡ u → type_modifiers (suc k) before i ≡ type_modifiers_by (type_modifiers k) before u i
unfolding type_modifiers
type_turn k before i u e = ap (λ u. type_modifiers_by (type_modifiers k) before u i) e

pub public_turn : (X : Outcome Bool) (n at : ℕ) (before : Bool) (i a : Lexemes) → at < n → X ≡ type_modifiers (n - at) before i → unit_beginning (terminal_at i) ≡ unit_begin.Public → a ≡ rest i → X ≡ type_modifiers (n - (at + 1)) before a
public_turn X n at before i a b h o s = h ∙ ap (λ k. type_modifiers k before i) (fewer n at b) ∙ type_turn (n - (at + 1)) before i _ o ∙ ap (type_modifiers (n - (at + 1)) before) (sym s)

pub abstract_turn : (X : Outcome Bool) (n at : ℕ) (before : Bool) (i a : Lexemes) → at < n → X ≡ type_modifiers (n - at) before i → unit_beginning (terminal_at i) ≡ unit_begin.Abstract → a ≡ rest i → X ≡ type_modifiers (n - (at + 1)) true a
abstract_turn X n at before i a b h o s = h ∙ ap (λ k. type_modifiers k before i) (fewer n at b) ∙ type_turn (n - (at + 1)) before i _ o ∙ ap (type_modifiers (n - (at + 1)) true) (sym s)

-- neither `public` nor `abstract`
abbrev pub is_no_modifier : UnitBeginning → Bool
is_no_modifier unit_begin.Public = false
is_no_modifier unit_begin.Abstract = false
is_no_modifier _ = true

ends_by : (p : Bool → Lexemes → Outcome Bool) (before : Bool) (i : Lexemes) (u : UnitBeginning) → is_no_modifier u ≡ true → type_modifiers_by p before u i ≡ (Ok before, i)
ends_by p before i unit_begin.Public e = absurd (cc)
ends_by p before i unit_begin.Abstract e = absurd (cc)
ends_by p before i unit_begin.Semicolon e = refl
ends_by p before i unit_begin.Class e = refl
ends_by p before i unit_begin.Interface e = refl
ends_by p before i unit_begin.Nothing e = refl

pub type_modifiers_end : (X : Outcome Bool) (n at : ℕ) (before : Bool) (i : Lexemes) → at < n → X ≡ type_modifiers (n - at) before i → is_no_modifier (unit_beginning (terminal_at i)) ≡ true → X ≡ (Ok before, i)
type_modifiers_end X n at before i b h o = h ∙ ap (λ k. type_modifiers k before i) (fewer n at b) ∙ type_turn (n - (at + 1)) before i _ refl ∙ ends_by (type_modifiers (n - (at + 1))) before i _ o

pub type_modifiers_over : (X : Outcome Bool) (n at : ℕ) (before : Bool) (i : Lexemes) → n ≤ at → X ≡ type_modifiers (n - at) before i → X ≡ (Ok before, i)
unfolding type_modifiers
type_modifiers_over X n at before i b h = let z : n - at ≡ 0 = omega arith in h ∙ ap (λ k. type_modifiers k before i) z
