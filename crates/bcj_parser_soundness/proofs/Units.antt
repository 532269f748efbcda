-- What is read as a type or as a whole text is one.
use Rattle.std.proofs.Common.{◌≡◌, ℕ, zero, suc, ◌+◌, ◌≤◌, max, Bool, true, false, ◌||◌, [], ◌∷◌, ◌++◌, length, refl, sym, ◌∙◌, subst, length-append, arith}
use Rattle.bcj_parser_trees.specs.Trees.{PlainType, PlainUnit}
use Rattle.bcj_parser_rules.specs.declared.kind.Mark.TheVariants as mark
use Rattle.bcj_parser_rules.specs.declared.kind.UnitBeginning.{UnitBeginning}
use Rattle.bcj_parser_rules.specs.declared.kind.UnitBeginning.TheVariants as unit_begin
use Rattle.bcj_parser_rules.specs.declared.terminal.Terminal.TheVariants as terminal
use Rattle.bcj_parser_rules.specs.declared.stop.Site.TheVariants as site
use Rattle.bcj_parser_rules.specs.declared.stop.Stop.{Stop}
use Rattle.bcj_parser_rules.specs.declared.stop.Stop.TheVariants.{Refused, TooDeep, TooMany, NoMemory}
use Rattle.bcj_parser_rules.specs.Lexemes.{Lexeme, Lexemes}
use Rattle.bcj_parser_rules.specs.Grammar as g
use Rattle.bcj_parser_rules.specs.Lexemes.{first_at}
use Rattle.bcj_parser_rules.specs.Grammar.{TypeModifiers, SuperclassRead, TypeDeclaration, UnitRead}
use Rattle.bcj_parser_rules.specs.Lexemes.{terminal_at}
use Rattle.bcj_parser_rules.specs.function.Kinds.{unit_beginning}
use Rattle.bcj_parser_rules.specs.Texts as texts
use Rattle.bcj_parser_rules.specs.Texts.{TypesRead, begins_type}
use Rattle.bcj_parser_rules.specs.function.Declarations.{type_modifiers_by, type_modifiers, superclass, site_behind_header, class_rest, interface_rest, type_by_word, type_declaration, unit_end, type_within, unit_by, types_from, unit}
use Rattle.bcj_parser_soundness.specs.Laws.{IsWhole, StopShows, EachReadUnitIsDerived}
use Rattle.bcj_parser_soundness.proofs.Terminals.{UnitBeginsSo, unit_begins_so}
use Rattle.bcj_parser_soundness.proofs.Outcomes.{Meets, Failed, read, stopped, refused, bind, bind_both, weaken, choose, expect_name, name_behind, bind_terminal}
use Rattle.bcj_parser_soundness.proofs.Members.{names_behind_sound, members_sound}

-- ---- types

record ModifiersRead (b : Bool) (i : Lexemes) (c : Bool) (a : Lexemes) : Type 0 where
  more : Bool
  read : TypeModifiers i a more
  all : c ≡ (b || more)

or_none : (b : Bool) → b ≡ (b || false)
or_none true = refl
or_none false = refl

or_true : (b : Bool) → true ≡ (b || true)
or_true true = refl
or_true false = refl

type_modifiers_sound : (turns : ℕ) (b : Bool) (i : Lexemes) → Meets (ModifiersRead b i) Failed (type_modifiers turns b i)
unfolding type_modifiers
type_modifiers_sound zero b i = read (record { more = false; read = g.no_type_modifier; all = or_none b })
type_modifiers_sound (suc turns) b [] = read (record { more = false; read = g.no_type_modifier; all = or_none b })
type_modifiers_sound (suc turns) b (t ∷ i) = by (type_modifiers_sound turns) (unit_beginning t.terminal) (unit_begins_so t.terminal) where
  by : ((b : Bool) (i : Lexemes) → Meets (ModifiersRead b i) Failed (type_modifiers turns b i)) → (k : UnitBeginning) → UnitBeginsSo k t.terminal
      → Meets (ModifiersRead b (t ∷ i)) Failed (type_modifiers_by (type_modifiers turns) b k (t ∷ i))
  by next unit_begin.Public e = weaken (next b i) (λ c a q. record { more = q.more; read = g.public_type e.0 q.read; all = q.all })
  by next unit_begin.Abstract e = weaken (next true i) (λ c a q. record { more = true; read = g.abstract_type e.0 q.read; all = q.all ∙ or_true b })
  by next _ e = read (record { more = false; read = g.no_type_modifier; all = or_none b })

superclass_sound : (i : Lexemes) → Meets (λ es a. SuperclassRead i a es) Failed (superclass i)
unfolding superclass
superclass_sound = choose (λ i es a. SuperclassRead i a es) mark.Extends _ _ (λ t e. expect_name (λ i es a. SuperclassRead (t ∷ i) a es) site.Elsewhere _ (λ u f i. read (g.a_superclass e f)))
    (λ i. read g.no_superclass)

record DeclarationWithin (r : ℕ) (i : Lexemes) (p : PlainType × ℕ) (a : Lexemes) : Type 0 where
  read : TypeDeclaration i a p.0 p.1
  low : p.1 ≤ r + 3

class_sound : (r : ℕ) (j : Lexemes) (b : Bool) (t : Lexeme) → t.terminal ≡ terminal.Class → (i : Lexemes) → TypeModifiers j (t ∷ i) b → Meets (DeclarationWithin r j) Failed (class_rest r (first_at j) b i)
unfolding class_rest
class_sound r j b t e = name_behind (λ i. TypeModifiers j (t ∷ i) b) site.Elsewhere _ (λ u f i d. bind (superclass_sound i) (λ es k p. bind_terminal mark.LeftBrace (λ is. site_behind_header es is)
    (names_behind_sound mark.Implements k) (λ is v h l q. bind (members_sound r false l) (λ ms a o. read (record { read = g.class d e f p q h o.read; low = omega (arith, o.low) })))))

interface_sound : (r : ℕ) (j : Lexemes) (b : Bool) (t : Lexeme) → t.terminal ≡ terminal.Interface → (i : Lexemes) → TypeModifiers j (t ∷ i) b → Meets (DeclarationWithin r j) Failed (interface_rest r (first_at j) b i)
unfolding interface_rest
interface_sound r j b t e = name_behind (λ i. TypeModifiers j (t ∷ i) b) site.Elsewhere _ (λ u f i d. bind_terminal mark.LeftBrace (λ es. site_behind_header es [])
    (names_behind_sound mark.Extends i) (λ es v h l q. bind (members_sound r true l) (λ ms a o. read (record { read = g.interface_type d e f q h o.read; low = omega (arith, o.low) }))))

type_by_word_sound : (r : ℕ) (j : Lexemes) (b : Bool) (i : Lexemes) → TypeModifiers j i b → Meets (DeclarationWithin r j) Failed (type_by_word r (first_at j) b (unit_beginning (terminal_at i)) i)
type_by_word_sound r j b [] d = refused
type_by_word_sound r j b (t ∷ i) d = by (unit_beginning t.terminal) (unit_begins_so t.terminal) where
  by : (k : UnitBeginning) → UnitBeginsSo k t.terminal → Meets (DeclarationWithin r j) Failed (type_by_word r (first_at j) b k (t ∷ i))
  by unit_begin.Class e = class_sound r j b t e.0 i d
  by unit_begin.Interface e = interface_sound r j b t e.0 i d
  by _ e = refused

type_sound : (r : ℕ) (i : Lexemes) → Meets (DeclarationWithin r i) Failed (type_declaration r i)
unfolding type_declaration
type_sound r i = bind (type_modifiers_sound (length i) false i) (λ b a q. type_by_word_sound r i b a (subst (TypeModifiers i a) (sym q.all) q.read))

-- ---- units

type_behind : {i n a : Lexemes} {u : PlainUnit} {d : PlainType} {f h : ℕ} → TypesRead i n u h → TypeDeclaration n a d f → TypesRead i a (u ++ d ∷ []) (max h f)
type_behind {i} {n} {a} {f = f} texts.no_type d = let e : max f 0 ≡ max 0 f = omega arith in subst (TypesRead i a (_ ∷ [])) e (texts.a_type d texts.no_type)
type_behind (texts.stray_semicolon e q) d = texts.stray_semicolon e (type_behind q d)
type_behind {i} {n} {a} {d = y} {f = f} (texts.a_type {d = x} {u = u} {g = h} {h = k} c q) d =
    let e : max h (max k f) ≡ max (max h k) f = omega arith in subst (TypesRead i a (x ∷ (u ++ y ∷ []))) e (texts.a_type c (type_behind q d))

semicolon_behind : {t : Lexeme} {i n : Lexemes} {u : PlainUnit} {h : ℕ} → TypesRead i (t ∷ n) u h → t.terminal ≡ terminal.Semicolon → TypesRead i n u h
semicolon_behind texts.no_type e = texts.stray_semicolon e texts.no_type
semicolon_behind (texts.stray_semicolon f q) e = texts.stray_semicolon f (semicolon_behind q e)
semicolon_behind (texts.a_type d q) e = texts.a_type d (semicolon_behind q e)

unit_of : {i : Lexemes} {u : PlainUnit} {h : ℕ} → TypesRead i [] u h → UnitRead i u h
unit_of texts.no_type = g.no_type
unit_of (texts.stray_semicolon e q) = g.stray_semicolon e (unit_of q)
unit_of (texts.a_type d q) = g.a_type d (unit_of q)

failed_part : (r limit : ℕ) (i : Lexemes) (e : Stop) (a : Lexemes) → Failed e a → StopShows r limit i e a
failed_part r limit i (Refused w) a h = tt
failed_part r limit i TooDeep a h = tt
failed_part r limit i TooMany a h = absurd h
failed_part r limit i NoMemory a h = h

-- the types found from j up to i, where so many more may follow
record TypesFound (r limit left : ℕ) (j : Lexemes) (found : PlainUnit) (high : ℕ) (i : Lexemes) : Type 0 where
  read : TypesRead j i found high
  low : high ≤ r + 3
  count : length found + left ≡ limit

end_sound : (r limit left : ℕ) (j : Lexemes) (found : PlainUnit) (high : ℕ) (i : Lexemes) → TypesFound r limit left j found high i → Meets (IsWhole r limit j) (StopShows r limit j) (unit_end found high i)
end_sound r limit left j found high [] q = read (record { ended = refl; derived = unit_of q.read; low = q.low; few = omega (arith, q.count) })
end_sound r limit left j found high (t ∷ i) q = stopped tt

abbrev Continues : ℕ → ℕ → Lexemes → ℕ → Type 0
Continues r limit j turns = (left : ℕ) (found : PlainUnit) (high : ℕ) (i : Lexemes) → TypesFound r limit left j found high i
    → Meets (IsWhole r limit j) (StopShows r limit j) (types_from r turns left found high i)

found_with : {r limit left high : ℕ} {j i a : Lexemes} {found : PlainUnit} (d : PlainType × ℕ) → TypesFound r limit (suc left) j found high i → DeclarationWithin r i d a
    → TypesFound r limit left j (found ++ d.0 ∷ []) (max high d.1) a
found_with {found = found} d q p = record { read = type_behind q.read p.read; low = omega (arith, q.low, p.low); count = omega (arith, q.count, length-append found (d.0 ∷ [])) }

within_sound : (r limit turns : ℕ) (j : Lexemes) → Continues r limit j turns → (left : ℕ) (found : PlainUnit) (high : ℕ) (i : Lexemes) → TypesFound r limit left j found high i → begins_type (terminal_at i) ≡ true
    → Meets (IsWhole r limit j) (StopShows r limit j) (type_within r (λ left d. types_from r turns left (found ++ d.0 ∷ []) (max high d.1)) left i)
within_sound r limit turns j next zero found high i q e = stopped (record { types = found; height = high; read = q.read; full = omega (arith, q.count); low = q.low; next = e })
within_sound r limit turns j next (suc left) found high i q e = bind_both (type_sound r i) (failed_part r limit j) (λ d a p. next left (found ++ d.0 ∷ []) (max high d.1) a (found_with d q p))

types_sound : (r limit : ℕ) (j : Lexemes) (turns : ℕ) → Continues r limit j turns
unfolding types_from
types_sound r limit j zero left found high i q = end_sound r limit left j found high i q
types_sound r limit j (suc turns) left found high [] q = end_sound r limit left j found high [] q
types_sound r limit j (suc turns) left found high (t ∷ i) q = by (types_sound r limit j turns) (unit_beginning t.terminal) (unit_begins_so t.terminal) where
  by : Continues r limit j turns → (k : UnitBeginning) → UnitBeginsSo k t.terminal → Meets (IsWhole r limit j) (StopShows r limit j) (unit_by r (types_from r turns) left found high k (t ∷ i))
  by next unit_begin.Semicolon e = next left found high i (record { read = semicolon_behind q.read e; low = q.low; count = q.count })
  by next unit_begin.Public e = within_sound r limit turns j next left found high (t ∷ i) q e.1
  by next unit_begin.Abstract e = within_sound r limit turns j next left found high (t ∷ i) q e.1
  by next unit_begin.Class e = within_sound r limit turns j next left found high (t ∷ i) q e.1
  by next unit_begin.Interface e = within_sound r limit turns j next left found high (t ∷ i) q e.1
  by next unit_begin.Nothing e = end_sound r limit left j found high (t ∷ i) q

pub unit_sound : EachReadUnitIsDerived
unfolding unit
unit_sound r limit i = (types_sound r limit i (length i) limit [] 0 i (record { read = texts.no_type; low = omega arith; count = omega arith })).both
