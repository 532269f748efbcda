-- Each type and each unit that the grammar derives is read
use Rattle.std.proofs.Common.{◌≡◌, refl, ap, sym, ◌∙◌, ℕ, zero, suc, ◌+◌, ◌-◌, ◌<◌, ◌≤◌, max, Bool, true, false, ◌||◌, List, [], ◌∷◌, ◌++◌, length, Result, Ok, Err, arith}
use Rattle.std.proofs.lemmas.List.{append_assoc, append-nil}
use Rattle.bcj_parser_trees.specs.Trees.{PlainMember, PlainType, PlainUnit}
use Rattle.bcj_parser_rules.specs.declared.kind.Mark.TheVariants as mark
use Rattle.bcj_parser_rules.specs.declared.kind.UnitBeginning.{UnitBeginning}
use Rattle.bcj_parser_rules.specs.declared.kind.UnitBeginning.TheVariants as unit_begin
use Rattle.bcj_parser_rules.specs.declared.terminal.Terminal.{Terminal}
use Rattle.bcj_parser_rules.specs.declared.terminal.Terminal.TheVariants as terminal
use Rattle.bcj_parser_rules.specs.declared.stop.Stop.{Stop}
use Rattle.bcj_parser_rules.specs.declared.stop.Stop.TheVariants.{TooMany}
use Rattle.bcj_parser_rules.specs.declared.stop.Site.TheVariants as site
use Rattle.bcj_parser_rules.specs.Lexemes.{Lexeme, Lexemes, lexemes_of}
use Rattle.bcj_parser_rules.specs.Grammar as g
use Rattle.bcj_parser_rules.specs.Lexemes.{first_at}
use Rattle.bcj_parser_rules.specs.Grammar.{TypeModifiers, SuperclassRead, NamesBehind, TypeDeclaration, UnitRead, derives}
use Rattle.bcj_parser_rules.specs.Lexemes.{terminal_at}
use Rattle.bcj_parser_rules.specs.function.Kinds.{unit_beginning}
use Rattle.bcj_parser_rules.specs.function.Steps.{Outcome, Parser, sees}
use Rattle.bcj_parser_rules.specs.function.Declarations.{type_modifiers_by, type_modifiers, superclass, site_behind_header, class_rest, interface_rest, type_by_word, type_declaration, type_within, unit_by, types_from, unit}
use Rattle.bcj_parser_rules.specs.Texts as text
use Rattle.bcj_parser_rules.specs.Texts.{TypesRead, begins_type, HasOneUnit}
use Rattle.bcj_parser_completeness.specs.Laws as law
use Rattle.bcj_parser_completeness.proofs.Terminals.{seen, unseen}
use Rattle.bcj_parser_completeness.proofs.Steps.{bind, taking, passing, expect_reads, named_reads}
use Rattle.bcj_parser_completeness.proofs.Lengths.{names_behind_take}
use Rattle.bcj_parser_completeness.proofs.Headers.{names_behind_read}
use Rattle.bcj_parser_completeness.proofs.Members.{members_read, members_take}

-- ---- the header of a type

abbrev is_kind : UnitBeginning → Bool
is_kind unit_begin.Class = true
is_kind unit_begin.Interface = true
is_kind _ = false

kind_stops : (k : UnitBeginning) → is_kind k ≡ true → (next : Bool → Parser Bool) (b : Bool) (i : Lexemes) → type_modifiers_by next b k i ≡ (Ok b, i)
kind_stops unit_begin.Class e next b i = refl
kind_stops unit_begin.Interface e next b i = refl
kind_stops _ e next b i = absurd (cc)

or_false : (b : Bool) → b ≡ (b || false)
or_false true = refl
or_false false = refl

or_true : (b : Bool) → true ≡ (b || true)
or_true true = refl
or_true false = refl

abbrev the_flag : Bool → Lexemes → Outcome Bool
the_flag b a = (Ok b, a)

type_modifiers_read : {i m : Lexemes} {b : Bool} → TypeModifiers i m b → is_kind (unit_beginning (terminal_at m)) ≡ true → (turns : ℕ) → length i ≤ turns → (before : Bool) → type_modifiers turns before i ≡ (Ok (before || b), m)
unfolding type_modifiers
type_modifiers_read (g.no_type_modifier {a = i}) e zero l before = ap (λ b. the_flag b i) (or_false before)
type_modifiers_read (g.no_type_modifier {a = i}) e (suc turns) l before = kind_stops (unit_beginning (terminal_at i)) e (type_modifiers turns) before i ∙ ap (λ b. the_flag b i) (or_false before)
type_modifiers_read (g.public_type {t = t} {m = m} f d) e zero l before = absurd (omega arith)
type_modifiers_read (g.public_type {t = t} {m = m} f d) e (suc turns) l before =
    ap (λ k. type_modifiers_by (type_modifiers turns) before (unit_beginning k) (t ∷ m)) f ∙ type_modifiers_read d e turns (omega arith) before
type_modifiers_read (g.abstract_type {t = t} {m = m} f d) e zero l before = absurd (omega arith)
type_modifiers_read (g.abstract_type {t = t} {m = m} {a = a} f d) e (suc turns) l before =
    ap (λ k. type_modifiers_by (type_modifiers turns) before (unit_beginning k) (t ∷ m)) f ∙ type_modifiers_read d e turns (omega arith) true ∙ ap (λ b. the_flag b a) (or_true before)

superclass_read : {i a : Lexemes} {es : List (List ℕ)} → SuperclassRead i a es → sees mark.Extends a ≡ false → superclass i ≡ (Ok es, a)
unfolding superclass
superclass_read g.no_superclass e = passing e _ refl
superclass_read (g.a_superclass {t = t} {u = u} {a = a} f k) e = taking (seen mark.Extends t (u ∷ a) f) _ (bind (named_reads site.Elsewhere u a k) _ refl)

implements_first : {i a : Lexemes} {ns : List (List ℕ)} → NamesBehind terminal.Implements i a ns → terminal_at a ≡ terminal.LeftBrace → sees mark.Extends i ≡ false
implements_first (g.no_names {a = a}) e = unseen mark.Extends a e refl
implements_first (g.names {t = t} {m = m} f d) e = unseen mark.Extends (t ∷ m) f refl

class_reads : (u : Lexeme) {v : Lexeme} {m n k a : Lexemes} {es is : List (List ℕ)} {ms : List PlainMember} {h : ℕ} → u.terminal ≡ terminal.Identifier → SuperclassRead m n es → NamesBehind terminal.Implements n (v ∷ k) is → v.terminal ≡ terminal.LeftBrace → g.Members false k a ms h
    → (r : ℕ) → h ≤ suc (suc r) → (at : ℕ) (b : Bool) → class_rest r at b (u ∷ m) ≡ (Ok (record { at = at; interface = false; is_abstract = b; name = u.word; extends = es; implements = is; members = ms }, suc h), a)
unfolding class_rest
class_reads u {v = v} {m = m} {k = k} {es = es} {is = is} e ds dn f d r l at b =
    bind (named_reads site.Elsewhere u m e) _ (bind (superclass_read ds (implements_first dn f)) _ (bind (names_behind_read mark.Implements dn (unseen mark.Comma (v ∷ k) f refl) (unseen mark.Implements (v ∷ k) f refl)) _
    (bind (expect_reads mark.LeftBrace (site_behind_header es is) v k f) _ (bind (members_read d r l) _ refl))))

interface_reads : (u : Lexeme) {v : Lexeme} {m k a : Lexemes} {es : List (List ℕ)} {ms : List PlainMember} {h : ℕ} → u.terminal ≡ terminal.Identifier → NamesBehind terminal.Extends m (v ∷ k) es → v.terminal ≡ terminal.LeftBrace → g.Members true k a ms h
    → (r : ℕ) → h ≤ suc (suc r) → (at : ℕ) (b : Bool) → interface_rest r at b (u ∷ m) ≡ (Ok (record { at = at; interface = true; is_abstract = b; name = u.word; extends = es; implements = []; members = ms }, suc h), a)
unfolding interface_rest
interface_reads u {v = v} {m = m} {k = k} {es = es} e dn f d r l at b =
    bind (named_reads site.Elsewhere u m e) _ (bind (names_behind_read mark.Extends dn (unseen mark.Comma (v ∷ k) f refl) (unseen mark.Extends (v ∷ k) f refl)) _
    (bind (expect_reads mark.LeftBrace (site_behind_header es []) v k f) _ (bind (members_read d r l) _ refl)))

by_word : (r at : ℕ) (b : Bool) (t : Lexeme) (m : Lexemes) {o : Outcome (PlainType × ℕ)} {j : Terminal} → t.terminal ≡ j → type_by_word r at b (unit_beginning j) (t ∷ m) ≡ o → type_by_word r at b (unit_beginning t.terminal) (t ∷ m) ≡ o
by_word r at b t m e h = ap (λ k. type_by_word r at b (unit_beginning k) (t ∷ m)) e ∙ h

declaration_reads : {i a : Lexemes} {d : PlainType} {h : ℕ} → TypeDeclaration i a d h → (r : ℕ) → h ≤ suc (suc (suc r)) → type_declaration r i ≡ (Ok (d, h), a)
unfolding type_declaration
declaration_reads (g.class {t = t} {u = u} {i = i} {m = m} {b = b} dm e f ds dn k d) r l =
    bind (type_modifiers_read dm (ap (λ k. is_kind (unit_beginning k)) e) (length i) (omega arith) false) _ (by_word r (first_at i) b t (u ∷ m) e (class_reads u f ds dn k d r (omega arith) (first_at i) b))
declaration_reads (g.interface_type {t = t} {u = u} {i = i} {m = m} {b = b} dm e f dn k d) r l =
    bind (type_modifiers_read dm (ap (λ k. is_kind (unit_beginning k)) e) (length i) (omega arith) false) _ (by_word r (first_at i) b t (u ∷ m) e (interface_reads u f dn k d r (omega arith) (first_at i) b))

-- ---- lengths

type_modifiers_take : {i a : Lexemes} {b : Bool} → TypeModifiers i a b → length a ≤ length i
type_modifiers_take g.no_type_modifier = omega arith
type_modifiers_take (g.public_type {t = t} {m = m} {a = a} e d) = omega (arith, type_modifiers_take d)
type_modifiers_take (g.abstract_type {t = t} {m = m} {a = a} e d) = omega (arith, type_modifiers_take d)

superclass_takes : {i a : Lexemes} {es : List (List ℕ)} → SuperclassRead i a es → length a ≤ length i
superclass_takes g.no_superclass = omega arith
superclass_takes (g.a_superclass e f) = omega arith

declaration_takes : {i a : Lexemes} {d : PlainType} {h : ℕ} → TypeDeclaration i a d h → length a < length i
declaration_takes (g.class {t = t} {u = u} {v = v} {i = i} {m = m} {n = n} {k = k} {a = a} dm e f ds dn q d) = omega (arith, type_modifiers_take dm, superclass_takes ds, names_behind_take dn, members_take d)
declaration_takes (g.interface_type {t = t} {u = u} {v = v} {i = i} {m = m} {n = n} {a = a} dm e f dn q d) = omega (arith, type_modifiers_take dm, names_behind_take dn, members_take d)

-- ---- units

modifiers_begin : {i m : Lexemes} {b : Bool} → TypeModifiers i m b → begins_type (terminal_at m) ≡ true → begins_type (terminal_at i) ≡ true
modifiers_begin g.no_type_modifier e = e
modifiers_begin (g.public_type f d) e = ap begins_type f
modifiers_begin (g.abstract_type f d) e = ap begins_type f

type_begins : {i a : Lexemes} {d : PlainType} {h : ℕ} → TypeDeclaration i a d h → begins_type (terminal_at i) ≡ true
type_begins (g.class dm e f ds dn k d) = modifiers_begin dm (ap begins_type e)
type_begins (g.interface_type dm e f dn k d) = modifiers_begin dm (ap begins_type e)

abbrev Next : Type 0
Next = ℕ → PlainUnit → ℕ → Parser (PlainUnit × ℕ)

at_type : (r : ℕ) (next : Next) (limit : ℕ) (found : PlainUnit) (high : ℕ) (j : Terminal) (i : Lexemes) → begins_type j ≡ true
    → unit_by r next limit found high (unit_beginning j) i ≡ type_within r (λ left d. next left (found ++ d.0 ∷ []) (max high d.1)) limit i
at_type r next limit found high terminal.Public i e = refl
at_type r next limit found high terminal.Abstract i e = refl
at_type r next limit found high terminal.Class i e = refl
at_type r next limit found high terminal.Interface i e = refl
at_type r next limit found high _ i e = absurd (cc)

same_start : (r turns : ℕ) {limit left high tall : ℕ} {found us : PlainUnit} (i : Lexemes) {o : Outcome (PlainUnit × ℕ)} → limit ≡ left → found ≡ us → high ≡ tall → types_from r turns left us tall i ≡ o → types_from r turns limit found high i ≡ o
same_start r turns {limit = limit} {left = left} {high = high} {tall = tall} {found = found} {us = us} i p q w h =
    ap (λ n. types_from r turns n found high i) p ∙ ap (λ u. types_from r turns left u high i) q ∙ ap (λ n. types_from r turns left us n i) w ∙ h

types_read : {i a : Lexemes} {u : PlainUnit} {h : ℕ} → TypesRead i a u h → (r : ℕ) → h ≤ suc (suc (suc r)) → (turns : ℕ) → length i ≤ turns → (limit left : ℕ) (found : PlainUnit) (high : ℕ) → limit ≡ length u + left → (o : Outcome (PlainUnit × ℕ))
    → ((turns : ℕ) → length a ≤ turns → types_from r turns left (found ++ u) (max high h) a ≡ o) → types_from r turns limit found high i ≡ o
unfolding types_from
types_read (text.no_type {a = i}) r l turns b limit left found high p o f = same_start r turns i (p ∙ omega arith) (sym (append-nil found)) (omega arith) (f turns b)
types_read (text.stray_semicolon {t = t} {m = m} e d) r l zero b limit left found high p o f = absurd (omega arith)
types_read (text.stray_semicolon {t = t} {m = m} e d) r l (suc turns) b limit left found high p o f =
    ap (λ k. unit_by r (types_from r turns) limit found high (unit_beginning k) (t ∷ m)) e ∙ types_read d r l turns (omega arith) limit left found high p o f
types_read (text.a_type {i = i} {m = m} {d = x} {u = u} dt d) r l zero b limit left found high p o f = absurd (omega (arith, declaration_takes dt))
types_read (text.a_type {i = i} {m = m} {d = x} {u = u} dt d) r l (suc turns) b zero left found high p o f = absurd (omega arith)
types_read (text.a_type {i = i} {m = m} {a = a} {d = x} {u = u} {g = middle} {h = h} dt d) r l (suc turns) b (suc limit) left found high p o f =
    at_type r (types_from r turns) (suc limit) found high (terminal_at i) i (type_begins dt)
    ∙ bind (declaration_reads dt r (omega arith)) _ (types_read d r (omega arith) turns (omega (arith, declaration_takes dt)) limit left (found ++ x ∷ []) (max high middle) (omega arith) o
    (λ turns b. same_start r turns a refl (append_assoc found (x ∷ []) u) (omega arith) (f turns b)))

unit_types : {i : Lexemes} {u : PlainUnit} {h : ℕ} → UnitRead i u h → TypesRead i [] u h
unit_types g.no_type = text.no_type
unit_types (g.stray_semicolon e d) = text.stray_semicolon e (unit_types d)
unit_types (g.a_type dt d) = text.a_type dt (unit_types d)

abbrev the_unit : ℕ → PlainUnit → Outcome (PlainUnit × ℕ)
the_unit h u = (Ok (u, h), [])

ends : (r turns left : ℕ) (u : PlainUnit) (h : ℕ) → types_from r turns left u h [] ≡ (Ok (u, h), [])
unfolding types_from
ends r zero left u h = refl
ends r (suc turns) left u h = refl

pub each_unit_is_read : law.EachUnitIsRead
unfolding unit
each_unit_is_read r limit i u h d l few =
    types_read (unit_types d) r (omega arith) (length i) (omega arith) limit (limit - length u) [] 0 (omega arith) (Ok (u, h), []) (λ turns b. ends r turns (limit - length u) u (max 0 h) ∙ ap (λ h. the_unit h u) (omega arith))

full : (r turns : ℕ) (u : PlainUnit) (h : ℕ) (a : Lexemes) → length a ≤ turns → begins_type (terminal_at a) ≡ true → types_from r turns 0 u h a ≡ (Err TooMany, a)
unfolding types_from
full r turns u h [] b e = absurd (cc)
full r zero u h (t ∷ a) b e = absurd (omega arith)
full r (suc turns) u h (t ∷ a) b e = at_type r (types_from r turns) 0 u h t.terminal (t ∷ a) e

pub each_full_text_is_refused : law.EachFullTextIsRefused
unfolding unit
each_full_text_is_refused r limit i a u h d l few e =
    types_read d r (omega arith) (length i) (omega arith) limit 0 [] 0 (omega arith) (Err TooMany, a) (λ turns b. full r turns u (max 0 h) a b e)

abbrev unit_in : Result (PlainUnit × ℕ) Stop → PlainUnit
unit_in (Ok x) = x.0
unit_in (Err e) = []

pub has_one_unit : HasOneUnit
has_one_unit text tokens u v f h d e =
    ap (λ (o : Outcome (PlainUnit × ℕ)). unit_in o.0) (sym (each_unit_is_read (max f h) (max (length u) (length v)) (lexemes_of text tokens) u f d (omega arith) (omega arith)) ∙ each_unit_is_read (max f h) (max (length u) (length v)) (lexemes_of text tokens) v h e (omega arith) (omega arith))
