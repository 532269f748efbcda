-- Names, parameters and modifiers
use Rattle.std.proofs.Common.{◌≡◌, refl, ap, sym, ◌∙◌, ℕ, zero, suc, ◌≤◌, max, Bool, true, false, not, List, [], ◌∷◌, length, Some, None, Ok, arith}
use Rattle.bcj_parser_trees.specs.declared.names.TypeName.{TypeName}
use Rattle.bcj_parser_trees.specs.declared.names.Mods.{Mods}
use Rattle.bcj_parser_trees.specs.declared.names.Param.{Param}
use Rattle.bcj_parser_rules.specs.declared.kind.Mark.{Mark}
use Rattle.bcj_parser_rules.specs.declared.kind.Mark.TheVariants as mark
use Rattle.bcj_parser_rules.specs.declared.terminal.Terminal.{Terminal}
use Rattle.bcj_parser_rules.specs.declared.terminal.Terminal.TheVariants as terminal
use Rattle.bcj_parser_rules.specs.declared.stop.Site.TheVariants as site
use Rattle.bcj_parser_rules.specs.Lexemes.{Lexeme, Lexemes}
use Rattle.bcj_parser_rules.specs.Grammar as g
use Rattle.bcj_parser_rules.specs.Grammar.{TypeRead, Names, NamesBehind, Parameters, MoreParameters, Modifiers, with_modifier, no_mods}
use Rattle.bcj_parser_rules.specs.Lexemes.{terminal_at}
use Rattle.bcj_parser_rules.specs.function.Kinds.{terminal_of_mark}
use Rattle.bcj_parser_rules.specs.function.Steps.{Outcome, sees}
use Rattle.bcj_parser_rules.specs.function.Declarations.{one_name, names, names_behind, parameter, parameters, modifiers_by, modifiers}
use Rattle.bcj_parser_completeness.proofs.Terminals.{seen, unseen, apart}
use Rattle.bcj_parser_completeness.proofs.Steps.{bind, taking, passing, expect_reads, named_reads}
use Rattle.bcj_parser_completeness.proofs.Lists.{Further, stop, more, listed_reads, Line, line_last, line_more, line_reads}
use Rattle.bcj_parser_completeness.proofs.Types.{type_reads}
use Rattle.bcj_parser_completeness.proofs.Lengths.{type_takes}
use Rattle.bcj_parser_completeness.proofs.StatementParts.{type_named, not_named}

-- ---- names

record NamesParts (i a : Lexemes) (ns : List (List ℕ)) : Type 0 where
  item : List ℕ
  others : List (List ℕ)
  behind : Lexemes
  high : ℕ
  fronts : one_name site.Elsewhere i ≡ (Ok (item, 0), behind)
  shorter : length behind ≤ length i
  further : Further (one_name site.Elsewhere) behind a others high
  whole : item ∷ others ≡ ns

a_name : (t : Lexeme) (j : Lexemes) → t.terminal ≡ terminal.Identifier → one_name site.Elsewhere (t ∷ j) ≡ (Ok (t.word, 0), j)
unfolding one_name
a_name t j e = bind (named_reads site.Elsewhere t j e) _ refl

names_parts : {i a : Lexemes} {ns : List (List ℕ)} → Names i a ns → sees mark.Comma a ≡ false → NamesParts i a ns
names_parts (g.last_name {t = t} {a = a} e) c = record {
  item = t.word;
  others = [];
  behind = a;
  high = 0;
  fronts = a_name t a e;
  shorter = omega arith;
  further = stop c;
  whole = refl;
}
names_parts (g.more_names {t = t} {u = u} {m = m} {a = a} {ns = ns} e f d) c = let p : NamesParts m a ns = names_parts d c in record {
  item = t.word;
  others = p.item ∷ p.others;
  behind = u ∷ m;
  high = max 0 p.high;
  fronts = a_name t (u ∷ m) e;
  shorter = omega arith;
  further = more f p.fronts p.shorter p.further;
  whole = ap (λ l. t.word ∷ l) p.whole;
}

abbrev the_names : List (List ℕ) → Lexemes → Outcome (List (List ℕ))
the_names ns a = (Ok ns, a)

names_read : {i a : Lexemes} {ns : List (List ℕ)} → Names i a ns → sees mark.Comma a ≡ false → names i ≡ (Ok ns, a)
unfolding names
names_read {i = i} {a = a} {ns = ns} d c = let p : NamesParts i a ns = names_parts d c in
    bind (listed_reads (one_name site.Elsewhere) (one_name site.Elsewhere) i p.fronts p.further) _ (ap (λ ns. the_names ns a) p.whole)

pub names_behind_read : (k : Mark) {i a : Lexemes} {ns : List (List ℕ)} → NamesBehind (terminal_of_mark k) i a ns → sees mark.Comma a ≡ false → sees k a ≡ false → names_behind k i ≡ (Ok ns, a)
unfolding names_behind
names_behind_read k g.no_names c e = passing e _ refl
names_behind_read k (g.names {t = t} {m = m} f d) c e = taking (seen k t m f) _ (names_read d c)

-- ---- parameters

pub parameters_open : {i a : Lexemes} {ps : List Param} {d : ℕ} → Parameters i a ps d → sees mark.LeftParen i ≡ true
parameters_open (g.no_parameters {t = t} {u = u} {a = a} e f) = seen mark.LeftParen t (u ∷ a) e
parameters_open (g.some_parameters {t = t} {m = m} e ps) = seen mark.LeftParen t m e

parameter_reads : {i k : Lexemes} {t : Lexeme} {ty : TypeName} → TypeRead i (t ∷ k) ty → t.terminal ≡ terminal.Identifier → (n : ℕ) → ty.dims ≤ n → parameter n i ≡ (Ok (record { ty = ty; name = t.word }, ty.dims), k)
unfolding parameter
parameter_reads {k = k} {t = t} r e n l = bind (type_reads r n site.Elsewhere l (unseen mark.LeftBracket (t ∷ k) e refl)) _ (bind (named_reads site.TypeName t k e) _ refl)

parameters_line : {i a : Lexemes} {ps : List Param} {d : ℕ} → MoreParameters i a ps d → (n : ℕ) → d ≤ n → Line (parameter n) (parameter n) terminal.RightParen i i a ps d
parameters_line (g.last_parameter {t = t} {u = u} {i = i} {a = a} r e f) n l = line_last (parameter n) i i (parameter_reads r e n l) (omega (arith, type_takes r)) f refl
parameters_line (g.more_parameters {t = t} {u = u} {i = i} {m = m} {a = a} r e f ps) n l =
    line_more i i (parameter_reads r e n (omega arith)) (omega (arith, type_takes r)) f (parameters_line ps n (omega arith))

parameters_named : {i a : Lexemes} {ps : List Param} {d : ℕ} → MoreParameters i a ps d → sees mark.RightParen i ≡ false
parameters_named (g.last_parameter {i = i} r e f) = not_named i (type_named r) mark.RightParen refl
parameters_named (g.more_parameters {i = i} r e f ps) = not_named i (type_named r) mark.RightParen refl

pub parameters_read : {i a : Lexemes} {ps : List Param} {d : ℕ} → Parameters i a ps d → (n : ℕ) → d ≤ n → parameters n i ≡ (Ok (ps, d), a)
unfolding parameters
parameters_read (g.no_parameters {t = t} {u = u} {a = a} e f) n l = bind (expect_reads mark.LeftParen site.DeclaredName t (u ∷ a) e) _ (taking (seen mark.RightParen u a f) _ refl)
parameters_read (g.some_parameters {t = t} {m = m} {a = a} {ps = ps} {d = d} e qs) n l =
    let r : Line (parameter n) (parameter n) terminal.RightParen m m a ps d = parameters_line qs n l in
    bind (expect_reads mark.LeftParen site.DeclaredName t m e) _ (passing (parameters_named qs) _ (bind (line_reads r) _ (bind (expect_reads mark.RightParen site.DeclaredName r.last a r.closes) _ refl)))

-- ---- modifiers

-- a terminal that may stand behind the modifiers of a member
abbrev pub heads : Terminal → Bool
heads terminal.IntType = true
heads terminal.Boolean = true
heads terminal.Identifier = true
heads terminal.Void = true
heads _ = false

unmodified : (j : Terminal) (mods : Mods) → heads j ≡ true → with_modifier j mods ≡ None
unmodified terminal.Public mods e = absurd (cc)
unmodified terminal.Protected mods e = absurd (cc)
unmodified terminal.Private mods e = absurd (cc)
unmodified terminal.Static mods e = absurd (cc)
unmodified terminal.Abstract mods e = absurd (cc)
unmodified terminal.Final mods e = absurd (cc)
unmodified _ mods e = refl

-- a terminal that a member begins with
abbrev pub leads : Terminal → Bool
leads terminal.IntType = true
leads terminal.Boolean = true
leads terminal.Identifier = true
leads terminal.Void = true
leads terminal.Public = true
leads terminal.Protected = true
leads terminal.Private = true
leads terminal.Static = true
leads terminal.Abstract = true
leads terminal.Final = true
leads _ = false

modifier_leads : (j : Terminal) (mods others : Mods) → with_modifier j mods ≡ Some others → leads j ≡ true
modifier_leads terminal.Public mods others e = refl
modifier_leads terminal.Protected mods others e = refl
modifier_leads terminal.Private mods others e = refl
modifier_leads terminal.Static mods others e = refl
modifier_leads terminal.Abstract mods others e = refl
modifier_leads terminal.Final mods others e = refl
modifier_leads _ mods others e = absurd (cc)

head_leads : (j : Terminal) → heads j ≡ true → leads j ≡ true
head_leads terminal.IntType e = refl
head_leads terminal.Boolean e = refl
head_leads terminal.Identifier e = refl
head_leads terminal.Void e = refl
head_leads _ e = absurd (cc)

pub modifiers_lead : {before mods : Mods} {i m : Lexemes} → Modifiers before i m mods → heads (terminal_at m) ≡ true → leads (terminal_at i) ≡ true
modifiers_lead (g.no_modifier {a = i}) e = head_leads (terminal_at i) e
modifiers_lead (g.modifier {t = t} {before = before} {more = others} f d) e = modifier_leads t.terminal before others f

pub not_leading : (i : Lexemes) → leads (terminal_at i) ≡ true → (k : Mark) → leads (terminal_of_mark k) ≡ false → sees k i ≡ false
not_leading i e k f = apart leads k (terminal_at i) (f ∙ sym (ap not e))

pub modifiers_read : {before mods : Mods} {i m : Lexemes} → Modifiers before i m mods → heads (terminal_at m) ≡ true → (turns : ℕ) → length i ≤ turns → modifiers turns before i ≡ (Ok mods, m)
unfolding modifiers
modifiers_read (g.no_modifier {mods = mods} {a = i}) e zero l = refl
modifiers_read (g.no_modifier {mods = mods} {a = i}) e (suc turns) l = ap (λ o. modifiers_by (modifiers turns) mods o i) (unmodified (terminal_at i) mods e)
modifiers_read (g.modifier {t = t} {m = m} f d) e zero l = absurd (omega arith)
modifiers_read (g.modifier {t = t} {m = m} {before = before} f d) e (suc turns) l = ap (λ o. modifiers_by (modifiers turns) before o (t ∷ m)) f ∙ modifiers_read d e turns (omega arith)
