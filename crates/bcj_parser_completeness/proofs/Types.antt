-- Types and brackets
use Rattle.std.proofs.Common.{◌≡◌, refl, ap, ◌∙◌, ℕ, zero, suc, ◌+◌, ◌≤◌, false, ◌∷◌, Ok, arith}
use Rattle.bcj_parser_trees.specs.declared.names.Base.{Base}
use Rattle.bcj_parser_trees.specs.declared.names.Base.TheVariants as base
use Rattle.bcj_parser_trees.specs.declared.names.TypeName.{TypeName}
use Rattle.bcj_parser_rules.specs.declared.kind.Mark.TheVariants as mark
use Rattle.bcj_parser_rules.specs.declared.kind.TypeBeginning.{TypeBeginning}
use Rattle.bcj_parser_rules.specs.declared.kind.TypeBeginning.TheVariants as typed
use Rattle.bcj_parser_rules.specs.declared.stop.Site.{Site}
use Rattle.bcj_parser_rules.specs.declared.stop.Site.TheVariants as site
use Rattle.bcj_parser_rules.specs.Lexemes.{Lexeme, Lexemes}
use Rattle.bcj_parser_rules.specs.Grammar.{Brackets, no_pair, pair, int_base, boolean_base, named_base, TypeRead, type_read}
use Rattle.bcj_parser_rules.specs.function.Kinds.{type_beginning}
use Rattle.bcj_parser_rules.specs.function.Steps.{Outcome, sees}
use Rattle.bcj_parser_rules.specs.function.Expressions.{brackets, type_of_base, type_by, type_name}
use Rattle.bcj_parser_completeness.proofs.Terminals.{seen}
use Rattle.bcj_parser_completeness.proofs.Steps.{bind, taking, passing, expect_reads}

abbrev pub the_number : ℕ → Lexemes → Outcome ℕ
the_number d a = (Ok d, a)

pub number_as : {d e : ℕ} (a : Lexemes) → d ≡ e → the_number d a ≡ the_number e a
number_as a p = ap (λ d. the_number d a) p

pub brackets_read : {i a : Lexemes} {d : ℕ} → Brackets i a d → (w : Site) (n before : ℕ) → d ≤ n → sees mark.LeftBracket a ≡ false → brackets w n before i ≡ (Ok (before + d), a)
unfolding brackets
brackets_read (no_pair {a = a}) w zero before l e = passing e _ (number_as a (omega arith))
brackets_read (no_pair {a = a}) w (suc n) before l e = passing e _ (number_as a (omega arith))
brackets_read (pair {t = t} {u = u} {m = m} {a = a} {n = d} h k b) w zero before l e = absurd (omega arith)
brackets_read (pair {t = t} {u = u} {m = m} {a = a} {n = d} h k b) w (suc n) before l e =
    taking (seen mark.LeftBracket t (u ∷ m) h) _ (bind (expect_reads mark.RightBracket w u m k) _ (brackets_read b w n (suc before) (omega arith) e ∙ number_as a (omega arith)))

pub from_none : {i a : Lexemes} {d : ℕ} → Brackets i a d → (w : Site) (n : ℕ) → d ≤ n → sees mark.LeftBracket a ≡ false → brackets w n 0 i ≡ (Ok d, a)
from_none {a = a} b w n l e = brackets_read b w n 0 l e ∙ number_as a (omega arith)

of_base_reads : {i a : Lexemes} {d : ℕ} (n : ℕ) (b : Base) → Brackets i a d → d ≤ n → sees mark.LeftBracket a ≡ false → type_of_base n b i ≡ (Ok (record { base = b; dims = d }), a)
of_base_reads n b p l e = bind (from_none p site.Elsewhere n l e) _ refl

by_beginning : (n : ℕ) (w : Site) (t : Lexeme) (m : Lexemes) {o : Outcome TypeName} (k : TypeBeginning) → type_beginning t.terminal ≡ k → type_by n w k (t ∷ m) ≡ o → type_name n w (t ∷ m) ≡ o
unfolding type_name
by_beginning n w t m k e h = ap (λ k. type_by n w k (t ∷ m)) e ∙ h

pub type_reads : {i a : Lexemes} {ty : TypeName} → TypeRead i a ty → (n : ℕ) (w : Site) → ty.dims ≤ n → sees mark.LeftBracket a ≡ false → type_name n w i ≡ (Ok ty, a)
type_reads (type_read {t = t} {m = m} (int_base h) p) n w l e = by_beginning n w t m typed.Int (ap type_beginning h) (of_base_reads n base.Int p l e)
type_reads (type_read {t = t} {m = m} (boolean_base h) p) n w l e = by_beginning n w t m typed.Bool (ap type_beginning h) (of_base_reads n base.Bool p l e)
type_reads (type_read {t = t} {m = m} (named_base h) p) n w l e = by_beginning n w t m typed.Name (ap type_beginning h) (of_base_reads n (base.Named t.word) p l e)
