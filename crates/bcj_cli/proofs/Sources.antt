-- Why a text spells one program at most, or none.
use Rattle.std.proofs.Common.{◌≡◌, ℕ, ◌<◌, ◌≤◌, Bool, refl, List, length, Option, Some, None, sym, ap, ◌∙◌, subst, arith, string_bytes}
use Rattle.bcj_cli_language.specs.Tree.{Acts}
use Rattle.bcj_cli_language.specs.Meaning.{End, Goes, Stops, meaning, printed, is_finished}
use Rattle.bcj_cli_code.specs.declared.ending.Cause.{Cause}
use Rattle.bcj_cli_code.specs.declared.ending.Cause.TheVariants.{Ended}
use Rattle.bcj_cli_code.specs.Correct.{ending}
use Rattle.bcj_cli_code.specs.function.Code.{program_words}
use Rattle.bcj_cli_code.specs.Sizes.{max_words}
use Rattle.bcj_cli_unit.specs.Program.{IsProgramOf}
use Rattle.bcj_cli_unit.specs.Lacking.{first_lacking}
use Rattle.bcj_cli_unit.specs.Laws.{ProgramsAreTheFittingUnits}
use Rattle.bcj_lexer.specs.declared.Token.{Token}
use Rattle.bcj_lexer.specs.Pieces.{TokensOf}
use Rattle.bcj_lexer.specs.Answers.{IsBad}
use Rattle.bcj_lexer.specs.Laws.{OneList}
use Rattle.bcj_parser_rules.specs.Grammar.{derives}
use Rattle.bcj_parser_rules.specs.Texts.{IsUnit, HasOneUnit}
use Rattle.bcj_parser_trees.specs.Trees.{PlainUnit}
use Rattle.bcj_cli.specs.declared.source.SourceStop.{SourceStop}
use Rattle.bcj_cli.specs.declared.source.SourceStop.TheVariants.{Refused, NoMemory}
use Rattle.bcj_cli_compile.specs.Texts.{Parses}
use Rattle.bcj_cli.specs.Sources.{Spells, SpellsNone, IsRun, IsRefusal}
use Rattle.bcj_cli.specs.function.Ends.{is_done}
use Rattle.bcj_cli.specs.function.Texts.{IsSourceStop, IsRefusalText}

some_none : {A : Type 0} {x : A} → None ≡ Some x → ⊥
some_none h = cc

-- a refusal that was written
pub stopped : (main text : List ℕ) (at : ℕ) (kind : List ℕ) (stop : SourceStop) → SpellsNone main text → IsRefusal main text at kind → IsRefusalText at kind stop → IsSourceStop main text stop
stopped main text at kind (Refused told) none cause is = (none, record { at = at; kind = kind; cause = cause; are = is })
stopped main text at kind NoMemory none cause is = tt

pub not_lexed : (main text : List ℕ) (at : ℕ) → IsBad text at → SpellsNone main text
not_lexed main text at bad program s = bad.uncut s.parses.lexed.pieces s.parses.lexed.cutting

module _ (lists : OneList) where
  pub not_parsed : (main text : List ℕ) (tokens : List Token) → TokensOf text tokens → ((u : PlainUnit) → IsUnit text tokens u → ⊥) → SpellsNone main text
  not_parsed main text tokens lexed none program s = none s.unit (subst (λ ts. IsUnit text ts s.unit) (lists text s.parses.tokens tokens s.parses.lexed lexed) s.parses.parsed)

  module _ (units : HasOneUnit) where
    one_parse : (text : List ℕ) (u v : PlainUnit) → Parses text u → Parses text v → u ≡ v
    one_parse text u v p q =
        let same : q.tokens ≡ p.tokens = lists text q.tokens p.tokens q.lexed p.lexed in
        units text p.tokens u v p.parsed.height q.parsed.height p.parsed.derived (subst (λ ts. derives text ts v q.parsed.height) same q.parsed.derived)

    module _ (fitting : ProgramsAreTheFittingUnits) where
      pub one_program : (main text : List ℕ) (u : PlainUnit) (p q : Acts) → Parses text u → IsProgramOf main u p → Spells main text q → p ≡ q
      one_program main text u p q parses means s =
          (fitting main u).one p q means (subst (λ v. IsProgramOf main v q) (one_parse text s.unit u s.parses parses) s.means)

      pub not_built : (main text : List ℕ) (u : PlainUnit) (at : ℕ) → Parses text u → first_lacking main u ≡ Some at → SpellsNone main text
      not_built main text u at parses e program s =
          some_none (sym ((fitting main s.unit).fits program s.means) ∙ ap (first_lacking main) (one_parse text s.unit u s.parses parses) ∙ e)

      pub too_long : (main text : List ℕ) (u : PlainUnit) (p : Acts) → Parses text u → IsProgramOf main u p → max_words < length (program_words p) → SpellsNone main text
      too_long main text u p parses means long q s =
          let same : length (program_words p) ≡ length (program_words q) = ap (λ x. length (program_words x)) (one_program main text u p q parses means s) in
          absurd (omega (arith, s.short, long, same))

      finished_is : (e : End) → is_done (Ended (ending e)) ≡ is_finished e
      finished_is (Goes env w) = refl
      finished_is (Stops w) = refl

      -- the run of the words of the text's program
      pub ran_is_run : (main text : List ℕ) (u : PlainUnit) (p : Acts) (turns : ℕ) (cause : Cause) (out : List ℕ) → Parses text u → IsProgramOf main u p → length (program_words p) ≤ max_words
          → (finished : Bool) → finished ≡ is_done cause → (cause ≡ Ended (ending (meaning p turns))) × (out ≡ printed (meaning p turns)) → IsRun main text turns finished out
      ran_is_run main text u p turns cause out parses means short finished done run = record {
        program = p;
        spells = record { unit = u; parses = parses; means = means; short = short };
        one = λ q s. one_program main text u p q parses means s;
        ends = sym (done ∙ ap is_done run.0 ∙ finished_is (meaning p turns));
        prints = sym run.1;
      }
