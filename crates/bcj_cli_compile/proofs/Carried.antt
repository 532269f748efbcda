-- Accepted sources become one symbolic unit, whose object carries it.
use Rattle.std.proofs.Common.{◌≡◌, refl, subst, inl, ℕ, List, [], ◌∷◌}
use Rattle.std.specs.List.{AllZip}
use Rattle.bcj_lexer.specs.Laws.{OneList}
use Rattle.bcj_parser_trees.specs.Trees.{PlainUnit}
use Rattle.bcj_parser_rules.specs.Texts.{HasOneUnit}
use Rattle.bcj_symbolic_check.specs.Typing.{Each, each_of_none, each_of_more}
use Rattle.bcj_symbolic_soundness.specs.Laws.{UnitsDecided}
use Rattle.bcj_typing_answers.specs.Answers.{answers_of}
use Rattle.bcj_typing_answers.specs.Laws as answered
use Rattle.bcj_typing_rules.specs.Laws.{OneElaboration}
use Rattle.bcj_typing_rules.specs.Units.{Elaborates}
use Rattle.bcj_typing_soundness.specs.Laws.{IsDerived, ElaborationsWellTyped}
use Rattle.bcj_cli_compile.specs.Laws.{AcceptedIsCarried, OneIsAccepted}
use Rattle.bcj_cli_compile.specs.Texts.{Parses}
use Rattle.bcj_cli_compile.proofs.Units.{same_units}

-- the grammar derives each unit
pub each_derived : (sources : List (List ℕ)) (units : List PlainUnit) → AllZip Parses sources units → Each IsDerived units
each_derived [] [] p = each_of_none
each_derived [] (u ∷ us) p = absurd p
each_derived (s ∷ ss) [] p = absurd p
each_derived (s ∷ ss) (u ∷ us) p =
    each_of_more (record { text = s; tokens = p.0.tokens; are_tokens = p.0.lexed; is_unit = p.0.parsed }) (each_derived ss us p.1)

pub carried : ElaborationsWellTyped → UnitsDecided → AcceptedIsCarried
carried typed decided sources own u a = record {
  typed = (decided u).0 (typed a.units a.declared (each_derived sources a.units a.parsed) own u a.elaborates);
  small = a.small;
  are = inl refl;
}

pub one_unit_is : OneList → HasOneUnit → answered.DeclaredWorldsAreAnswered → answered.DeclaredWorldsHaveOneAnswer → OneElaboration → OneIsAccepted
one_unit_is lists units right only one sources own u v a b =
    one a.units (answers_of a.units) (right a.units a.declared) (only a.units a.declared) own u v a.elaborates
    (subst (λ us. Elaborates us own v) (same_units lists units sources b.units a.units b.parsed a.parsed) b.elaborates)
