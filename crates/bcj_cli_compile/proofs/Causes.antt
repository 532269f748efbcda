-- Why sources become nothing.
use Rattle.std.proofs.Common.{◌≡◌, sym, ap, ◌∙◌, subst, ℕ, ◌+◌, ◌<◌, List, ◌∷◌, ◌++◌, length, take, Some, Err, codes, arith, length-append, string_bytes}
use Rattle.std.specs.Prelude.{slice_get}
use Rattle.std.specs.List.{AllZip}
use Rattle.std.proofs.lemmas.Slice.Zip.{AllZip-long}
use Rattle.bcj_lexer.specs.Laws.{OneList}
use Rattle.bcj_parser_trees.specs.Trees.{PlainUnit}
use Rattle.bcj_parser_rules.specs.Texts.{HasOneUnit}
use Rattle.bcj_decl_rules.specs.World.{Named}
use Rattle.bcj_decl_rules.specs.Faults.{Place, Refusal, FaultAt, in_head, in_member, StandsIn, here, IsFirstFault, IsDeclared}
use Rattle.bcj_decl.specs.declared.stop.DeclStop.{DeclStop}
use Rattle.bcj_decl.specs.declared.stop.DeclStop.TheVariants as decl
use Rattle.bcj_decl.specs.Answers as decl_answer
use Rattle.bcj_symbolic_trees.specs.Units as symbolic
use Rattle.bcj_typing_rules.specs.declared.kind.Kind.{Kind}
use Rattle.bcj_typing_rules.specs.Units.{Elaborates}
use Rattle.bcj_typing.specs.declared.stop.Limited.{Limited}
use Rattle.bcj_typing.specs.declared.stop.TypeStop.{TypeStop}
use Rattle.bcj_typing.specs.declared.stop.TypeStop.TheVariants as typing
use Rattle.bcj_typing.specs.Answers as typing_answer
use Rattle.bcj_typing.specs.Limits.{IsWithin, first_past}
use Rattle.bcj_cli_compile.specs.declared.stop.CompileStop.{CompileStop}
use Rattle.bcj_cli_compile.specs.declared.stop.CompileStop.TheVariants.{Refused, NoMemory}
use Rattle.bcj_cli_compile.specs.Accepted.{Accepted, AcceptsNone}
use Rattle.bcj_cli_compile.specs.Answers.{GiveNone, IsStop, IsTextStop, IsRefusalOf}
use Rattle.bcj_cli_compile.specs.Names.{kind_name, limit_name}
use Rattle.bcj_cli_compile.specs.Refusals.{IsRefusal, no_unit, duplicate_type, unknown_type, hierarchy, member, untyped, too_large, Misdeclares}
use Rattle.bcj_cli_compile.specs.Texts.{Parses, IsNoUnit, IsTextRefusal}
use Rattle.bcj_cli_compile.proofs.Limits.{small_within}
use Rattle.bcj_cli_compile.proofs.Units.{not_all, same_units}

-- ---- refusals

-- a refusal that was made of a text
pub text_refused : (text : List ℕ) (file at : ℕ) (kind : List ℕ) (stop : CompileStop) → IsNoUnit text → IsTextRefusal text at kind → IsRefusalOf file at kind stop → IsTextStop text file stop
text_refused text file at kind (Refused f p told) none cause is =
    (is.0, (none, subst (λ k. IsTextRefusal text p k) (sym is.1.1) (subst (λ q. IsTextRefusal text q kind) (sym is.1.0) cause)))
text_refused text file at kind NoMemory none cause is = tt

-- and of sources
pub refused : (sources : List (List ℕ)) (own file at : ℕ) (kind : List ℕ) (stop : CompileStop) → GiveNone sources own file at kind → IsRefusalOf file at kind stop → IsStop sources own stop
refused sources own file at kind (Refused f p told) none is =
    subst (λ k. GiveNone sources own f p k) (sym is.1.1) (subst (λ q. GiveNone sources own f q kind) (sym is.1.0) (subst (λ n. GiveNone sources own n at kind) (sym is.0) none))
refused sources own file at kind NoMemory none is = tt

-- ---- texts

-- a source that is no unit, behind others that are
pub text_stop : (sources : List (List ℕ)) (units : List PlainUnit) (file : ℕ) (text : List ℕ) (stop : CompileStop) → file < length sources → slice_get sources file ≡ Some text
    → AllZip Parses (take file sources) units → IsTextStop text file stop → (own : ℕ) → IsStop sources own stop
text_stop sources units file text (Refused f at told) within is before s own =
    subst (λ n. GiveNone sources own n at (string_bytes told)) (sym s.0) (record {
      there = within;
      none = λ u a. not_all sources file text a.units is s.1.0 a.parsed;
      cause = no_unit (record { units = units; before = before; is = is }) s.1.1;
    })
text_stop sources units file text NoMemory within is before s own = tt

-- ---- declarations

stands_within : (units : List PlainUnit) (file : ℕ) (before : _) (t : _) → StandsIn units file before t → file < length units
stands_within units file before t (here earlier later front behind are) =
    omega (arith, ap length are, length-append earlier ((front ++ t ∷ behind) ∷ later))

fault_within : (units : List PlainUnit) (place : Place) (r : Refusal) → FaultAt units place r → place.file < length units
fault_within units place r (in_head stands fault) = stands_within units _ _ _ stands
fault_within units place r (in_member earlier later stands are fault) = stands_within units _ _ _ stands

module _ (lists : OneList) (one : HasOneUnit) (sources : List (List ℕ)) (own : ℕ) (units : List PlainUnit) (parsed : AllZip Parses sources units) where
  -- the first fault of what the sources declare
  pub misdeclared : (place : Place) (r : Refusal) (kind : List ℕ) → IsFirstFault units place r → (Misdeclares sources place r → IsRefusal sources own place.file place.at kind)
      → GiveNone sources own place.file place.at kind
  misdeclared place r kind first cause = record {
    there = let within : place.file < length units = fault_within units place r first.is_fault in omega (arith, AllZip-long Parses sources units parsed);
    none = λ u a. a.declared place r (subst (λ us. FaultAt us place r) (same_units lists one sources units a.units parsed a.parsed) first.is_fault);
    cause = cause (record { units = units; parsed = parsed; first = first });
  }

  -- what the sources become is no number past its limit
  accepted_within : (u : symbolic.PlainUnit) → Accepted sources own u → IsWithin units own u
  accepted_within u a =
      let e : Elaborates units own u = subst (λ us. Elaborates us own u) (same_units lists one sources a.units units a.parsed parsed) a.elaborates in
      record { unit = e.unit; is_own = e.is_own; elaborates = e; within = small_within e.unit u a.small }

  module _ (declared : IsDeclared units) (there : own < length sources) where
    pub not_typed : (at : ℕ) (k : Kind) → typing_answer.IsExact units own (Err (typing.Untyped at k)) → typing_answer.IsCause units own (typing.Untyped at k)
        → GiveNone sources own own at (codes "type: " ++ kind_name k)
    not_typed at k exact cause = record {
      there = there;
      none = λ u a. exact.given u (accepted_within u a);
      cause = untyped (record { parsed = parsed; declared = declared }) cause;
    }

    pub past_limit : (what : Limited) (at : ℕ) → typing_answer.IsExact units own (Err (typing.TooLarge what at)) → typing_answer.IsCause units own (typing.TooLarge what at)
        → GiveNone sources own own at (codes "too large: " ++ limit_name what)
    past_limit what at exact cause = record {
      there = there;
      none = λ u a. exact.given u (accepted_within u a);
      cause = too_large (record { parsed = parsed; declared = declared }) cause;
    }
