-- The unit that is compiled, among those of all sources.
use Rattle.std.proofs.Common.{◌≡◌, refl, sym, ap, ◌∙◌, subst, ℕ, zero, suc, ◌<◌, Bool, true, List, [], ◌∷◌, filter, length, map, get_or, None, Some, option_map}
use Rattle.std.specs.Prelude.{slice_get}
use Rattle.std.specs.List.{AllByRecursion, AllZip}
use Rattle.std.proofs.lemmas.Option.{slice_get-map, slice_get_read}
use Rattle.std.proofs.lemmas.List.{length-map}
use Rattle.std.proofs.lemmas.Slice.Zip.{AllZip-long}
use Rattle.bcj_parser_trees.specs.declared.unit.Unit as tree
use Rattle.bcj_parser_trees.specs.Plain.{unit_of}
use Rattle.bcj_parser_trees.specs.Trees as source
use Rattle.bcj_parser_wellformed.specs.Constructors as grammar
use Rattle.bcj_parser_wellformed.specs.Laws.{InterfacesHaveNoConstructors}
use Rattle.bcj_decl.specs.Worlds.{DeclaredUnits, units_in}
use Rattle.bcj_symbolic_trees.specs.Units as symbolic
use Rattle.bcj_typing_rules.specs.Members.{is_constructor_member}
use Rattle.bcj_typing.specs.Answers.{HaveNoConstructor}
use Rattle.bcj_decl_rules.specs.Faults.{IsDeclared}
use Rattle.bcj_typing.specs.Limits.{IsWithin, first_past}
use Rattle.bcj_cli_compile.specs.Accepted.{Accepted}
use Rattle.bcj_cli_compile.specs.Texts.{Parses}
use Rattle.bcj_cli_compile.proofs.Limits.{within_small}

-- there are as many units as sources
pub as_many : (sources : List (List ℕ)) (units : List tree.Unit) → AllZip Parses sources (map unit_of units) → length units ≡ length sources
as_many sources units all = sym (length-map units unit_of) ∙ AllZip-long Parses sources (map unit_of units) all

module _ (units : List tree.Unit) (own : ℕ) (u : tree.Unit) (there : own < length units) (is : u ≡ get_or units own u) where
  plain_is : slice_get (map unit_of units) own ≡ Some (unit_of u)
  plain_is = slice_get-map unit_of units own ∙ ap (λ o. option_map unit_of o) (slice_get_read units (length units) own u refl there is)

  -- it is the own unit of the declared world
  pub own_is : (d : DeclaredUnits) → d ≡ record { units = units; own = own } → slice_get (units_in d) d.own ≡ Some (unit_of u)
  own_is d e = subst (λ v. slice_get (units_in v) v.own ≡ Some (unit_of u)) (sym e) plain_is

-- ---- constructors

-- the two words for constructors say the same
same_members : (ms : List source.PlainMember) → filter is_constructor_member ms ≡ filter grammar.is_constructor_member ms
same_members [] = refl
same_members (source.field_member at mods ty name init ∷ ms) = same_members ms
same_members (source.method_member at mods result name params throws body ∷ ms) = same_members ms
same_members (source.constructor_member at mods name params throws first body ∷ ms) = ap (λ ns. source.constructor_member at mods name params throws first body ∷ ns) (same_members ms)
same_members (source.static_member at body ∷ ms) = same_members ms

same_unit : (ts : List source.PlainType) → grammar.HaveNoConstructor ts → HaveNoConstructor ts
same_unit [] h = tt
same_unit (t ∷ ts) h = (λ e. same_members t.members ∙ h.0 e, same_unit ts h.1)

lacks : InterfacesHaveNoConstructors → (sources : List (List ℕ)) (units : List source.PlainUnit) (own : ℕ) (u : source.PlainUnit) → AllZip Parses sources units → slice_get units own ≡ Some u → HaveNoConstructor u
lacks law sources [] own u all is = cc
lacks law [] (v ∷ vs) own u all is = absurd all
lacks law (s ∷ ss) (v ∷ vs) zero u all is = let same : v ≡ u = cc in subst HaveNoConstructor same (same_unit v (law s all.0.tokens v all.0.parsed.height all.0.parsed.derived))
lacks law (s ∷ ss) (v ∷ vs) (suc n) u all is = lacks law ss vs n u all.1 is

-- an interface of it has none
pub own_lacks : InterfacesHaveNoConstructors → (sources : List (List ℕ)) (units : List tree.Unit) (own : ℕ) (u : tree.Unit) → AllZip Parses sources (map unit_of units) → own < length units → u ≡ get_or units own u
    → HaveNoConstructor (unit_of u)
own_lacks law sources units own u all there is = lacks law sources (map unit_of units) own (unit_of u) all (plain_is units own u there is)

-- ---- what it becomes

pub accepted : (sources : List (List ℕ)) (own : ℕ) (units : List source.PlainUnit) (u : symbolic.PlainUnit) → AllZip Parses sources units → IsDeclared units → IsWithin units own u → Accepted sources own u
accepted sources own units u parsed declared w =
    let both : Some w.unit ≡ Some w.elaborates.unit = sym w.is_own ∙ w.elaborates.is_own in
    let same : w.unit ≡ w.elaborates.unit = cc in
    record {
      units = units;
      parsed = parsed;
      declared = declared;
      elaborates = w.elaborates;
      small = within_small units w.elaborates.unit u w.elaborates.classes (subst (λ t. first_past t u ≡ None) same w.within);
    }
