-- A unit of a text has no constructor in an interface.
use Rattle.std.proofs.Common.{◌≡◌, refl, sym, ap, ◌∙◌, ℕ, Bool, true, List, [], ◌∷◌, filter}
use Rattle.std.specs.List.{AllByRecursion}
use Rattle.bcj_lexer.specs.declared.Token.{Token}
use Rattle.bcj_parser_trees.specs.Trees as source
use Rattle.bcj_parser_rules.specs.Texts.{IsUnit}
use Rattle.bcj_parser_wellformed.specs.Constructors as grammar
use Rattle.bcj_parser_wellformed.specs.Laws as law
use Rattle.bcj_typing_rules.specs.Members.{is_constructor_member}
use Rattle.bcj_typing.specs.Answers.{HaveNoConstructor}

-- the two words for constructors say the same
same_members : (ms : List source.PlainMember) → filter is_constructor_member ms ≡ filter grammar.is_constructor_member ms
same_members [] = refl
same_members (source.field_member at mods ty name init ∷ ms) = same_members ms
same_members (source.method_member at mods result name params throws body ∷ ms) = same_members ms
same_members (source.constructor_member at mods name params throws first body ∷ ms) = ap (λ ns. source.constructor_member at mods name params throws first body ∷ ns) (same_members ms)
same_members (source.static_member at body ∷ ms) = same_members ms

-- and of a unit too
same_unit : (ts : List source.PlainType) → grammar.HaveNoConstructor ts → HaveNoConstructor ts
same_unit [] h = tt
same_unit (t ∷ ts) h = (λ e. same_members t.members ∙ h.0 e, same_unit ts h.1)

-- a unit of a text has none
pub unit_lacks : law.InterfacesHaveNoConstructors → (text : List ℕ) (tokens : List Token) (u : List source.PlainType) → IsUnit text tokens u → HaveNoConstructor u
unit_lacks l text tokens u d = same_unit u (l text tokens u d.height d.derived)
