-- The grammar gives no constructor to an interface.
use Rattle.std.proofs.Common.{◌≡◌, refl, sym, ◌∙◌, ℕ, Bool, true, false, List, [], ◌∷◌, filter}
use Rattle.bcj_lexer.specs.declared.Token.{Token}
use Rattle.bcj_parser_trees.specs.declared.names.TypeName.{TypeName}
use Rattle.bcj_parser_trees.specs.declared.names.Mods.{Mods}
use Rattle.bcj_parser_trees.specs.Trees.{PlainMember, PlainType, PlainUnit}
use Rattle.bcj_parser_rules.specs.Lexemes.{Lexemes}
use Rattle.bcj_parser_rules.specs.Grammar as g
use Rattle.bcj_parser_rules.specs.Grammar.{Variable, fields_of, Members, TypeDeclaration, UnitRead, derives}
use Rattle.bcj_parser_wellformed.specs.Constructors.{is_constructor_member, HaveNoConstructor}

-- fields in front of members leave the constructors as they are
constructors_behind : (at : ℕ) (mods : Mods) (ty : TypeName) (vs : List Variable) (ms : List PlainMember)
    → filter is_constructor_member (fields_of at mods ty vs ms) ≡ filter is_constructor_member ms
constructors_behind at mods ty [] ms = refl
constructors_behind at mods ty (v ∷ vs) ms = constructors_behind at mods ty vs ms

-- the members of an interface have no constructor among them
members_lack : {interface : Bool} {i a : Lexemes} {ms : List PlainMember} {h : ℕ} → interface ≡ true → Members interface i a ms h → filter is_constructor_member ms ≡ []
members_lack k (g.no_member e) = refl
members_lack k (g.semicolon e r) = members_lack k r
members_lack k (g.static_block c e b r) = members_lack k r
members_lack k (g.fields {mods = mods} {ty = ty} {vs = vs} {ms = ms} m t v r) = constructors_behind _ mods ty vs ms ∙ members_lack k r
members_lack k (g.method m f t e p s b c r) = members_lack k r
members_lack k (g.constructor c m f e p s u q b v r) = let no : false ≡ true = sym c ∙ k in cc

-- a type that is an interface has none
declaration_lacks : {i a : Lexemes} {t : PlainType} {h : ℕ} → TypeDeclaration i a t h → t.interface ≡ true → filter is_constructor_member t.members ≡ []
declaration_lacks (g.class m e f s p v b) k = let no : false ≡ true = k in cc
declaration_lacks (g.interface_type m e f p v b) k = members_lack refl b

-- the types of a unit have none
types_lack : {i : Lexemes} {u : PlainUnit} {h : ℕ} → UnitRead i u h → HaveNoConstructor u
types_lack g.no_type = tt
types_lack (g.stray_semicolon e r) = types_lack r
types_lack (g.a_type d r) = (declaration_lacks d, types_lack r)

-- nor does what the grammar derives of the tokens of a text
pub unit_lacks : (text : List ℕ) (tokens : List Token) (u : PlainUnit) (height : ℕ) → derives text tokens u height → HaveNoConstructor u
unit_lacks text tokens u height d = types_lack d
