-- The same of members, types and units.
use Rattle.std.proofs.Common.{ℕ, ◌≤◌, Bool, List, arith}
use Rattle.bcj_symbolic_check.specs.Limits.{max_dimensions}
use Rattle.bcj_symbolic_check.specs.Typing.{Each, each_of_none, each_of_more}
use Rattle.bcj_lexer.specs.declared.Token.{Token}
use Rattle.bcj_lexer.specs.Pieces.{TokensOf}
use Rattle.bcj_parser_trees.specs.declared.names.TypeName.{TypeName}
use Rattle.bcj_parser_trees.specs.declared.names.Mods.{Mods}
use Rattle.bcj_parser_trees.specs.declared.names.Param.{Param}
use Rattle.bcj_parser_trees.specs.Trees.{PlainBody, PlainFirst, PlainMember, PlainType, PlainUnit}
use Rattle.bcj_parser_rules.specs.declared.terminal.Terminal.{Terminal}
use Rattle.bcj_parser_rules.specs.Lexemes.{Lexemes}
use Rattle.bcj_parser_rules.specs.Limits.{max_height}
use Rattle.bcj_parser_rules.specs.Texts.{IsUnit}
use Rattle.bcj_parser_rules.specs.Grammar as g
use Rattle.bcj_parser_rules.specs.Grammar.{Variable, Modifiers, Parameters, MoreParameters, Names, NamesBehind, ResultRead, BodyRead, FirstRead, fields_of, Members, TypeModifiers, SuperclassRead, TypeDeclaration, UnitRead}
use Rattle.bcj_parser_wellformed.specs.WellFormed.{IsName, IsTypeName, IsResultName, void_name, value_name, IsParam, IsFormedBody, IsFormedFirst, IsFormedMember, IsFormedType, IsWellFormed}
use Rattle.bcj_parser_wellformed.proofs.Words.{AreNamed, words_named}
use Rattle.bcj_parser_wellformed.proofs.Expressions.{first_named, behind, type_named, type_formed, arguments_formed}
use Rattle.bcj_parser_wellformed.proofs.Statements.{IsFormedVariable, variables_formed, block_formed, stmts_formed}

-- ---- the parts of members

-- behind modifiers
modifiers_named : {before mods : Mods} {i a : Lexemes} → Modifiers before i a mods → AreNamed i → AreNamed a
modifiers_named g.no_modifier n = n
modifiers_named (g.modifier e m) n = modifiers_named m (behind n)

mutual
  -- parameters are of types of values
  parameters_formed : {i a : Lexemes} {ps : List Param} {d : ℕ} → Parameters i a ps d → AreNamed i → d ≤ max_dimensions → AreNamed a × Each IsParam ps
  parameters_formed (g.no_parameters e f) n l = (behind (behind n), each_of_none)
  parameters_formed (g.some_parameters e p) n l = more_parameters_formed p (behind n) l

  -- one or more parameters are
  more_parameters_formed : {i a : Lexemes} {ps : List Param} {d : ℕ} → MoreParameters i a ps d → AreNamed i → d ≤ max_dimensions → AreNamed a × Each IsParam ps
  more_parameters_formed (g.last_parameter t e f) n l =
      let m = type_named t n in (behind (behind m), each_of_more (record { ty = type_formed t n l; name = first_named m e }) each_of_none)
  more_parameters_formed (g.more_parameters t e f p) n l =
      let m = type_named t n in
      let x = more_parameters_formed p (behind (behind m)) (omega arith) in
      (x.0, each_of_more (record { ty = type_formed t n (omega arith); name = first_named m e }) x.1)

-- names with commas between are names
names_formed : {i a : Lexemes} {ns : List (List ℕ)} → Names i a ns → AreNamed i → AreNamed a × Each IsName ns
names_formed (g.last_name e) n = (behind n, each_of_more (first_named n e) each_of_none)
names_formed (g.more_names e f r) n = let x = names_formed r (behind (behind n)) in (x.0, each_of_more (first_named n e) x.1)

-- the same behind a word, or none
names_behind_formed : {word : Terminal} {i a : Lexemes} {ns : List (List ℕ)} → NamesBehind word i a ns → AreNamed i → AreNamed a × Each IsName ns
names_behind_formed g.no_names n = (n, each_of_none)
names_behind_formed (g.names e r) n = names_formed r (behind n)

-- behind a result
result_named : {i a : Lexemes} {ty : TypeName} → ResultRead i a ty → AreNamed i → AreNamed a
result_named (g.void_result e) n = behind n
result_named (g.typed_result t) n = type_named t n

-- a result that is read with few pairs is one
result_formed : {i a : Lexemes} {ty : TypeName} → ResultRead i a ty → AreNamed i → ty.dims ≤ max_dimensions → IsResultName ty
result_formed (g.void_result e) n l = void_name
result_formed (g.typed_result t) n l = value_name (type_formed t n l)

-- a block or none
body_formed : {i a : Lexemes} {b : PlainBody} {h : ℕ} → BodyRead i a b h → AreNamed i → h ≤ max_height → AreNamed a × IsFormedBody b
body_formed (g.no_block e) n l = (behind n, tt)
body_formed (g.a_block b) n l = block_formed b n l

-- the first call of a constructor
first_formed : {i a : Lexemes} {f : PlainFirst} {h : ℕ} → FirstRead i a f h → AreNamed i → h ≤ max_height → AreNamed a × IsFormedFirst f
first_formed g.no_call n l = (n, tt)
first_formed (g.to_this e d f) n l = let x = arguments_formed d (behind n) (omega arith) in (behind x.0, x.1)
first_formed (g.to_super e d f) n l = let x = arguments_formed d (behind n) (omega arith) in (behind x.0, x.1)

-- fields in front of well-formed members
fields_formed : (at : ℕ) (mods : Mods) (ty : TypeName) {vs : List Variable} (rest : List PlainMember) → IsTypeName ty → Each IsFormedVariable vs → Each IsFormedMember rest
    → Each IsFormedMember (fields_of at mods ty vs rest)
fields_formed at mods ty rest t each_of_none r = r
fields_formed at mods ty rest t (each_of_more v vs) r = each_of_more (t, v.name, v.init) (fields_formed at mods ty rest t vs r)

-- ---- members

-- members within the height are well formed
pub members_formed : {interface : Bool} {i a : Lexemes} {ms : List PlainMember} {h : ℕ} → Members interface i a ms h → AreNamed i → h ≤ max_height → AreNamed a × Each IsFormedMember ms
members_formed (g.no_member e) n l = (behind n, each_of_none)
members_formed (g.semicolon e r) n l = members_formed r (behind n) l
members_formed (g.static_block c e b r) n l =
    let x = block_formed b (behind n) (omega arith) in
    let y = members_formed r x.0 (omega arith) in
    (y.0, each_of_more x.1 y.1)
members_formed (g.fields {mods = mods} {ty = ty} {ms = ms} m t v r) n l =
    let k = modifiers_named m n in
    let x = variables_formed v (type_named t k) (omega arith) in
    let y = members_formed r x.0 (omega arith) in
    (y.0, fields_formed _ mods ty ms (type_formed t k (omega arith)) x.1 y.1)
members_formed (g.method m f t e p s b c r) n l =
    let k = modifiers_named m n in
    let o = result_named t k in
    let x = parameters_formed p (behind o) (omega arith) in
    let y = names_behind_formed s x.0 in
    let z = body_formed b y.0 (omega arith) in
    let w = members_formed r z.0 (omega arith) in
    (w.0, each_of_more (result_formed t k (omega arith), first_named o e, x.1, y.1, z.1) w.1)
members_formed (g.constructor c m f e p s u q b v r) n l =
    let k = modifiers_named m n in
    let x = parameters_formed p (behind k) (omega arith) in
    let y = names_behind_formed s x.0 in
    let z = first_formed q (behind y.0) (omega arith) in
    let w = stmts_formed b z.0 (omega arith) in
    let o = members_formed r (behind w.0) (omega arith) in
    (o.0, each_of_more (first_named k e, x.1, y.1, z.1, w.1) o.1)

-- ---- types and units

-- behind the modifiers of a type
type_modifiers_named : {i a : Lexemes} {b : Bool} → TypeModifiers i a b → AreNamed i → AreNamed a
type_modifiers_named g.no_type_modifier n = n
type_modifiers_named (g.public_type e m) n = type_modifiers_named m (behind n)
type_modifiers_named (g.abstract_type e m) n = type_modifiers_named m (behind n)

-- the superclass, where one is written, is a name
superclass_formed : {i a : Lexemes} {ns : List (List ℕ)} → SuperclassRead i a ns → AreNamed i → AreNamed a × Each IsName ns
superclass_formed g.no_superclass n = (n, each_of_none)
superclass_formed (g.a_superclass e f) n = (behind (behind n), each_of_more (first_named (behind n) f) each_of_none)

-- a type within the height is well formed
declaration_formed : {i a : Lexemes} {t : PlainType} {h : ℕ} → TypeDeclaration i a t h → AreNamed i → h ≤ max_height → AreNamed a × IsFormedType t
declaration_formed (g.class m e f s p v b) n l =
    let k = type_modifiers_named m n in
    let x = superclass_formed s (behind (behind k)) in
    let y = names_behind_formed p x.0 in
    let z = members_formed b (behind y.0) (omega arith) in
    (z.0, record { name = first_named (behind k) f; extends = x.1; implements = y.1; members = z.1 })
declaration_formed (g.interface_type m e f p v b) n l =
    let k = type_modifiers_named m n in
    let y = names_behind_formed p (behind (behind k)) in
    let z = members_formed b (behind y.0) (omega arith) in
    (z.0, record { name = first_named (behind k) f; extends = y.1; implements = each_of_none; members = z.1 })

-- the types of a unit are
types_formed : {i : Lexemes} {u : PlainUnit} {h : ℕ} → UnitRead i u h → AreNamed i → h ≤ max_height → Each IsFormedType u
types_formed g.no_type n l = each_of_none
types_formed (g.stray_semicolon e r) n l = types_formed r (behind n) l
types_formed (g.a_type d r) n l =
    let x = declaration_formed d n (omega arith) in each_of_more x.1 (types_formed r x.0 (omega arith))

-- what the grammar derives of the tokens of a text within the limits is well formed
pub unit_formed : (text : List ℕ) (tokens : List Token) (u : PlainUnit) → TokensOf text tokens → IsUnit text tokens u → IsWellFormed u
unit_formed text tokens u t d = record { few = d.few; types = types_formed d.derived (words_named text tokens t) d.low }
