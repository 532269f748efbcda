-- Members and types in two rooms.
use Rattle.std.proofs.Common.{ℕ, zero, suc, Bool, true, false, not, ◌&&◌, List, [], ◌∷◌, length, Option, Some, None, Err, if◌then◌else◌}
use Rattle.bcj_parser_trees.specs.declared.names.TypeName.{TypeName}
use Rattle.bcj_parser_trees.specs.declared.names.Mods.{Mods}
use Rattle.bcj_parser_trees.specs.Trees as tree
use Rattle.bcj_parser_trees.specs.Trees.{PlainStmt, PlainFirst}
use Rattle.bcj_parser_rules.specs.declared.kind.Mark.{Mark}
use Rattle.bcj_parser_rules.specs.declared.kind.Mark.TheVariants as mark
use Rattle.bcj_parser_rules.specs.declared.kind.TypeBeginning.{TypeBeginning}
use Rattle.bcj_parser_rules.specs.declared.kind.TypeBeginning.TheVariants as typed
use Rattle.bcj_parser_rules.specs.declared.kind.UnitBeginning.{UnitBeginning}
use Rattle.bcj_parser_rules.specs.declared.kind.UnitBeginning.TheVariants as unit_begin
use Rattle.bcj_parser_rules.specs.declared.stop.Site.{Site}
use Rattle.bcj_parser_rules.specs.declared.stop.Site.TheVariants as site
use Rattle.bcj_parser_rules.specs.declared.stop.Stop.TheVariants.{Refused}
use Rattle.bcj_parser_rules.specs.Lexemes.{first_at}
use Rattle.bcj_parser_rules.specs.Grammar.{no_mods, with_modifier}
use Rattle.bcj_parser_rules.specs.Marks.{is_mark}
use Rattle.bcj_parser_rules.specs.function.Kinds.{type_beginning, unit_beginning}
use Rattle.bcj_parser_rules.specs.function.Steps.{◌>>=◌, look}
use Rattle.bcj_parser_rules.specs.function.Expressions.{Begin, behind_this, behind_super}
use Rattle.bcj_parser_rules.specs.function.Statements.{is_inside, block, statement}
use Rattle.bcj_parser_rules.specs.function.Declarations.{one_name, names, names_behind, parameter, parameters, modifiers_by, modifiers, site_behind_throws, method_body, method_rest, body_from, first_call, begun_body, constructor_body, constructor, field_or_method, typed_member, constructor_or_refused, named_member, member_by, void_method, member_behind, modified_member, static_member, member, members, type_modifiers_by, type_modifiers, superclass, site_behind_header, class_rest, interface_rest, type_by_word, type_declaration}
use Rattle.bcj_parser_prefix.proofs.Agreement.{at_same, Match, agree_any, agree_bind, agree_behind, agree_then, agree_pure, agree_refuse, agree_at, agree_look, agree_if, agree_choice, agree_taken, agree_skip, agree_expect, agree_named}
use Rattle.bcj_parser_prefix.proofs.Loops.{Loop, Turn, loop_none, loop_turn, turn_match, turn_look, turn_skip, agree_loop}
use Rattle.bcj_parser_prefix.proofs.Rooms.{Rooms, both_more}
use Rattle.bcj_parser_prefix.proofs.Expressions.{agree_listed, agree_many, agree_brackets, agree_type_name, agree_arguments, agree_expression}
use Rattle.bcj_parser_prefix.proofs.Statements.{agree_variables_behind, agree_evaluated, agree_statements_from, agree_block, agree_statement}

module _ {strict full : Bool} where
  -- ---- names and modifiers

  agree_one_name : (w : Site) → Match false strict full (one_name w) (one_name w)
  unfolding one_name
  agree_one_name w = agree_bind (agree_named w) (λ x. agree_pure)

  agree_names : Match false strict full names names
  unfolding names
  agree_names = agree_bind (agree_listed (agree_one_name site.Elsewhere) (agree_one_name site.Elsewhere)) (λ ns. agree_pure)

  agree_names_behind : (k : Mark) → Match false strict full (names_behind k) (names_behind k)
  unfolding names_behind
  agree_names_behind k = agree_if (is_mark k) (agree_skip agree_names) agree_pure

  modifiers_loop : (n : ℕ) (mods : Mods) → Loop strict full n (modifiers n mods) (λ turns. modifiers turns mods)
  unfolding modifiers
  modifiers_loop zero mods = loop_none (λ turns. modifiers turns mods) agree_pure
  modifiers_loop (suc n) mods = loop_turn (λ turns. modifiers turns mods) (turn_look (λ turns k. modifiers_by (modifiers turns) mods (with_modifier k mods)) (λ k. by (λ more. modifiers_loop n more) (with_modifier k mods)))
    where
      by : ((more : Mods) → Loop strict full n (modifiers n more) (λ turns. modifiers turns more)) → (more : Option Mods) → Turn strict full n (modifiers_by (modifiers n) mods more) (λ turns. modifiers_by (modifiers turns) mods more)
      by rest None = turn_match agree_pure
      by rest (Some more) = turn_skip (λ turns. modifiers turns more) (rest more)

  -- ---- parameters and bodies

  module _ {r r' : ℕ} (rooms : Rooms strict r r') where
    agree_parameter : Match false strict full (parameter r) (parameter r')
    unfolding parameter
    agree_parameter = agree_bind (agree_type_name site.Elsewhere rooms) (λ ty. agree_bind (agree_named site.TypeName) (λ x. agree_pure))

    agree_parameters : Match false strict full (parameters r) (parameters r')
    unfolding parameters
    agree_parameters = agree_then (agree_expect mark.LeftParen site.DeclaredName) (agree_if (is_mark mark.RightParen) (agree_skip agree_pure)
        (agree_bind (agree_listed agree_parameter agree_parameter) (λ ps. agree_then (agree_expect mark.RightParen site.DeclaredName) agree_pure)))

  module _ {r r' : ℕ} (rooms : Rooms strict r r') where
    agree_block_of : {some : Bool} (w : Site) → Match some strict full (block (suc r) (statement (suc r)) w) (block (suc r') (statement (suc r')) w)
    agree_block_of w = agree_block (agree_statement (both_more rooms)) (both_more rooms) w

    agree_method_body : (interface : Bool) (w : Site) → Match false strict full (method_body r interface w) (method_body r' interface w)
    unfolding method_body
    agree_method_body true w = agree_if (is_mark mark.Semicolon) (agree_skip agree_pure) agree_refuse
    agree_method_body false w = agree_if (is_mark mark.Semicolon) (agree_skip agree_pure) (agree_bind (agree_block_of w) (λ ss. agree_pure))

    agree_method_rest : (interface : Bool) (at : ℕ) (mods : Mods) (ty : TypeName) (x : List ℕ) → Match false strict full (method_rest r interface at mods ty x) (method_rest r' interface at mods ty x)
    unfolding method_rest
    agree_method_rest interface at mods ty x = agree_bind (agree_parameters (both_more rooms)) (λ ps. agree_bind (agree_names_behind mark.Throws) (λ ts.
        agree_bind (agree_method_body interface (site_behind_throws ts)) (λ b. agree_pure)))

    agree_body_from : (call : PlainFirst) (call_high : ℕ) (found : List PlainStmt) (high : ℕ) → Match false strict full (body_from r call call_high found high) (body_from r' call call_high found high)
    unfolding body_from
    agree_body_from call call_high found high = agree_bind (agree_statements_from (agree_statement (both_more rooms)) (both_more rooms) found high) (λ ss. agree_pure)

    agree_first_call : (at : ℕ) (to_super : Bool) → Match false strict full (first_call r at to_super) (first_call r' at to_super)
    unfolding first_call
    agree_first_call at to_super = agree_bind (agree_arguments (λ b l. agree_expression rooms b l)) (λ es. agree_then (agree_expect mark.Semicolon site.Elsewhere) (agree_body_from _ _ [] 0))

    agree_begun_body : (at : ℕ) (to_super : Bool) (b : Begin) → Match false strict full (begun_body r at to_super b) (begun_body r' at to_super b)
    unfolding begun_body
    agree_begun_body at to_super b = agree_if (is_mark mark.LeftParen) (agree_first_call at to_super) (agree_bind (agree_evaluated rooms b site.Elsewhere) (λ x. agree_body_from tree.no_first 0 (x.0 ∷ []) x.1))

    agree_constructor_body : Match false strict full (constructor_body r) (constructor_body r')
    unfolding constructor_body
    agree_constructor_body = agree_if (is_mark mark.This) (agree_at first_at at_same (λ at. agree_skip (agree_begun_body at false (behind_this at))))
        (agree_if (is_mark mark.Super) (agree_at first_at at_same (λ at. agree_skip (agree_begun_body at true (behind_super at)))) (agree_body_from tree.no_first 0 [] 0))

    agree_constructor : (at : ℕ) (mods : Mods) (x : List ℕ) → Match false strict full (constructor r at mods x) (constructor r' at mods x)
    unfolding constructor
    agree_constructor at mods x = agree_bind (agree_parameters (both_more rooms)) (λ ps. agree_bind (agree_names_behind mark.Throws) (λ ts. agree_then (agree_expect mark.LeftBrace (site_behind_throws ts))
        (agree_bind agree_constructor_body (λ b. agree_then (agree_expect mark.RightBrace site.Elsewhere) agree_pure))))

    -- ---- members

    agree_field_or_method : (interface : Bool) (at : ℕ) (mods : Mods) (ty : TypeName) (x : List ℕ)
        → Match false strict full (field_or_method r interface at mods ty x) (field_or_method r' interface at mods ty x)
    unfolding field_or_method
    agree_field_or_method interface at mods ty x = agree_if (is_mark mark.LeftParen) (by mods.is_final)
        (agree_bind (agree_variables_behind (λ b l. agree_expression (both_more rooms) b l) site.DeclaredName x) (λ vs. agree_pure))
      where
        by : (c : Bool) → Match false strict full (λ i. if c then (Err (Refused site.FinalMember), i) else method_rest r interface at mods ty x i)
            (λ i. if c then (Err (Refused site.FinalMember), i) else method_rest r' interface at mods ty x i)
        by true = agree_refuse
        by false = agree_method_rest interface at mods ty x

    agree_typed_member : {some : Bool} (interface : Bool) (at : ℕ) (mods : Mods) → Match some strict full (typed_member r interface at mods) (typed_member r' interface at mods)
    unfolding typed_member
    agree_typed_member interface at mods = agree_bind (agree_type_name site.Elsewhere (both_more rooms)) (λ ty. agree_bind (agree_named site.TypeName) (λ x. agree_field_or_method interface at mods ty x))

    agree_constructor_or_refused : (interface : Bool) (at : ℕ) (mods : Mods) (x : List ℕ)
        → Match false strict full (constructor_or_refused r interface at mods x) (constructor_or_refused r' interface at mods x)
    agree_constructor_or_refused true at mods x = agree_refuse
    agree_constructor_or_refused false at mods x = agree_choice mods.is_final agree_refuse (agree_constructor at mods x)

    agree_named_member : (interface : Bool) (at : ℕ) (mods : Mods) (x : List ℕ) → Match false strict full (named_member r interface at mods x) (named_member r' interface at mods x)
    unfolding named_member
    agree_named_member interface at mods x = agree_if (is_mark mark.LeftParen) (agree_constructor_or_refused interface at mods x)
        (agree_bind (agree_brackets site.Elsewhere 0 (both_more rooms)) (λ d. agree_bind (agree_named site.TypeName) (λ y. agree_field_or_method interface at mods _ y)))

    agree_member_by : (interface : Bool) (at : ℕ) (mods : Mods) (k : TypeBeginning) → Match true strict full (member_by r interface at mods k) (member_by r' interface at mods k)
    agree_member_by interface at mods typed.Int = agree_typed_member interface at mods
    agree_member_by interface at mods typed.Bool = agree_typed_member interface at mods
    agree_member_by interface at mods typed.Name = agree_taken (λ t. agree_named_member interface at mods t.word)
    agree_member_by interface at mods typed.Nothing = agree_refuse

    agree_void_method : (interface : Bool) (at : ℕ) (mods : Mods) → Match true strict full (void_method r interface at mods) (void_method r' interface at mods)
    agree_void_method interface at mods = agree_choice mods.is_final agree_refuse (agree_skip (agree_bind (agree_named site.Elsewhere) (λ x. agree_method_rest interface at mods _ x)))

    agree_member_behind : (interface : Bool) (at : ℕ) (mods : Mods) → Match true strict full (member_behind r interface at mods) (member_behind r' interface at mods)
    unfolding member_behind
    agree_member_behind interface at mods = agree_if (is_mark mark.Void) (agree_void_method interface at mods) (agree_look (λ k. agree_member_by interface at mods (type_beginning k)))

    agree_modified_member : {some : Bool} (interface : Bool) (at : ℕ) (mods : Mods) → Match some strict full (modified_member r interface at mods) (modified_member r' interface at mods)
    unfolding modified_member
    agree_modified_member interface at mods = agree_behind (agree_loop (λ n. modifiers n mods) (λ n. modifiers n mods) (λ n. modifiers_loop n mods)) (λ more. agree_any (agree_member_behind interface at more))

    agree_static_member : (at : ℕ) → Match false strict full (static_member r at) (static_member r' at)
    unfolding static_member
    agree_static_member at = agree_if (is_mark mark.LeftBrace) (agree_bind (agree_block_of site.Elsewhere) (λ ss. agree_pure)) (agree_modified_member false at _)

    agree_member : (interface : Bool) → Match true strict full (member r interface) (member r' interface)
    unfolding member
    agree_member interface = agree_if (is_mark mark.Semicolon) (agree_skip agree_pure) (agree_if (λ k. is_mark mark.Static k && not interface)
        (agree_at first_at at_same (λ at. agree_skip (agree_static_member at))) (agree_at first_at at_same (λ at. agree_modified_member interface at no_mods)))

    agree_members : (interface : Bool) → Match false strict full (members r interface) (members r' interface)
    unfolding members
    agree_members interface = agree_bind (agree_many is_inside [] 0 (agree_member interface)) (λ ms. agree_then (agree_expect mark.RightBrace site.Elsewhere) agree_pure)

  -- ---- types

  type_modifiers_loop : (n : ℕ) (b : Bool) → Loop strict full n (type_modifiers n b) (λ turns. type_modifiers turns b)
  unfolding type_modifiers
  type_modifiers_loop zero b = loop_none (λ turns. type_modifiers turns b) agree_pure
  type_modifiers_loop (suc n) b = loop_turn (λ turns. type_modifiers turns b) (turn_look (λ turns k. type_modifiers_by (type_modifiers turns) b (unit_beginning k)) (λ k. by (λ c. type_modifiers_loop n c) (unit_beginning k)))
    where
      by : ((c : Bool) → Loop strict full n (type_modifiers n c) (λ turns. type_modifiers turns c)) → (k : UnitBeginning) → Turn strict full n (type_modifiers_by (type_modifiers n) b k) (λ turns. type_modifiers_by (type_modifiers turns) b k)
      by rest unit_begin.Public = turn_skip (λ turns. type_modifiers turns b) (rest b)
      by rest unit_begin.Abstract = turn_skip (λ turns. type_modifiers turns true) (rest true)
      by rest _ = turn_match agree_pure

  agree_superclass : Match false strict full superclass superclass
  unfolding superclass
  agree_superclass = agree_if (is_mark mark.Extends) (agree_skip (agree_bind (agree_named site.Elsewhere) (λ x. agree_pure))) agree_pure

  module _ {r r' : ℕ} (rooms : Rooms strict r r') where
    agree_class_rest : (at : ℕ) (b : Bool) → Match false strict full (class_rest r at b) (class_rest r' at b)
    unfolding class_rest
    agree_class_rest at b = agree_bind (agree_named site.Elsewhere) (λ x. agree_bind agree_superclass (λ es. agree_bind (agree_names_behind mark.Implements) (λ is.
        agree_then (agree_expect mark.LeftBrace (site_behind_header es is)) (agree_bind (agree_members rooms false) (λ ms. agree_pure)))))

    agree_interface_rest : (at : ℕ) (b : Bool) → Match false strict full (interface_rest r at b) (interface_rest r' at b)
    unfolding interface_rest
    agree_interface_rest at b = agree_bind (agree_named site.Elsewhere) (λ x. agree_bind (agree_names_behind mark.Extends) (λ es.
        agree_then (agree_expect mark.LeftBrace (site_behind_header es [])) (agree_bind (agree_members rooms true) (λ ms. agree_pure))))

    agree_type_by_word : (at : ℕ) (b : Bool) (k : UnitBeginning) → Match true strict full (type_by_word r at b k) (type_by_word r' at b k)
    agree_type_by_word at b unit_begin.Class = agree_skip (agree_class_rest at b)
    agree_type_by_word at b unit_begin.Interface = agree_skip (agree_interface_rest at b)
    agree_type_by_word at b _ = agree_refuse

    pub agree_type_declaration : Match true strict full (type_declaration r) (type_declaration r')
    unfolding type_declaration
    agree_type_declaration = agree_at first_at at_same {f = λ at i. (type_modifiers (length i) false >>= λ b. look (λ k. type_by_word r at b (unit_beginning k))) i}
        {g = λ at i. (type_modifiers (length i) false >>= λ b. look (λ k. type_by_word r' at b (unit_beginning k))) i}
        (λ at. agree_behind (agree_loop (λ n. type_modifiers n false) (λ n. type_modifiers n false) (λ n. type_modifiers_loop n false)) (λ b. agree_look (λ k. agree_type_by_word at b (unit_beginning k))))
