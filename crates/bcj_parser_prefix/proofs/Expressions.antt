-- Expressions in two rooms.
use Rattle.std.proofs.Common.{◌≡◌, ℕ, zero, suc, ◌+◌, ◌≤◌, Bool, true, false, ◌||◌, List, [], ◌∷◌, ◌++◌, length, max, Ok, Err, if◌then◌else◌, nat_le, nat_lt, refl, sym, ◌∙◌, ap, arith, leb-true, le-leb}
use Rattle.bcj_parser_trees.specs.declared.names.Base.{Base}
use Rattle.bcj_parser_trees.specs.declared.names.Base.TheVariants as base
use Rattle.bcj_parser_trees.specs.declared.names.TypeName.{TypeName}
use Rattle.bcj_parser_trees.specs.declared.expression.BinOp.{BinOp}
use Rattle.bcj_parser_trees.specs.declared.expression.BinOp.TheVariants as op
use Rattle.bcj_parser_trees.specs.declared.expression.UnaryOp.{UnaryOp}
use Rattle.bcj_parser_trees.specs.Trees as tree
use Rattle.bcj_parser_rules.specs.declared.kind.Mark.TheVariants as mark
use Rattle.bcj_parser_rules.specs.declared.kind.Beginning.{Beginning}
use Rattle.bcj_parser_rules.specs.declared.kind.Beginning.TheVariants as begin
use Rattle.bcj_parser_rules.specs.declared.kind.Joining.{Joining}
use Rattle.bcj_parser_rules.specs.declared.kind.Joining.TheVariants as join
use Rattle.bcj_parser_rules.specs.declared.kind.TypeBeginning.{TypeBeginning}
use Rattle.bcj_parser_rules.specs.declared.kind.TypeBeginning.TheVariants as typed
use Rattle.bcj_parser_rules.specs.declared.terminal.Terminal.{Terminal}
use Rattle.bcj_parser_rules.specs.declared.terminal.Terminal.TheVariants as terminal
use Rattle.bcj_parser_rules.specs.declared.stop.Site.{Site}
use Rattle.bcj_parser_rules.specs.declared.stop.Site.TheVariants as site
use Rattle.bcj_parser_rules.specs.declared.stop.Stop.TheVariants.{Refused}
use Rattle.bcj_parser_rules.specs.Lexemes.{Lexemes}
use Rattle.bcj_parser_rules.specs.Lexemes.{first_at}
use Rattle.bcj_parser_rules.specs.Levels.{operator_level}
use Rattle.bcj_parser_rules.specs.Grammar.{begins_unsigned, is_place, is_statement_expression, int_value, is_decimal}
use Rattle.bcj_parser_rules.specs.Lexemes.{terminal_at}
use Rattle.bcj_parser_rules.specs.Marks.{is_mark}
use Rattle.bcj_parser_rules.specs.function.Kinds.{beginning, joining, type_beginning}
use Rattle.bcj_parser_rules.specs.function.Steps.{Parser, then_read, rest, ◌>>=◌, pure, refuse, deep, expect, named}
use Rattle.bcj_parser_rules.specs.function.Expressions.{separated, listed, many, brackets, type_of_base, type_by, type_name, Begin, fresh, behind_name, behind_bracket, behind_this, behind_super, start_of, Read, Inner, binds, allows, arguments, named_operand, super_member, super_operand, element_operand, first_length, array_creation, primitive_creation, object_creation, named_creation, creation_by, creation, cast_operand, primitive_cast, closed, class_cast, array_cast, bracket_paren, named_paren, paren_by, parenthesized, signed, stepped, operand_by, operand, operand_from, dotted, chosen, joined_by, joined, climb_by, climb, begins, roomless, expression, ended_by, ended, is_step, follows_name, roomless_statement, needs_selector, below_selector, first_primary, primary_from, statement_expression_from, statement_expression}
use Rattle.bcj_parser_rules.specs.Texts.{SameFirst}
use Rattle.bcj_parser_prefix.proofs.Agreement.{at_same, Match, agree_bind, agree_where, agree_then, agree_pure, agree_refuse, agree_deep, agree_lost, agree_at, agree_look, agree_if, agree_choice, agree_taken, agree_skip, agree_expect, agree_named, agree_expect_lost, agree_roomless, agree_look_roomless}
use Rattle.bcj_parser_prefix.proofs.Loops.{Loop, loop_none, loop_turn, turn_match, turn_if, turn_bind, agree_loop}
use Rattle.bcj_parser_prefix.proofs.Rooms.{Rooms, both_none, none_below, both_more, rooms_le, rooms_same}
use Rattle.bcj_parser_prefix.proofs.Heights.{operand_height, below_selector_height, joined_height}

-- ---- lists

separated_loop : {A : Type 0} {strict full : Bool} (one one' : Parser (A × ℕ)) → Match false strict full one one' → (n : ℕ) (found : List A) (high : ℕ)
    → Loop strict full n (separated one n found high) (λ turns. separated one' turns found high)
unfolding separated
separated_loop one one' h zero found high = loop_none (λ turns. separated one' turns found high) agree_pure
separated_loop one one' h (suc n) found high = loop_turn (λ turns. separated one' turns found high)
    (turn_if (is_mark mark.Comma) (turn_bind (λ turns x. separated one' turns (found ++ x.0 ∷ []) (max high x.1)) (agree_skip h) (λ x. separated_loop one one' h n (found ++ x.0 ∷ []) (max high x.1)))
    (turn_match agree_pure))

pub agree_listed : {A : Type 0} {some strict full : Bool} {front front' one one' : Parser (A × ℕ)} → Match some strict full front front' → Match false strict full one one'
    → Match some strict full (listed front one) (listed front' one')
unfolding listed
agree_listed {one = one} {one' = one'} f h = agree_bind f (λ x. agree_loop (λ n. separated one n (x.0 ∷ []) x.1) (λ n. separated one' n (x.0 ∷ []) x.1) (λ n. separated_loop one one' h n (x.0 ∷ []) x.1))

many_loop : {A : Type 0} {strict full : Bool} (goes_on : Terminal → Bool) (one one' : Parser (List A × ℕ)) → Match true strict full one one' → (n : ℕ) (found : List A) (high : ℕ)
    → Loop strict full n (many goes_on one n found high) (λ turns. many goes_on one' turns found high)
unfolding many
many_loop goes_on one one' h zero found high = loop_none (λ turns. many goes_on one' turns found high) agree_pure
many_loop goes_on one one' h (suc n) found high = loop_turn (λ turns. many goes_on one' turns found high)
    (turn_if goes_on (turn_bind (λ turns x. many goes_on one' turns (found ++ x.0) (max high x.1)) h (λ x. many_loop goes_on one one' h n (found ++ x.0) (max high x.1))) (turn_match agree_pure))

-- as many turns as tokens, where each takes one
pub agree_many : {A : Type 0} {strict full : Bool} (goes_on : Terminal → Bool) {one one' : Parser (List A × ℕ)} (found : List A) (high : ℕ) → Match true strict full one one'
    → Match false strict full (λ i. many goes_on one (length i) found high i) (λ i. many goes_on one' (length i) found high i)
agree_many goes_on {one = one} {one' = one'} found high h = agree_loop (λ n. many goes_on one n found high) (λ n. many goes_on one' n found high) (λ n. many_loop goes_on one one' h n found high)

-- ---- types

pub agree_brackets : {strict full : Bool} {n n' : ℕ} (w : Site) (d : ℕ) → Rooms strict n n' → Match false strict full (brackets w n d) (brackets w n' d)
unfolding brackets
agree_brackets w d both_none = agree_if (is_mark mark.LeftBracket) (agree_deep (λ s b. refl)) agree_pure
agree_brackets w d (none_below e) = agree_if (is_mark mark.LeftBracket) (agree_lost e) agree_pure
agree_brackets w d (both_more r) = agree_if (is_mark mark.LeftBracket) (agree_skip (agree_then (agree_expect mark.RightBracket w) (agree_brackets w (suc d) r))) agree_pure

agree_type_of_base : {strict full : Bool} {n n' : ℕ} (b : Base) → Rooms strict n n' → Match false strict full (type_of_base n b) (type_of_base n' b)
agree_type_of_base b r = agree_bind (agree_brackets site.Elsewhere 0 r) (λ d. agree_pure)

pub agree_type_name : {some strict full : Bool} {n n' : ℕ} (w : Site) → Rooms strict n n' → Match some strict full (type_name n w) (type_name n' w)
unfolding type_name
agree_type_name {some = some} {strict = strict} {full = full} {n = n} {n' = n'} w r = agree_look (λ k. by (type_beginning k))
  where
    by : (k : TypeBeginning) → Match some strict full (type_by n w k) (type_by n' w k)
    by typed.Int = agree_skip (agree_type_of_base base.Int r)
    by typed.Bool = agree_skip (agree_type_of_base base.Bool r)
    by typed.Name = agree_taken (λ t. agree_type_of_base (base.Named t.word) r)
    by typed.Nothing = agree_refuse

-- ---- operands

-- how the parts are read, in each of two rooms
abbrev pub InnerAgrees : Bool → Bool → Inner → Inner → Type 0
InnerAgrees strict full inner inner' = (b : Begin) (least : ℕ) → Match false strict full (inner b least) (inner' b least)

module _ {strict full : Bool} {inner inner' : Inner} (h : InnerAgrees strict full inner inner') where
  pub agree_arguments : {some : Bool} → Match some strict full (arguments inner) (arguments inner')
  unfolding arguments
  agree_arguments = agree_then (agree_expect mark.LeftParen site.Elsewhere) (agree_if (is_mark mark.RightParen) (agree_skip agree_pure)
      (agree_bind (agree_listed (h fresh 1) (h fresh 1)) (λ es. agree_then (agree_expect mark.RightParen site.Elsewhere) agree_pure)))

  agree_named_operand : (at : ℕ) (x : List ℕ) → Match false strict full (named_operand inner at x) (named_operand inner' at x)
  unfolding named_operand
  agree_named_operand at x = agree_if (is_mark mark.LeftParen) (agree_bind agree_arguments (λ es. agree_pure)) agree_pure

  agree_super_member : (at : ℕ) (x : List ℕ) → Match false strict full (super_member inner at x) (super_member inner' at x)
  unfolding super_member
  agree_super_member at x = agree_if (is_mark mark.LeftParen) (agree_bind agree_arguments (λ es. agree_pure)) agree_pure

  agree_super_operand : (at : ℕ) → Match false strict full (super_operand inner at) (super_operand inner' at)
  unfolding super_operand
  agree_super_operand at = agree_then (agree_expect mark.Dot site.Elsewhere) (agree_bind (agree_named site.Elsewhere) (λ x. agree_super_member at x))

  agree_element_operand : (at : ℕ) (x : List ℕ) → Match false strict full (element_operand inner at x) (element_operand inner' at x)
  unfolding element_operand
  agree_element_operand at x = agree_bind (h fresh 1) (λ y. agree_then (agree_expect mark.RightBracket site.Elsewhere) agree_pure)

  agree_first_length : Match false strict full (first_length inner) (first_length inner')
  unfolding first_length
  agree_first_length = agree_if (is_mark mark.RightBracket) agree_refuse (h fresh 1)

  agree_object_creation : (at : ℕ) (x : List ℕ) → Match false strict full (object_creation inner at x) (object_creation inner' at x)
  unfolding object_creation
  agree_object_creation at x = agree_bind agree_arguments (λ es. agree_if (is_mark mark.LeftBrace) agree_refuse agree_pure)

  agree_cast_operand : (at : ℕ) (ty : TypeName) → Match false strict full (cast_operand inner at ty) (cast_operand inner' at ty)
  unfolding cast_operand
  agree_cast_operand at ty = agree_bind (h fresh 13) (λ x. agree_pure)

  agree_class_cast : (at from : ℕ) (x : List ℕ) → Match false strict full (class_cast inner at from x) (class_cast inner' at from x)
  unfolding class_cast
  agree_class_cast at from x = agree_if begins_unsigned (agree_cast_operand at _) agree_pure

  agree_dotted : (at : ℕ) (l : Read) (x : List ℕ) → Match false strict full (dotted inner at l x) (dotted inner' at l x)
  unfolding dotted
  agree_dotted at l x = agree_if (is_mark mark.LeftParen) (agree_bind agree_arguments (λ es. agree_pure)) agree_pure

  agree_chosen : (at : ℕ) (c : Read) → Match false strict full (chosen inner at c) (chosen inner' at c)
  unfolding chosen
  agree_chosen at c = agree_bind (h fresh 1) (λ l. agree_then (agree_expect mark.Colon site.Elsewhere) (agree_bind (h fresh 2) (λ r. agree_pure)))

  -- in two rooms

  agree_array_creation : {n n' : ℕ} → Rooms strict n n' → (at : ℕ) (b : Base) → Match false strict full (array_creation n inner at b) (array_creation n' inner' at b)
  unfolding array_creation
  agree_array_creation both_none at b = agree_if (is_mark mark.LeftBracket) (agree_deep (λ s i. refl)) agree_refuse
  agree_array_creation (none_below e) at b = agree_expect_lost mark.LeftBracket site.TypeName _ e
  agree_array_creation (both_more r) at b = agree_then (agree_expect mark.LeftBracket site.TypeName) (agree_bind agree_first_length (λ e. agree_then (agree_expect mark.RightBracket site.Elsewhere)
      (agree_bind (agree_brackets site.Dimension 0 r) (λ d. agree_pure))))

  agree_primitive_creation : {n n' : ℕ} → Rooms strict n n' → (at : ℕ) (b : Base) → Match false strict full (primitive_creation n inner at b) (primitive_creation n' inner' at b)
  unfolding primitive_creation
  agree_primitive_creation both_none at b = agree_deep (λ s i. refl)
  agree_primitive_creation (none_below e) at b = agree_lost e
  agree_primitive_creation (both_more r) at b = agree_skip (agree_array_creation (both_more r) at b)

  agree_named_creation : {n n' : ℕ} → Rooms strict n n' → (at : ℕ) (x : List ℕ) → Match false strict full (named_creation n inner at x) (named_creation n' inner' at x)
  unfolding named_creation
  agree_named_creation r at x = agree_if (is_mark mark.LeftParen) (agree_object_creation at x) (agree_array_creation r at _)

  agree_creation : {n n' : ℕ} → Rooms strict n n' → (at : ℕ) → Match false strict full (creation n inner at) (creation n' inner' at)
  unfolding creation
  agree_creation {n = n} {n' = n'} r at = agree_look (λ k. by (type_beginning k))
    where
      by : (k : TypeBeginning) → Match false strict full (creation_by n inner at k) (creation_by n' inner' at k)
      by typed.Int = agree_primitive_creation r at _
      by typed.Bool = agree_primitive_creation r at _
      by typed.Name = agree_taken (λ t. agree_named_creation r at t.word)
      by typed.Nothing = agree_refuse

  agree_primitive_cast : {n n' : ℕ} → Rooms strict n n' → (at : ℕ) (b : Base) → Match false strict full (primitive_cast n inner at b) (primitive_cast n' inner' at b)
  unfolding primitive_cast
  agree_primitive_cast r at b = agree_bind (agree_brackets site.Elsewhere 0 r) (λ d. agree_then (agree_expect mark.RightParen site.Elsewhere) (agree_cast_operand at _))

  agree_closed : (at : ℕ) {p q : Parser Read} → Match false strict full p q → Match false strict full (closed at p) (closed at q)
  unfolding closed
  agree_closed at a = agree_bind a (λ x. agree_then (agree_expect mark.RightParen site.Elsewhere) agree_pure)

  agree_array_cast : {n n' : ℕ} → Rooms strict n n' → (at : ℕ) (x : List ℕ) → Match false strict full (array_cast n inner at x) (array_cast n' inner' at x)
  unfolding array_cast
  agree_array_cast r at x = agree_bind (agree_brackets site.Elsewhere 1 r) (λ d. agree_then (agree_expect mark.RightParen site.Elsewhere)
      (agree_if begins_unsigned (agree_cast_operand at _) agree_refuse))

  agree_bracket_paren : {n n' : ℕ} → Rooms strict n n' → (at from : ℕ) (x : List ℕ) → Match false strict full (bracket_paren n inner at from x) (bracket_paren n' inner' at from x)
  unfolding bracket_paren
  agree_bracket_paren r at from x = agree_if (is_mark mark.RightBracket) (agree_skip (agree_array_cast r at x)) (agree_closed at (h (behind_bracket from x) 1))

  agree_named_paren : {n n' : ℕ} → Rooms strict n n' → (at from : ℕ) (x : List ℕ) → Match false strict full (named_paren n inner at from x) (named_paren n' inner' at from x)
  unfolding named_paren
  agree_named_paren r at from x = agree_if (is_mark mark.RightParen) (agree_skip (agree_class_cast at from x))
      (agree_if (is_mark mark.LeftBracket) (agree_skip (agree_bracket_paren r at from x)) (agree_closed at (h (behind_name from x) 1)))

  agree_paren_by : {n n' : ℕ} → Rooms strict n n' → (at : ℕ) (k : TypeBeginning) → Match false strict full (paren_by n inner at k) (paren_by n' inner' at k)
  agree_paren_by r at typed.Int = agree_skip (agree_primitive_cast (both_more r) at _)
  agree_paren_by r at typed.Bool = agree_skip (agree_primitive_cast (both_more r) at _)
  agree_paren_by r at typed.Name = agree_taken (λ t. agree_named_paren r at t.at t.word)
  agree_paren_by r at typed.Nothing = agree_closed at (h fresh 1)

  agree_parenthesized : {n n' : ℕ} → Rooms strict n n' → (castable : Bool) (at : ℕ) → Match false strict full (parenthesized n inner castable at) (parenthesized n' inner' castable at)
  unfolding parenthesized
  agree_parenthesized both_none castable at = agree_deep (λ s i. refl)
  agree_parenthesized (none_below e) castable at = agree_lost e
  agree_parenthesized (both_more r) true at = agree_skip (agree_look (λ k. agree_paren_by r at (type_beginning k)))
  agree_parenthesized (both_more r) false at = agree_skip (agree_closed at (h fresh 1))

  agree_signed : {n n' : ℕ} → Rooms strict n n' → (at : ℕ) (o : UnaryOp) → Match false strict full (signed n inner at o) (signed n' inner' at o)
  unfolding signed
  agree_signed both_none at o = agree_deep (λ s i. refl)
  agree_signed (none_below e) at o = agree_lost e
  agree_signed (both_more r) at o = agree_skip (agree_bind (h fresh 13) (λ x. agree_pure))

  agree_stepped : {n n' : ℕ} → Rooms strict n n' → (at : ℕ) (plus : Bool) → Match false strict full (stepped n inner at plus) (stepped n' inner' at plus)
  unfolding stepped
  agree_stepped both_none at plus = agree_deep (λ s i. refl)
  agree_stepped (none_below e) at plus = agree_lost e
  agree_stepped (both_more r) at plus = agree_skip (agree_bind (h fresh 14) (λ x. agree_choice (is_place x.0) agree_pure agree_refuse))

  agree_operand : {n n' : ℕ} → Rooms strict n n' → (least at : ℕ) → Match false strict full (operand n inner least at) (operand n' inner' least at)
  unfolding operand
  agree_operand {n = n} {n' = n'} r least at = agree_look (λ k. by (beginning k))
    where
      by : (k : Beginning) → Match false strict full (operand_by n inner least at k) (operand_by n' inner' least at k)
      by begin.Name = agree_taken (λ t. agree_named_operand at t.word)
      by begin.Int = agree_taken (λ t. agree_pure {x = (tree.int_literal at (int_value t.word) (is_decimal t.word), 1)})
      by (begin.Bool v) = agree_skip agree_pure
      by begin.Null = agree_skip agree_pure
      by begin.This = agree_skip agree_pure
      by begin.Super = agree_skip (agree_super_operand at)
      by begin.New = agree_skip (agree_creation r at)
      by begin.Paren = agree_parenthesized r (nat_le least 13) at
      by (begin.Signed o) = agree_choice (nat_le least 13) (agree_signed r at o) agree_refuse
      by (begin.Stepped plus) = agree_choice (nat_le least 13) (agree_stepped r at plus) agree_refuse
      by begin.Nothing = agree_refuse

  agree_operand_from : {n n' : ℕ} → Rooms strict n n' → (least at : ℕ) (b : Begin) → Match false strict full (operand_from n inner least at b) (operand_from n' inner' least at b)
  agree_operand_from r least at fresh = agree_operand r least at
  agree_operand_from r least at (behind_name from x) = agree_named_operand at x
  agree_operand_from r least at (behind_bracket from x) = agree_element_operand at x
  agree_operand_from r least at (behind_this from) = agree_pure
  agree_operand_from r least at (behind_super from) = agree_super_operand at

  agree_joined_by : {n n' : ℕ} → Rooms strict n n' → (at : ℕ) (l : Read) (j : Joining) → Match false strict full (joined_by n inner at l j) (joined_by n' inner' at l j)
  agree_joined_by r at l (join.Assign o) = agree_skip (agree_bind (h fresh 1) (λ y. agree_pure))
  agree_joined_by r at l join.Question = agree_skip (agree_chosen at l)
  agree_joined_by r at l (join.Binary o) = agree_skip (agree_bind (h fresh (suc (operator_level o))) (λ y. agree_pure))
  agree_joined_by r at l join.InstanceOf = agree_skip (agree_bind (agree_type_name site.Elsewhere r) (λ ty. agree_pure))
  agree_joined_by r at l (join.Step plus) = agree_skip agree_pure
  agree_joined_by r at l join.Dot = agree_skip (agree_bind (agree_named site.Elsewhere) (λ x. agree_dotted at l x))
  agree_joined_by r at l join.Bracket = agree_skip (agree_bind (h fresh 1) (λ y. agree_then (agree_expect mark.RightBracket site.Elsewhere) agree_pure))
  agree_joined_by r at l join.Nothing = agree_refuse

  agree_joined : {n n' : ℕ} → Rooms strict n n' → (at : ℕ) (l : Read) (j : Joining) → Match false strict full (joined n inner at l j) (joined n' inner' at l j)
  unfolding joined
  agree_joined {n = n} {n' = n'} r at l j = agree_choice (allows j l.0) (by (nat_le l.1 n) refl) agree_refuse
    where
      by : (d : Bool) → nat_le l.1 n ≡ d → Match false strict full (if d then joined_by n inner at l j else deep) (if nat_le l.1 n' then joined_by n' inner' at l j else deep)
      by true e = rw (le-leb l.1 n' (omega (arith, leb-true l.1 n e, rooms_le r))) (agree_joined_by r at l j)
      by false e = agree_deep (λ s i. ap (λ d. (if d then joined_by n' inner' at l j else deep) i) (ap (λ k. nat_le l.1 k) (sym (rooms_same r s)) ∙ e))

  -- each turn makes the tree higher, so that neither loop ends for want of turns
  agree_climb : {n n' : ℕ} → Rooms strict n n' → (turns turns' least at : ℕ) (l : Read) → 1 ≤ turns → 1 ≤ turns' → suc (suc n) ≤ turns + l.1 → suc (suc n') ≤ turns' + l.1
      → Match false strict full (climb n inner turns least at l) (climb n' inner' turns' least at l)
  unfolding climb
  agree_climb r zero turns' least at l some some' enough enough' = absurd (omega (arith, some))
  agree_climb r (suc turns) zero least at l some some' enough enough' = absurd (omega (arith, some'))
  agree_climb {n = n} {n' = n'} r (suc turns) (suc turns') least at l some some' enough enough' = agree_look (λ k. agree_choice (nat_lt (binds (joining k)) least) (agree_pure {x = l})
      (agree_where (λ x. (suc l.1 ≤ x.1) × (l.1 ≤ n)) (agree_joined r at l (joining k)) (joined_height n inner at l (joining k))
      (λ x e. agree_climb r turns turns' least at x (omega (arith, e.1, enough)) (omega (arith, e.1, enough', rooms_le r)) (omega (arith, e.0, enough)) (omega (arith, e.0, enough')))))

  agree_ended : {n n' : ℕ} → Rooms strict n n' → (at : ℕ) (w : Site) (l : Read) → Match false strict full (ended n inner at w l) (ended n' inner' at w l)
  unfolding ended
  agree_ended {n = n} {n' = n'} r at w l = agree_look (λ k. by (joining k))
    where
      by : (j : Joining) → Match false strict full (ended_by n inner at w l j) (ended_by n' inner' at w l j)
      by (join.Assign o) = agree_joined r at l (join.Assign o)
      by (join.Step plus) = agree_joined r at l (join.Step plus)
      by _ = agree_choice (is_statement_expression l.0) agree_pure agree_refuse

-- ---- expressions

pub start_same : (b : Begin) (i j : Lexemes) → SameFirst i j → start_of b i ≡ start_of b j
start_same fresh i j s = at_same i j s
start_same (behind_name at x) i j s = refl
start_same (behind_bracket at x) i j s = refl
start_same (behind_this at) i j s = refl
start_same (behind_super at) i j s = refl

agree_no_room : {some strict full : Bool} (b : Begin) (least : ℕ) → Match some strict full (roomless b least) (roomless b least)
agree_no_room fresh least = agree_look (λ k. agree_choice (begins least (beginning k)) (agree_deep (λ s i. refl)) (agree_refuse {w = site.Elsewhere}))
agree_no_room (behind_name at x) least = agree_deep (λ s i. refl)
agree_no_room (behind_bracket at x) least = agree_deep (λ s i. refl)
agree_no_room (behind_this at) least = agree_deep (λ s i. refl)
agree_no_room (behind_super at) least = agree_deep (λ s i. refl)

-- what begins no operand of a level is refused in any room
operand_refused : {A : Type 0} (n : ℕ) (inner : Inner) (least at : ℕ) (next : Read → Parser A) (i : Lexemes) → begins least (beginning (terminal_at i)) ≡ false
    → (operand n inner least at >>= next) i ≡ (Err (Refused site.Elsewhere), i)
unfolding operand
operand_refused n inner least at next i = by (beginning (terminal_at i))
  where
    by : (k : Beginning) → begins least k ≡ false → (operand_by n inner least at k >>= next) i ≡ (Err (Refused site.Elsewhere), i)
    by begin.Nothing e = refl
    by (begin.Signed o) e = ap (λ c. ((if c then signed n inner at o else refuse site.Elsewhere) >>= next) i) e
    by (begin.Stepped plus) e = ap (λ c. ((if c then stepped n inner at plus else refuse site.Elsewhere) >>= next) i) e
    by begin.Name e = absurd (cc)
    by begin.Int e = absurd (cc)
    by (begin.Bool v) e = absurd (cc)
    by begin.Null e = absurd (cc)
    by begin.This e = absurd (cc)
    by begin.Super e = absurd (cc)
    by begin.New e = absurd (cc)
    by begin.Paren e = absurd (cc)

lost_expression : {strict full : Bool} (n : ℕ) (b : Begin) (least : ℕ) → strict ≡ false → Match false strict full (roomless b least) (expression (suc n) b least)
unfolding expression
lost_expression n fresh least e = agree_look_roomless (λ k. begins least (beginning k)) site.Elsewhere e
    (λ i. operand_refused n (expression n) least (first_at i) (climb n (expression n) (suc n) least (first_at i)) i)
lost_expression n (behind_name at x) least e = agree_lost e
lost_expression n (behind_bracket at x) least e = agree_lost e
lost_expression n (behind_this at) least e = agree_lost e
lost_expression n (behind_super at) least e = agree_lost e

pub agree_expression : {strict full : Bool} {n n' : ℕ} → Rooms strict n n' → (b : Begin) (least : ℕ) → Match false strict full (expression n b least) (expression n' b least)
unfolding expression
agree_expression both_none b least = agree_no_room b least
agree_expression (none_below {n = n'} e) b least = lost_expression n' b least e
agree_expression {strict = strict} {full = full} (both_more {n = n} {m = n'} r) b least =
    let inner : InnerAgrees strict full (expression n) (expression n') = λ c l. agree_expression {strict = strict} {full = full} {n = n} {n' = n'} r c l in
    agree_at (start_of b) (start_same b) {f = λ at. operand_from n (expression n) least at b >>= climb n (expression n) (suc n) least at}
    {g = λ at. operand_from n' (expression n') least at b >>= climb n' (expression n') (suc n') least at}
    (λ at. agree_where (λ x. 1 ≤ x.1) (agree_operand_from inner r least at b) (operand_height n (expression n) least at b)
    (λ x e. agree_climb inner r (suc n) (suc n') least at x (omega arith) (omega arith) (omega (arith, e)) (omega (arith, e))))

-- ---- expressions that are statements

level_low : (o : BinOp) → nat_lt (operator_level o) 14 ≡ true
level_low op.OrElse = refl
level_low op.AndAlso = refl
level_low op.Or = refl
level_low op.Xor = refl
level_low op.And = refl
level_low op.Eq = refl
level_low op.Ne = refl
level_low op.Lt = refl
level_low op.Gt = refl
level_low op.Le = refl
level_low op.Ge = refl
level_low op.Shl = refl
level_low op.Shr = refl
level_low op.Ushr = refl
level_low op.Add = refl
level_low op.Sub = refl
level_low op.Mul = refl
level_low op.Div = refl
level_low op.Rem = refl

-- behind a name that no statement goes on from
name_refused : (n : ℕ) (inner : Inner) (at : ℕ) (w : Site) (from : ℕ) (x : List ℕ) (i : Lexemes) → follows_name (terminal_at i) ≡ false
    → (climb n inner (suc n) 14 at (tree.simple_name from x, 1) >>= ended n inner at w) i ≡ (Err (Refused w), i)
unfolding climb ended
name_refused n inner at w from x i = by (joining (terminal_at i)) refl
  where
    l : Read
    l = (tree.simple_name from x, 1)

    behind : (j : Joining) → joining (terminal_at i) ≡ j → ended n inner at w l i ≡ ended_by n inner at w l j i
    behind j e = ap (λ k. ended_by n inner at w l k i) e

    by : (j : Joining) → joining (terminal_at i) ≡ j → (elim j [ join.Assign o ↦ true | join.Step plus ↦ true | join.Dot ↦ true | join.Bracket ↦ true | _ ↦ false ]) ≡ false
        → then_read (climb_by (climb n inner n 14 at) n inner 14 at l j i) (ended n inner at w) ≡ (Err (Refused w), i)
    by (join.Assign o) e h = absurd (cc)
    by (join.Step plus) e h = absurd (cc)
    by join.Dot e h = absurd (cc)
    by join.Bracket e h = absurd (cc)
    by join.Question e h = behind join.Question e
    by (join.Binary o) e h = ap (λ c. then_read ((if c then pure l else (joined n inner at l (join.Binary o) >>= climb n inner n 14 at)) i) (ended n inner at w)) (level_low o) ∙ behind (join.Binary o) e
    by join.InstanceOf e h = behind join.InstanceOf e
    by join.Nothing e h = behind join.Nothing e

-- `this` alone is no statement, and no place
this_refused : (n : ℕ) (inner : Inner) (at : ℕ) (w : Site) (from : ℕ) (i : Lexemes) → (is_mark mark.Dot (terminal_at i) || is_mark mark.LeftBracket (terminal_at i)) ≡ false
    → (climb n inner (suc n) 14 at (tree.this_value from, 1) >>= ended n inner at w) i ≡ (Err (Refused site.Elsewhere), i)
unfolding climb ended joined
this_refused n inner at w from i h = by (joining (terminal_at i)) refl (joins (terminal_at i) h)
  where
    l : Read
    l = (tree.this_value from, 1)

    behind : (j : Joining) → joining (terminal_at i) ≡ j → ended n inner at w l i ≡ ended_by n inner at w l j i
    behind j e = ap (λ k. ended_by n inner at w l k i) e

    joins : (k : Terminal) → (is_mark mark.Dot k || is_mark mark.LeftBracket k) ≡ false → (elim (joining k) [ join.Dot ↦ true | join.Bracket ↦ true | _ ↦ false ]) ≡ false
    joins terminal.Dot h = h
    joins terminal.LeftBracket h = h
    joins _ h = refl

    by : (j : Joining) → joining (terminal_at i) ≡ j → (elim j [ join.Dot ↦ true | join.Bracket ↦ true | _ ↦ false ]) ≡ false
        → then_read (climb_by (climb n inner n 14 at) n inner 14 at l j i) (ended n inner at w) ≡ (Err (Refused site.Elsewhere), i)
    by (join.Assign o) e h = behind (join.Assign o) e
    by (join.Step plus) e h = behind (join.Step plus) e
    by join.Dot e h = absurd (cc)
    by join.Bracket e h = absurd (cc)
    by join.Question e h = behind join.Question e
    by (join.Binary o) e h = ap (λ c. then_read ((if c then pure l else (joined n inner at l (join.Binary o) >>= climb n inner n 14 at)) i) (ended n inner at w)) (level_low o) ∙ behind (join.Binary o) e
    by join.InstanceOf e h = behind join.InstanceOf e
    by join.Nothing e h = behind join.Nothing e

or_left : (a b : Bool) → (a || b) ≡ false → a ≡ false
or_left false b e = refl
or_left true b e = e

or_right : (a b : Bool) → (a || b) ≡ false → b ≡ false
or_right false b e = e
or_right true b e = absurd (cc)

agree_no_room_for : {strict full : Bool} (b : Begin) (w : Site) → Match false strict full (roomless_statement b w) (roomless_statement b w)
agree_no_room_for fresh w = agree_look (λ k. agree_choice (begins 14 (beginning k) || is_step (beginning k)) (agree_deep (λ s i. refl)) (agree_refuse {w = site.Elsewhere}))
agree_no_room_for (behind_name at x) w = agree_if (λ k. follows_name k || is_mark mark.LeftParen k) (agree_deep (λ s i. refl)) agree_refuse
agree_no_room_for (behind_bracket at x) w = agree_deep (λ s i. refl)
agree_no_room_for (behind_this at) w = agree_if (λ k. is_mark mark.Dot k || is_mark mark.LeftBracket k) (agree_deep (λ s i. refl)) agree_refuse
agree_no_room_for (behind_super at) w = agree_if (is_mark mark.Dot) (agree_deep (λ s i. refl)) agree_refuse

unselected : (b : Beginning) → begins 14 b ≡ false → needs_selector b ≡ false
unselected begin.Name h = refl
unselected begin.Int h = h
unselected (begin.Bool v) h = h
unselected begin.Null h = h
unselected begin.This h = h
unselected begin.Super h = refl
unselected begin.New h = refl
unselected begin.Paren h = h
unselected (begin.Signed o) h = refl
unselected (begin.Stepped plus) h = refl
unselected begin.Nothing h = refl

-- what begins no expression that is a statement is refused in any room
pub fresh_refused : (n : ℕ) (w : Site) (i : Lexemes) → (begins 14 (beginning (terminal_at i)) || is_step (beginning (terminal_at i))) ≡ false → statement_expression n fresh w i ≡ (Err (Refused site.Elsewhere), i)
unfolding statement_expression expression first_primary
fresh_refused zero w i h = ap (λ c. (if c then deep else refuse site.Elsewhere) i) h
fresh_refused (suc n) w i h =
    ap (λ c. if c then expression (suc n) fresh 13 i else statement_expression_from n fresh w i) (or_right (begins 14 (beginning (terminal_at i))) (is_step (beginning (terminal_at i))) h)
    ∙ ap (λ o. then_read o (ended n (expression n) (first_at i) w))
    (ap (λ c. if c then (below_selector n (first_at i) >>= climb n (expression n) (suc n) 14 (first_at i)) i else expression (suc n) fresh 14 i)
    (unselected (beginning (terminal_at i)) (or_left (begins 14 (beginning (terminal_at i))) (is_step (beginning (terminal_at i))) h)) ∙ operand_refused n (expression n) 14 (first_at i) (climb n (expression n) (suc n) 14 (first_at i)) i (or_left (begins 14 (beginning (terminal_at i))) (is_step (beginning (terminal_at i))) h))

lost_statement : {strict full : Bool} (n : ℕ) (b : Begin) (w : Site) → strict ≡ false → Match false strict full (roomless_statement b w) (statement_expression (suc n) b w)
unfolding statement_expression expression named_operand super_operand expect
lost_statement n fresh w e = agree_look_roomless (λ k. begins 14 (beginning k) || is_step (beginning k)) site.Elsewhere e (λ i h. fresh_refused (suc n) w i h)
lost_statement n (behind_name at x) w e = agree_roomless (λ k. follows_name k || is_mark mark.LeftParen k) w e
    (λ i h. ap (λ c. then_read (then_read (if c then (arguments (expression n) >>= λ es. pure (tree.call at x es.0, suc es.1)) i else (Ok (tree.simple_name at x, 1), i)) (climb n (expression n) (suc n) 14 at))
    (ended n (expression n) at w)) (or_right (follows_name (terminal_at i)) (is_mark mark.LeftParen (terminal_at i)) h)
    ∙ name_refused n (expression n) at w at x i (or_left (follows_name (terminal_at i)) (is_mark mark.LeftParen (terminal_at i)) h))
lost_statement n (behind_bracket at x) w e = agree_lost e
lost_statement n (behind_this at) w e = agree_roomless (λ k. is_mark mark.Dot k || is_mark mark.LeftBracket k) site.Elsewhere e (λ i h. this_refused n (expression n) at w at i h)
lost_statement n (behind_super at) w e = agree_roomless (is_mark mark.Dot) site.Elsewhere e
    (λ i h. ap (λ c. then_read (then_read (then_read {A = Unit {0}} (if c then (Ok tt, rest i) else (Err (Refused site.Elsewhere), i)) (λ u. named site.Elsewhere >>= λ x. super_member (expression n) at x))
    (climb n (expression n) (suc n) 14 at)) (ended n (expression n) at w)) h)

agree_below_selector : {strict full : Bool} {n n' : ℕ} → Rooms strict n n' → (at : ℕ) → Match false strict full (below_selector n at) (below_selector n' at)
unfolding below_selector
agree_below_selector both_none at = agree_deep (λ s i. refl)
agree_below_selector (none_below e) at = agree_lost e
agree_below_selector {strict = strict} {full = full} (both_more {n = n} {m = n'} r) at =
    let inner : InnerAgrees strict full (expression n) (expression n') = λ c l. agree_expression {strict = strict} {full = full} {n = n} {n' = n'} r c l in agree_operand inner r 14 at

agree_first_primary : {strict full : Bool} {n n' : ℕ} → Rooms strict n n' → Match false strict full (first_primary n) (first_primary n')
unfolding first_primary
agree_first_primary {strict = strict} {full = full} {n = n} {n' = n'} r =
    let inner : InnerAgrees strict full (expression n) (expression n') = λ c l. agree_expression {strict = strict} {full = full} {n = n} {n' = n'} r c l in
    agree_if (λ k. needs_selector (beginning k))
    (agree_at first_at at_same {f = λ at. below_selector n at >>= climb n (expression n) (suc n) 14 at} {g = λ at. below_selector n' at >>= climb n' (expression n') (suc n') 14 at}
    (λ at. agree_where (λ x. 1 ≤ x.1) (agree_below_selector r at) (below_selector_height n at)
    (λ x e. agree_climb inner r (suc n) (suc n') 14 at x (omega arith) (omega arith) (omega (arith, e)) (omega (arith, e)))))
    (agree_expression (both_more r) fresh 14)

agree_primary_from : {strict full : Bool} {n n' : ℕ} → Rooms strict n n' → (b : Begin) → Match false strict full (primary_from n b) (primary_from n' b)
agree_primary_from r fresh = agree_first_primary r
agree_primary_from r (behind_name at x) = agree_expression (both_more r) (behind_name at x) 14
agree_primary_from r (behind_bracket at x) = agree_expression (both_more r) (behind_bracket at x) 14
agree_primary_from r (behind_this at) = agree_expression (both_more r) (behind_this at) 14
agree_primary_from r (behind_super at) = agree_expression (both_more r) (behind_super at) 14

agree_statement_from : {strict full : Bool} {n n' : ℕ} → Rooms strict n n' → (b : Begin) (w : Site) → Match false strict full (statement_expression_from n b w) (statement_expression_from n' b w)
agree_statement_from {strict = strict} {full = full} {n = n} {n' = n'} r b w =
    let inner : InnerAgrees strict full (expression n) (expression n') = λ c l. agree_expression {strict = strict} {full = full} {n = n} {n' = n'} r c l in
    agree_at (start_of b) (start_same b) {f = λ at. primary_from n b >>= ended n (expression n) at w} {g = λ at. primary_from n' b >>= ended n' (expression n') at w}
    (λ at. agree_bind (agree_primary_from r b) (λ l. agree_ended inner r at w l))

pub agree_statement_expression : {strict full : Bool} {n n' : ℕ} → Rooms strict n n' → (b : Begin) (w : Site) → Match false strict full (statement_expression n b w) (statement_expression n' b w)
unfolding statement_expression
agree_statement_expression both_none b w = agree_no_room_for b w
agree_statement_expression (none_below {n = n'} e) b w = lost_statement n' b w e
agree_statement_expression (both_more r) fresh w = agree_if (λ k. is_step (beginning k)) (agree_expression (both_more r) fresh 13) (agree_statement_from r fresh w)
agree_statement_expression (both_more r) (behind_name at x) w = agree_statement_from r (behind_name at x) w
agree_statement_expression (both_more r) (behind_bracket at x) w = agree_statement_from r (behind_bracket at x) w
agree_statement_expression (both_more r) (behind_this at) w = agree_statement_from r (behind_this at) w
agree_statement_expression (both_more r) (behind_super at) w = agree_statement_from r (behind_super at) w
