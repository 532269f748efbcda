-- Units in two rooms and with two limits, and what a stop says of them.
use Rattle.std.proofs.Common.{◌≡◌, ℕ, zero, suc, ◌+◌, ◌≤◌, Bool, true, false, [], ◌∷◌, ◌++◌, length, max, Result, Ok, Err, refl, sym, ◌∙◌, ap, subst, arith}
use Rattle.std.proofs.lemmas.List.{append_cancel_right}
use Rattle.bcj_parser_trees.specs.Trees.{PlainUnit}
use Rattle.bcj_parser_rules.specs.declared.kind.UnitBeginning.{UnitBeginning}
use Rattle.bcj_parser_rules.specs.declared.kind.UnitBeginning.TheVariants as unit_begin
use Rattle.bcj_parser_rules.specs.declared.stop.Site.TheVariants as site
use Rattle.bcj_parser_rules.specs.declared.stop.Stop.{Stop}
use Rattle.bcj_parser_rules.specs.declared.stop.Stop.TheVariants.{Refused, TooDeep}
use Rattle.bcj_parser_rules.specs.Lexemes.{Lexeme, Lexemes}
use Rattle.bcj_parser_rules.specs.function.Kinds.{unit_beginning}
use Rattle.bcj_parser_rules.specs.function.Steps.{◌>>=◌}
use Rattle.bcj_parser_rules.specs.function.Declarations.{type_declaration, unit_end, type_within, unit_by, types_from, unit}
use Rattle.bcj_parser_rules.specs.Limits.{max_types}
use Rattle.bcj_parser_rules.specs.Texts.{SameFirst, IsBad}
use Rattle.bcj_parser_prefix.specs.Known.{KeptStop, Knows}
use Rattle.bcj_parser_prefix.specs.Laws.{UnitsAgree, ReadsUnits, StopsBadly, NoUnit, NoLowUnit}
use Rattle.bcj_parser_prefix.proofs.Agreement.{none_same, Match, agree_too_many}
use Rattle.bcj_parser_prefix.proofs.Loops.{Loop, Turn, loop_none, loop_turn, turn_match, turn_too_many, turn_look, turn_bind, turn_skip, agree_loop}
use Rattle.bcj_parser_prefix.proofs.Rooms.{Rooms, both_none, none_below, both_more, rooms}
use Rattle.bcj_parser_prefix.proofs.Declarations.{agree_type_declaration}

agree_unit_end : {strict full : Bool} (found : PlainUnit) (high : ℕ) → Match false strict full (unit_end found high) (unit_end found high)
agree_unit_end {strict = strict} {full = full} found high = record { at = λ i. by i; takes = λ s. absurd (cc) }
  where
    more : (t : Lexeme) (i b : Lexemes) → SameFirst (t ∷ i) b → unit_end found high b ≡ (Err (Refused site.Elsewhere), b)
    more t i [] s = absurd s
    more t i (u ∷ b) s = refl

    by : (i : Lexemes) → Knows strict full (λ j o. unit_end found high j ≡ o) i (unit_end found high i)
    by [] = record { before = []; whole = refl; same = λ b s k. ap (unit_end found high) (none_same b s) ∙ ap (λ y. (Ok (found, high), y)) (sym (none_same b s)) }
    by (t ∷ i) = record { before = []; whole = refl; same = λ b s k. more t i b s }

-- the turns behind one
abbrev TypesLoop : Bool → Bool → ℕ → ℕ → ℕ → Type 0
TypesLoop strict full r r' n = (limit limit' : ℕ) → Rooms full limit limit' → (found : PlainUnit) (high : ℕ)
    → Loop strict full n (types_from r n limit found high) (λ turns. types_from r' turns limit' found high)

within_turn : {strict full : Bool} {r r' n limit limit' : ℕ} → Rooms strict r r' → TypesLoop strict full r r' n → Rooms full limit limit' → (found : PlainUnit) (high : ℕ)
    → Turn strict full n (type_within r (λ left d. types_from r n left (found ++ d.0 ∷ []) (max high d.1)) limit)
    (λ turns. type_within r' (λ left d. types_from r' turns left (found ++ d.0 ∷ []) (max high d.1)) limit')
within_turn room more both_none found high = turn_match agree_too_many
within_turn {r' = r'} room more (none_below {n = left} e) found high = turn_too_many (λ turns. type_declaration r' >>= λ d. types_from r' turns left (found ++ d.0 ∷ []) (max high d.1)) e
within_turn {r' = r'} room more (both_more {n = left} {m = left'} l) found high =
    turn_bind (λ turns d. types_from r' turns left' (found ++ d.0 ∷ []) (max high d.1)) (agree_type_declaration room) (λ d. more left left' l (found ++ d.0 ∷ []) (max high d.1))

unit_turn : {strict full : Bool} {r r' n limit limit' : ℕ} → Rooms strict r r' → TypesLoop strict full r r' n → Rooms full limit limit' → (found : PlainUnit) (high : ℕ) (k : UnitBeginning)
    → Turn strict full n (unit_by r (types_from r n) limit found high k) (λ turns. unit_by r' (types_from r' turns) limit' found high k)
unit_turn {r' = r'} {limit = limit} {limit' = limit'} room more l found high unit_begin.Semicolon = turn_skip (λ turns. types_from r' turns limit' found high) (more limit limit' l found high)
unit_turn room more l found high unit_begin.Nothing = turn_match (agree_unit_end found high)
unit_turn room more l found high unit_begin.Public = within_turn room more l found high
unit_turn room more l found high unit_begin.Abstract = within_turn room more l found high
unit_turn room more l found high unit_begin.Class = within_turn room more l found high
unit_turn room more l found high unit_begin.Interface = within_turn room more l found high

types_loop : {strict full : Bool} {r r' : ℕ} → Rooms strict r r' → (n : ℕ) → TypesLoop strict full r r' n
unfolding types_from
types_loop {r' = r'} room zero limit limit' l found high = loop_none (λ turns. types_from r' turns limit' found high) (agree_unit_end found high)
types_loop {r' = r'} room (suc n) limit limit' l found high = loop_turn (λ turns. types_from r' turns limit' found high)
    (turn_look (λ turns k. unit_by r' (types_from r' turns) limit' found high (unit_beginning k)) (λ k. unit_turn room (types_loop room n) l found high (unit_beginning k)))

agree_unit : {strict full : Bool} {r r' limit limit' : ℕ} → Rooms strict r r' → Rooms full limit limit' → Match false strict full (unit r limit) (unit r' limit')
unfolding unit
agree_unit {r = r} {r' = r'} {limit = limit} {limit' = limit'} room l =
    agree_loop (λ n. types_from r n limit [] 0) (λ n. types_from r' n limit' [] 0) (λ n. types_loop room n limit limit' l [] 0)

pub units_agree : UnitsAgree
units_agree strict full r r' limit limit' le le' same same' = (agree_unit (rooms r r' le same) (rooms limit limit' le' same')).at

-- ---- stops

-- no unit that a room reads goes on so, where the answer is the same in it
stop_is_bad : ReadsUnits → (strict : Bool) (x : Stop) → KeptStop strict false x → (P : ℕ → Type 0)
    → ((h : ℕ) → P h → (r : ℕ) × (253 ≤ r) × (strict ≡ true → 253 ≡ r) × (h ≤ r + 3)) → (i from : Lexemes) → unit 253 max_types i ≡ (Err x, from) → StopsBadly P i from
stop_is_bad reads strict x kept P room i from e = (first.before, first.whole, bad)
  where
    known : (r limit : ℕ) → 253 ≤ r → max_types ≤ limit → (strict ≡ true → 253 ≡ r) → Knows strict false (λ j o. unit r limit j ≡ o) i (Err x, from)
    known r limit le le' same = subst (λ o. Knows strict false (λ j y. unit r limit j ≡ y) i o) e (units_agree strict false 253 r max_types limit le le' same (λ f. absurd (cc)) i)

    differ : {A : Type 0} {y : A} → ◌≡◌ {A = Result A Stop} (Ok y) (Err x) → ⊥
    differ e = absurd (cc)

    first : Knows strict false (λ j o. unit 253 max_types j ≡ o) i (Err x, from)
    first = known 253 max_types (omega arith) (omega arith) (λ s. refl)

    bad : IsBad P first.before from
    bad other u h s p read =
        let c = room h p in
        let limit = max_types + length u in
        let m = known c.0 limit c.1 (omega arith) c.2 in
        let is : first.before ≡ m.before = append_cancel_right first.before m.before from (sym first.whole ∙ m.whole) in
        let stopped : unit c.0 limit (first.before ++ other) ≡ (Err x, other) = ap (λ y. unit c.0 limit (y ++ other)) is ∙ m.same other s kept in
        differ (ap (λ o. o.0) (sym (reads c.0 limit (first.before ++ other) u h read c.3 (omega arith)) ∙ stopped))

pub no_unit : NoUnit
no_unit reads i from w e = stop_is_bad reads false (Refused w) tt (λ h. Unit {0}) (λ h p. (253 + h, omega arith, λ s. absurd (cc), omega arith)) i from e

pub too_deep : NoLowUnit
too_deep reads i from e = stop_is_bad reads true TooDeep refl (λ h. h ≤ 256) (λ h p. (253, omega arith, λ s. refl, omega (arith, p))) i from e
