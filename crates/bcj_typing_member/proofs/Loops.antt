-- One turn of a loop over members, parameters and steps.
use Rattle.std.proofs.Common.{◌≡◌, ◌+◌, ◌<◌, ◌≤◌, ◌++◌, List, [], ◌∷◌, map, drop, length, sym, ◌∙◌, ap, arith, ℕ, suc}
use Rattle.std.proofs.Math.ListN.{get_or}
use Rattle.std.proofs.lemmas.List.{drop_more, reverse-append}
use Rattle.std.specs.List.{Contains}
use Rattle.bcj_parser_trees.specs.declared.unit.Member.{Member}
use Rattle.bcj_parser_trees.specs.declared.names.Param.{Param}
use Rattle.bcj_parser_trees.specs.Plain as plain
use Rattle.bcj_parser_trees.specs.Trees as source
use Rattle.bcj_decl_rules.specs.World.{type_of}
use Rattle.bcj_typing_rules.specs.declared.kind.Kind.{Kind}
use Rattle.bcj_typing_rules.specs.Context.{Local}
use Rattle.bcj_typing_rules.specs.Members.{Added, params_from}
use Rattle.bcj_typing_rules.specs.function.Expressions.{Answers, Outcome, result, fault}
use Rattle.bcj_typing_rules.specs.function.Members.{type_member, type_members, type_instance, type_initialisers, both_added}
use Rattle.bcj_typing_node.specs.declared.form.Variable.{Variable}
use Rattle.bcj_typing_node.specs.Forms.{local_of, locals_of}
use Rattle.bcj_typing_node.specs.declared.miss.Miss.{Miss}
use Rattle.bcj_typing_node.specs.declared.miss.Miss.TheVariants as miss
use Rattle.bcj_typing_member.proofs.Missing.{Misses}
use Rattle.bcj_typing_member.specs.Gathered.{PlainMembers, with_member, with_members, outcome_map}
use Rattle.bcj_typing_member.proofs.Gathering.{members_more, members_stop, initialisers_more, initialisers_stop}

plain_more : (each : List Member) (i : ℕ) (x : Member) → i < length each → x ≡ get_or each i x → map plain.member_of (drop i each) ≡ plain.member_of x ∷ map plain.member_of (drop (i + 1) each)
plain_more each i x lt is = ap (map plain.member_of) (drop_more each i x lt) ∙ ap (λ m. plain.member_of m ∷ map plain.member_of (drop (i + 1) each)) (sym is)

module _ (a : Answers) (units : List source.PlainUnit) (t : source.PlainType) (each : List Member) (i : ℕ) (x : Member) (lt : i < length each) (is : x ≡ get_or each i x) where
  pub gather_more : (g h : PlainMembers) → outcome_map (with_member g) (type_member a units t g.types (plain.member_of x)) ≡ result h
      → (rest : Outcome PlainMembers) → outcome_map (with_members g) (type_members a units t g.types (map plain.member_of (drop i each))) ≡ rest
      → outcome_map (with_members h) (type_members a units t h.types (map plain.member_of (drop (i + 1) each))) ≡ rest
  gather_more g h e rest before =
      sym (members_more a units t g h (plain.member_of x) (map plain.member_of (drop (i + 1) each)) e)
      ∙ (ap (λ ms. outcome_map (with_members g) (type_members a units t g.types ms)) (sym (plain_more each i x lt is)) ∙ before)

  pub gather_stop : (g : PlainMembers) (at : ℕ) (k : Kind) → outcome_map (with_member g) (type_member a units t g.types (plain.member_of x)) ≡ fault at k
      → (rest : Outcome PlainMembers) → outcome_map (with_members g) (type_members a units t g.types (map plain.member_of (drop i each))) ≡ rest → rest ≡ fault at k
  gather_stop g at k e rest before =
      sym before
      ∙ (ap (λ ms. outcome_map (with_members g) (type_members a units t g.types ms)) (plain_more each i x lt is)
      ∙ members_stop a units t g (plain.member_of x) (map plain.member_of (drop (i + 1) each)) at k e)

  pub gather_missed : (g : PlainMembers) (m : Miss) → Misses (outcome_map (with_member g) (type_member a units t g.types (plain.member_of x))) m
      → (rest : Outcome PlainMembers) → outcome_map (with_members g) (type_members a units t g.types (map plain.member_of (drop i each))) ≡ rest → Misses rest m
  gather_missed g (miss.Untyped at k) h rest before = gather_stop g at k h rest before
  gather_missed g miss.NoMemory h rest before = tt

  pub initial_more : (w y : Added) → outcome_map (both_added w) (type_instance a units t (plain.member_of x)) ≡ result y
      → (rest : Outcome Added) → outcome_map (both_added w) (type_initialisers a units t (map plain.member_of (drop i each))) ≡ rest
      → outcome_map (both_added y) (type_initialisers a units t (map plain.member_of (drop (i + 1) each))) ≡ rest
  initial_more w y e rest before =
      sym (initialisers_more a units t w y (plain.member_of x) (map plain.member_of (drop (i + 1) each)) e)
      ∙ (ap (λ ms. outcome_map (both_added w) (type_initialisers a units t ms)) (sym (plain_more each i x lt is)) ∙ before)

  pub initial_stop : (w : Added) (at : ℕ) (k : Kind) → outcome_map (both_added w) (type_instance a units t (plain.member_of x)) ≡ fault at k
      → (rest : Outcome Added) → outcome_map (both_added w) (type_initialisers a units t (map plain.member_of (drop i each))) ≡ rest → rest ≡ fault at k
  initial_stop w at k e rest before =
      sym before
      ∙ (ap (λ ms. outcome_map (both_added w) (type_initialisers a units t ms)) (plain_more each i x lt is)
      ∙ initialisers_stop a units t w (plain.member_of x) (map plain.member_of (drop (i + 1) each)) at k e)

  pub initial_missed : (w : Added) (m : Miss) → Misses (outcome_map (both_added w) (type_instance a units t (plain.member_of x))) m
      → (rest : Outcome Added) → outcome_map (both_added w) (type_initialisers a units t (map plain.member_of (drop i each))) ≡ rest → Misses rest m
  initial_missed w (miss.Untyped at k) h rest before = initial_stop w at k h rest before
  initial_missed w miss.NoMemory h rest before = tt

-- the place of a member is one of its type's
pub contains_item : {A : Type 0} (xs : List A) (i : ℕ) (x : A) → i < length xs → x ≡ get_or xs i x → Contains xs x
contains_item xs i x lt is = (i, lt, sym is)

-- one local more, which is the innermost
locals_push : (vs : List Variable) (v : Variable) → locals_of (vs ++ v ∷ []) ≡ local_of v ∷ locals_of vs
locals_push vs v = ap (map local_of) (reverse-append vs (v ∷ []))

-- parameters from the last to the first
pub params_turn : (first place at : ℕ) (ps : List Param) (old new : List Variable) (v : Variable) (x : Param) → at + 1 ≡ place → place ≤ length ps → x ≡ get_or ps at x
    → local_of v ≡ record { name = x.name; ty = type_of x.ty; number = first + at } → new ≡ old ++ v ∷ [] → locals_of old ≡ params_from (first + place) (drop place ps)
    → locals_of new ≡ params_from (first + at) (drop at ps)
params_turn first place at ps old new v x one lt is local pushed before =
    let inside : at < length ps = omega arith in
    let next : first + place ≡ suc (first + at) = omega arith in
    let P : ℕ → List Local = λ n. params_from (first + place) (drop n ps) in
    ap locals_of pushed
    ∙ (locals_push old v
    ∙ ((λ i. local i ∷ before i)
    ∙ (ap (λ l. record { name = x.name; ty = type_of x.ty; number = first + at } ∷ l) (ap P (sym one) ∙ ap (λ n. params_from n (drop (at + 1) ps)) next)
    ∙ (ap (λ p. params_from (first + at) (p ∷ drop (at + 1) ps)) is ∙ ap (params_from (first + at)) (sym (drop_more ps at x inside))))))
