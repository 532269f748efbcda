-- What holds of each type and member of declared units of well-formed types.
use Rattle.std.proofs.Common.{inl, inr, ◌≡◌, refl, sym, ap, subst, ◌∙◌, ℕ, true, not, cond, ◌&&◌, List, [], ◌∷◌, ◌++◌, length, Option, Some, None, append_assoc, append-nil}
use Rattle.std.specs.List.{list_all}
use Rattle.std.proofs.lemmas.Bool.{cases_Bool}
use Rattle.bcj_parser_trees.specs.Trees.{PlainMember, PlainType, PlainUnit}
use Rattle.bcj_parser_wellformed.specs.WellFormed.{IsFormedMember, IsFormedType, IsWellFormed}
use Rattle.bcj_symbolic_check.specs.Typing.{Each, each_of_none, each_of_more}
use Rattle.bcj_decl_rules.specs.World.{Named, World, world_of, has_type, type_named, declared_type, source_types}
use Rattle.bcj_decl_rules.specs.Faults.{Refusal, StandsIn, here, IsDeclared, in_head, in_member, HeadFault, MemberFault, unknown_name, first_unknown, names_in}
use Rattle.bcj_decl_soundness.proofs.Climbing.{stands_found}
use Rattle.bcj_typing_soundness.proofs.Lists.{each_first, each_behind, each_flat_map}

-- ---- names that are known

-- where no name is unknown, each is known
pub all_known : (w : World) (names : List Named) → first_unknown w names ≡ None → list_all (has_type w) names ≡ true
all_known w [] e = refl
all_known w (name ∷ names) e =
    elim (cases_Bool (has_type w name)) [
      | inl known ↦
          let rest : first_unknown w names ≡ None = ap (λ b. cond (not b) (Some name) (first_unknown w names)) (sym known) ∙ e in
          ap (λ b. b && list_all (has_type w) names) known ∙ all_known w names rest
      | inr unknown ↦
          let wrong : Some name ≡ None = ap (λ b. cond (not b) (Some name) (first_unknown w names)) (sym unknown) ∙ e in
          absurd (cc)
    ]

-- what is nothing in particular is none
none_there : (o : Option Named) → ((name : Named) → o ≡ Some name → ⊥) → o ≡ None
none_there None f = refl
none_there (Some name) f = absurd (f name refl)

-- ---- members

-- a member behind these of its type, of which nothing is refused
pub record IsMemberBehind (units : List PlainUnit) (t : PlainType) (earlier : List PlainMember) (m : PlainMember) : Type 0 where
  pub formed : IsFormedMember m
  pub fine : (r : Refusal) → ¬ MemberFault (world_of units) t earlier m r

-- each of these, one behind the other
pub data AreMembersBehind (units : List PlainUnit) (t : PlainType) : List PlainMember → List PlainMember → Type 0 where
  no_members_behind : {earlier : List PlainMember} → AreMembersBehind units t earlier []
  more_members_behind : {earlier : List PlainMember} {m : PlainMember} {ms : List PlainMember} → IsMemberBehind units t earlier m → AreMembersBehind units t (earlier ++ m ∷ []) ms
      → AreMembersBehind units t earlier (m ∷ ms)

-- members that stand behind others of a declared type
members_behind : (units : List PlainUnit) → IsDeclared units → (file : ℕ) (before : List PlainType) (t : PlainType) → StandsIn units file before t → (earlier ms : List PlainMember)
    → t.members ≡ earlier ++ ms → Each IsFormedMember ms → AreMembersBehind units t earlier ms
members_behind units fine file before t stands earlier [] e f = no_members_behind
members_behind units fine file before t stands earlier (m ∷ ms) e f =
    more_members_behind
    (record { formed = each_first f; fine = λ r wrong. fine _ _ (in_member earlier ms stands e wrong) })
    (members_behind units fine file before t stands (earlier ++ m ∷ []) ms (e ∙ sym (append_assoc earlier (m ∷ []) ms)) (each_behind f))

-- each member alone
pub record IsMemberOf (units : List PlainUnit) (t : PlainType) (m : PlainMember) : Type 0 where
  pub earlier : List PlainMember
  pub is : IsMemberBehind units t earlier m

-- each of them alone
pub each_alone : {units : List PlainUnit} {t : PlainType} {earlier ms : List PlainMember} → AreMembersBehind units t earlier ms → Each (IsMemberOf units t) ms
each_alone no_members_behind = each_of_none
each_alone (more_members_behind {earlier = earlier} m r) = each_of_more (record { earlier = earlier; is = m }) (each_alone r)

-- the names of a member are known
pub member_knows : {units : List PlainUnit} {t : PlainType} {earlier : List PlainMember} {m : PlainMember} → IsMemberBehind units t earlier m
    → list_all (has_type (world_of units)) (names_in m) ≡ true
member_knows {units} {m = m} k =
    all_known (world_of units) (names_in m) (none_there (first_unknown (world_of units) (names_in m)) (λ name e. k.fine _ (unknown_name e)))

-- ---- types

-- a type of declared units
pub record IsDeclaredType (units : List PlainUnit) (before : List PlainType) (t : PlainType) : Type 0 where
  pub formed : IsFormedType t
  pub fine : (r : Refusal) → ¬ HeadFault (world_of units) before t r
  pub members : AreMembersBehind units t [] t.members
  pub found : type_named (world_of units) t.name ≡ Some (declared_type t)
  pub known : list_all (has_type (world_of units)) (t.extends ++ t.implements) ≡ true

-- a type that stands in declared units
declared_at : (units : List PlainUnit) → IsDeclared units → (file : ℕ) (before : List PlainType) (t : PlainType) → StandsIn units file before t → IsFormedType t → IsDeclaredType units before t
declared_at units fine file before t stands f = record {
  formed = f;
  fine = λ r wrong. fine _ _ (in_head stands wrong);
  members = members_behind units fine file before t stands [] t.members refl f.members;
  found = stands_found units fine file before t stands;
  known = all_known (world_of units) (t.extends ++ t.implements) (none_there (first_unknown (world_of units) (t.extends ++ t.implements)) (λ name e. fine _ _ (in_head stands (unknown_name e))));
}

-- types one behind the other, each declared
pub data AreDeclaredBehind (units : List PlainUnit) : List PlainType → List PlainType → Type 0 where
  no_types_behind : {before : List PlainType} → AreDeclaredBehind units before []
  more_types_behind : {before : List PlainType} {t : PlainType} {ts : List PlainType} → IsDeclaredType units before t → AreDeclaredBehind units (before ++ t ∷ []) ts
      → AreDeclaredBehind units before (t ∷ ts)

-- types that stand behind others of their unit
unit_declared : (units : List PlainUnit) → IsDeclared units → (earlier later : List PlainUnit) (before behind : List PlainType) → units ≡ earlier ++ (before ++ behind) ∷ later → Each IsFormedType behind
    → AreDeclaredBehind units (source_types earlier ++ before) behind
unit_declared units fine earlier later before [] e f = no_types_behind
unit_declared units fine earlier later before (t ∷ ts) e f =
    let P : List PlainType → Type 0 = λ b. AreDeclaredBehind units b ts in
    more_types_behind
    (declared_at units fine (length earlier) (source_types earlier ++ before) t (here earlier later before ts e) (each_first f))
    (subst P (sym (append_assoc (source_types earlier) before (t ∷ [])))
    (unit_declared units fine earlier later (before ++ t ∷ []) ts (e ∙ ap (λ u. earlier ++ u ∷ later) (sym (append_assoc before (t ∷ []) ts))) (each_behind f)))

-- the types of the unit that stands there
pub unit_declared_at : (units : List PlainUnit) → IsDeclared units → (earlier later : List PlainUnit) (u : PlainUnit) → units ≡ earlier ++ u ∷ later → IsWellFormed u
    → AreDeclaredBehind units (source_types earlier) u
unit_declared_at units fine earlier later u e f =
    let P : List PlainType → Type 0 = λ b. AreDeclaredBehind units b u in
    subst P (append-nil (source_types earlier)) (unit_declared units fine earlier later [] u e f.types)

-- each type alone
pub record IsDeclaredTypeOf (units : List PlainUnit) (t : PlainType) : Type 0 where
  pub before : List PlainType
  pub is : IsDeclaredType units before t

-- each of them alone
pub each_type_alone : {units : List PlainUnit} {before ts : List PlainType} → AreDeclaredBehind units before ts → Each (IsDeclaredTypeOf units) ts
each_type_alone no_types_behind = each_of_none
each_type_alone (more_types_behind {before = before} t r) = each_of_more (record { before = before; is = t }) (each_type_alone r)

-- each type of the units from one on
units_alone : (units : List PlainUnit) → IsDeclared units → (earlier later : List PlainUnit) → units ≡ earlier ++ later → Each IsWellFormed later
    → Each (λ (u : PlainUnit). Each (IsDeclaredTypeOf units) u) later
units_alone units fine earlier [] e f = each_of_none
units_alone units fine earlier (u ∷ us) e f =
    each_of_more
    (each_type_alone (unit_declared_at units fine earlier us u e (each_first f)))
    (units_alone units fine (earlier ++ u ∷ []) us (e ∙ sym (append_assoc earlier (u ∷ []) us)) (each_behind f))

-- each source type
pub each_source : (units : List PlainUnit) → IsDeclared units → Each IsWellFormed units → Each (IsDeclaredTypeOf units) (source_types units)
each_source units fine f = each_flat_map (λ (u : PlainUnit). u) (units_alone units fine [] units refl f)
