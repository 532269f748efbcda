-- Which refusal of a member comes first.
use Rattle.std.specs.Prelude.{◌≤◌, List, Option, MatchOption}
use Rattle.bcj_parser_trees.specs.Trees.{PlainMember, PlainType}
use Rattle.bcj_decl_rules.specs.World.{World}
use Rattle.bcj_decl_rules.specs.Faults.{Refusal, unknown, bad_member, rank, MemberFault}
use Rattle.bcj_decl_member_faults.specs.declared.member.MemberRefusal.{MemberRefusal}
use Rattle.bcj_decl_member_faults.specs.declared.member.MemberRefusal.TheVariants as refused

-- what is refused, as the rules name it
abbrev pub refusal_of : MemberRefusal → Refusal
refusal_of (refused.Unknown name) = unknown name
refusal_of refused.BadMember = bad_member

-- a fault of the member behind these, before which no other comes, or none where it has no fault
abbrev pub IsFirstRefusal : World → PlainType → List PlainMember → PlainMember → Option MemberRefusal → Type 0
IsFirstRefusal w t before m r =
    MatchOption r ((s : Refusal) → MemberFault w t before m s → ⊥)
    (λ x. MemberFault w t before m (refusal_of x) × ((s : Refusal) → MemberFault w t before m s → rank (refusal_of x) ≤ rank s))
