use Rattle.std.proofs.Common.{◌≡◌, List, ℕ, subst}
use Rattle.std.specs.HashMap.{get_by_text}
use Rattle.bcj_decl_table.specs.Views.{world_in}
use Rattle.bcj_decl_table.specs.declared.info.TypeInfo.{TypeInfo}
use Rattle.bcj_decl_listing.specs.Places.{place_of}
use Rattle.bcj_decl_listing.specs.Agreement.{AreMembersOf}
use Rattle.bcj_decl_listing.proofs.AgreementLemmas.{fields_at_place, methods_at_place}
use Rattle.bcj_decl_listing.proofs.listing.Listing.of.Goals as goal

pub invariant_of-result : goal.invariant_of-result
invariant_of-result c =
    let P : List TypeInfo → Type 0 = λ ts. (q : List ℕ) → get_by_text c.in_ok-index.index q ≡ place_of (world_in ts) q in
    let Q : List TypeInfo → Type 0 = λ ts. AreMembersOf c.in_ok-members.members.items (world_in ts) in
    let are : AreMembersOf c.in_ok-members.members.items (world_in c.args.types) = subst Q c.as_slice-2.ensures c.in_ok-members.ensures in
    record {
      indexed = subst P c.as_slice.ensures c.in_ok-index.ensures;
      fields_known = fields_at_place c.in_ok-members.members.items (world_in c.args.types) are;
      methods_known = methods_at_place c.in_ok-members.members.items (world_in c.args.types) are;
    }
