use Rattle.std.proofs.Common.{◌≡◌, ◌∙◌, ap, sym, subst, List, ℕ, Some, slice_get, option_map}
use Rattle.std.proofs.lemmas.Option.{slice_get-map}
use Rattle.std.specs.Result.{IfOk}
use Rattle.bcj_decl_rules.specs.World.{Declared, declared_type}
use Rattle.bcj_decl_table.specs.Views.{declared_of, world_in}
use Rattle.bcj_decl_listing.specs.Places.{steps_from}
use Rattle.bcj_decl_graph.specs.Reached.{IsWithin}
use Rattle.bcj_decl_graph.proofs.Within.{world_within}
use Rattle.bcj_decl_head_faults.specs.Refusals.{IsRefusedAbove, refusal_of}
use Rattle.bcj_decl_head_faults.proofs.Standing.{stands_there, steps_there}
use Rattle.bcj_decl_head_faults.proofs.Reaching.{starts_within}
use Rattle.bcj_decl_head_faults.proofs.head.refusal_at.Goals as goal

pub refusal_above-requires-clause-within : goal.refusal_above-requires-clause-within
refusal_above-requires-clause-within c =
    let P : List (List ℕ) → Type 0 = λ s. IsWithin s in subst P (sym c.requires) (world_within (world_in c.args.listing.now.types))

pub refusal_above-requires-clause-starts : goal.refusal_above-requires-clause-starts
refusal_above-requires-clause-starts c =
    let P : List (List ℕ) → Type 0 = λ s. IsWithin s in
    starts_within c.args.steps.now c.args.place c.as_slice.result.now (subst P (sym c.requires) (world_within (world_in c.args.listing.now.types))) (ap Some c.as_slice.ensures ∙ c.in-Some-get.ensures.value)

pub returns-in-Some-get : goal.returns-in-Some-get
returns-in-Some-get c = λ before t s.
    let w = world_in c.args.listing.now.types in
    let k = c.args.place in
    let r = c.refusal_above.result in
    let info_is : Some (declared_of c.in-Some.info.now) ≡ Some (declared_type t) =
    ap (option_map declared_of) c.in-Some.ensures.value ∙ (sym (slice_get-map declared_of c.args.listing.now.types k) ∙ stands_there w k before t s) in
    let from_is : Some c.as_slice.result.now ≡ Some (steps_from w (declared_type t)) =
    ap Some c.as_slice.ensures ∙ (c.in-Some-get.ensures.value ∙ (ap (λ l. slice_get l k) c.requires ∙ steps_there w k before t s)) in
    let same_info : declared_of c.in-Some.info.now ≡ declared_type t = cc in
    let same_from : c.as_slice.result.now ≡ steps_from w (declared_type t) = cc in
    let P : Declared → Type 0 = λ d. IfOk r (λ o. IsRefusedAbove w c.args.steps.now d (steps_from w (declared_type t)) k (option_map refusal_of o)) in
    let Q : List ℕ → Type 0 = λ f. IfOk r (λ o. IsRefusedAbove w c.args.steps.now (declared_of c.in-Some.info.now) f k (option_map refusal_of o)) in
    subst P same_info (subst Q same_from c.refusal_above.ensures)
