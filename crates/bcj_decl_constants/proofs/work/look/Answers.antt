use Rattle.std.proofs.Common.{◌≡◌, ◌<◌, ◌∙◌, ap, sym, subst, List, ℕ, Some, length, slice_get, arith}
use Rattle.bcj_decl_rules.specs.World.{World}
use Rattle.bcj_decl_constants.specs.Waiting.{list_at, State, Places, IsStep}
use Rattle.bcj_decl_constants.specs.Books.{worth_in, initials, state_of}
use Rattle.bcj_decl_constants.specs.declared.waiting.Waiter.{Waiter}
use Rattle.bcj_decl_constants.specs.Needs.{fields_in}
use Rattle.bcj_decl_constants.proofs.Steps.{look-waits}
use Rattle.bcj_decl_constants.proofs.WorthLemmas.{needs_below}
use Rattle.bcj_decl_constants.proofs.work.look.Goals as goal

pub first_unknown-requires-clause-below : goal.first_unknown-requires-clause-below
first_unknown-requires-clause-below g c =
    λ i m h.
    let w : World = g.L.FieldSearch.world c.args.search.now in
    let is : slice_get (list_at c.args.book.now.needs.items c.args.waiter.field) i ≡ Some m = ap (λ l. slice_get l i) (sym c.needs_at-needs.ensures) ∙ h in
    let below : m < length (fields_in w) = needs_below w (initials c.args.book.now) c.args.book.now.needs.items c.requires.book.means c.args.waiter.field i m is in
    let same : length c.as_slice.result.now ≡ length c.args.work.now.values.items = ap length c.as_slice.ensures.value in
    omega (arith, below, same, c.requires.orderly.values, c.requires.book.needs)

pub returns-in_ok-put_waiter-in-Some-clause-step : goal.returns-in_ok-put_waiter-in-Some-clause-step
returns-in_ok-put_waiter-in-Some-clause-step g c =
    let w : World = g.L.FieldSearch.world c.args.search.now in
    let ids : List (List ℕ) = c.args.book.now.needs.items in
    let s : State = state_of c.args.work.now in
    let is : slice_get (list_at ids c.args.waiter.field) c.in-Some.next ≡ Some c.in-Some.need = ap (λ l. slice_get l c.in-Some.next) (sym c.needs_at-needs.ensures) ∙ c.in-Some.ensures.1 in
    let number : c.in-Some.need < length (fields_in w) = needs_below w (initials c.args.book.now) ids c.requires.book.means c.args.waiter.field c.in-Some.next c.in-Some.need is in
    let below : c.in-Some.need < length ids = omega (arith, number, c.requires.book.needs) in
    let P : List (List Waiter) → Type 0 = λ l. IsStep (worth_in w c.args.book.now) ids s (record { values = s.values; waiting = l; found = s.found }) in
    subst P (sym c.in_ok-put_waiter-in-Some.ensures) ((look-waits (worth_in w c.args.book.now) ids s c.args.waiter c.needs_at-needs.result.now c.as_slice.result.now c.in-Some.next c.in-Some.need c.needs_at-needs.ensures c.as_slice.ensures.value c.requires.sound c.requires.orderly c.requires.ahead below c.in-Some.ensures.0 c.in-Some.ensures.1 c.in-Some.ensures.2).0)

pub returns-in_ok-put_waiter-in-Some-clause-placed : goal.returns-in_ok-put_waiter-in-Some-clause-placed
returns-in_ok-put_waiter-in-Some-clause-placed g c =
    let w : World = g.L.FieldSearch.world c.args.search.now in
    let ids : List (List ℕ) = c.args.book.now.needs.items in
    let s : State = state_of c.args.work.now in
    let is : slice_get (list_at ids c.args.waiter.field) c.in-Some.next ≡ Some c.in-Some.need = ap (λ l. slice_get l c.in-Some.next) (sym c.needs_at-needs.ensures) ∙ c.in-Some.ensures.1 in
    let number : c.in-Some.need < length (fields_in w) = needs_below w (initials c.args.book.now) ids c.requires.book.means c.args.waiter.field c.in-Some.next c.in-Some.need is in
    let below : c.in-Some.need < length ids = omega (arith, number, c.requires.book.needs) in
    let P : List (List Waiter) → Type 0 = λ l. Places (worth_in w c.args.book.now) ids (record { values = s.values; waiting = l; found = s.found }) c.args.waiter.field in
    subst P (sym c.in_ok-put_waiter-in-Some.ensures) ((look-waits (worth_in w c.args.book.now) ids s c.args.waiter c.needs_at-needs.result.now c.as_slice.result.now c.in-Some.next c.in-Some.need c.needs_at-needs.ensures c.as_slice.ensures.value c.requires.sound c.requires.orderly c.requires.ahead below c.in-Some.ensures.0 c.in-Some.ensures.1 c.in-Some.ensures.2).1)
