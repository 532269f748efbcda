use Rattle.std.proofs.Common.{◌≡◌, ◌<◌, ◌∙◌, ap, sym, subst, inl, List, ℕ, Some, None, length, set, slice_get, arith}
use Rattle.bcj_decl_rules.specs.World.{World}
use Rattle.bcj_decl_constants.specs.Numbers.{value_of_number}
use Rattle.bcj_decl_constants.specs.Waiting.{list_at, State, Places, IsStep}
use Rattle.bcj_decl_constants.specs.Books.{worth_in, initials, state_of}
use Rattle.bcj_decl_constants.proofs.Core.{IsWorth}
use Rattle.bcj_decl_constants.proofs.Knowing.{free_at, known_if}
use Rattle.bcj_decl_constants.proofs.Steps.{settle-step, settle-placed}
use Rattle.bcj_decl_constants.proofs.WorthLemmas.{is_worth}
use Rattle.bcj_decl_constants.proofs.work.give.Goals as goal

pub returns-in-Some-clause-placed : goal.returns-in-Some-clause-placed
returns-in-Some-clause-placed g c =
    let known : value_of_number c.args.work.now.values.items c.args.number ≡ Some c.in-Some.field-0 = ap (λ t. value_of_number t c.args.number) (sym c.as_slice.ensures.value) ∙ sym c.in-Some.ensures in
    inl (known_if c.args.work.now.values.items c.args.number c.in-Some.field-0 known)

pub returns-in_ok-push-in-Some-worth-clause-step : goal.returns-in_ok-push-in-Some-worth-clause-step
returns-in_ok-push-in-Some-worth-clause-step g c =
    let w : World = g.L.FieldSearch.world c.args.search.now in
    let ids : List (List ℕ) = c.args.book.now.needs.items in
    let s : State = state_of c.args.work.now in
    let is : IsWorth (worth_in w c.args.book.now) (list_at ids) = is_worth w (initials c.args.book.now) ids c.requires.book.once c.requires.book.means in
    let within : c.args.number < length s.values = omega (arith, c.requires.below, c.requires.orderly.values) in
    let none : value_of_number s.values c.args.number ≡ None = ap (λ t. value_of_number t c.args.number) (sym c.as_slice.ensures.value) ∙ sym c.in-None.ensures in
    let free : slice_get s.values c.args.number ≡ Some None = free_at s.values c.args.number within none in
    let it : worth_in w c.args.book.now s.values c.args.number ≡ Some c.in-Some-worth.value = ap (λ t. worth_in w c.args.book.now t c.args.number) (sym c.as_slice-in-None.ensures.value) ∙ sym c.in-Some-worth.ensures in
    let P : List ℕ → Type 0 = λ l. IsStep (worth_in w c.args.book.now) ids s (record { values = set s.values c.args.number (Some c.in-Some-worth.value); waiting = s.waiting; found = l }) in
    subst P (sym c.in_ok-push-in-Some-worth.ensures.items) (settle-step (worth_in w c.args.book.now) ids is s c.args.number c.in-Some-worth.value c.requires.sound c.requires.orderly c.requires.below free it)

pub returns-in_ok-push-in-Some-worth-clause-placed : goal.returns-in_ok-push-in-Some-worth-clause-placed
returns-in_ok-push-in-Some-worth-clause-placed g c =
    let w : World = g.L.FieldSearch.world c.args.search.now in
    let ids : List (List ℕ) = c.args.book.now.needs.items in
    let s : State = state_of c.args.work.now in
    let within : c.args.number < length s.values = omega (arith, c.requires.below, c.requires.orderly.values) in
    let none : value_of_number s.values c.args.number ≡ None = ap (λ t. value_of_number t c.args.number) (sym c.as_slice.ensures.value) ∙ sym c.in-None.ensures in
    let free : slice_get s.values c.args.number ≡ Some None = free_at s.values c.args.number within none in
    let P : List ℕ → Type 0 = λ l. Places (worth_in w c.args.book.now) ids (record { values = set s.values c.args.number (Some c.in-Some-worth.value); waiting = s.waiting; found = l }) c.args.number in
    subst P (sym c.in_ok-push-in-Some-worth.ensures.items) (settle-placed (worth_in w c.args.book.now) ids s c.args.number c.in-Some-worth.value free)
