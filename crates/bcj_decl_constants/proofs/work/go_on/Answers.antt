use Rattle.std.proofs.Common.{◌≡◌, ◌-◌, ◌∙◌, ap, sym, subst, List, [], ℕ, take, append-nil}
use Rattle.bcj_decl_rules.specs.World.{World}
use Rattle.bcj_decl_constants.specs.declared.waiting.Waiter.{Waiter}
use Rattle.bcj_decl_constants.specs.Waiting.{Worth, Has, list_at, State, Places, Orderly, IsStep, IsListed}
use Rattle.bcj_decl_constants.specs.Books.{worth_in, initials, state_of}
use Rattle.bcj_decl_constants.proofs.Core.{IsWorth}
use Rattle.bcj_decl_constants.proofs.Steps.{take-within, take-orderly, gone-through, none-left}
use Rattle.bcj_decl_constants.proofs.WorthLemmas.{is_worth}
use Rattle.bcj_decl_constants.proofs.work.go_on.Goals as goal

pub take_waiters-list-requires : goal.take_waiters-list-requires
take_waiters-list-requires g c = take-within c.args.book.now.needs.items (state_of c.lists.work) c.in-Some.number c.pop.new.self.items c.in-Some.ensures.items c.lists.invariant.1

pub go_through-requires-clause-orderly : goal.go_through-requires-clause-orderly
go_through-requires-clause-orderly g c =
    let ids : List (List ℕ) = c.args.book.now.needs.items in
    let P : List (List Waiter) → Type 0 = λ l. Orderly ids (record { values = c.lists.work.values.items; waiting = l; found = c.pop.new.self.items }) in
    subst P (sym c.take_waiters-list.ensures.rest) (take-orderly ids (state_of c.lists.work) c.in-Some.number c.pop.new.self.items c.in-Some.ensures.items c.lists.invariant.1)

pub go_through-requires-clause-ahead : goal.go_through-requires-clause-ahead
go_through-requires-clause-ahead g c =
    λ x h.
    let P : List Waiter → Type 0 = λ l. Has l x in
    c.lists.invariant.1.ahead c.in-Some.number x (subst P (c.as_slice.ensures ∙ c.take_waiters-list.ensures.taken) h)

pub lists-preserved : goal.lists-preserved
lists-preserved g c =
    let w : World = g.L.FieldSearch.world c.args.search.now in
    let worth : Worth = worth_in w c.args.book.now in
    let ids : List (List ℕ) = c.args.book.now.needs.items in
    let t : State = state_of c.go_through.new.work in
    let P : List (List Waiter) → Type 0 = λ l. IsStep worth ids (record { values = c.lists.work.values.items; waiting = l; found = c.pop.new.self.items }) t in
    let Q : List Waiter → Type 0 = λ l. (n : ℕ) → IsListed l n → Places worth ids t n in (
      c.in_ok-go_through-in-Some.ensures.step.sound,
      c.in_ok-go_through-in-Some.ensures.step.orderly,
      gone-through worth ids (state_of c.lists.work) t c.in-Some.number c.pop.new.self.items c.in-Some.ensures.items c.lists.invariant.2 (subst P c.take_waiters-list.ensures.rest c.in_ok-go_through-in-Some.ensures.step)
          (subst Q (c.as_slice.ensures ∙ c.take_waiters-list.ensures.taken) c.in_ok-go_through-in-Some.ensures.placed),
    )

pub returns-in-None : goal.returns-in-None
returns-in-None g c =
    let w : World = g.L.FieldSearch.world c.args.search.now in
    let ids : List (List ℕ) = c.args.book.now.needs.items in
    let is : IsWorth (worth_in w c.args.book.now) (list_at ids) = is_worth w (initials c.args.book.now) ids c.requires.book.once c.requires.book.means in
    let after : c.pop.new.self.items ≡ [] = c.in-None.ensures.rest ∙ ap (λ n. take (n - 1) c.lists.work.found.items) c.in-None.ensures.cases.0 in
    let empty : c.lists.work.found.items ≡ [] = c.in-None.ensures.items ∙ (append-nil c.pop.new.self.items ∙ after) in
    none-left (worth_in w c.args.book.now) ids is (state_of c.lists.work) empty c.lists.invariant.0 c.lists.invariant.1 c.lists.invariant.2
