use Rattle.std.proofs.Common.{◌≡◌, ◌∙◌, rules, false, List, ℕ}
use Rattle.std.specs.HashSet.{contains_text}
use Rattle.bcj_decl_head_faults.proofs.Twice.{again_first, again_further, is_seen}
use Rattle.bcj_decl_head_faults.proofs.name.any_twice.Goals as goal

pub loop-name-init : goal.loop-name-init
loop-name-init c =
    let none : (q : List ℕ) → contains_text c.new-seen.result q ≡ false = λ q. search rules in again_first (contains_text c.new-seen.result) none c.args.names.now

pub loop-name-preserved : goal.loop-name-preserved
loop-name-preserved c =
    let new : contains_text c.loop-name.seen c.name-item.result ≡ false = is_seen _ _ c.in_ok-note.ensures.is_new c.if-not-branch.false in
    again_further (contains_text c.loop-name.seen) (contains_text c.note.new.seen) c.args.names.now c.loop-name.name-index c.name-item.result c.loop-name-test.true c.name-item.is new
    c.in_ok-note.ensures.noted
    ∙ c.loop-name.invariant
