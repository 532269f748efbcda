use Rattle.std.proofs.Common.{◌≡◌, ◌≤◌, ◌<◌, List, length, take, subst, sym, arith}
use Rattle.bcj_hier.specs.declared.loading.Progress.{Progress}
use Rattle.bcj_hier.specs.Loads.{ArePassing, Progresses}
use Rattle.bcj_hier.proofs.Sound.{open_passed, passed_open, visited_closed, visited_open}
use Rattle.bcj_hier.proofs.loading.Loading.visit.Goals as goal
use Rattle.bcj_hier.proofs.loading.Loading.visit.Goals.{After-deref}

passed : (c : After-deref) → ArePassing c.args.heads.now c.args.self.now.states.items (take c.in-Some.passed c.args.parts.now) × (c.in-Some.passed ≤ length c.args.parts.now)
passed c = open_passed c.args.heads.now c.args.self.now.states.items c.args.self.now.rows.items c.requires.sound c.args.number c.in-Some.passed c.args.parts.now c.requires.within c.in-Some.ensures c.requires.parts

pub take_on-next-requires-clause-passed : goal.take_on-next-requires-clause-passed
take_on-next-requires-clause-passed c =
    let P : List Progress → Type 0 = λ s. ArePassing c.args.heads.now s (take c.in-Some.passed c.args.parts.now) in
    subst P (sym c.deref.ensures.value) (passed (goal.at.take_on-next-requires-clause-passed c).After-deref).0

pub take_on-next-requires-clause-within : goal.take_on-next-requires-clause-within
take_on-next-requires-clause-within c = (passed (goal.at.take_on-next-requires-clause-within c).After-deref).1

pub note-requires-clause-open : goal.note-requires-clause-open
note-requires-clause-open c = passed_open c.args.self.now.states.items c.args.number c.in-Some.passed c.in-Some.ensures

pub returns-in-None-clause-visited : goal.returns-in-None-clause-visited
returns-in-None-clause-visited c =
    let few : c.args.number < length c.args.self.now.states.items = let e : length c.args.self.now.states.items ≡ length c.args.heads.now = c.requires.sound.count in omega arith in
    visited_closed c.args.heads.now c.args.self.now.states.items c.args.number few c.in-None.ensures

pub returns-in-Some-clause-visited : goal.returns-in-Some-clause-visited
returns-in-Some-clause-visited c =
    let P : List Progress → Type 0 = λ s. Progresses c.args.heads.now s c.args.parts.now c.take_on-next.result in
    visited_open c.args.heads.now c.args.self.now.states.items c.note.new.self.states.items c.args.number c.in-Some.passed c.args.parts.now c.take_on-next.result c.note.result c.in-Some.ensures c.requires.parts
    (subst P c.deref.ensures.value c.take_on-next.ensures) c.note.ensures.state c.note.ensures.open
