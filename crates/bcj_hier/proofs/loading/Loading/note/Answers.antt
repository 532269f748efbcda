use Rattle.std.proofs.Common.{◌≡◌, List, set, subst, sym, ap, slice_get, Some}
use Rattle.bcj_symbolic_trees.specs.declared.class_tree.ClassHead.{ClassHead}
use Rattle.bcj_hier.specs.declared.loading.Progress.{Progress}
use Rattle.bcj_hier.specs.declared.parts.Part.{Part}
use Rattle.bcj_hier.specs.Loads.{Progresses, IsSound}
use Rattle.bcj_hier.proofs.ByParts.{head_there}
use Rattle.bcj_hier.proofs.Sound.{noted}
use Rattle.bcj_hier.proofs.loading.Loading.note.Goals as goal

pub returns-clause-sound : goal.returns-clause-sound
returns-clause-sound c =
    let t : (h : ClassHead) × (slice_get c.args.heads.now c.args.number ≡ Some h) = head_there c.args.heads.now c.args.number c.requires.within in
    let P : List Part → Type 0 = λ ps. Progresses c.args.heads.now c.args.self.now.states.items ps c.args.next in
    let S : List Progress → Type 0 = λ s. IsSound c.args.heads.now (set s c.args.number c.args.next) c.put_row.new.self.rows.items in
    subst S (sym (ap (λ s. s.items) c.put_row.ensures.states))
    (noted c.args.heads.now c.args.self.now.states.items c.args.self.now.rows.items c.put_row.new.self.rows.items c.args.number t.0 c.args.next c.requires.distinct t.1 c.requires.sound c.requires.open
    (subst P (c.requires.parts t.0 t.1) c.requires.next) (c.put_row.ensures.rows t.0 t.1))
