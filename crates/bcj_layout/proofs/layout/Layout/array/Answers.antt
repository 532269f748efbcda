use Rattle.std.proofs.Common.{◌≡◌, ◌∙◌, ap, get_or}
use Rattle.bcj_symbolic_trees.specs.Types.{types_of}
use Rattle.bcj_layout_rules.specs.Rows.{array_types}
use Rattle.bcj_layout.specs.LaidOut.{LaidOut}
use Rattle.bcj_layout.proofs.InstanceLemmas.{array-loads}
use Rattle.bcj_layout.proofs.layout.Layout.array.Goals as goal

pub returns-clause-loads : goal.returns-clause-loads
returns-clause-loads c =
    let are : types_of c.self.inside.arrays ≡ array_types c.args.self.now.classes = c.self.invariant.arrays_are ∙ ap (λ (l : LaidOut). array_types l.classes) c.self.view_is in
    array-loads c.args.self.now.classes c.self.inside.arrays c.args.array c.index-as_slice-array.result are c.requires
    (c.index-as_slice-array.is ∙ ap (λ l. get_or l c.args.array c.index-as_slice-array.result) c.as_slice.ensures)
