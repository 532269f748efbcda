use Rattle.std.proofs.Common.{ap, ◌∙◌}
use Rattle.bcj_symbolic_trees.specs.Units.{class_of}
use Rattle.bcj_symbolic_measure.specs.Bodies.{class_bodies}
use Rattle.bcj_symbolic_measure.specs.function.Counts.{Counts, bodies_noted}
use Rattle.bcj_symbolic_measure.proofs.MeasureLemmas.{class-added}
use Rattle.bcj_symbolic_measure.proofs.object.add_class.Goals as goal

pub returns : goal.returns
returns c =
    class-added _ _ _ (c.in_ok-bodies.ensures ∙ ap (λ (k : Counts). bodies_noted k (class_bodies (class_of c.args.class.now))) c.new-tally.ensures) _ _ _ _ _ _ _ _ _ _ _ _ _
    c.largest_frame-largest.ensures c.larger-frame.ensures c.larger-method.ensures c.plus-text.ensures c.plus-relocations.ensures
    c.plus-begun.ensures c.entry_count-count.ensures c.plus-tables.ensures c.class_record-records.ensures
    c.length_of-name.ensures c.plus-suffixes.ensures c.plus-first.ensures c.plus-names.ensures
