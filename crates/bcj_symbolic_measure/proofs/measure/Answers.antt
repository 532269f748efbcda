use Rattle.std.proofs.Common.{◌∙◌, sym, ap, map, List}
use Rattle.std.proofs.lemmas.List.{length-map}
use Rattle.bcj_symbolic_trees.specs.declared.class_tree.SymClass.{SymClass}
use Rattle.bcj_symbolic_measure.specs.function.Sums.{no_sums, with_classes}
use Rattle.bcj_symbolic_trees.specs.Units.{class_of, plain_of}
use Rattle.bcj_symbolic_measure.proofs.MeasureLemmas.{frame-measured, method-measured, object-measured}
use Rattle.bcj_symbolic_measure.proofs.measure.Goals as goal

pub returns-clause-frame : goal.returns-clause-frame
returns-clause-frame c = c.narrow-frame.ensures ∙ frame-measured _ (plain_of c.args.u.now) (c.in_ok-sums.ensures ∙ ap (λ (l : List SymClass). with_classes no_sums (map class_of l)) c.as_slice.ensures)

pub returns-clause-method : goal.returns-clause-method
returns-clause-method c = c.narrow-method.ensures ∙ method-measured _ (plain_of c.args.u.now) (c.in_ok-sums.ensures ∙ ap (λ (l : List SymClass). with_classes no_sums (map class_of l)) c.as_slice.ensures)

pub returns-clause-object : goal.returns-clause-object
returns-clause-object c = c.file_size-object.ensures ∙ object-measured _ (plain_of c.args.u.now) (c.in_ok-sums.ensures ∙ ap (λ (l : List SymClass). with_classes no_sums (map class_of l)) c.as_slice.ensures) _ (c.len.ensures ∙ sym (length-map _ class_of))
