use Rattle.std.proofs.Common.{◌∙◌}
use Rattle.bcj_parser_trees.specs.Plain as tree
use Rattle.bcj_symbolic_trees.specs.Units.{class_of}
use Rattle.bcj_typing.specs.Limits as spec
use Rattle.bcj_typing.specs.Passed.{sizes_past}
use Rattle.bcj_typing.proofs.Passing.{class_narrow}
use Rattle.bcj_typing.proofs.limits.class_past.Goals as goal

pub returns : goal.returns
returns c =
    c.sizes_past.ensures
    ∙ ((λ i. sizes_past ((c.as_slice.ensures ∙ c.in_ok-places.ensures) i) ((c.as_slice-2.ensures ∙ c.in_ok-sizes.ensures) i)) ∙ class_narrow (class_of c.args.class.now) (spec.body_places (tree.type_of c.args.decl.now)))
