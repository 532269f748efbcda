use Rattle.std.proofs.Common.{◌≡◌}
use Rattle.bcj_symbolic_trees.specs.Types.{ty_of}
use Rattle.bcj_decl_rules.specs.World as spec
use Rattle.bcj_decl_table.proofs.spelling.type_of.Given as goal

abbrev pub invariant-loop-pair : goal.invariant-loop-pair
invariant-loop-pair l = ty_of l.ty ≡ spec.with_brackets l._pair (spec.base_type l.name.base)
