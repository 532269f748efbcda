use Rattle.std.proofs.Common.{◌∙◌, sym, arith}
use Rattle.bcj_typing.proofs.Passing.{classes_end}
use Rattle.bcj_typing.proofs.limits.classes_past.Goals as goal

pub returns-then-index-classes : goal.returns-then-index-classes
returns-then-index-classes c = sym (classes_end c.args.decls.now c.args.classes.now c.loop-index.index (omega arith)) ∙ c.loop-index.invariant
