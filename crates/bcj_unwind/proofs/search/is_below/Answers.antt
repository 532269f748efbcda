use Rattle.bcj_hier_rules.specs.Heads.{of_heads, name_of}
use Rattle.bcj_unwind.proofs.Below.{above_fails}
use Rattle.bcj_unwind.proofs.search.is_below.Goals as goal

pub returns-in-Err : goal.returns-in-Err
returns-in-Err c = above_fails (of_heads c.args.hier.now) (name_of c.args.hier.now c.args.class) (name_of c.args.hier.now c.args.bound) c.in-Err.field-0 c.requires.loads c.in-Err.ensures
