use Rattle.std.proofs.Common.{◌∙◌, sym, ne_eqb}
use Rattle.bcj_decl_member_faults.proofs.Spelling.{same_dims, other_dims}
use Rattle.bcj_decl_member_faults.proofs.again.is_same_type.Goals as goal

pub returns-then-ty-other : goal.returns-then-ty-other
returns-then-ty-other c = c.is_same_base.ensures ∙ sym (same_dims _ _ c.args.ty.now.base c.args.other.now.base c.if-ty-other.true)

pub returns-else-ty-other : goal.returns-else-ty-other
returns-else-ty-other c = ne_eqb _ _ c.if-ty-other.false ∙ sym (other_dims _ _ c.args.ty.now.base c.args.other.now.base c.if-ty-other.false)
