use Rattle.std.proofs.Common.{◌∙◌, not, ◌||◌}
use Rattle.bcj_decl_rules.specs.Faults.{same_truth}
use Rattle.bcj_decl_member_faults.proofs.method.is_at_odds.Goals as goal

pub returns : goal.returns
returns c =
    c.are_at_odds.ensures
    ∙ λ i. not (c.same-same_result.ensures.test i) || (not (same_truth (c.is_static-first.ensures i) (c.is_static-second.ensures i)) || c.args.method.now.is_private)
