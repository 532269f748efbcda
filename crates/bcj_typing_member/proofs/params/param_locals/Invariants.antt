use Rattle.std.proofs.Common.{◌≡◌, ◌≤◌, ◌+◌, drop, length}
use Rattle.bcj_typing_rules.specs.Members as spec
use Rattle.bcj_typing_node.specs.Forms.{locals_of}
use Rattle.bcj_typing_member.proofs.params.param_locals.Given as goal

abbrev pub invariant-loop-place : goal.invariant-loop-place
invariant-loop-place l = (l.place ≤ length l.params) × (locals_of l.locals ≡ spec.params_from (l.first + l.place) (drop l.place l.params))

abbrev pub decreases-loop-place : goal.decreases-loop-place
decreases-loop-place l = l.place
