use Rattle.bcj_decl_table.specs.Views.{method_of_info}
use Rattle.bcj_decl_member_faults.proofs.Clashes.{clash_by_signature, clash_by_passing, clash_by_parts}
use Rattle.bcj_decl_member_faults.proofs.method.is_clash.Goals as goal

pub returns-then-not-has_same_signature : goal.returns-then-not-has_same_signature
returns-then-not-has_same_signature c =
    clash_by_signature (method_of_info c.args.method.now) (method_of_info c.args.other.now) c.has_same_signature.result c.has_same_signature.ensures c.if-not-has_same_signature.true

pub returns-then-not-passes_on : goal.returns-then-not-passes_on
returns-then-not-passes_on c = clash_by_passing (method_of_info c.args.method.now) (method_of_info c.args.other.now) c.passes_on.result c.passes_on.ensures c.if-not-passes_on.true

pub returns : goal.returns
returns c =
    clash_by_parts (method_of_info c.args.method.now) (method_of_info c.args.other.now) c.has_same_signature.result c.passes_on.result c.is_at_odds.result c.has_same_signature.ensures
    c.if-not-has_same_signature.false c.passes_on.ensures c.if-not-passes_on.false c.is_at_odds.ensures
