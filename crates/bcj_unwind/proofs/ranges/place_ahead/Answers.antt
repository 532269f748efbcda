use Rattle.std.proofs.Common.{leb, rules}
use Rattle.std.proofs.lemmas.Bool.{leb-true, leb-false}
use Rattle.std.proofs.lemmas.List.Sorted.{IsPartitionPoint-from_clause, IsPartitionedBy-leb}
use Rattle.bcj_unwind.proofs.Methods.{ends_rise}
use Rattle.bcj_unwind.proofs.ranges.place_ahead.Goals as goal

pub returns : goal.returns
returns c =
    let parted = IsPartitionedBy-leb (λ m. m.past) _ c.args.pc (ends_rise 0 c.args.methods.now c.requires) in
    let point = IsPartitionPoint-from_clause (λ m. leb m.past c.args.pc) _ _ c.partition_point.ensures.partitioned parted (λ a r q k. search rules) in
    record {
      passed = λ k d at_least below. leb-true _ _ (point.0 k d at_least below);
      ahead = λ k d at_least below. leb-false _ _ (point.1 k d at_least below);
    }
