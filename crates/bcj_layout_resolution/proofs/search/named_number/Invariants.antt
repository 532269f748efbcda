use Rattle.bcj_hier_rules.specs.Shapes.{method_of_record}
use Rattle.bcj_layout_resolution.specs.Index.{bucket_of}
use Rattle.bcj_layout_resolution.specs.Searches.{fits}
use Rattle.bcj_layout_resolution.proofs.Indexing.{Passed}
use Rattle.bcj_layout_resolution.proofs.search.named_number.Given as goal

abbrev pub invariant-loop-number : goal.invariant-loop-number
invariant-loop-number l = Passed (λ m. fits l.sought l.name l.desc (method_of_record m)) l.methods (bucket_of l.buckets l.name) l.number-index
