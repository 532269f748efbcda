use Rattle.bcj_hier_rules.specs.Shapes.{is_field, field_of_record}
use Rattle.bcj_layout_resolution.specs.Index.{bucket_of}
use Rattle.bcj_layout_resolution.proofs.Indexing.{Passed}
use Rattle.bcj_layout_resolution.proofs.search.field_number.Given as goal

abbrev pub invariant-loop-number : goal.invariant-loop-number
invariant-loop-number l = Passed (λ f. is_field l.name l.desc (field_of_record f)) l.fields (bucket_of l.buckets l.name) l.number-index
