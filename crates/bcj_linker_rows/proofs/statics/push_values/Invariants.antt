use Rattle.std.proofs.Common.{◌≡◌, ◌++◌, map, drop, filter}
use Rattle.bcj_linker_rows.proofs.statics.push_values.Given as goal

abbrev pub invariant-loop-field : goal.invariant-loop-field
invariant-loop-field l =
    l.words ++ map (λ f. f.value) (filter (λ f. f.is_static) (drop l.field-index l.fields)) ≡ l.initial.words ++ map (λ f. f.value) (filter (λ f. f.is_static) l.fields)
