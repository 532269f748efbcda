use Rattle.std.proofs.Common.{◌≡◌, length, take}
use Rattle.std.specs.List.{filter}
use Rattle.bcj_layout_places.proofs.classes.static_words.Given as goal

abbrev pub invariant-loop-field : goal.invariant-loop-field
invariant-loop-field l = l.words ≡ length (filter (λ f. f.is_static) (take l.field-index l.fields))
