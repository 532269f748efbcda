use Rattle.std.proofs.Common.{◌≡◌, ℕ, map}
use Rattle.std.specs.Iterator.Adapters.{zip_first, zip_second}
use Rattle.std.specs.Slice.Iter.{iter_rest}
use Rattle.bcj_lower_rules.specs.Lines.{items_of}
use Rattle.bcj_lower_words.specs.Views.{line_of}
use Rattle.bcj_lower.specs.function.Labels.{label_place, last_place}
use Rattle.bcj_lower.proofs.labels.label_places.Given as goal

abbrev pub invariant-loop-line : goal.invariant-loop-line
invariant-loop-line l =
    (q : ℕ) → last_place (label_place l.labels q) (items_of (map line_of (iter_rest (zip_first l.line-iterator)))) (iter_rest (zip_second l.line-iterator)) q
    ≡ last_place 0 (items_of (map line_of l.fn.lines)) l.fn.places q
