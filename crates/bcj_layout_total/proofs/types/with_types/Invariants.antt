use Rattle.std.proofs.Common.{◌≡◌, ◌+◌, ℕ, map, sum, take}
use Rattle.bcj_symbolic_measure.specs.Totals.{capped}
use Rattle.bcj_hier_rules.specs.Heads.{name_of}
use Rattle.bcj_layout_resolution.specs.Places.{heads_in}
use Rattle.bcj_layout_total.specs.function.Sizes as size
use Rattle.bcj_layout_total.proofs.types.with_types.Given as goal

abbrev pub invariant-loop-class : goal.invariant-loop-class
invariant-loop-class l =
    (n : ℕ) → l.initial.words ≡ capped n
    → l.words ≡ capped (n + sum (map (size.type_size l.resolver) (map (name_of (heads_in l.resolver)) (take l.class-index l.classes))))
