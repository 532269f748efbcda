use Rattle.std.proofs.Common.{◌≡◌, ◌++◌, drop, map}
use Rattle.bcj_asm.specs.Assembly.{AreItems}
use Rattle.bcj_lower_rules.specs.Lines.{items_of}
use Rattle.bcj_lower_words.specs.Views.{line_of}
use Rattle.bcj_lower.proofs.assembling.items_of.Given as goal

abbrev pub invariant-loop-line : goal.invariant-loop-line
invariant-loop-line l = record {
  items : l.items ++ items_of (map line_of (drop l.line-index l.lines)) ≡ items_of (map line_of l.lines);
  in_range : AreItems l.items;
}
