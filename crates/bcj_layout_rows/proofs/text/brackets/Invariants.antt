use Rattle.std.proofs.Common.{◌≡◌, drop}
use Rattle.bcj_hier_rules.specs.Shapes.{type_of_text}
use Rattle.bcj_layout_rows.specs.Texts.{array_of}
use Rattle.bcj_layout_rows.proofs.text.brackets.Given as goal

abbrev pub invariant-loop-i : goal.invariant-loop-i
invariant-loop-i l = type_of_text l.text ≡ array_of l.i (type_of_text (drop l.i l.text))
