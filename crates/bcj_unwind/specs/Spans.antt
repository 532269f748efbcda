-- The ranges of a linked program as the search for a handler sees them: with names for the numbers of classes.
use Rattle.std.specs.Prelude.{List, map, IfSome}
use Rattle.std.specs.List.{All}
use Rattle.std.specs.Option.{option_map}
use Rattle.bcj_symbolic_trees.specs.declared.class_tree.ClassHead.{ClassHead}
use Rattle.bcj_hier_rules.specs.Heads.{IsIn, name_of}
use Rattle.bcj_linker_rules.specs.Frames as frame
use Rattle.bcj_unwind.specs.declared.ranges.AddressRange.{AddressRange}
use Rattle.bcj_unwind.specs.declared.ranges.MethodRanges.{MethodRanges}
use Rattle.bcj_unwind.specs.declared.ranges.Ranges.{Ranges}
use Rattle.bcj_unwind.specs.declared.unwound.Unwound.{Unwound}
use Rattle.bcj_unwind.specs.declared.unwound.Unwound.TheVariants.{Handler, Top, Damaged}

module _ (heads : List ClassHead) where
  abbrev pub range_of : AddressRange → frame.AddressRange
  range_of r = record { start = r.start; «end» = r.«end»; target = r.target; class = option_map (name_of heads) r.class }

  abbrev pub span_of : MethodRanges → frame.MethodSpan
  span_of m = record { first = m.first; past = m.past; frame = m.frame; ranges = map range_of m.ranges }

  abbrev pub spans_of : Ranges → frame.Spans
  spans_of r = record { start = r.start; «end» = r.«end»; methods = map span_of r.methods }

  -- the class, where there is one, is one of these types
  abbrev pub IsOf : AddressRange → Type 0
  IsOf r = IfSome r.class (IsIn heads)

  abbrev pub AreOf : List MethodRanges → Type 0
  AreOf ms = All (λ m. All IsOf m.ranges) ms

abbrev pub outcome_of : Unwound → frame.Unwound
outcome_of (Handler pc sp depth) = frame.handler pc sp depth
outcome_of Top = frame.top
outcome_of Damaged = frame.damaged
