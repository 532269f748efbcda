-- What the working types stand for.
use Rattle.std.specs.Prelude.{List, map}
use Rattle.std.specs.Option.{option_copied}
use Rattle.bcj_symbolic_check.specs.function.Views.{frame_of}
use Rattle.bcj_lower_rules.specs.Nodes as nodes
use Rattle.bcj_lower_rules.specs.Ranges as ranges
use Rattle.bcj_lower_rules.specs.Bodies as bodies
use Rattle.bcj_lower_words.specs.Views.{lines_of}
use Rattle.bcj_lower_bodies.specs.declared.context.Context.{Context}
use Rattle.bcj_lower_bodies.specs.declared.context.Around.{Around}
use Rattle.bcj_lower_bodies.specs.declared.range.LabelRange.{LabelRange}
use Rattle.bcj_lower_bodies.specs.declared.body.BodyCode.{BodyCode}
use Rattle.bcj_lower_bodies.specs.declared.body.BodyCode.TheVariants as body

abbrev pub context_of : Context → nodes.Context
context_of c = record { typing = frame_of c.body; frame = c.frame }

abbrev pub around_of : Around → nodes.Around
around_of a = record { leave = a.leave; again = a.again }

abbrev pub range_of : LabelRange → ranges.LabelRange
range_of r = record { start = r.start; end = r.end; target = r.target; class = option_copied r.class }

abbrev pub ranges_of : List LabelRange → List ranges.LabelRange
ranges_of rs = map range_of rs

abbrev pub body_of : BodyCode → bodies.Body
body_of body.WithoutCode = bodies.without_code
body_of (body.WithCode b) = bodies.with_code b.frame (lines_of b.lines) (ranges_of b.ranges.items)
