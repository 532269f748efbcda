-- What the working types stand for.
use Rattle.std.specs.Prelude.{map, Option, option_map, option_copied}
use Rattle.bcj_symbolic_check.specs.declared.kind.Kind.{Kind}
use Rattle.bcj_symbolic_check.specs.declared.kind.Kind.TheVariants as kind
use Rattle.bcj_symbolic_check.specs.declared.surroundings.Body.{Body}
use Rattle.bcj_symbolic_trees.specs.Types.{ty_of, types_of, int_type, bool_type, void_type, class_type, array_type, PlainArg, given, null_arg}
use Rattle.bcj_symbolic_trees.specs.Units.{pair_of}
use Rattle.bcj_symbolic_check.specs.Judgements.{Frame, Known}

abbrev pub kind_of : Kind → PlainArg
kind_of kind.Int = given int_type
kind_of kind.Bool = given bool_type
kind_of kind.Void = given void_type
kind_of (kind.Class name) = given (class_type name.now)
kind_of (kind.Array component) = given (array_type (ty_of component.now))
kind_of kind.Null = null_arg

abbrev pub known_of : Option Kind → Known
known_of = option_map kind_of

unfoldable pub frame_of : Body → Frame
frame_of b = record {
  class = b.class.now.head.name;
  superclass = b.class.now.head.superclass;
  pairs = map pair_of b.class.now.pairs;
  locals = types_of b.locals.now;
  has_this = b.has_this;
  result = option_map ty_of (option_copied b.result);
}
