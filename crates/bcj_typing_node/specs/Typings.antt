-- The plain form of typed parts.
use Rattle.std.specs.Prelude.{List, map, option_map}
use Rattle.bcj_symbolic_trees.specs.declared.class_tree.Pair.{Pair}
use Rattle.bcj_symbolic_trees.specs.Types.{ty_of, arg_of}
use Rattle.bcj_symbolic_trees.specs.Plain.{expr_of, place_of}
use Rattle.bcj_symbolic_trees.specs.Units.{PlainPair, pair_of}
use Rattle.bcj_typing_rules.specs.Expressions as rules
use Rattle.bcj_typing_node.specs.declared.typing.Typing.{Typing}
use Rattle.bcj_typing_node.specs.declared.typing.Placing.{Placing}

abbrev pub pairs_of : List Pair → List PlainPair
pairs_of = map pair_of

abbrev pub typing_of : Typing → rules.Typing
typing_of t = rules.typing (expr_of t.tree) (arg_of t.ty) (pairs_of t.steps)

abbrev pub typings_of : List Typing → List rules.Typing
typings_of = map typing_of

abbrev pub placing_of : Placing → rules.Placing
placing_of p =
    record {
      first = option_map expr_of p.first;
      place = place_of p.place;
      type = ty_of p.ty;
      steps = pairs_of p.steps;
      assignable = p.is_assignable;
      open_here = p.is_open;
    }
