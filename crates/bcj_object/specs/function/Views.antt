-- What a placed class stands for, and where the next one begins.
use Rattle.std.specs.Prelude.{◌+◌}
use Rattle.bcj_symbolic_trees.specs.Units.{class_of}
use Rattle.bcj_lower_rules.specs.Classes.{PlainCode}
use Rattle.bcj_lower.specs.Views.{code_in}
use Rattle.bcj_object_rules.specs.Objects.{Placed, text_size, tab_size}
use Rattle.bcj_object.specs.declared.placing.Place.{Place}
use Rattle.bcj_object.specs.declared.placing.PlacedClass.{PlacedClass}

abbrev pub placed_in : PlacedClass → Placed
placed_in p = record {
  class = class_of p.class.now;
  code = code_in p.code;
  number = p.place.number;
  text = p.place.text;
  tab = p.place.tab;
}

abbrev pub place_behind : Place → PlainCode → Place
place_behind place code = record { number = place.number + 1; text = place.text + text_size code; tab = place.tab + tab_size code }
