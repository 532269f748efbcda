-- The tree of the classes that load: their numbers in preorder, with the children of a class in the order of the mixture. The numbers below a
-- class are one interval, so a test of two numbers tells whether a class is below another.
use Rattle.std.specs.Prelude.{ℕ, zero, suc, ◌+◌, Bool, true, false, not, ◌&&◌, List, [], ◌∷◌, length, map, is_none, slice_get, Option, None, Some, if◌then◌else◌}
use Rattle.std.specs.List.{filter, flat_map, position}
use Rattle.std.specs.Option.{option_map_or}
use Rattle.std.specs.Str.{bytes_eq}
use Rattle.bcj_symbolic_trees.specs.Names.{object_name}
use Rattle.bcj_hier_rules.specs.Shapes.{Named, Shape, Mixture}
use Rattle.bcj_hier_rules.specs.Loading.{turns, load_error, is_interface}

abbrev pub loads : Mixture → Named → Bool
loads m name = is_none (load_error m name)

-- a class that loads and whose superclass this is
abbrev pub is_child : Mixture → Named → Shape → Bool
is_child m parent s = not s.head.interface && (loads m s.head.name && option_map_or (bytes_eq parent) s.head.superclass false)

abbrev pub children : Mixture → Named → List Named
children m parent = map (λ s. s.head.name) (filter (is_child m parent) m)

abbrev pub preorder_within : ℕ → Mixture → Named → List Named
preorder_within zero m class = []
preorder_within (suc n) m class = class ∷ flat_map (preorder_within n m) (children m class)

-- a class and all classes below it
abbrev pub preorder_of : Mixture → Named → List Named
preorder_of m class = preorder_within (turns m) m class

-- all classes that load
abbrev pub preorder : Mixture → List Named
preorder m = preorder_of m object_name

-- ---- numbers: that of Object is 1, and those of interfaces are 0

abbrev pub number_behind : Option ℕ → ℕ
number_behind None = 0
number_behind (Some n) = suc n

abbrev pub low : Mixture → Named → ℕ
low m class = number_behind (position (bytes_eq class) (preorder m))

-- one past the last number below the class
abbrev pub high : Mixture → Named → ℕ
high m class = if is_interface m class then 0 else low m class + length (preorder_of m class)

-- the class behind this one in preorder; an interface stands nowhere there
abbrev pub next_in_tree : Mixture → Named → Option Named
next_in_tree m class = if is_interface m class then None else slice_get (preorder m) (low m class)
