-- What a declared world is to its readers, and the numbers of its constants.
use Rattle.std.specs.Prelude.{◌≡◌, ℕ, ℤ, pos, Bool, List, map, Option, None, Some, if◌then◌else◌}
use Rattle.bcj_parser_trees.specs.Trees.{PlainUnit}
use Rattle.bcj_parser_trees.specs.declared.unit.Unit.{Unit}
use Rattle.bcj_parser_trees.specs.Plain.{unit_of}
use Rattle.bcj_symbolic_trees.specs.declared.class_tree.ClassHead.{ClassHead}
use Rattle.bcj_decl_rules.specs.declared.value.Value.{Value}
use Rattle.bcj_decl_rules.specs.declared.value.Value.TheVariants as value
use Rattle.bcj_decl_rules.specs.World.{Field, Declared, World, world_of}
use Rattle.bcj_decl_rules.specs.Constants.{IsConstantField}

-- the units of texts that were declared, and the number of the one that is to be typed
pub record DeclaredUnits : Type 0 where
  pub units : List Unit
  pub own : ℕ

abbrev pub units_of : List Unit → List PlainUnit
units_of = map unit_of

-- the same in plain form
abbrev pub units_in : DeclaredUnits → List PlainUnit
units_in d = units_of d.units

-- their world
abbrev pub world_seen : DeclaredUnits → World
world_seen d = world_of (units_in d)

abbrev pub head_of : Declared → ClassHead
head_of t =
    record { name = t.name; interface = t.interface; is_abstract = t.is_abstract; superclass = t.superclass; interfaces = t.interfaces }

-- the number of a constant, a boolean one being 0 or 1
abbrev pub number_of : Value → ℤ
number_of (value.Int x) = x
number_of (value.Bool b) = if b then pos 1 else pos 0

-- whether a number is that of the field as a constant variable, or none where it is no constant
abbrev pub IsConstantOf : List PlainUnit → Field → Option ℤ → Type 0
IsConstantOf units f None = (v : Value) → IsConstantField units f v → ⊥
IsConstantOf units f (Some n) = (v : Value) × IsConstantField units f v × (number_of v ≡ n)

-- the same of the field that was found, if one was
abbrev pub IsConstantFound : List PlainUnit → Option Field → Option ℤ → Type 0
IsConstantFound units None n = n ≡ None
IsConstantFound units (Some f) n = IsConstantOf units f n
