-- What is around a body: the declared units, and the class that holds it.
use Rattle.std.specs.Prelude.{◌≡◌, ℕ, List, Some, slice_get}
use Rattle.std.specs.List.{Contains}
use Rattle.bcj_parser_trees.specs.Trees.{PlainType, PlainUnit}
use Rattle.bcj_parser_trees.specs.declared.unit.TypeDecl.{TypeDecl}
use Rattle.bcj_parser_trees.specs.declared.unit.Unit.{Unit}
use Rattle.bcj_parser_trees.specs.Plain.{type_of}
use Rattle.bcj_decl_rules.specs.Faults.{IsDeclared}
use Rattle.bcj_decl_rules.specs.World.{World, world_of}
use Rattle.bcj_decl_table.specs.declared.info.FieldInfo.{FieldInfo}
use Rattle.bcj_decl_table.specs.Views.{field_of_info}
use Rattle.bcj_decl.specs.Worlds.{DeclaredUnits, units_of, units_in}
use Rattle.bcj_typing_rules.specs.function.Expressions.{Answers}
use Rattle.bcj_typing_answers.specs.Answers.{answers_of}
use Rattle.bcj_typing_node.specs.Forms.{worth_of}

-- the units, the number of the one that is typed, and a class or interface of it
pub record Surroundings : Type 0 where
  pub units : List Unit
  pub own : ℕ
  pub decl : TypeDecl

abbrev pub units_at : Surroundings → List PlainUnit
units_at s = units_of s.units

abbrev pub world_around : Surroundings → World
world_around s = world_of (units_at s)

-- what they answer
abbrev pub answers_at : Surroundings → Answers
answers_at s = answers_of (units_at s)

-- a type of the unit with this number
pub record IsOfUnit (units : List PlainUnit) (own : ℕ) (type : PlainType) : Type 0 where
  pub unit : PlainUnit
  pub is_it : slice_get units own ≡ Some unit
  pub has : Contains unit type

-- nothing of the units is refused, and the type is one of the own unit's
pub record IsAround (d : DeclaredUnits) (decl : TypeDecl) : Type 0 where
  pub declared : IsDeclared (units_in d)
  pub own : IsOfUnit (units_in d) d.own (type_of decl)

-- the value that a field has as a constant variable is the one that is answered
abbrev pub IsWorth : Answers → FieldInfo → Type 0
IsWorth a f = worth_of f ≡ a.constant (field_of_info f)
