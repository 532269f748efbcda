-- What a unit must not pass: the words of a frame and of a method's code, and the bytes of its object. Bodies are taken in the order
-- of the records, class by class: the class initialiser, the constructors and then the methods, each with its frame before its code.
-- The object comes last.
use Rattle.std.specs.Prelude.{◌≡◌, ℕ, nat_lt, List, [], ◌∷◌, ◌++◌, map, Option, None, Some, if◌then◌else◌, slice_get}
use Rattle.std.specs.Option.{option_or}
use Rattle.bcj_parser_trees.specs.Trees as source
use Rattle.bcj_symbolic_trees.specs.Units.{PlainMethod, PlainClass, PlainUnit}
use Rattle.bcj_symbolic_measure.specs.Bodies.{init_frame_size, init_pieces, method_frame_size, method_pieces, words}
use Rattle.bcj_symbolic_measure.specs.Objects.{object_size}
use Rattle.bcj_decl_rules.specs.Faults.{member_at}
use Rattle.bcj_typing_rules.specs.Members.{constructor_members, method_members}
use Rattle.bcj_typing_rules.specs.Units.{Elaborates}
use Rattle.bcj_typing.specs.declared.stop.Limited.{Limited}
use Rattle.bcj_typing.specs.declared.stop.Limited.TheVariants as limited

abbrev pub frame_limit : ℕ
frame_limit = 508

abbrev pub method_limit : ℕ
method_limit = 200000

abbrev pub object_limit : ℕ
object_limit = 4194304

-- ---- places

-- a constructor that isn't written has its type's place
abbrev pub or_type : ℕ → List ℕ → List ℕ
or_type at [] = at ∷ []
or_type at (p ∷ ps) = p ∷ ps

abbrev pub constructor_places : source.PlainType → List ℕ
constructor_places t = if t.interface then [] else or_type t.at (map member_at (constructor_members t))

-- the class initialiser has its type's place
abbrev pub body_places : source.PlainType → List ℕ
body_places t = t.at ∷ (constructor_places t ++ map member_at (method_members t))

-- the object has that of the first type
abbrev pub object_place : List source.PlainType → ℕ
object_place [] = 0
object_place (t ∷ ts) = t.at

-- ---- numbers

-- the words of a body's frame and of its code
pub record Size : Type 0 where
  pub frame : ℕ
  pub words : ℕ

abbrev pub init_size : PlainClass → Size
init_size c = record { frame = init_frame_size c; words = words (init_pieces c) }

abbrev pub method_size : PlainClass → PlainMethod → Size
method_size c m = record { frame = method_frame_size m; words = words (method_pieces c m) }

abbrev pub body_sizes : PlainClass → List Size
body_sizes c = init_size c ∷ map (method_size c) c.methods

-- ---- the first number past its limit, with its place

pub record Past : Type 0 where
  pub what : Limited
  pub at : ℕ

abbrev pub body_past : ℕ → Size → Option Past
body_past at s =
    if nat_lt frame_limit s.frame
    then Some (record { what = limited.Frame; at = at })
    else (if nat_lt method_limit s.words then Some (record { what = limited.Method; at = at }) else None)

abbrev pub bodies_past : List ℕ → List Size → Option Past
bodies_past (at ∷ places) (s ∷ sizes) = option_or (body_past at s) (bodies_past places sizes)
bodies_past _ _ = None

abbrev pub class_past : source.PlainType → PlainClass → Option Past
class_past t c = bodies_past (body_places t) (body_sizes c)

abbrev pub classes_past : List source.PlainType → List PlainClass → Option Past
classes_past (t ∷ ts) (c ∷ cs) = option_or (class_past t c) (classes_past ts cs)
classes_past _ _ = None

abbrev pub object_past : List source.PlainType → PlainUnit → Option Past
object_past ts u = if nat_lt object_limit (object_size u) then Some (record { what = limited.Object; at = object_place ts }) else None

abbrev pub first_past : List source.PlainType → PlainUnit → Option Past
first_past ts u = option_or (classes_past ts u.classes) (object_past ts u)

-- ---- units

-- the unit with the number `own` becomes `u`, and no number of it passes its limit
pub record IsWithin (units : List source.PlainUnit) (own : ℕ) (u : PlainUnit) : Type 0 where
  pub unit : source.PlainUnit
  pub is_own : slice_get units own ≡ Some unit
  pub elaborates : Elaborates units own u
  pub within : first_past unit u ≡ None

-- `TooLarge`: the unit becomes a symbolic unit, of which this number is the first to pass its limit
pub record IsTooLarge (units : List source.PlainUnit) (own : ℕ) (what : Limited) (at : ℕ) : Type 0 where
  pub unit : source.PlainUnit
  pub symbolic : PlainUnit
  pub is_own : slice_get units own ≡ Some unit
  pub elaborates : Elaborates units own symbolic
  pub past : first_past unit symbolic ≡ Some (record { what = what; at = at })
