-- The faults of a member, of a type and of a file, by positions.
use Rattle.std.specs.Prelude.{◌≡◌, ◌<◌, ◌⊎◌, ℕ, List, ◌++◌, map, take, length, Some, slice_get}
use Rattle.bcj_parser_trees.specs.Trees.{PlainMember, PlainType, PlainUnit}
use Rattle.bcj_decl_rules.specs.World.{World, boot_types, source_types, declared_type}
use Rattle.bcj_decl_rules.specs.Faults.{HeadFault, MemberFault, member_at}
use Rattle.bcj_decl_faults.specs.Spots.{Spot}

-- one of the first so many has it
pub record Below (Has : ℕ → Spot → Type 0) (n : ℕ) (x : Spot) : Type 0 where
  pub position : ℕ
  pub inside : position < n
  pub fault : Has position x

-- the head of a type behind these
pub record HeadSpot (w : World) (before : List PlainType) (t : PlainType) (x : Spot) : Type 0 where
  pub place : x.at ≡ t.at
  pub fault : HeadFault w before t x.refusal

-- the member at a position
pub record MemberSpot (w : World) (t : PlainType) (k : ℕ) (x : Spot) : Type 0 where
  pub member : PlainMember
  pub stands : slice_get t.members k ≡ Some member
  pub place : x.at ≡ member_at member
  pub fault : MemberFault w t (take k t.members) member x.refusal

-- a type behind these: its head and its members
abbrev pub TypeSpot : World → List PlainType → PlainType → Spot → Type 0
TypeSpot w before t x = HeadSpot w before t x ⊎ Below (MemberSpot w t) (length t.members) x

-- the type at a position of a file whose types stand behind these
pub record InFile (w : World) (before types : List PlainType) (k : ℕ) (x : Spot) : Type 0 where
  pub type : PlainType
  pub stands : slice_get types k ≡ Some type
  pub fault : TypeSpot w (before ++ take k types) type x

abbrev pub FileSpot : World → List PlainType → List PlainType → Spot → Type 0
FileSpot w before types x = Below (InFile w before types) (length types) x

-- the file at a position
pub record InUnits (w : World) (units : List PlainUnit) (k : ℕ) (x : Spot) : Type 0 where
  pub unit : PlainUnit
  pub stands : slice_get units k ≡ Some unit
  pub fault : FileSpot w (source_types (take k units)) unit x

-- the types of a file stand from a place of the world on, behind these source types
pub record FileStands (w : World) (place : ℕ) (before types : List PlainType) : Type 0 where
  pub behind : List PlainType
  pub is_world : w ≡ boot_types ++ map declared_type (before ++ (types ++ behind))
  pub is_place : length (boot_types ++ map declared_type before) ≡ place
