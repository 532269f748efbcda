-- The entries of a class's four tables. Code reaches a class, field or method through an entry of such a table alone, and
-- uses that name the same thing in the same way share one.
use Rattle.std.specs.Prelude.{◌≡◌, ◌↔◌, ℕ, ◌+◌, ◌==◌, Bool, false, ◌&&◌, List, [], ◌∷◌, ◌++◌, length, if◌then◌else◌, IsTrue}
use Rattle.std.specs.List.{list_any, IsDistinct}
use Rattle.bcj_symbolic_measure.specs.declared.entry.Role.{Role}
use Rattle.bcj_symbolic_measure.specs.declared.entry.Role.TheVariants as role
use Rattle.bcj_symbolic_trees.specs.Types.{PlainTy, class_type, PlainFieldRef, PlainMethodRef}
use Rattle.bcj_symbolic_trees.specs.Same.{same_type, same_field_ref, same_method_ref}
use Rattle.bcj_symbolic_trees.specs.Descriptors.{descriptor, method_descriptor}

-- what an entry names
pub data PlainTarget : Type 0 where
  type_target : PlainTy → PlainTarget
  field_target : PlainFieldRef → PlainTarget
  method_target : PlainMethodRef → PlainTarget

-- the table of an entry, with what it says of its target there, and the target
pub record PlainEntry : Type 0 where
  pub role : Role
  pub target : PlainTarget

-- of the class table: a type, and a class of which an object is made
abbrev pub type_entry : PlainTy → PlainEntry
type_entry t = record { role = role.Row; target = type_target t }

abbrev pub class_entry : List ℕ → PlainEntry
class_entry name = type_entry (class_type name)

abbrev pub new_entry : List ℕ → PlainEntry
new_entry name = record { role = role.New; target = type_target (class_type name) }

-- of the offset table
abbrev pub field_offset : PlainFieldRef → PlainEntry
field_offset f = record { role = role.FieldOffset; target = field_target f }

abbrev pub method_offset : PlainMethodRef → PlainEntry
method_offset m = record { role = role.MethodOffset; target = method_target m }

-- of the address table
abbrev pub field_address : PlainFieldRef → PlainEntry
field_address f = record { role = role.FieldAddress; target = field_target f }

abbrev pub static_method : PlainMethodRef → PlainEntry
static_method m = record { role = role.StaticMethod; target = method_target m }

abbrev pub special_method : PlainMethodRef → PlainEntry
special_method m = record { role = role.SpecialMethod; target = method_target m }

-- of the interface table
abbrev pub interface_method : PlainMethodRef → PlainEntry
interface_method m = record { role = role.InterfaceMethod; target = method_target m }

-- ---- which uses share an entry

-- numbers that tell roles apart
abbrev pub role_number : Role → ℕ
role_number role.Row = 0
role_number role.New = 1
role_number role.FieldOffset = 2
role_number role.MethodOffset = 3
role_number role.FieldAddress = 4
role_number role.StaticMethod = 5
role_number role.SpecialMethod = 6
role_number role.InterfaceMethod = 7

abbrev pub same_target : PlainTarget → PlainTarget → Bool
same_target (type_target s) (type_target t) = same_type s t
same_target (field_target f) (field_target g) = same_field_ref f g
same_target (method_target m) (method_target n) = same_method_ref m n
same_target _ _ = false

abbrev pub same_entry : PlainEntry → PlainEntry → Bool
same_entry a b = role_number a.role == role_number b.role && same_target a.target b.target

-- an entry behind the others, unless it is there
abbrev pub with_entry : List PlainEntry → PlainEntry → List PlainEntry
with_entry entries e = if list_any (same_entry e) entries then entries else entries ++ e ∷ []

abbrev pub with_entries : List PlainEntry → List PlainEntry → List PlainEntry
with_entries entries [] = entries
with_entries entries (e ∷ uses) = with_entries (with_entry entries e) uses

-- the entries that a list of uses makes, in order of first use
unfoldable pub entries_of : List PlainEntry → List PlainEntry
entries_of uses = with_entries [] uses

abbrev pub IsAmongEntries : PlainEntry → List PlainEntry → Type 0
IsAmongEntries e entries = IsTrue (list_any (same_entry e) entries)

-- `≡` is what `same_entry` tests; no entry stands twice, and each use has one and each entry a use
abbrev pub EntriesLaw : Type 0
EntriesLaw =
    ((a b : PlainEntry) → IsTrue (same_entry a b) ↔ (a ≡ b))
    × ((uses : List PlainEntry) → IsDistinct same_entry (entries_of uses))
    × ((uses : List PlainEntry) (e : PlainEntry) → IsAmongEntries e (entries_of uses) ↔ IsAmongEntries e uses)

-- ---- the record of an entry

-- the bytes of a `u8` and of a `u32`
abbrev pub u8_size : ℕ
u8_size = 1

abbrev pub u32_size : ℕ
u32_size = 4

-- a string with its length before it
abbrev pub string_size : List ℕ → ℕ
string_size bytes = u32_size + length bytes

-- one byte says what a table's entry is, but for the interface table, whose entries are of one kind
abbrev pub role_size : Role → ℕ
role_size role.InterfaceMethod = 0
role_size _ = u8_size

abbrev pub target_size : PlainTarget → ℕ
target_size (type_target t) = string_size (descriptor t)
target_size (field_target f) = string_size f.class + (string_size f.name + string_size (descriptor f.ty))
target_size (method_target m) = string_size m.class + (string_size m.name + string_size (method_descriptor m.params m.result))

abbrev pub entry_size : PlainEntry → ℕ
entry_size e = role_size e.role + target_size e.target

abbrev pub entries_size : List PlainEntry → ℕ
entries_size [] = 0
entries_size (e ∷ rest) = entry_size e + entries_size rest
