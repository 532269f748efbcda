-- The bytes that flags and kinds are written as. A byte that stands for nothing is read as a value that another byte stands for.
use Rattle.std.specs.Prelude.{ℕ, ◌+◌, ◌*◌, ◌/◌, ◌%◌, Bool, true, false, ◌==◌, if◌then◌else◌}
use Rattle.bcj_symbolic_trees.specs.declared.class_tree.MethodKind.{MethodKind}
use Rattle.bcj_symbolic_trees.specs.declared.class_tree.MethodKind.TheVariants.{Static, Instance, Abstract, Constructor}
use Rattle.bcj_tables_rules.specs.declared.records.AEntryKind.{AEntryKind}
use Rattle.bcj_tables_rules.specs.declared.records.AEntryKind.TheVariants.{Field, StaticMethod, Special}
use Rattle.bcj_tables_rules.specs.declared.codes.ClassFlags.{ClassFlags}
use Rattle.bcj_tables_rules.specs.declared.codes.FieldFlags.{FieldFlags}
use Rattle.bcj_tables_rules.specs.declared.codes.MethodCode.{MethodCode}

abbrev pub bit : Bool → ℕ
bit b = if b then 1 else 0

abbrev pub is_one : ℕ → Bool
is_one n = n == 1

-- 1 interface, 2 abstract
abbrev pub class_flags_number : ClassFlags → ℕ
class_flags_number f = bit f.interface + 2 * bit f.is_abstract

abbrev pub class_flags_of : ℕ → ClassFlags
class_flags_of n = record { interface = n % 2 == 1; is_abstract = n / 2 % 2 == 1 }

-- 1 static, 2 final, 4 private, 8 constant
abbrev pub field_flags_number : FieldFlags → ℕ
field_flags_number f = bit f.is_static + 2 * bit f.is_final + 4 * bit f.is_private + 8 * bit f.is_constant

abbrev pub field_flags_of : ℕ → FieldFlags
field_flags_of n = record { is_static = n % 2 == 1; is_final = n / 2 % 2 == 1; is_private = n / 4 % 2 == 1; is_constant = n / 8 % 2 == 1 }

abbrev pub kind_number : MethodKind → ℕ
kind_number Static = 0
kind_number Instance = 1
kind_number Abstract = 2
kind_number Constructor = 3

abbrev pub kind_of : ℕ → MethodKind
kind_of n = if n == 0 then Static else (if n == 1 then Instance else (if n == 2 then Abstract else Constructor))

-- 4 more for a private one
abbrev pub method_code_number : MethodCode → ℕ
method_code_number c = kind_number c.kind + 4 * bit c.is_private

abbrev pub method_code_of : ℕ → MethodCode
method_code_of n = record { kind = kind_of (n % 4); is_private = n / 4 % 2 == 1 }

abbrev pub address_number : AEntryKind → ℕ
address_number Field = 0
address_number StaticMethod = 1
address_number Special = 2

abbrev pub address_of : ℕ → AEntryKind
address_of n = if n == 0 then Field else (if n == 1 then StaticMethod else Special)

abbrev pub is_abstract : MethodKind → Bool
is_abstract Static = false
is_abstract Instance = false
is_abstract Abstract = true
is_abstract Constructor = false

abbrev pub is_static : MethodKind → Bool
is_static Static = true
is_static Instance = false
is_static Abstract = false
is_static Constructor = false

abbrev pub is_constructor : MethodKind → Bool
is_constructor Static = false
is_constructor Instance = false
is_constructor Abstract = false
is_constructor Constructor = true
