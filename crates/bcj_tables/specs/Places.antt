-- What an object says of a class outside its records.
use Rattle.std.specs.Prelude.{ℕ, ◌+◌, ◌*◌, ◌/◌, List, [], ◌∷◌, length, take, drop, Bool, true, false, ◌&&◌, ◌==◌, nat_le, get_or}
use Rattle.std.specs.List.{list_all}
use Rattle.bcj_elf.specs.declared.object.Section.TheVariants.{Text}
use Rattle.bcj_elf.specs.declared.object.RelocationKind.{RelocationKind}
use Rattle.bcj_elf.specs.declared.object.RelocationKind.TheVariants.{Word, Hi20, Lo12I, Lo12S}
use Rattle.bcj_elf.specs.declared.object.Relocation.{Relocation}
use Rattle.bcj_elf.specs.Plain.{PlainObject, PlainSymbol}
use Rattle.bcj_elf.specs.Rules.{before_end, code_ending}
use Rattle.bcj_tables_rules.specs.declared.parts.ClassPlace.{ClassPlace}
use Rattle.bcj_tables_rules.specs.Records.{Outside}

abbrev pub no_symbol : PlainSymbol
no_symbol = record { name = []; value = 0; size = 0; section = Text }

-- the symbol with this number, counted from 0
abbrev pub symbol_at : PlainObject → ℕ → PlainSymbol
symbol_at o number = get_or o.symbols number no_symbol

-- the name of the class whose code has this symbol
abbrev pub class_name : PlainObject → ℕ → List ℕ
class_name o number = before_end (length code_ending) (symbol_at o number).name

abbrev pub is_zero : List ℕ → ℕ → ℕ → Bool
is_zero bytes from size = list_all (λ b. b == 0) (take size (drop from bytes))

abbrev pub is_word : RelocationKind → Bool
is_word Word = true
is_word Hi20 = false
is_word Lo12I = false
is_word Lo12S = false

-- the relocation puts the address of the symbol into the word at the offset
abbrev pub is_address : ℕ → ℕ → Relocation → Bool
is_address offset symbol r = is_word r.kind && r.offset == offset && r.symbol == symbol && r.addend == 0

-- The first of the relocations that are left is that of the tables, and the next one lies behind them. Relocations stand in rising
-- order, so the tables have no other.
unfoldable pub has_address : ℕ → ℕ → ℕ → List Relocation → Bool
has_address offset size symbol [] = false
has_address offset size symbol (r ∷ []) = is_address offset symbol r
has_address offset size symbol (r ∷ next ∷ rs) = is_address offset symbol r && nat_le (offset + size) next.offset

-- A class has the symbol of its code and then that of its tables, and one relocation in the tables. In a file the first symbol has
-- the number 1.
abbrev pub place_of : PlainObject → ℕ → ClassPlace
place_of o class = record {
  code = (symbol_at o (2 * class)).value;
  code_size = (symbol_at o (2 * class)).size;
  table = (symbol_at o (2 * class + 1)).value;
  table_size = (symbol_at o (2 * class + 1)).size;
  is_clean =
      is_zero o.tab (symbol_at o (2 * class + 1)).value (symbol_at o (2 * class + 1)).size
      && has_address (symbol_at o (2 * class + 1)).value (symbol_at o (2 * class + 1)).size (2 * class + 1) (drop class o.tab_relocs);
}

-- each class has two symbols
abbrev pub outside_of : PlainObject → Outside
outside_of o = record { count = length o.symbols / 2; place = place_of o; name = λ class. class_name o (2 * class) }
