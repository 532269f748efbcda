-- An object without where its parts lie in memory: numbers and lists alone.
use Rattle.std.specs.Prelude.{ℕ, List, map, ◌==◌, if◌then◌else◌}
use Rattle.bcj_elf.specs.declared.object.Section.{Section}
use Rattle.bcj_elf.specs.declared.object.RelocationKind.{RelocationKind}
use Rattle.bcj_elf.specs.declared.object.RelocationKind.TheVariants.{Word, Hi20, Lo12I, Lo12S}
use Rattle.bcj_elf.specs.declared.object.Relocation.{Relocation}
use Rattle.bcj_elf.specs.declared.object.Symbol.{Symbol}
use Rattle.bcj_elf.specs.declared.object.Object.{Object}
use Rattle.bcj_elf.specs.Elf.{R_RISCV_32, R_RISCV_HI20, R_RISCV_LO12_I, R_RISCV_LO12_S}

pub record PlainSymbol : Type 0 where
  pub name : List ℕ
  pub value : ℕ
  pub size : ℕ
  pub section : Section

abbrev pub plain_symbol : Symbol → PlainSymbol
plain_symbol s = record { name = s.name.items; value = s.value; size = s.size; section = s.section }

abbrev pub plain_symbols : List Symbol → List PlainSymbol
plain_symbols ss = map plain_symbol ss

-- A relocation is plain as it is.
pub record PlainObject : Type 0 where
  pub text : List ℕ
  pub text_relocs : List Relocation
  pub tab : List ℕ
  pub tab_relocs : List Relocation
  pub rec : List ℕ
  pub symbols : List PlainSymbol

abbrev pub plain : Object → PlainObject
plain o = record {
  text = o.text.items;
  text_relocs = o.text_relocs.items;
  tab = o.tab.items;
  tab_relocs = o.tab_relocs.items;
  rec = o.rec.items;
  symbols = plain_symbols o.symbols.items;
}

-- the number of a relocation's type (RISC-V psABI, "Relocations")
abbrev pub type_number : RelocationKind → ℕ
type_number Word = R_RISCV_32
type_number Hi20 = R_RISCV_HI20
type_number Lo12I = R_RISCV_LO12_I
type_number Lo12S = R_RISCV_LO12_S

-- the relocation type with this number, where there is one
abbrev pub kind_at : ℕ → RelocationKind
kind_at n = if n == R_RISCV_32 then Word else (if n == R_RISCV_HI20 then Hi20 else (if n == R_RISCV_LO12_I then Lo12I else Lo12S))
