-- What relocations set (RISC-V psABI, "Relocations"), with the addresses of the classes' code and tables as symbols.
use Rattle.std.specs.Prelude.{ℕ, ◌+◌, ◌-◌, ◌*◌, ◌/◌, ◌%◌, ◌^◌, ◌==◌, List, [], ◌∷◌, if◌then◌else◌}
use Rattle.std.specs.List.{find}
use Rattle.std.specs.Option.{option_map_or}
use Rattle.bcj_elf.specs.declared.object.RelocationKind.{RelocationKind}
use Rattle.bcj_elf.specs.declared.object.RelocationKind.TheVariants.{Word, Hi20, Lo12I, Lo12S}
use Rattle.bcj_elf.specs.declared.object.Relocation.{Relocation}
use Rattle.bcj_layout_rules.specs.Rows.{Classes}
use Rattle.bcj_layout_rules.specs.Places.{class_text_at, region_at}
use Rattle.bcj_hier_rules.specs.Shapes.{Named}

-- a word of clear bits with what a relocation of this kind sets, for the value S + A
abbrev pub set_in : RelocationKind → ℕ → ℕ → ℕ
set_in Word w value = value
set_in Hi20 w value = w + 2 ^ 12 * ((value + 2 ^ 11) / 2 ^ 12 % 2 ^ 20)
set_in Lo12I w value = w + 2 ^ 20 * (value % 2 ^ 12)
set_in Lo12S w value = w + (2 ^ 25 * (value % 2 ^ 12 / 2 ^ 5) + 2 ^ 7 * (value % 2 ^ 5))

-- the address of a symbol of an object whose first class has this number: each class has one for its code and then one for its tables, from 1 on
abbrev pub symbol_at : Classes → Named → ℕ → ℕ → ℕ
symbol_at cs main first symbol =
    if symbol % 2 == 1 then class_text_at cs main (first + (symbol - 1) / 2) else region_at cs main (first + (symbol - 1) / 2)

abbrev pub value_of : Classes → Named → ℕ → Relocation → ℕ
value_of cs main first r = (symbol_at cs main first r.symbol + r.addend) % 2 ^ 32

abbrev pub relocated_word : Classes → Named → ℕ → List Relocation → ℕ → ℕ → ℕ
relocated_word cs main first rs at w = option_map_or (λ r. set_in r.kind w (value_of cs main first r)) (find (λ r. r.offset == at) rs) w

-- the words of an object's code from an offset on
abbrev pub relocated_words : Classes → Named → ℕ → List Relocation → ℕ → List ℕ → List ℕ
relocated_words cs main first rs at [] = []
relocated_words cs main first rs at (w ∷ ws) = relocated_word cs main first rs at w ∷ relocated_words cs main first rs (at + 4) ws
