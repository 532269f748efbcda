-- The conditions of an object as one test.
use Rattle.std.specs.Prelude.{◌%◌, ◌^◌, length, Bool, ◌&&◌, ◌==◌, nat_lt}
use Rattle.bcj_elf.specs.declared.object.Section.TheVariants.{Text, Tab}
use Rattle.bcj_elf.specs.Elf.{word_size}
use Rattle.bcj_elf.specs.Plain.{PlainObject}
use Rattle.bcj_elf.specs.Layout.{sizes, file_end}
use Rattle.bcj_elf.specs.Rules.{are_relocations, are_symbols}

unfoldable pub meets_rules : PlainObject → Bool
meets_rules o =
    length o.text % word_size == 0 && length o.tab % word_size == 0 && nat_lt (file_end (sizes o)) (2 ^ 32) && are_symbols (length o.text) (length o.tab) 0 0 o.symbols
    && are_relocations Text o.text (length o.symbols) 0 o.text_relocs && are_relocations Tab o.tab (length o.symbols) 0 o.tab_relocs
