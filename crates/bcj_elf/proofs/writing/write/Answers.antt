use Rattle.std.proofs.Common.{◌++◌, ap, ◌∙◌, List, ℕ, arith}
use Rattle.bcj_elf.proofs.Facts.{symbols_fit}
use Rattle.bcj_elf.proofs.Written.{spelled}
use Rattle.bcj_elf.specs.declared.object.Symbol.{Symbol}
use Rattle.bcj_elf.specs.declared.object.Relocation.{Relocation}
use Rattle.bcj_elf.specs.declared.sizes.SectionHeader.{SectionHeader}
use Rattle.bcj_elf.specs.Plain.{plain, plain_symbols}
use Rattle.bcj_elf.specs.declared.object.Section.TheVariants.{Text, Tab}
use Rattle.bcj_elf.specs.declared.sizes.Sizes.{Sizes}
use Rattle.std.specs.List.{flat_map}
use Rattle.bcj_elf.specs.Layout.{headers, padding, strings}
use Rattle.bcj_elf.specs.Spelling.{file_header, header_bytes, rela, zeros, entries}
use Rattle.bcj_elf.proofs.writing.write.Goals as goal

pub put_relas-requires : goal.put_relas-requires
put_relas-requires c = rw c.deref-3.ensures.value (symbols_fit Text c.args.o.now.text.items _ c.args.o.now.text_relocs.items (omega (arith, c.requires.small)) c.requires.text_relocs)

pub put_relas-requires-2 : goal.put_relas-requires-2
put_relas-requires-2 c = rw c.deref-5.ensures.value (symbols_fit Tab c.args.o.now.tab.items _ c.args.o.now.tab_relocs.items (omega (arith, c.requires.small)) c.requires.tab_relocs)

pub returns : goal.returns
returns c =
    let s = c.sizes_of-s.ensures in
    let names = c.in_ok-strtab.ensures in
    spelled (plain c.args.o.now) c.put_file_header.new.out.items c.extend_from_slice.new.self.items c.put_relas.new.out.items c.extend_from_slice-2.new.self.items c.put_relas-2.new.out.items
    c.extend_from_slice-3.new.self.items c.put_zeros.new.out.items c.put_zeros-2.new.out.items c.put_entries.new.out.items c.extend_from_slice-4.new.self.items c.put_zeros-3.new.out.items c.extend_from_slice-5.new.self.items c.put_headers.new.out.items
    (c.in_ok-put_file_header.ensures ∙ ap (λ (z : List ℕ). z ++ file_header c.sizes_of-s.result) c.new-out.ensures.items ∙ ap file_header s)
    (c.in_ok-extend_from_slice.ensures.items ∙ ap (λ (z : List ℕ). c.put_file_header.new.out.items ++ z) c.deref-2.ensures.value)
    (c.in_ok-put_relas.ensures ∙ ap (λ (z : List Relocation). c.extend_from_slice.new.self.items ++ flat_map rela z) c.deref-3.ensures.value)
    (c.in_ok-extend_from_slice-2.ensures.items ∙ ap (λ (z : List ℕ). c.put_relas.new.out.items ++ z) c.deref-4.ensures.value)
    (c.in_ok-put_relas-2.ensures ∙ ap (λ (z : List Relocation). c.extend_from_slice-2.new.self.items ++ flat_map rela z) c.deref-5.ensures.value)
    (c.in_ok-extend_from_slice-3.ensures.items ∙ ap (λ (z : List ℕ). c.put_relas-2.new.out.items ++ z) c.deref-6.ensures.value)
    (c.in_ok-put_zeros.ensures ∙ ap (λ (z : ℕ). c.extend_from_slice-3.new.self.items ++ zeros z) (c.padding_of.ensures ∙ ap (λ (z : Sizes). padding z.rec) s))
    c.in_ok-put_zeros-2.ensures
    (c.in_ok-put_entries.ensures ∙ ap (λ (z : List Symbol). c.put_zeros-2.new.out.items ++ entries 1 (plain_symbols z)) c.deref-7.ensures.value)
    (c.in_ok-extend_from_slice-4.ensures.items ∙ ap (λ (z : List ℕ). c.put_entries.new.out.items ++ z) (c.deref-8.ensures.value ∙ names ∙ ap (λ (z : List Symbol). strings (plain_symbols z)) c.deref.ensures.value))
    (c.in_ok-put_zeros-3.ensures ∙ ap (λ (z : ℕ). c.extend_from_slice-4.new.self.items ++ zeros z) (c.padding_of-2.ensures ∙ ap (λ (z : Sizes). padding z.strtab) s))
    c.in_ok-extend_from_slice-5.ensures.items
    (c.in_ok-put_headers.ensures ∙ ap (λ (z : List SectionHeader). c.extend_from_slice-5.new.self.items ++ flat_map header_bytes z) (c.headers.ensures ∙ ap headers s))
