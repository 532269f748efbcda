-- Headers whose fields are good are those that are spelled.
use Rattle.std.proofs.Common.{◌≡◌, ℕ, ◌+◌, ◌*◌, Bool, true, List, [], ◌∷◌, ◌++◌, length, map, None, refl, sym, ap, ◌∙◌, add_assoc, arith}
use Rattle.std.specs.List.{flat_map}
use Rattle.std.proofs.lemmas.Bool.{eqb-true}
use Rattle.bcj_elf.specs.declared.sizes.Sizes.{Sizes}
use Rattle.bcj_elf.specs.declared.sizes.SectionHeader.{SectionHeader}
use Rattle.bcj_elf.specs.Elf.{word_size, half_size, file_header_size, section_header_size, ELFMAG, ident_padding, ET_REL, EM_RISCV, EV_CURRENT, unused}
use Rattle.bcj_elf.specs.Layout.{shstrtab_index, section_count, headers_at, fields}
use Rattle.bcj_elf.specs.Spelling.{word, half, words, zeros, file_header, header_bytes}
use Rattle.bcj_elf.specs.Fields.{is_good, first_bad, byte_field, half_field, word_field}
use Rattle.bcj_elf.specs.Places.{e_shoff, shoff_of, file_header_fields, header_at, section_fields, sections_from, part}
use Rattle.bcj_elf.proofs.FirstBad.{are_good, none_of}
use Rattle.bcj_elf.proofs.Good.{byte_good, half_good, word_good, text_good, tested_good}
use Rattle.bcj_elf.proofs.Facts.{both}
use Rattle.bcj_elf.proofs.Pieces.{AreBytes, word_part, half_part, byte_part, joined, Stand, they_stand, part_joined}

pub word_piece : (bytes : List ℕ) (at : ℕ) (name : List ℕ) (n : ℕ) → AreBytes bytes → is_good bytes (word_field bytes at name n) ≡ true → part bytes at word_size ≡ word n
word_piece bytes at name n small h = let f = word_good bytes at name n h in word_part bytes at small f.room ∙ ap word f.is

pub half_piece : (bytes : List ℕ) (at : ℕ) (name : List ℕ) (n : ℕ) → AreBytes bytes → is_good bytes (half_field bytes at name n) ≡ true → part bytes at half_size ≡ half n
half_piece bytes at name n small h = let f = half_good bytes at name n h in half_part bytes at small f.room ∙ ap half f.is

pub byte_piece : (bytes : List ℕ) (at : ℕ) (name : List ℕ) (n : ℕ) → is_good bytes (byte_field bytes at name n) ≡ true → part bytes at 1 ≡ n ∷ []
byte_piece bytes at name n h = let f = byte_good bytes at name n h in byte_part bytes at f.room ∙ ap (λ (z : ℕ). z ∷ []) f.is

-- the pieces of the file's header
abbrev header_pieces : ℕ → List (ℕ × List ℕ)
header_pieces shoff =
    (4, ELFMAG) ∷ (1, 1 ∷ []) ∷ (1, 1 ∷ []) ∷ (1, 1 ∷ []) ∷ (1, 0 ∷ []) ∷ (8, zeros ident_padding) ∷ (2, half ET_REL) ∷ (2, half EM_RISCV) ∷ (4, word EV_CURRENT) ∷ (4, word unused) ∷ (4, word unused)
    ∷ (4, word shoff) ∷ (4, word unused) ∷ (2, half file_header_size) ∷ (2, half unused) ∷ (2, half unused) ∷ (2, half section_header_size) ∷ (2, half section_count) ∷ (2, half shstrtab_index) ∷ []

header_stands : (bytes : List ℕ) → AreBytes bytes → None ≡ first_bad bytes (file_header_fields bytes) → Stand bytes 0 (header_pieces (shoff_of bytes))
unfolding file_header_fields
header_stands bytes small e =
    let g = are_good bytes _ e in
    let g6 = g.1.1.1.1.1.1 in
    let g12 = g6.1.1.1.1.1.1 in
    let shoff = tested_good bytes _ _ _ g6.1.1.1.1.1.0 in (
      (text_good bytes _ _ _ g.0).is,
      (
        byte_piece bytes _ _ _ g.1.0,
        (
          byte_piece bytes _ _ _ g.1.1.0,
          (
            byte_piece bytes _ _ _ g.1.1.1.0,
            (
              byte_piece bytes _ _ _ g.1.1.1.1.0,
              (
                (text_good bytes _ _ _ g.1.1.1.1.1.0).is,
                (
                  half_piece bytes _ _ _ small g6.0,
                  (
                    half_piece bytes _ _ _ small g6.1.0,
                    (
                      word_piece bytes _ _ _ small g6.1.1.0,
                      (
                        word_piece bytes _ _ _ small g6.1.1.1.0,
                        (
                          word_piece bytes _ _ _ small g6.1.1.1.1.0,
                          (
                            word_part bytes e_shoff small shoff.room,
                            (
                              word_piece bytes _ _ _ small g12.0,
                              (
                                half_piece bytes _ _ _ small g12.1.0,
                                (
                                  half_piece bytes _ _ _ small g12.1.1.0,
                                  (
                                    half_piece bytes _ _ _ small g12.1.1.1.0,
                                    (half_piece bytes _ _ _ small g12.1.1.1.1.0, (half_piece bytes _ _ _ small g12.1.1.1.1.1.0, (half_piece bytes _ _ _ small g12.1.1.1.1.1.1.0, tt))),
                                  ),
                                ),
                              ),
                            ),
                          ),
                        ),
                      ),
                    ),
                  ),
                ),
              ),
            ),
          ),
        ),
      ),
    )

-- the header that these pieces make
header_joined : (s : Sizes) → joined (header_pieces (headers_at s)) ≡ file_header s
unfolding file_header word half
header_joined s = refl

pub header_is : (bytes : List ℕ) (s : Sizes) → AreBytes bytes → None ≡ first_bad bytes (file_header_fields bytes) → headers_at s ≡ shoff_of bytes → part bytes 0 file_header_size ≡ file_header s
header_is bytes s small e end =
    they_stand bytes 0 (header_pieces (shoff_of bytes)) (header_stands bytes small e) ∙ ap (λ (n : ℕ). joined (header_pieces n)) (sym end) ∙ header_joined s

-- ---- section headers

section_size_right : (bytes : List ℕ) (shoff index : ℕ) (h : SectionHeader) (is_size : Bool) → None ≡ first_bad bytes (section_fields bytes shoff index h is_size) → is_size ≡ true
unfolding section_fields
section_size_right bytes shoff index h is_size e =
    let g = are_good bytes _ e in
    let size = tested_good bytes _ _ _ g.1.1.1.1.1.0 in
    (both _ _ (both _ _ size.is).0).1

-- ten words from an offset on
ten_stand : (bytes : List ℕ) (at : ℕ) (h : SectionHeader) → part bytes at 4 ≡ word h.name → part bytes (at + 4) 4 ≡ word h.kind → part bytes (at + 8) 4 ≡ word h.flags → part bytes (at + 12) 4 ≡ word unused
    → part bytes (at + 16) 4 ≡ word h.offset → part bytes (at + 20) 4 ≡ word h.size → part bytes (at + 24) 4 ≡ word h.link → part bytes (at + 28) 4 ≡ word h.info → part bytes (at + 32) 4 ≡ word h.align
    → part bytes (at + 36) 4 ≡ word h.entsize → Stand bytes at (map (λ (n : ℕ). (4, word n)) (fields h))
ten_stand bytes at h a b c d e f g i j k = simp add_assoc (a, (b, (c, (d, (e, (f, (g, (i, (j, (k, tt))))))))))

section_stands : (bytes : List ℕ) (shoff index : ℕ) (h : SectionHeader) (is_size : Bool) → AreBytes bytes → None ≡ first_bad bytes (section_fields bytes shoff index h is_size)
    → Stand bytes (header_at shoff index) (map (λ (n : ℕ). (4, word n)) (fields h))
unfolding section_fields
section_stands bytes shoff index h is_size small e =
    let g = are_good bytes _ e in
    let g6 = g.1.1.1.1.1.1 in
    let at = header_at shoff index in
    let size = tested_good bytes (at + 20) _ _ g.1.1.1.1.1.0 in
    let size_is = eqb-true _ _ (both _ _ (both _ _ size.is).0).0 in
    ten_stand bytes at h (word_piece bytes at _ _ small g.0) (word_piece bytes (at + 4) _ _ small g.1.0) (word_piece bytes (at + 8) _ _ small g.1.1.0) (word_piece bytes (at + 12) _ _ small g.1.1.1.0)
    (word_piece bytes (at + 16) _ _ small g.1.1.1.1.0) (word_part bytes (at + 20) small size.room ∙ ap word size_is) (word_piece bytes (at + 24) _ _ small g6.0) (word_piece bytes (at + 28) _ _ small g6.1.0)
    (word_piece bytes (at + 32) _ _ small g6.1.1.0) (word_piece bytes (at + 36) _ _ small g6.1.1.1.0)

words_joined : (ns : List ℕ) → joined (map (λ (n : ℕ). (4, word n)) ns) ≡ words ns
words_joined [] = refl
words_joined (n ∷ ns) = ap (λ (z : List ℕ). word n ++ z) (words_joined ns)

pub section_is : (bytes : List ℕ) (shoff index : ℕ) (h : SectionHeader) (is_size : Bool) → AreBytes bytes → None ≡ first_bad bytes (section_fields bytes shoff index h is_size)
    → part bytes (header_at shoff index) section_header_size ≡ header_bytes h
unfolding header_bytes
section_is bytes shoff index h is_size small e =
    they_stand bytes (header_at shoff index) (map (λ (n : ℕ). (4, word n)) (fields h)) (section_stands bytes shoff index h is_size small e) ∙ words_joined (fields h)

pub sections_are : (bytes : List ℕ) (shoff index : ℕ) (hs : List (SectionHeader × Bool)) → AreBytes bytes → None ≡ first_bad bytes (sections_from bytes shoff index hs)
    → part bytes (header_at shoff index) (section_header_size * length hs) ≡ flat_map header_bytes (map (λ p. p.0) hs)
sections_are bytes shoff index [] small e = refl
sections_are bytes shoff index (h ∷ hs) small e =
    let both_none = none_of bytes (section_fields bytes shoff index h.0 h.1) (sections_from bytes shoff (index + 1) hs) e in
    let here = section_is bytes shoff index h.0 h.1 small both_none.0 in
    let next : header_at shoff (index + 1) ≡ header_at shoff index + section_header_size = omega arith in
    let size : section_header_size * length (h ∷ hs) ≡ section_header_size + section_header_size * length hs = omega arith in
    ap (part bytes (header_at shoff index)) size ∙ part_joined bytes (header_at shoff index) section_header_size (section_header_size * length hs)
    ∙ ap (λ (z : List ℕ). z ++ part bytes (header_at shoff index + section_header_size) (section_header_size * length hs)) here
    ∙ ap (λ (z : List ℕ). header_bytes h.0 ++ z) (ap (λ (n : ℕ). part bytes n (section_header_size * length hs)) (sym next) ∙ sections_are bytes shoff (index + 1) hs small both_none.1)

-- each section may have its size
abbrev pub AreRight : List (SectionHeader × Bool) → Type 0
AreRight [] = Unit {0}
AreRight (h ∷ hs) = (h.1 ≡ true) × AreRight hs

pub sizes_right : (bytes : List ℕ) (shoff index : ℕ) (hs : List (SectionHeader × Bool)) → None ≡ first_bad bytes (sections_from bytes shoff index hs) → AreRight hs
sizes_right bytes shoff index [] e = tt
sizes_right bytes shoff index (h ∷ hs) e =
    let both_none = none_of bytes (section_fields bytes shoff index h.0 h.1) (sections_from bytes shoff (index + 1) hs) e in
    (section_size_right bytes shoff index h.0 h.1 both_none.0, sizes_right bytes shoff (index + 1) hs both_none.1)
