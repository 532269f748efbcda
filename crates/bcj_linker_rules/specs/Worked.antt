-- Examples, by hand: the length of the start code, halves of an address, and searches for a handler.
use Rattle.std.specs.Prelude.{◌≡◌, refl, ℕ, List, [], ◌∷◌, ◌++◌, length, replicate, Option, Some, codes}
use Rattle.bcj_elf.specs.declared.object.RelocationKind.TheVariants.{Hi20, Lo12I, Lo12S}
use Rattle.bcj_hier_rules.specs.Rows.{some}
use Rattle.bcj_layout_rules.specs.Places.{short_start}
use Rattle.bcj_layout_rules.specs.Worked.{two}
use Rattle.bcj_linker_rules.specs.Start.{start_code}
use Rattle.bcj_linker_rules.specs.Relocations.{set_in}
use Rattle.bcj_linker_rules.specs.Frames.{AddressRange, Spans, handler, top, damaged, unwound}

pub start_row : length (start_code two (codes "M")) ≡ short_start
unfolding start_code
start_row = refl

-- `lui a0` (0x00000537) of 0x12345800, whose lower half is negative: 0x12346537
pub upper_row : set_in Hi20 1335 305420288 ≡ 305423671
upper_row = refl

-- `addi a0, a0` (0x00050513) of the same: 0x80050513
pub lower_row : set_in Lo12I 328979 305420288 ≡ 2147812627
lower_row = refl

-- `sw a0, 0(t1)` (0x00a32023) of 0x00000fe4: 0xfea32223
pub store_row : set_in Lo12S 10690595 4068 ≡ 4272103971
store_row = refl

-- ---- frames: start code at 0 to 16, a method at 16 to 32 with a frame of 2 words, and one at 32 to 48 with a frame of 1

abbrev pub range : ℕ → ℕ → ℕ → Option (List ℕ) → AddressRange
range start past target class = record { start = start; «end» = past; target = target; class = class }

abbrev pub spans : Spans
spans = record {
  start = 0;
  «end» = 16;
  methods =
      record { first = 16; past = 32; frame = 2; ranges = range 16 24 28 (Some (codes "B")) ∷ range 16 28 24 (Some (codes "A")) ∷ [] }
      ∷ record { first = 32; past = 48; frame = 1; ranges = range 32 36 44 (Some (codes "C")) ∷ [] }
      ∷ [];
}

-- the inner frame at 8 returns to 24, and the outer one at 12 to 8
abbrev pub stack : List ℕ
stack = replicate 8 0 ++ (24 ∷ 0 ∷ 0 ∷ 0 ∷ 8 ∷ 0 ∷ 0 ∷ 0 ∷ replicate 4 0)

-- a B is thrown in the inner method, whose range is for C: the call at 20 lies in the first range of the outer one
pub caught_row : unwound some (codes "B") spans stack 32 8 ≡ handler 28 12 1
caught_row = refl

-- an A isn't below B, so the second range takes it
pub second_row : unwound some (codes "A") spans stack 32 8 ≡ handler 24 12 1
second_row = refl

pub top_row : unwound some (codes "Object") spans stack 32 8 ≡ top
top_row = refl

-- a frame past the memory lies nowhere, even where a range covers the place
pub damaged_row : unwound some (codes "A") spans stack 16 18 ≡ damaged
damaged_row = refl
