-- Objects on the heap: a row's address, and the fields or the length and the elements behind it.
use Rattle.std.specs.Prelude.{ℕ, suc, ◌+◌, ◌*◌, ◌%◌, ◌==◌, ◌&&◌, nat_le, Bool, List, [], ◌∷◌, Option, None, Some, if◌then◌else◌}
use Rattle.bcj_elf.specs.Rules.{word_at}
use Rattle.bcj_symbolic_trees.specs.Types.{PlainTy}
use Rattle.bcj_layout_rules.specs.Rows.{row_types}
use Rattle.bcj_layout_rules.specs.Places.{word_size, row_at, heap_at}
use Rattle.bcj_run_rules.specs.World.{Program, World}

module _ (p : Program) where
  -- the type whose row begins at an address, among those from the number n on
  abbrev pub type_from : ℕ → List PlainTy → ℕ → Option PlainTy
  type_from n [] at = None
  type_from n (t ∷ ts) at = if row_at p.classes p.main n == at then Some t else type_from (suc n) ts at

  abbrev pub type_with : ℕ → Option PlainTy
  type_with = type_from 0 (row_types p.classes)

  abbrev pub heap_start : ℕ
  heap_start = heap_at p.classes p.main

  -- the address of the heap's next free word
  abbrev pub next_object : World → ℕ
  next_object w = heap_start + word_size * w.allocated

  -- a word of the allocated heap
  abbrev pub is_allocated : World → ℕ → Bool
  is_allocated w a = a % word_size == 0 && (nat_le heap_start a && nat_le (a + word_size) (next_object w))

  -- the type of the object that a proper reference refers to; a reference that isn't proper has none
  abbrev pub object_type : List ℕ → World → ℕ → Option PlainTy
  object_type memory w a = if is_allocated w a then type_with (word_at a memory) else None
