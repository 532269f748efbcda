-- A class counted piece by piece, as the walk over it goes. Each count stands at the last value of its type.
use Rattle.std.specs.Prelude.{ℕ, List, [], ◌∷◌, map}
use Rattle.bcj_symbolic_trees.specs.Types.{class_type, field_ref_of, method_ref_of, ty_of}
use Rattle.bcj_symbolic_measure.specs.declared.entry.Target.{Target}
use Rattle.bcj_symbolic_measure.specs.declared.entry.Target.TheVariants as target
use Rattle.bcj_symbolic_measure.specs.declared.entry.Entry.{Entry}
use Rattle.bcj_symbolic_measure.specs.declared.tally.Tally.{Tally}
use Rattle.bcj_symbolic_measure.specs.Entries.{PlainEntry, PlainTarget, type_target, field_target, method_target, with_entry}
use Rattle.bcj_symbolic_measure.specs.Scheme.{Piece, plain, usage, fetch, region, handled}
use Rattle.bcj_symbolic_measure.specs.Bodies.{piece_words, piece_ranges, address_relocations}
use Rattle.bcj_symbolic_measure.specs.Totals.{plus, larger}

-- what the working types stand for
abbrev pub target_of : Target → PlainTarget
target_of (target.Type t) = type_target (ty_of t.now)
target_of (target.Class name) = type_target (class_type name.now)
target_of (target.Field f) = field_target (field_ref_of f.now)
target_of (target.Method m) = method_target (method_ref_of m.now)

abbrev pub entry_of : Entry → PlainEntry
entry_of e = record { role = e.role; target = target_of e.target }

-- the words of the body that is open; of the bodies that are closed all words and the most; and of all the rest
pub record Counts : Type 0 where
  pub words : ℕ
  pub text : ℕ
  pub largest : ℕ
  pub relocations : ℕ
  pub ranges : ℕ
  pub entries : List PlainEntry

abbrev pub counts_of : Tally → Counts
counts_of t = record {
  words = t.words;
  text = t.text;
  largest = t.largest;
  relocations = t.relocations;
  ranges = t.ranges;
  entries = map entry_of t.entries.keys;
}

abbrev pub fresh : Counts
fresh = record { words = 0; text = 0; largest = 0; relocations = 0; ranges = 0; entries = [] }

unfoldable pub worded : Counts → ℕ → Counts
worded c n = record c { words = plus c.words n }

unfoldable pub located : Counts → ℕ → Counts
located c n = record c { words = plus c.words n; relocations = plus c.relocations address_relocations }

unfoldable pub entered : Counts → ℕ → PlainEntry → Counts
entered c n e = record c { words = plus c.words n; relocations = plus c.relocations address_relocations; entries = with_entry c.entries e }

unfoldable pub ranged : Counts → ℕ → Counts
ranged c n = record c { ranges = plus c.ranges n }

unfoldable pub counted : Counts → Piece → Counts
counted c (plain n) = worded c n
counted c (usage e) = entered c (piece_words (usage e)) e
counted c (fetch e) = entered c (piece_words (fetch e)) e
counted c region = located c (piece_words region)
counted c (handled class) = ranged c (piece_ranges (handled class))

unfoldable pub noted : Counts → List Piece → Counts
noted c [] = c
noted c (p ∷ rest) = noted (counted c p) rest

-- a body ends
unfoldable pub closed : Counts → Counts
closed c = record c { words = 0; text = plus c.text c.words; largest = larger c.largest c.words }

unfoldable pub bodies_noted : Counts → List (List Piece) → Counts
bodies_noted c [] = c
bodies_noted c (b ∷ rest) = bodies_noted (closed (noted c b)) rest
