-- The limit of the lists of items and of words.
use Rattle.std.specs.Prelude.{ℕ}

-- the most items that a list may have
abbrev pub max_list_length : ℕ
max_list_length = 4294967295
