-- The limit of the lists of words and of blobs.
use Rattle.std.specs.Prelude.{ℕ}

-- the most items that a list may have
abbrev pub max_list_length : ℕ
max_list_length = 4294967295
