-- The statuses that a command ends with.
use Rattle.std.specs.Prelude.{ℕ, List, [], ◌∷◌}

-- the program came to its end, or the object was written
abbrev pub status_done : ℕ
status_done = 0

-- the words have no form of a command
abbrev pub status_bad_words : ℕ
status_bad_words = 2

-- the turns were spent
abbrev pub status_turns_spent : ℕ
status_turns_spent = 3

-- the text spells no program that is built yet, or the texts give no object
abbrev pub status_refused : ℕ
status_refused = 6

-- a file couldn't be read
abbrev pub status_unread : ℕ
status_unread = 8

-- a sink failed, or the object couldn't be written
abbrev pub status_write_fault : ℕ
status_write_fault = 9

-- want of memory
abbrev pub status_no_memory : ℕ
status_no_memory = 10

abbrev pub statuses : List ℕ
statuses = status_done ∷ status_bad_words ∷ status_turns_spent ∷ status_refused ∷ status_unread ∷ status_write_fault ∷ status_no_memory ∷ []

-- those of a compilation
abbrev pub compile_statuses : List ℕ
compile_statuses = status_done ∷ status_refused ∷ status_unread ∷ status_write_fault ∷ status_no_memory ∷ []
