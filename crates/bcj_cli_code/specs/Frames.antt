-- The frame of a run.
use Rattle.std.specs.Prelude.{ℕ, ◌*◌}
use Rattle.rv_machine.specs.Machine.{word_size}

abbrev pub frame_words : ℕ
frame_words = 508

abbrev pub frame_bytes : ℕ
frame_bytes = word_size * frame_words
