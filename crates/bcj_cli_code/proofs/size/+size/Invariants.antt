use Rattle.std.proofs.Common.{◌≡◌, ◌+◌, drop}
use Rattle.bcj_cli_language.specs.Plain.{acts_of}
use Rattle.bcj_cli_code.specs.Sizes.{acts_words}
use Rattle.bcj_cli_code.proofs.size.+size.Given as goal

abbrev pub invariant-room_behind_all-loop-s : goal.invariant-room_behind_all-loop-s
invariant-room_behind_all-loop-s l = l.room + acts_words (acts_of (drop l.s-index l.block)) ≡ l.left + acts_words (acts_of l.block)
