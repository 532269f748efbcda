-- How much room a program's parts take: temporaries, numbers of locals, and words.
use Rattle.std.specs.Prelude.{ℕ, ◌+◌, ◌≤◌, ◌^◌}
use Rattle.bcj_cli_language.specs.Tree.{Act, Acts}
use Rattle.bcj_cli_language.specs.Scopes.{declared_by, declared_in}
use Rattle.bcj_cli_language.specs.Bounds.{max_locals, IsSmall, AreSmall}
use Rattle.bcj_cli_code.specs.Sizes.{act_words, acts_words}

-- the most words that a jump passes over
abbrev pub max_jump : ℕ
max_jump = 2 ^ 18

-- behind this many words, with this number for the next local
pub record Fits (words next : ℕ) (p : Acts) : Type 0 where
  pub small : AreSmall p
  pub locals : next + declared_in p ≤ max_locals
  pub reach : words + acts_words p ≤ max_jump

pub record FitsOne (words next : ℕ) (a : Act) : Type 0 where
  pub small : IsSmall a
  pub locals : next + declared_by a ≤ max_locals
  pub reach : words + act_words a ≤ max_jump
