-- A number of the program's own type is in its range.
use Rattle.std.proofs.Common.{◌≡◌, true, ℤ, pos, negsuc}
use borrow.Author.Tests.{lt-ltb}
use mir.Val.{SFits}
use mir.Syntax.{w32}
use Rattle.bcj_symbolic_check.specs.Judgements.{in_range}

pub fits_in_range : (n : ℤ) → SFits w32 n → in_range n ≡ true
unfolding in_range
fits_in_range (pos n) h = lt-ltb _ _ h.sfits
fits_in_range (negsuc n) h = lt-ltb _ _ h.sfits
