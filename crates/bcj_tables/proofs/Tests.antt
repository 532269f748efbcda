-- Tests as truth values.
use Rattle.std.proofs.Common.{◌≡◌, Bool, true, false, refl}
use Rattle.std.specs.Prelude.{◌&&◌}

-- a test that always passes asks nothing
pub and_true : (b : Bool) → b ≡ (b && true)
and_true true = refl
and_true false = refl
