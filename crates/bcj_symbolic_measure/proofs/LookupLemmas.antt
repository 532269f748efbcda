-- The sums of the words that an object's class is searched by.
use Rattle.std.proofs.Common.{refl}
use Rattle.bcj_symbolic_measure.specs.Scheme.{LookupLaw}

pub lookup_law : LookupLaw
lookup_law = (refl, refl)
