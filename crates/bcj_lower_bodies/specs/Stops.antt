-- What is answered where there are no lines.
use Rattle.std.specs.Prelude.{◌≡◌, List, Option, Some}
use Rattle.bcj_lower_rules.specs.declared.limit.Limit.{Limit}
use Rattle.bcj_lower_rules.specs.Bodies.{Body, first_excess}
use Rattle.bcj_lower_bodies.specs.declared.stop.LowerStop.{LowerStop}
use Rattle.bcj_lower_bodies.specs.declared.stop.LowerStop.TheVariants.{TooLarge, NoMemory}

-- the number that passes its limit is the one that was found
abbrev pub IsStop : Option Limit → LowerStop → Type 0
IsStop found (TooLarge what) = found ≡ Some what
IsStop found NoMemory = Unit {0}

-- it is the first of the first body that has one
abbrev pub IsExcess : List Body → LowerStop → Type 0
IsExcess bs e = IsStop (first_excess bs) e
