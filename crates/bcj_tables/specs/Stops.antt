-- What a refusal says.
use Rattle.std.specs.Prelude.{ℕ, List}
use Rattle.bcj_tables_rules.specs.Records.{Outside, IsFirstBad}
use Rattle.bcj_tables.specs.declared.stop.TableStop.{TableStop}
use Rattle.bcj_tables.specs.declared.stop.TableStop.TheVariants.{Bad, NoMemory}

-- a bad field is the first bad one
abbrev pub IsBadAt : Outside → List ℕ → TableStop → Type 0
IsBadAt o bytes (Bad at) = IsFirstBad o bytes at
IsBadAt o bytes NoMemory = Unit {0}
