use Rattle.std.proofs.Common.{append_assoc}
use Rattle.std.proofs.lemmas.List.{map-append}

pub ruleset limit_rules = (append_assoc, map-append)
