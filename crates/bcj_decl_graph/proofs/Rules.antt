use Rattle.std.proofs.Common.{append_assoc, append-nil}
use Rattle.std.proofs.lemmas.List.Elements.{filter_map-append}

pub ruleset step_rules = (append_assoc, append-nil, filter_map-append)
