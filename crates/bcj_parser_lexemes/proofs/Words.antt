-- The words of tokens are texts.
use Rattle.std.proofs.lemmas.Str.{IsUtf8-from_ascii}

pub ruleset ascii_rules = (IsUtf8-from_ascii)
