-- What the functions that write lines are proved by.
use Rattle.std.proofs.Common.{append_assoc, append-nil}
use Rattle.bcj_cli_showing.proofs.Lists.{lines-at_read, numbered-at_read, numbered-none}

pub ruleset line_rules = (append_assoc)

pub ruleset list_rules = (append_assoc, lines-at_read)

pub ruleset table_rules = (append_assoc, append-nil, numbered-at_read, numbered-none)
