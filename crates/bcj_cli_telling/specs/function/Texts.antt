-- The status and the text of each read that stopped.
use Rattle.std.specs.Prelude.{ℕ, List, codes}
use Rattle.bcj_edge.specs.declared.store.ReadStop.{ReadStop}
use Rattle.bcj_edge.specs.declared.store.ReadStop.TheVariants as read
use Rattle.bcj_cli_telling.specs.Lines.{line_of, no_memory_text}
use Rattle.bcj_cli_telling.specs.Statuses.{status_unread, status_no_memory}

abbrev pub read_status : ReadStop → ℕ
read_status read.Failed = status_unread
read_status read.Absent = status_unread
read_status read.TooLong = status_unread
read_status read.NoMemory = status_no_memory

abbrev pub read_text : ReadStop → List ℕ → List ℕ
read_text read.Failed file = line_of (codes "cannot read ") file
read_text read.Absent file = line_of (codes "cannot open ") file
read_text read.TooLong file = line_of (codes "too long ") file
read_text read.NoMemory file = no_memory_text
