use Rattle.std.proofs.Common.{◌≡◌, drop, bytes_eq}
use Rattle.std.specs.List.{list_any}
use Rattle.bcj_cli_unit.proofs.kind.is_among.Given as goal

abbrev pub invariant-loop-known : goal.invariant-loop-known
invariant-loop-known l = list_any (λ known. bytes_eq known.now l.word) (drop l.known-index l.table) ≡ list_any (λ known. bytes_eq known.now l.word) l.table
