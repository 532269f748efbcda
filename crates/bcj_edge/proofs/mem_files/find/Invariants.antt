use Rattle.std.proofs.Common.{◌≡◌}
use Rattle.std.specs.Ordering.{nat_cmp}
use Rattle.std.specs.Cmp.Lexicographic.{slice_cmp}
use Rattle.std.specs.FinMap.{find}
use Rattle.std.specs.VecDeque.Iter.{deque_iter_rest}
use Rattle.bcj_edge.specs.function.Entries.{entries_of}
use Rattle.bcj_edge.proofs.mem_files.find.Given as goal

abbrev pub invariant-loop-file : goal.invariant-loop-file
invariant-loop-file l =
    find (slice_cmp nat_cmp) l.name (entries_of l.files.items) ≡ find (slice_cmp nat_cmp) l.name (entries_of (deque_iter_rest l.file-iterator))
