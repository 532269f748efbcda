-- The files in memory as a list of entries, the newest of a name first.
use Rattle.std.specs.Prelude.{ℕ, List, map, string_bytes}
use Rattle.bcj_edge.specs.declared.mem_files.File.{File}

abbrev pub entries_of : List File → List (List ℕ × List ℕ)
entries_of files = map (λ f. (string_bytes f.name, f.bytes)) files
