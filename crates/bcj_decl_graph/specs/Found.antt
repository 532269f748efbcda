-- What a search has found.
use Rattle.std.specs.Prelude.{ℕ, List}
use Rattle.bcj_decl_graph.specs.declared.search.Search.{Search}

-- the places found, in the order in which they were found
abbrev pub found_of : Search → List ℕ
found_of s = s.found.keys
