-- The methods of a name in the types above a type, hidden ones too.
use Rattle.std.specs.Prelude.{Bool, not, ◌&&◌, List, [], ◌∷◌, ◌++◌, filter}
use Rattle.std.specs.List.{flat_map}
use Rattle.bcj_decl_rules.specs.World.{Named, Method, Declared}
use Rattle.bcj_decl_rules.specs.Members.{is_constructor}
use Rattle.bcj_decl_rules.specs.Methods.{methods_named}

-- what may pass to another type
abbrev pub is_open : Method → Bool
is_open m = not m.is_private && not (is_constructor m)

abbrev pub open_methods : Named → Declared → List Method
open_methods name t = filter is_open (methods_named name t.methods)

-- of the first type all methods of the name, and of each further one those that may pass to another type
abbrev pub simple_candidates : Named → List Declared → List Method
simple_candidates name [] = []
simple_candidates name (t ∷ ts) = methods_named name t.methods ++ flat_map (open_methods name) ts
