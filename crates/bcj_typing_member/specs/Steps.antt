-- The steps of a class, put one behind the other where they aren't there.
use Rattle.std.specs.Prelude.{ℕ, List, [], ◌∷◌, ◌++◌, if◌then◌else◌}
use Rattle.std.specs.List.{list_any}
use Rattle.std.specs.Hash as fed
use Rattle.bcj_symbolic_trees.specs.Types.{PlainTy, class_type, array_type}
use Rattle.bcj_symbolic_trees.specs.Units.{PlainPair, pair_of}
use Rattle.bcj_typing_rules.specs.Members.{is_listed, same_pair}
use Rattle.bcj_typing_member.specs.declared.pairs.Step.{Step}

abbrev pub step_of : Step → PlainPair
step_of s = pair_of s.pair.now

abbrev pub with_pair : List PlainPair → PlainPair → List PlainPair
with_pair ps p = if list_any (same_pair p) ps then ps else ps ++ p ∷ []

abbrev pub with_listed : List PlainPair → PlainPair → List PlainPair
with_listed ps p = if is_listed p then with_pair ps p else ps

abbrev pub with_all_listed : List PlainPair → List PlainPair → List PlainPair
with_all_listed ps [] = ps
with_all_listed ps (q ∷ qs) = with_all_listed (with_listed ps q) qs

-- what the hash of a step is made of
abbrev pub type_writes : PlainTy → List (List ℕ)
type_writes (class_type name) = fed.str name
type_writes (array_type component) = fed.u8 0 ++ type_writes component
type_writes _ = []

abbrev pub step_writes : PlainPair → List (List ℕ)
step_writes p = type_writes p.from ++ type_writes p.to
