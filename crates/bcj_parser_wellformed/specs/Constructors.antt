-- Which members are constructors, and that interfaces have none (JLS 9.1.4).
use Rattle.std.specs.Prelude.{◌≡◌, Bool, true, false, [], filter}
use Rattle.std.specs.List.{AllByRecursion}
use Rattle.bcj_parser_trees.specs.Trees.{PlainMember, constructor_member, PlainUnit}

abbrev pub is_constructor_member : PlainMember → Bool
is_constructor_member (constructor_member at mods name params throws first body) = true
is_constructor_member _ = false

abbrev pub HaveNoConstructor : PlainUnit → Type 0
HaveNoConstructor = AllByRecursion (λ t. t.interface ≡ true → filter is_constructor_member t.members ≡ [])
