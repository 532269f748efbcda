-- Heads of which Object is the first.
use Rattle.std.proofs.Common.{◌≡◌, List, [], ◌∷◌, true, false, ◌≤◌, arith, length, get_or, refl, sym, ap}
use Rattle.std.specs.List.{list_all}
use Rattle.bcj_symbolic_trees.specs.Names.{object_name}
use Rattle.bcj_symbolic_trees.specs.declared.class_tree.ClassHead.{ClassHead}
use Rattle.bcj_hier_rules.specs.Heads.{IsRooted, is_placed}

-- the first item of a list that has one is the root, where it is the class Object and each head has its place
pub rooted_first : (hs : List ClassHead) (top : ClassHead) → 1 ≤ length hs → top ≡ get_or hs 0 top → top.name ≡ object_name → top.interface ≡ false
    → top.interfaces ≡ [] → list_all is_placed hs ≡ true → IsRooted hs
rooted_first [] top some first named class alone placed = let no : ⊥ = omega (arith, some) in elim no [ ]
rooted_first (h ∷ hs) top some first named class alone placed = record {
  top = top;
  others = hs;
  first = sym (ap (λ x. x ∷ hs) first);
  named = named;
  class = class;
  alone = alone;
  placed = placed;
}
