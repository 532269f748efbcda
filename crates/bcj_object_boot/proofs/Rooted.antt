-- Classes of which Object is the first.
use Rattle.std.proofs.Common.{◌≡◌, List, [], ◌∷◌, true, false, ◌&&◌, ◌≤◌, arith, length, get_or, refl, sym, ◌∙◌, ap}
use Rattle.std.specs.List.{list_all}
use Rattle.bcj_symbolic_trees.specs.Names.{object_name}
use Rattle.bcj_tables_rules.specs.declared.records.ClassRecord.{ClassRecord}
use Rattle.bcj_hier_rules.specs.Heads.{IsRooted, is_placed}
use Rattle.bcj_linker_objects.specs.Names.{heads_in}

-- a test of the heads of records
pub all_heads : (cs : List ClassRecord) → list_all (λ c. is_placed c.head) cs ≡ list_all is_placed (heads_in cs)
all_heads [] = refl
all_heads (c ∷ cs) = ap (λ b. is_placed c.head && b) (all_heads cs)

pub rooted : (cs : List ClassRecord) (top : ClassRecord) (rest : List ClassRecord) → cs ≡ top ∷ rest → top.head.name ≡ object_name → top.head.interface ≡ false
    → top.head.interfaces ≡ [] → list_all (λ c. is_placed c.head) cs ≡ true → IsRooted (heads_in cs)
rooted cs top rest first named class alone placed = record {
  top = top.head;
  others = heads_in rest;
  first = ap heads_in first;
  named = named;
  class = class;
  alone = alone;
  placed = sym (all_heads cs) ∙ placed;
}

-- the same, by the first item of a list that has one
pub rooted_first : (cs : List ClassRecord) (top : ClassRecord) → 1 ≤ length cs → top ≡ get_or cs 0 top → top.head.name ≡ object_name → top.head.interface ≡ false
    → top.head.interfaces ≡ [] → list_all (λ c. is_placed c.head) cs ≡ true → IsRooted (heads_in cs)
rooted_first [] top some first named class alone placed = let no : ⊥ = omega (arith, some) in elim no [ ]
rooted_first (c ∷ cs) top some first named class alone placed = rooted (c ∷ cs) top cs (sym (ap (λ x. x ∷ cs) first)) named class alone placed
