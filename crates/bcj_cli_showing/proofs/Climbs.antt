-- The steps from a class to Object, as a loop counts them.
use Rattle.std.proofs.Common.{◌≡◌, ◌+◌, ◌≤◌, ℕ, zero, suc, List, length, Option, None, Some, sym, ◌∙◌, ap, arith}
use Rattle.std.proofs.lemmas.List.{length-map}
use Rattle.std.specs.Option.{option_map}
use Rattle.bcj_symbolic_trees.specs.declared.class_tree.ClassHead.{ClassHead}
use Rattle.bcj_hier_rules.specs.declared.class_id.ClassId.{ClassId}
use Rattle.bcj_hier_rules.specs.Shapes.{Named, Shape, Mixture}
use Rattle.bcj_hier_rules.specs.Loading.{turns, load_error}
use Rattle.bcj_hier_rules.specs.Heads.{head_shape, of_heads, IsIn, name_of, superclass_of}
use Rattle.bcj_cli_showing.specs.Lines.{steps_within, steps_below_object}
use Rattle.bcj_cli_showing.specs.Trees.{HaveTree}
use Rattle.bcj_cli_showing.proofs.Heads.{HeadOf, head_of, parent_loads}

-- the steps from a class by what stands above it
abbrev pub steps_by : ℕ → Mixture → Option Named → ℕ
steps_by n m None = 0
steps_by n m (Some parent) = suc (steps_within n m parent)

abbrev pub steps_at : ℕ → Mixture → Option Shape → ℕ
steps_at n m None = 0
steps_at n m (Some s) = steps_by n m s.head.superclass

steps_up : (heads : List ClassHead) (n : ℕ) (c : ClassId) → HeadOf heads c → (o : Option Named) → superclass_of heads c ≡ o → steps_within (suc n) (of_heads heads) (name_of heads c) ≡ steps_by n (of_heads heads) o
steps_up heads n c h o up = ap (steps_at n (of_heads heads)) h.is_it ∙ ap (steps_by n (of_heads heads)) (sym h.above ∙ up)

-- what a loop keeps: the steps so far and those that are left are all
pub record Climb (heads : List ClassHead) (start at : ClassId) (steps : ℕ) : Type 0 where
  pub left : ℕ
  pub count : steps + left ≡ suc (length heads)
  pub there : IsIn heads at
  pub loads : load_error (of_heads heads) (name_of heads at) ≡ None
  pub all : steps + steps_within left (of_heads heads) (name_of heads at) ≡ steps_below_object (of_heads heads) (name_of heads start)

pub climb_start : (heads : List ClassHead) (start : ClassId) → IsIn heads start → load_error (of_heads heads) (name_of heads start) ≡ None → Climb heads start start 0
climb_start heads start there loads =
    let m : Mixture = of_heads heads in
    let same : suc (length heads) ≡ turns m = ap suc (sym (length-map heads head_shape)) in
    record {
      left = suc (length heads);
      count = omega arith;
      there = there;
      loads = loads;
      all = (omega arith) ∙ ap (λ n. steps_within n m (name_of heads start)) same;
    }

-- one step up
pub climb_more : (heads : List ClassHead) → HaveTree heads → (start at parent : ClassId) (steps : ℕ) → suc steps ≤ suc (length heads) → Climb heads start at steps
    → option_map (λ p. name_of heads p) (Some parent) ≡ superclass_of heads at → IsIn heads parent → Climb heads start parent (steps + 1)
climb_more heads tree start at parent steps few c up there = more c.left c.count c.all
  where
    h : HeadOf heads at
    h = head_of heads tree at c.there

    more : (left : ℕ) → steps + left ≡ suc (length heads) → steps + steps_within left (of_heads heads) (name_of heads at) ≡ steps_below_object (of_heads heads) (name_of heads start) → Climb heads start parent (steps + 1)
    more zero count all = absurd (omega arith)
    more (suc n) count all =
        let one : steps_within (suc n) (of_heads heads) (name_of heads at) ≡ suc (steps_within n (of_heads heads) (name_of heads parent)) = steps_up heads n at h (Some (name_of heads parent)) (sym up) in
        record {
          left = n;
          count = omega arith;
          there = there;
          loads = parent_loads heads at parent h c.loads (sym up);
          all = omega (arith, one, all);
        }

-- nothing stands above
pub climb_top : (heads : List ClassHead) → HaveTree heads → (start at : ClassId) (steps : ℕ) → Climb heads start at steps
    → None ≡ superclass_of heads at → steps ≡ steps_below_object (of_heads heads) (name_of heads start)
climb_top heads tree start at steps c up = top c.left c.all
  where
    h : HeadOf heads at
    h = head_of heads tree at c.there

    top : (left : ℕ) → steps + steps_within left (of_heads heads) (name_of heads at) ≡ steps_below_object (of_heads heads) (name_of heads start) → steps ≡ steps_below_object (of_heads heads) (name_of heads start)
    top zero all = omega (arith, all)
    top (suc n) all =
        let none : steps_within (suc n) (of_heads heads) (name_of heads at) ≡ 0 = steps_up heads n at h None (sym up) in
        omega (arith, none, all)

-- no turn is left
pub climb_end : (heads : List ClassHead) (start at : ClassId) (steps : ℕ) → steps ≡ suc (length heads) → Climb heads start at steps → steps ≡ steps_below_object (of_heads heads) (name_of heads start)
climb_end heads start at steps whole c =
    let none : c.left ≡ 0 = omega (arith, c.count) in
    let gone : steps_within c.left (of_heads heads) (name_of heads at) ≡ 0 = ap (λ n. steps_within n (of_heads heads) (name_of heads at)) none in
    omega (arith, gone, c.all)
