-- The numbers of types by their names.
use Rattle.std.proofs.Common.{◌≡◌, ◌+◌, List, [], ◌∷◌, ◌++◌, Some, None, Bool, cond, refl, sym, ◌∙◌, ap, ℕ, zero, suc, inl, inr, length, arith, option_map, subst}
use Rattle.std.specs.List.{position, position_from, slice_get}
use Rattle.std.specs.Option.{option_or, option_map_or}
use Rattle.std.specs.Str.{bytes_eq}
use Rattle.std.proofs.lemmas.Bool.{cases_Bool}
use Rattle.std.proofs.lemmas.Option.{slice_get-map}
use Rattle.bcj_symbolic_trees.specs.declared.class_tree.ClassHead.{ClassHead}
use Rattle.bcj_tables_rules.specs.declared.records.ClassRecord.{ClassRecord}
use Rattle.bcj_hier_rules.specs.Shapes.{Named, Shape, found, record_shape}
use Rattle.bcj_hier_rules.specs.Heads.{is_called, number_of, AreDistinct}
use Rattle.bcj_hier_soundness.proofs.Names.{same_bytes, bytes_same}
use Rattle.bcj_layout_rules.specs.Rows.{Classes, mixture_of}
use Rattle.bcj_layout_members.specs.Places.{heads_in, name_at, superclass_at}
use Rattle.bcj_layout_members.proofs.Positions.{position_is, position-append}

-- what has a number in a mixture
pub record IsNumbered (cs : Classes) (name : Named) (k : ℕ) : Type 0 where
  pub class : ClassRecord
  pub record_of : slice_get cs k ≡ Some class
  pub named : class.head.name ≡ name
  pub is_found : found (mixture_of cs) name ≡ Some (record_shape class)

record Further (cs : Classes) (name : Named) (i k : ℕ) : Type 0 where
  by : ℕ
  sum : k ≡ i + by
  there : IsNumbered cs name by

-- the same, counted from a number on
numbered_from : (cs : Classes) (name : Named) (i k : ℕ) → position_from (is_called name) i (heads_in cs) ≡ Some k → Further cs name i k
numbered_from [] name i k h = cc
numbered_from (c ∷ cs) name i k h =
    elim (cases_Bool (bytes_eq c.head.name name)) [
      | inl it ↦
          let e : Some i ≡ Some k = sym (ap (λ b. cond b (Some i) (position_from (is_called name) (i + 1) (heads_in cs))) it) ∙ h in
          let same : i ≡ k = cc in
          record {
            by = 0;
            sum = omega arith;
            there = record {
              class = c;
              record_of = refl;
              named = same_bytes c.head.name name it;
              is_found = ap (λ b. cond b (Some (record_shape c)) (found (mixture_of cs) name)) it;
            };
          }
      | inr other ↦
          let rest : Further cs name (i + 1) k = numbered_from cs name (i + 1) k (sym (ap (λ b. cond b (Some i) (position_from (is_called name) (i + 1) (heads_in cs))) other) ∙ h) in
          let e : k ≡ (i + 1) + rest.by = rest.sum in
          record {
            by = suc rest.by;
            sum = omega arith;
            there = record {
              class = rest.there.class;
              record_of = rest.there.record_of;
              named = rest.there.named;
              is_found = ap (λ b. cond b (Some (record_shape c)) (found (mixture_of cs) name)) other ∙ rest.there.is_found;
            };
          }
    ]

-- a number tells the record of the name
pub is_numbered : (cs : Classes) (name : Named) (k : ℕ) → number_of (heads_in cs) name ≡ Some k → IsNumbered cs name k
is_numbered cs name k h =
    let f : Further cs name 0 k = numbered_from cs name 0 k (sym (position_is (is_called name) (heads_in cs)) ∙ h) in
    let e : k ≡ 0 + f.by = f.sum in
    let same : f.by ≡ k = omega arith in
    subst (IsNumbered cs name) same f.there

-- the same, counted from a number on
found_from : (cs : Classes) (name : Named) (s : Shape) (i : ℕ) → found (mixture_of cs) name ≡ Some s → (k : ℕ) × (position_from (is_called name) i (heads_in cs) ≡ Some k)
found_from [] name s i h = cc
found_from (c ∷ cs) name s i h =
    elim (cases_Bool (bytes_eq c.head.name name)) [
      | inl it ↦ (i, ap (λ b. cond b (Some i) (position_from (is_called name) (i + 1) (heads_in cs))) it)
      | inr other ↦
          let rest : (k : ℕ) × (position_from (is_called name) (i + 1) (heads_in cs) ≡ Some k) =
          found_from cs name s (i + 1) (sym (ap (λ b. cond b (Some (record_shape c)) (found (mixture_of cs) name)) other) ∙ h) in
          (rest.0, ap (λ b. cond b (Some i) (position_from (is_called name) (i + 1) (heads_in cs))) other ∙ rest.1)
    ]

-- a type that is there has a number
pub found_number : (cs : Classes) (name : Named) (s : Shape) → found (mixture_of cs) name ≡ Some s → (k : ℕ) × (number_of (heads_in cs) name ≡ Some k)
found_number cs name s h =
    let k : (k : ℕ) × (position_from (is_called name) 0 (heads_in cs) ≡ Some k) = found_from cs name s 0 h in
    (k.0, position_is (is_called name) (heads_in cs) ∙ k.1)

-- the parts of a list around an element
pub record Around {X : Type 0} (xs : List X) (k : ℕ) (x : X) : Type 0 where
  pub before : List X
  pub behind : List X
  pub whole : xs ≡ before ++ x ∷ behind
  pub count : length before ≡ k

-- a list splits at each element
pub around : {X : Type 0} (xs : List X) (k : ℕ) (x : X) → slice_get xs k ≡ Some x → Around xs k x
around [] k x h = cc
around (y ∷ ys) zero x h =
    let e : y ≡ x = cc in
    record { before = []; behind = ys; whole = ap (λ z. z ∷ ys) e; count = refl }
around (y ∷ ys) (suc k) x h =
    let rest : Around ys k x = around ys k x h in
    record { before = y ∷ rest.before; behind = rest.behind; whole = ap (λ zs. y ∷ zs) rest.whole; count = ap suc rest.count }

-- where no name stands twice, a record's number is that of its name
pub own_number : (cs : Classes) → AreDistinct (heads_in cs) → (k : ℕ) (c : ClassRecord) → slice_get cs k ≡ Some c → number_of (heads_in cs) c.head.name ≡ Some k
own_number cs distinct k c h =
    let at : slice_get (heads_in cs) k ≡ Some c.head = slice_get-map (λ c. c.head) cs k ∙ ap (option_map (λ c. c.head)) h in
    let a : Around (heads_in cs) k c.head = around (heads_in cs) k c.head at in
    let p : ClassHead → Bool = is_called c.head.name in
    let none : position p a.before ≡ None = distinct a.before c.head a.behind a.whole in
    let first : position p (c.head ∷ a.behind) ≡ Some 0 =
    position_is p (c.head ∷ a.behind) ∙ ap (λ b. cond b (Some 0) (position_from p (0 + 1) a.behind)) (bytes_same c.head.name) in
    let n : length a.before ≡ k = a.count in
    let sum : length a.before + 0 ≡ k = omega arith in
    ap (position p) a.whole
    ∙ (position-append p a.before (c.head ∷ a.behind)
    ∙ (ap (λ o. option_or o (option_map (λ j. length a.before + j) (position p (c.head ∷ a.behind)))) none ∙ (ap (option_map (λ j. length a.before + j)) first ∙ ap Some sum)))

-- a record tells the name at its number
pub name_at_is : (cs : Classes) (k : ℕ) (c : ClassRecord) → slice_get cs k ≡ Some c → name_at cs k ≡ c.head.name
name_at_is cs k c h = ap (λ o. option_map_or (λ c. c.head.name) o []) h

-- a record tells the superclass at its number
pub superclass_at_is : (cs : Classes) (k : ℕ) (c : ClassRecord) → slice_get cs k ≡ Some c → superclass_at cs k ≡ c.head.superclass
superclass_at_is cs k c h = ap (λ o. elim o [ None ↦ None | Some c ↦ c.head.superclass ]) h
