-- Sizes that stand at the last value of their type pass the same limits.
use Rattle.std.proofs.Common.{◌≡◌, ◌+◌, ◌<◌, ◌≤◌, ◌++◌, refl, sym, ◌∙◌, ap, ℕ, zero, suc, nat_lt, Bool, true, false, List, [], ◌∷◌, map, filter, cond, append_assoc, drop, length, arith, lit<, Option, None, Some, if◌then◌else◌}
use Rattle.std.proofs.Math.ListN.{get_or}
use Rattle.std.proofs.lemmas.List.{drop_more}
use Rattle.std.proofs.lemmas.Bool.Decides.{Decides-like, Decides-ltb, same_from_decides}
use Rattle.std.specs.Option.{option_or}
use Rattle.bcj_parser_trees.specs.declared.unit.TypeDecl.{TypeDecl}
use Rattle.bcj_parser_trees.specs.declared.unit.Member.{Member}
use Rattle.bcj_parser_trees.specs.Trees.{PlainMember, PlainType}
use Rattle.bcj_parser_trees.specs.Plain.{type_of, member_of}
use Rattle.bcj_decl_rules.specs.Faults.{member_at}
use Rattle.bcj_symbolic_trees.specs.declared.class_tree.SymClass.{SymClass}
use Rattle.bcj_symbolic_trees.specs.Units as symbolic
use Rattle.bcj_symbolic_trees.specs.Units.{PlainMethod, PlainClass, PlainUnit}
use Rattle.bcj_symbolic_measure.specs.Objects.{object_size}
use Rattle.bcj_symbolic_measure.specs.declared.measured.BodySize.{BodySize}
use Rattle.bcj_symbolic_measure.specs.Measures as measures
use Rattle.bcj_symbolic_measure.specs.Totals.{narrow, capped}
use Rattle.bcj_typing.specs.declared.stop.Limited.TheVariants as limited
use Rattle.bcj_typing.specs.Limits as limits
use Rattle.bcj_typing.specs.Passed.{size_past, sizes_past}

less_narrow : (l n : ℕ) → l < 4294967295 → nat_lt l (narrow n) ≡ nat_lt l n
less_narrow l n h = same_from_decides (nat_lt l (narrow n)) (nat_lt l n) (Decides-like {P = l < narrow n} (nat_lt l (narrow n)) (λ k. omega arith) (λ k. omega arith) (Decides-ltb l (narrow n))) (Decides-ltb l n)

pub less_capped : (n : ℕ) → nat_lt limits.object_limit (capped n) ≡ nat_lt limits.object_limit n
unfolding capped
less_capped n =
    same_from_decides (nat_lt limits.object_limit (capped n)) (nat_lt limits.object_limit n)
    (Decides-like {P = limits.object_limit < capped n} (nat_lt limits.object_limit (capped n)) (λ k. omega arith) (λ k. omega arith) (Decides-ltb limits.object_limit (capped n))) (Decides-ltb limits.object_limit n)

past_narrow : (at frame words : ℕ) → size_past at (record { frame = narrow frame; words = narrow words }) ≡ limits.body_past at (record { frame = frame; words = words })
past_narrow at frame words =
    ap (λ b. if b then Some (record { what = limited.Frame; at = at }) else (if nat_lt limits.method_limit (narrow words) then Some (record { what = limited.Method; at = at }) else None)) (less_narrow limits.frame_limit frame (lit< tt))
    ∙ ap (λ b. if nat_lt limits.frame_limit frame then Some (record { what = limited.Frame; at = at }) else (if b then Some (record { what = limited.Method; at = at }) else None)) (less_narrow limits.method_limit words (lit< tt))

methods_narrow : (c : PlainClass) (ms : List PlainMethod) (places : List ℕ) → sizes_past places (measures.method_sizes c ms) ≡ limits.bodies_past places (map (limits.method_size c) ms)
methods_narrow c [] [] = refl
methods_narrow c [] (p ∷ ps) = refl
methods_narrow c (m ∷ ms) [] = refl
methods_narrow c (m ∷ ms) (p ∷ ps) =
    ap (λ o. option_or o (sizes_past ps (measures.method_sizes c ms))) (past_narrow p (limits.method_size c m).frame (limits.method_size c m).words)
    ∙ ap (option_or (limits.body_past p (limits.method_size c m))) (methods_narrow c ms ps)

-- the bodies of a class
pub class_narrow : (c : PlainClass) (places : List ℕ) → sizes_past places (measures.body_sizes c) ≡ limits.bodies_past places (limits.body_sizes c)
class_narrow c [] = refl
class_narrow c (p ∷ ps) =
    ap (λ o. option_or o (sizes_past ps (measures.method_sizes c c.methods))) (past_narrow p (limits.init_size c).frame (limits.init_size c).words)
    ∙ ap (option_or (limits.body_past p (limits.init_size c))) (methods_narrow c c.methods ps)

-- ---- loops

or_none : {A : Type 0} (o p : Option A) → o ≡ None → option_or o p ≡ p
or_none {A} o p e = ap (λ q. option_or q p) e

or_some : {A : Type 0} (o p : Option A) (x : A) → o ≡ Some x → option_or o p ≡ Some x
or_some o p x e = ap (λ q. option_or q p) e

pub sizes_more : (places : List ℕ) (sizes : List BodySize) (i : ℕ) (p : ℕ) (s : BodySize) → i < length places → i < length sizes
    → sizes_past (drop i places) (drop i sizes) ≡ option_or (size_past (get_or places i p) (get_or sizes i s)) (sizes_past (drop (i + 1) places) (drop (i + 1) sizes))
sizes_more places sizes i p s l m =
    ap (λ ps. sizes_past ps (drop i sizes)) (drop_more places i p l) ∙ ap (sizes_past (get_or places i p ∷ drop (i + 1) places)) (drop_more sizes i s m)

pub classes_more : (each : List TypeDecl) (classes : List SymClass) (i : ℕ) (d : TypeDecl) (c : SymClass) → i < length each → i < length classes
    → limits.classes_past (map type_of (drop i each)) (map symbolic.class_of (drop i classes))
    ≡ option_or (limits.class_past (type_of (get_or each i d)) (symbolic.class_of (get_or classes i c))) (limits.classes_past (map type_of (drop (i + 1) each)) (map symbolic.class_of (drop (i + 1) classes)))
classes_more each classes i d c l m =
    ap (λ ts. limits.classes_past (map type_of ts) (map symbolic.class_of (drop i classes))) (drop_more each i d l)
    ∙ ap (λ cs. limits.classes_past (type_of (get_or each i d) ∷ map type_of (drop (i + 1) each)) (map symbolic.class_of cs)) (drop_more classes i c m)

-- ---- places

one_kept : {A : Type 0} (f : A → ℕ) (b : Bool) (x : A) (xs : List A) → map f (cond b (x ∷ []) []) ++ map f xs ≡ map f (cond b (x ∷ xs) xs)
one_kept f true x xs = refl
one_kept f false x xs = refl

pub places_more : (p : PlainMember → Bool) (members : List Member) (i : ℕ) (d : Member) → i < length members → (old new rest : List ℕ) → new ≡ old ++ map member_at (filter p (member_of (get_or members i d) ∷ []))
    → old ++ map member_at (filter p (map member_of (drop i members))) ≡ rest → new ++ map member_at (filter p (map member_of (drop (i + 1) members))) ≡ rest
places_more p members i d lt old new rest e before =
    let x : PlainMember = member_of (get_or members i d) in
    let behind : List PlainMember = filter p (map member_of (drop (i + 1) members)) in
    ap (λ l. l ++ map member_at behind) e
    ∙ (append_assoc old (map member_at (filter p (x ∷ []))) (map member_at behind)
    ∙ (ap (λ l. old ++ l) (one_kept member_at (p x) x behind) ∙ (ap (λ l. old ++ map member_at (filter p (map member_of l))) (sym (drop_more members i d lt)) ∙ before)))

-- ---- ends

drop_none : {A : Type 0} (xs : List A) (i : ℕ) → length xs ≤ i → drop i xs ≡ []
drop_none [] zero h = refl
drop_none [] (suc i) h = refl
drop_none (x ∷ xs) zero h = absurd (omega (arith, h))
drop_none (x ∷ xs) (suc i) h = drop_none xs i (omega (arith, h))

no_size : (places : List ℕ) → sizes_past places [] ≡ None
no_size [] = refl
no_size (p ∷ ps) = refl

no_class : (ts : List PlainType) → limits.classes_past ts [] ≡ None
no_class [] = refl
no_class (t ∷ ts) = refl

pub sizes_end : (places : List ℕ) (sizes : List BodySize) (i : ℕ) → length sizes ≤ i → sizes_past (drop i places) (drop i sizes) ≡ None
sizes_end places sizes i h = ap (sizes_past (drop i places)) (drop_none sizes i h) ∙ no_size (drop i places)

pub classes_end : (each : List TypeDecl) (classes : List SymClass) (i : ℕ) → length classes ≤ i → limits.classes_past (map type_of (drop i each)) (map symbolic.class_of (drop i classes)) ≡ None
classes_end each classes i h =
    ap (λ cs. limits.classes_past (map type_of (drop i each)) (map symbolic.class_of cs)) (drop_none classes i h) ∙ no_class (map type_of (drop i each))

-- ---- the object

false_of : (b : Bool) → (b ≡ true → ⊥) → b ≡ false
false_of true h = absurd (h refl)
false_of false h = refl

module _ (ts : List PlainType) (u : PlainUnit) (n : ℕ) (e : n ≡ capped (object_size u)) where
  size_test : nat_lt limits.object_limit (object_size u) ≡ nat_lt limits.object_limit n
  size_test = sym (less_capped (object_size u)) ∙ ap (nat_lt limits.object_limit) (sym e)

  pub object_over : limits.object_limit < n → limits.object_past ts u ≡ Some (record { what = limited.Object; at = limits.object_place ts })
  object_over h =
      ap (λ b. if b then Some (record { what = limited.Object; at = limits.object_place ts }) else None) (size_test ∙ (Decides-ltb limits.object_limit n).1 h)

  pub object_within : n ≤ limits.object_limit → limits.object_past ts u ≡ None
  object_within h =
      ap (λ b. if b then Some (record { what = limited.Object; at = limits.object_place ts }) else None)
      (size_test ∙ false_of (nat_lt limits.object_limit n) (λ k. let lt = (Decides-ltb limits.object_limit n).0 k in omega (arith, lt, h)))
