-- Heads whose names differ, and one more.
use Rattle.std.proofs.Common.{◌≡◌, false, List, [], ◌∷◌, ◌++◌, None, refl, sym, ap, subst}
use Rattle.std.specs.List.{list_any}
use Rattle.bcj_symbolic_trees.specs.declared.class_tree.ClassHead.{ClassHead}
use Rattle.bcj_hier_rules.specs.Shapes.{Named}
use Rattle.bcj_linker_objects.proofs.Places.{no_position}
use Rattle.bcj_hier_rules.specs.Heads.{is_called, number_of, AreDistinct}

-- the empty list has nothing in the middle
pub no_middle : {A : Type 0} (before : List A) (x : A) (behind : List A) → [] ≡ before ++ x ∷ behind → ⊥
no_middle [] x behind e = cc
no_middle (b ∷ before) x behind e = cc

-- an item of a list with one more is the last one or one of the others
pub data Cut {A : Type 0} (xs : List A) (last : A) (before : List A) (x : A) : Type 0 where
  at_end : before ≡ xs → x ≡ last → Cut xs last before x
  among : (rest : List A) → xs ≡ before ++ x ∷ rest → Cut xs last before x

-- the same behind one more item in front
cut_below : {A : Type 0} (a : A) (xs : List A) (last : A) (before : List A) (x : A) → Cut xs last before x → Cut (a ∷ xs) last (a ∷ before) x
cut_below a xs last before x (at_end e f) = at_end (ap (λ l. a ∷ l) e) f
cut_below a xs last before x (among rest e) = among rest (ap (λ l. a ∷ l) e)

-- each item is one of these
cut : {A : Type 0} (xs : List A) (last : A) (before : List A) (x : A) (behind : List A) → xs ++ last ∷ [] ≡ before ++ x ∷ behind → Cut xs last before x
cut [] last [] x behind e = at_end refl (cc)
cut [] last (b ∷ before) x behind e = let f : [] ≡ before ++ x ∷ behind = cc in absurd (no_middle before x behind f)
cut (a ∷ xs) last [] x behind e = let f : a ≡ x = cc in among xs (ap (λ y. y ∷ xs) f)
cut (a ∷ xs) last (b ∷ before) x behind e =
    let f : xs ++ last ∷ [] ≡ before ++ x ∷ behind = cc in
    let g : a ≡ b = cc in
    subst (λ y. Cut (a ∷ xs) last (y ∷ before) x) g (cut_below a xs last before x (cut xs last before x behind f))

-- a name that none has has no number
pub none_called : (q : Named) (hs : List ClassHead) → list_any (is_called q) hs ≡ false → number_of hs q ≡ None
none_called q hs e = no_position (is_called q) hs e

-- one more head with a new name
pub distinct_more : (hs : List ClassHead) (h : ClassHead) → AreDistinct hs → number_of hs h.name ≡ None → AreDistinct (hs ++ h ∷ [])
distinct_more hs h are new = λ before x behind e. distinct_at hs h are new before x (cut hs h before x behind e)
  where
    -- by where the item stands
    distinct_at : (hs : List ClassHead) (h : ClassHead) → AreDistinct hs → number_of hs h.name ≡ None → (before : List ClassHead) (x : ClassHead) → Cut hs h before x → number_of before x.name ≡ None
    distinct_at hs h are new before x (at_end e f) = subst (λ l. number_of l x.name ≡ None) (sym e) (subst (λ (y : ClassHead). number_of hs y.name ≡ None) (sym f) new)
    distinct_at hs h are new before x (among rest e) = are before x rest e
