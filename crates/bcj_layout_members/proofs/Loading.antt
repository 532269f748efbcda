-- What loads, by heads and by records.
use Rattle.std.proofs.Common.{◌≡◌, ◌↔◌, List, [], ◌∷◌, Option, Some, None, Result, Ok, Err, Bool, true, false, refl, sym, ◌∙◌, ap, ℕ, zero, suc, is_ok}
use Rattle.std.specs.List.{slice_get}
use Rattle.std.specs.Option.{option_map_or}
use Rattle.bcj_symbolic_trees.specs.declared.class_tree.ClassHead.{ClassHead}
use Rattle.bcj_hier_rules.specs.declared.class_id.ClassId.{ClassId}
use Rattle.bcj_hier_rules.specs.declared.link_error.LinkError.{LinkError}
use Rattle.bcj_hier_rules.specs.Heads.{of_heads, heads_of, name_of, error_of}
use Rattle.bcj_hier_rules.specs.Loading.{load_error}
use Rattle.bcj_hier_soundness.proofs.Heads.{heads_load}
use Rattle.bcj_layout_rules.specs.Rows.{Classes, mixture_of}
use Rattle.bcj_layout_members.specs.Places.{heads_in, name_at}

heads_same : (cs : Classes) → heads_of (mixture_of cs) ≡ heads_in cs
heads_same [] = refl
heads_same (c ∷ cs) = ap (λ hs. c.head ∷ hs) (heads_same cs)

named : (cs : Classes) (k : ℕ) → option_map_or (λ h. h.name) (slice_get (heads_in cs) k) [] ≡ name_at cs k
named [] k = refl
named (c ∷ cs) zero = refl
named (c ∷ cs) (suc k) = named cs k

-- a number has one name
pub name_same : (cs : Classes) (c : ClassId) → name_of (heads_in cs) c ≡ name_at cs c.0
name_same cs c = named cs c.0

-- heads alone decide what loads
pub load_same : (cs : Classes) (hs : List ClassHead) → hs ≡ heads_in cs → (c : ClassId) → load_error (of_heads hs) (name_of hs c) ≡ load_error (mixture_of cs) (name_at cs c.0)
load_same cs hs agree c =
    ap (λ hs. load_error (of_heads hs) (name_of hs c)) agree
    ∙ (ap (load_error (of_heads (heads_in cs))) (name_same cs c)
    ∙ (ap (λ hs. load_error (of_heads hs) (name_at cs c.0)) (sym (heads_same cs)) ∙ sym (heads_load (mixture_of cs) (name_at cs c.0))))

-- no error is a success
pub no_error : {A : Type 0} (r : Result A LinkError) (b : Bool) (e : Option LinkError) → b ≡ is_ok r → error_of r ≡ e → (b ≡ true) ↔ (e ≡ None)
no_error (Ok x) b e is error = ((λ h. sym error), (λ h. is))
no_error (Err x) b e is error =
    ((λ h. let wrong : true ≡ false = sym h ∙ is in absurd (cc)), (λ h. let wrong : Some x ≡ None = error ∙ h in absurd (cc)))
