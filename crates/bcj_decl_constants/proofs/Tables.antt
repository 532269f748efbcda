-- What a table of values says of the fields of a world.
use Rattle.std.proofs.Common.{◌≡◌, ℕ, zero, suc, Bool, true, false, cond, List, [], ◌∷◌, slice_get, Option, Some, refl, sym, ◌∙◌, ap, inl, inr, arith}
use Rattle.std.proofs.lemmas.Bool.{cases_Bool}
use Rattle.std.proofs.lemmas.Bool.Decides.{Decides-and, Decides-like}
use Rattle.std.proofs.lemmas.Slice.Eq.{bytes_eq-Decides}
use Rattle.std.specs.Bool.{Decides}
use Rattle.bcj_symbolic_trees.proofs.SameLemmas.{same_type-Decides}
use Rattle.bcj_decl_rules.specs.declared.value.Value.{Value}
use Rattle.bcj_decl_rules.specs.World.{Field}
use Rattle.bcj_decl_rules.specs.Faults.{same_truth}
use Rattle.bcj_decl_constants.specs.Needs.{same_field, known_in}
use Rattle.bcj_decl_constants.specs.Numbers.{EachOnce}

same_truth-Decides : (a b : Bool) → Decides (same_truth a b) (a ≡ b)
same_truth-Decides true true = (λ e. refl, λ e. refl)
same_truth-Decides true false = (λ e. cc, λ e. cc)
same_truth-Decides false true = (λ e. cc, λ e. cc)
same_truth-Decides false false = (λ e. refl, λ e. refl)

pub same_field-Decides : (f g : Field) → Decides (same_field f g) (f ≡ g)
same_field-Decides f g =
    Decides-like (same_field f g)
    (λ e. λ i. record { class = e.0 i; name = e.1.0 i; ty = e.1.1.0 i; is_static = e.1.1.1.0 i; is_final = e.1.1.1.1.0 i; is_private = e.1.1.1.1.1 i })
    (λ e. (ap (λ r. r.class) e, (ap (λ r. r.name) e, (ap (λ r. r.ty) e, (ap (λ r. r.is_static) e, (ap (λ r. r.is_final) e, ap (λ r. r.is_private) e))))))
    (Decides-and _ _ (bytes_eq-Decides f.class g.class)
    (Decides-and _ _ (bytes_eq-Decides f.name g.name)
    (Decides-and _ _ (same_type-Decides f.ty g.ty)
    (Decides-and _ _ (same_truth-Decides f.is_static g.is_static)
    (Decides-and _ _ (same_truth-Decides f.is_final g.is_final) (same_truth-Decides f.is_private g.is_private))))))

pub each_once-rest : (g : Field) (gs : List Field) → EachOnce (g ∷ gs) → EachOnce gs
each_once-rest g gs once m n f p q =
    let up : suc m ≡ suc n = once (suc m) (suc n) f p q in
    omega arith

-- where a field has a value, it stands at its number
pub known_at : (fields : List Field) (values : List (Option Value)) (f : Field) (v : Value) → known_in fields values f ≡ Some v → (n : ℕ) × (slice_get fields n ≡ Some f) × (slice_get values n ≡ Some (Some v))
known_at [] values f v h = cc
known_at (g ∷ gs) [] f v h = cc
known_at (g ∷ gs) (x ∷ xs) f v h =
    elim (cases_Bool (same_field g f)) [
      | inl same ↦
          let is_it : g ≡ f = (same_field-Decides g f).0 same in
          let found : x ≡ Some v = ap (λ b. cond b x (known_in gs xs f)) (sym same) ∙ h in
          (0, ap Some is_it, ap Some found)
      | inr other ↦
          let rest : (n : ℕ) × (slice_get gs n ≡ Some f) × (slice_get xs n ≡ Some (Some v)) = known_at gs xs f v (ap (λ b. cond b x (known_in gs xs f)) (sym other) ∙ h) in
          (suc rest.0, rest.1, rest.2)
    ]

-- the value at a field's number is the field's
pub known_is : (fields : List Field) (values : List (Option Value)) (n : ℕ) (f : Field) (o : Option Value) → EachOnce fields → slice_get fields n ≡ Some f → slice_get values n ≡ Some o → known_in fields values f ≡ o
known_is [] values n f o once p q = cc
known_is (g ∷ gs) [] n f o once p q = cc
known_is (g ∷ gs) (x ∷ xs) zero f o once p q =
    let is_it : g ≡ f = cc in
    let same : same_field g f ≡ true = (same_field-Decides g f).1 is_it in
    let found : x ≡ o = cc in
    ap (λ b. cond b x (known_in gs xs f)) same ∙ found
known_is (g ∷ gs) (x ∷ xs) (suc n) f o once p q =
    elim (cases_Bool (same_field g f)) [
      | inl same ↦
          let is_it : g ≡ f = (same_field-Decides g f).0 same in
          let wrong : 0 ≡ suc n = once 0 (suc n) f (ap Some is_it) p in
          absurd (omega arith)
      | inr other ↦ ap (λ b. cond b x (known_in gs xs f)) other ∙ known_is gs xs n f o (each_once-rest g gs once) p q
    ]
