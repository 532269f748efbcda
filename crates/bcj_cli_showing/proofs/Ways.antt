-- The way from a class that loads to Object.
use Rattle.std.proofs.Common.{◌≡◌, ℕ, zero, suc, List, ◌∷◌, [], Option, None, Some, false, refl, sym, ap, subst}
use Rattle.bcj_hier_rules.specs.Shapes.{Named, Shape, Mixture, found}
use Rattle.bcj_hier_rules.specs.Loading.{is_interface, turns, load_within}
use Rattle.bcj_hier_soundness.specs.Laws.{IsHierarchy}
use Rattle.bcj_hier_soundness.proofs.Loads.{Loaded, loaded, loaded_there, superclass_part}
use Rattle.bcj_hier_soundness.proofs.Circles.{is_class}
use Rattle.bcj_cli_showing.specs.Lines.{steps_within}
use Rattle.bcj_cli_showing.specs.Laws as law
use Rattle.bcj_cli_showing.specs.Laws.{StepsUp, here_already, one_more}
use Rattle.bcj_cli_showing.proofs.Climbs.{steps_at, steps_by}

abbrev Leads : Mixture → ℕ → Type 0
Leads m n = (way : List Named) (c : Named) → load_within m n way c ≡ None → is_interface m c ≡ false → StepsUp m c (steps_within n m c)

leads_by : (m : Mixture) → IsHierarchy m → (n : ℕ) → Leads m n → (way : List Named) (c : Named) (s : Shape) → found m c ≡ Some s → s.head.interface ≡ false → Loaded m n way c s
    → (o : Option Named) → s.head.superclass ≡ o → StepsUp m c (steps_by n m o)
leads_by m h n again way c s e class l None up =
    let P : Named → Type 0 = λ x. StepsUp m x 0 in
    subst P (sym (h.top c s e class up)) here_already
leads_by m h n again way c s e class l (Some p) up =
    let parts : (load_within m n (c ∷ way) p ≡ None) × (is_interface m p ≡ false) = superclass_part m (load_within m n (c ∷ way)) s.head.superclass p up l.superclass in
    one_more e up (again (c ∷ way) p parts.0 parts.1)

leads : (m : Mixture) → IsHierarchy m → (n : ℕ) → Leads m n
leads m h zero way c ok class = cc
leads m h (suc n) way c ok class =
    let t : (s : Shape) × (found m c ≡ Some s) = loaded_there m (suc n) way c ok in
    let counted : steps_within (suc n) m c ≡ steps_by n m t.0.head.superclass = ap (steps_at n m) t.1 in
    let P : ℕ → Type 0 = λ k. StepsUp m c k in
    subst P (sym counted) (leads_by m h n (leads m h n) way c t.0 t.1 (is_class m c t.0 t.1 class) (loaded m n way c t.0 t.1 ok) t.0.head.superclass refl)

pub steps_lead_to_object : law.StepsLeadToObject
steps_lead_to_object m h c ok class = leads m h (turns m) [] c ok class
