-- What a cast is, by three tests.
use Rattle.std.proofs.Common.{◌≡◌, Bool, cond, ◌∙◌, ap}
use Rattle.bcj_typing_rules.specs.Casting.{CastForm, of_same, of_supertype, of_other, no_cast}

abbrev pub form_by : Bool → Bool → Bool → CastForm
form_by same fits goes = cond same of_same (cond fits of_supertype (cond goes of_other no_cast))

-- tests with the same answers
pub form_same : (same fits goes s f g : Bool) → same ≡ s → fits ≡ f → goes ≡ g → form_by same fits goes ≡ form_by s f g
form_same same fits goes s f g a b c = ap (λ x. form_by x fits goes) a ∙ (ap (λ x. form_by s x goes) b ∙ ap (λ x. form_by s f x) c)
