-- What a class that loads is below loads.
use Rattle.std.proofs.Common.{◌≡◌, Some, None, false, inl, inr}
use Rattle.std.proofs.lemmas.Bool.{cases_Bool}
use Rattle.bcj_hier_rules.specs.declared.link_error.LinkError.{LinkError}
use Rattle.bcj_hier_rules.specs.Shapes.{Named, Mixture}
use Rattle.bcj_hier_rules.specs.Loading.{load_error, Below, same, step, is_below}
use Rattle.bcj_hier_soundness.proofs.Steps.{each_class_below_is_found}
use Rattle.bcj_hier_soundness.proofs.Loads.{superclasses_load}

-- each class on the way loads
below_loads : {m : Mixture} {c d : Named} → Below m c d → load_error m c ≡ None → load_error m d ≡ None
below_loads (same e class) loads = loads
below_loads {m} (step {c = c} {p = p} {s = s} e class up rest) loads = below_loads rest (superclasses_load m c p s loads e up).0

-- a class that loads not_so below one that doesn't
pub above_fails : (m : Mixture) (c d : Named) (e : LinkError) → load_error m c ≡ None → Some e ≡ load_error m d → false ≡ is_below m c d
above_fails m c d e loads fails = elim (cases_Bool (is_below m c d)) [
  | inl so ↦ let fine : load_error m d ≡ None = below_loads ((each_class_below_is_found m c d).0 so) loads in cc
  | inr not_so ↦ cc
]
