-- `same_pair` decides `≡`, so that it tells steps apart and equal ones have equal hashes.
use Rattle.std.proofs.Common.{◌≡◌, ap, IsTrue}
use Rattle.std.specs.Bool.{Decides}
use Rattle.std.specs.Cmp.{IsEquivalence, IsPartialEquivalence, decided, on_equiv, partial_equiv_from_equiv}
use Rattle.std.proofs.lemmas.Bool.Decides.{Decides-and, Decides-like}
use Rattle.bcj_symbolic_trees.proofs.SameLemmas.{same_type-Decides}
use Rattle.bcj_symbolic_trees.specs.Units.{PlainPair}
use Rattle.bcj_typing_rules.specs.Members.{same_pair}
use Rattle.bcj_typing_member.specs.declared.pairs.Step.{Step}
use Rattle.bcj_typing_member.specs.Steps.{step_of, step_writes}

pub same_pair-Decides : (p q : PlainPair) → Decides (same_pair p q) (p ≡ q)
same_pair-Decides p q =
    Decides-like (same_pair p q)
    (λ e. λ i. record { from = e.0 i; to = e.1 i })
    (λ e. (ap (λ r. r.from) e, ap (λ r. r.to) e))
    (Decides-and _ _ (same_type-Decides p.from q.from) (same_type-Decides p.to q.to))

pub steps_equivalence : IsEquivalence (λ (x y : Step). same_pair (step_of x) (step_of y))
steps_equivalence = on_equiv step_of (decided same_pair same_pair-Decides)

pub steps_partial : IsPartialEquivalence (λ (x y : Step). same_pair (step_of x) (step_of y))
steps_partial = partial_equiv_from_equiv steps_equivalence

pub steps_respect : (x y : Step) → IsTrue (same_pair (step_of x) (step_of y)) → step_writes (step_of x) ≡ step_writes (step_of y)
steps_respect x y h = ap step_writes ((same_pair-Decides (step_of x) (step_of y)).0 h)
