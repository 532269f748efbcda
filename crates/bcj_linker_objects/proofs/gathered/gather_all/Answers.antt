use Rattle.std.proofs.Common.{List, ℕ, [], ◌∷◌, refl, subst}
use Rattle.std.proofs.lemmas.Result.{err_from_is_err_and}
use Rattle.bcj_linker_objects.specs.Steps.{Gathers}
use Rattle.bcj_linker_objects.specs.Stops.{IsStopOf}
use Rattle.bcj_linker_objects.proofs.gathered.gather_all.Goals as goal

pub returns-in_err-gathering-clause-err : goal.returns-in_err-gathering-clause-err
returns-in_err-gathering-clause-err c =
    let p = err_from_is_err_and c.from_residual.result c.from_residual.ensures.1 in
    rw (p.1, p.2)
    (subst (λ (b : List ℕ). IsStopOf (b ∷ c.args.objects.now) c.in_err-gathering.field-0.0) c.as_slice.ensures (c.in_err-gathering.ensures.err [] c.args.objects.now refl c.nothing.ensures))

pub loop-index-init : goal.loop-index-init
loop-index-init c = subst (λ (b : List ℕ). Gathers (b ∷ []) c.in_ok-gathering.gathering) c.as_slice.ensures (c.in_ok-gathering.ensures.ok [] refl c.nothing.ensures)

pub returns-in_err-gathering-2-clause-err : goal.returns-in_err-gathering-2-clause-err
returns-in_err-gathering-2-clause-err c =
    let p = err_from_is_err_and c.from_residual-in_err-gathering-2.result c.from_residual-in_err-gathering-2.ensures.1 in
    rw (p.1, p.2) (c.in_err-gathering-2.ensures.err c.args.boot.now c.loop-index.invariant)

pub loop-index-preserved : goal.loop-index-preserved
loop-index-preserved c = c.in_ok-gathering-2.ensures.ok c.args.boot.now c.loop-index.invariant
