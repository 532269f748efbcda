use Rattle.std.proofs.Common.{◌≡◌, Some, List, ℕ, ap, sym, ◌∙◌}
use Rattle.std.specs.Prelude.{slice_get}
use Rattle.std.proofs.lemmas.Result.{MatchResult-weaker}
use Rattle.bcj_linker_objects.proofs.Rooted.{further, refused}
use Rattle.bcj_linker_objects.proofs.gathered.add_at.Goals as goal

pub returns-clause-ok : goal.returns-clause-ok
returns-clause-ok c =
    let is : slice_get c.args.objects.now c.args.index ≡ Some c.as_slice.result.now = c.in-Some.ensures.value ∙ ap (λ (b : List ℕ). Some b) (sym c.as_slice.ensures) in
    MatchResult-weaker c.add.result c.add.ensures.ok
    (λ g add boot gathers. further boot c.args.objects.now c.args.index c.as_slice.result.now c.in_ok-number.number c.args.gathering g is c.in_ok-number.ensures.number add gathers) (λ e h. h)

pub returns-clause-err : goal.returns-clause-err
returns-clause-err c =
    let is : slice_get c.args.objects.now c.args.index ≡ Some c.as_slice.result.now = c.in-Some.ensures.value ∙ ap (λ (b : List ℕ). Some b) (sym c.as_slice.ensures) in
    MatchResult-weaker c.add.result c.add.ensures.err (λ g h. h)
    (λ e stop boot gathers. refused boot c.args.objects.now c.args.index c.as_slice.result.now c.in_ok-number.number c.args.gathering e is c.in_ok-number.ensures.number stop gathers)
