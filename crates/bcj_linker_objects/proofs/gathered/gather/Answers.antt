use Rattle.std.proofs.Common.{◌∷◌}
use Rattle.std.proofs.lemmas.Result.{err_from_is_err_and, MatchResult-weaker}
use Rattle.bcj_linker_objects.proofs.Refused.{stop_behind_boot}
use Rattle.bcj_linker_objects.proofs.Rooted.{rooted, finish_stops, finished_counts, finished_classes, finished_rooted}
use Rattle.bcj_linker_objects.proofs.gathered.gather.Goals as goal

pub returns-in_err-gathering-clause-err : goal.returns-in_err-gathering-clause-err
returns-in_err-gathering-clause-err c =
    let p = err_from_is_err_and c.from_residual.result c.from_residual.ensures.1 in
    rw (p.1, p.2) (stop_behind_boot c.args.boot.now c.args.objects.now c.requires.boot.0 c.in_err-gathering.field-0.0 c.requires.boot.1.0 c.in_err-gathering.ensures.err)

pub finish-requires-clause-rooted : goal.finish-requires-clause-rooted
finish-requires-clause-rooted c =
    rooted c.args.boot.now c.args.objects.now c.requires.boot.0 c.in_ok-gathering.gathering c.requires.boot.1.0 c.requires.boot.1.1 c.in_ok-gathering.ensures.ok

pub returns-clause-err : goal.returns-clause-err
returns-clause-err c = MatchResult-weaker c.finish.result c.finish.ensures.err (λ g h. h) (finish_stops c.args.boot.now c.args.objects.now c.in_ok-gathering.gathering c.in_ok-gathering.ensures.ok)

pub returns-clause-counts : goal.returns-clause-counts
returns-clause-counts c = MatchResult-weaker c.finish.result c.finish.ensures.ok (finished_counts (c.args.boot.now ∷ c.args.objects.now) c.in_ok-gathering.gathering c.in_ok-gathering.ensures.ok) (λ e h. h)

pub returns-clause-classes : goal.returns-clause-classes
returns-clause-classes c = MatchResult-weaker c.finish.result c.finish.ensures.ok (finished_classes (c.args.boot.now ∷ c.args.objects.now) c.in_ok-gathering.gathering c.in_ok-gathering.ensures.ok) (λ e h. h)

pub returns-clause-rooted : goal.returns-clause-rooted
returns-clause-rooted c =
    MatchResult-weaker c.finish.result c.finish.ensures.ok
    (finished_rooted c.args.boot.now c.args.objects.now c.requires.boot.0 c.in_ok-gathering.gathering c.requires.boot.1.0 c.requires.boot.1.1 c.in_ok-gathering.ensures.ok) (λ e h. h)
