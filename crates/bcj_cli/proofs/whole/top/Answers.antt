use Rattle.bcj_edge.specs.Causes.{Rose}
use Rattle.bcj_cli.proofs.Statuses.{run_status, stop_status, stop_refused}
use Rattle.bcj_cli.proofs.whole.top.Goals as goal

pub returns-in-Ok-run_source-clause-status : goal.returns-in-Ok-run_source-clause-status
returns-in-Ok-run_source-clause-status g c =
    run_status (g.F.Files.held c.args.files.now) c.args.words.now _ _ _ _ _ (Rose (g.F.Files.read_faults c.args.files.now) (g.F.Files.read_faults c.read.new.self))
    c.in-Some.ensures c.in-Ok.ensures.ok.1 c.in-Ok.ensures.ok.0 (rw c.as_slice.ensures at c.in-Ok-run_source.ensures.ok) c.finish.ensures.status

pub returns-clause-refused : goal.returns-clause-refused
returns-clause-refused g c =
    λ uncompiled. stop_refused _ _ _ _ _ _ _ _ (record { asks = c.in-Some.ensures; has = c.in-Ok.ensures.ok.1; short = c.in-Ok.ensures.ok.0 })
    (rw c.as_slice.ensures at c.in-Err-run_source.ensures.stopped) c.refuse_source.ensures.status c.refuse_source.ensures.told

pub returns-clause-status : goal.returns-clause-status
returns-clause-status g c =
    stop_status (g.F.Files.held c.args.files.now) c.args.words.now _ _ _ _ (Rose (g.F.Files.read_faults c.args.files.now) (g.F.Files.read_faults c.read.new.self))
    c.in-Some.ensures c.in-Ok.ensures.ok.1 c.in-Ok.ensures.ok.0 (rw c.as_slice.ensures at c.in-Err-run_source.ensures.stopped) c.refuse_source.ensures.status
