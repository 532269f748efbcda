use Rattle.std.proofs.Common.{refl, subst}
use Rattle.bcj_cli_code.specs.declared.ending.Ran.{Ran}
use Rattle.bcj_cli_code.specs.declared.ending.Cause.TheVariants.{OutOfInstructions}
use Rattle.bcj_cli_code.specs.Correct.{limit, start_state}
use Rattle.bcj_cli_code.specs.function.Execution.{IsAdvanced, IsRun}
use Rattle.bcj_cli_code.proofs.Advance.{left_begin, left_step, run_over, run_spent, run_meant}
use Rattle.bcj_cli_code.proofs.execution.execute.Goals as goal

pub loop-taken-init : goal.loop-taken-init
loop-taken-init c = left_begin (limit c.args.words.now c.args.turns) (start_state c.args.words.now c.args.turns) c.in_ok-machine.machine c.new-out.result.items c.in_ok-machine.ensures c.new-out.ensures.items

pub loop-taken-preserved : goal.loop-taken-preserved
loop-taken-preserved c =
    left_step (limit c.args.words.now c.args.turns) (start_state c.args.words.now c.args.turns) c.loop-taken._taken c.loop-taken.machine c.advance.new.machine c.loop-taken.out.items c.advance.new.out.items c.loop-taken-test.true
    (subst (λ r. IsAdvanced c.loop-taken.machine c.loop-taken.out.items r c.advance.new.machine c.advance.new.out.items) c.in_default.is c.in_ok-cause.ensures) c.loop-taken.invariant

pub returns-in-Some-clause-run : goal.returns-in-Some-clause-run
returns-in-Some-clause-run c =
    let r : Ran = record { cause = c.in-Some.cause; out = c.advance.new.out } in
    run_over c.args.words.now c.args.turns c.loop-taken._taken (limit c.args.words.now c.args.turns) c.loop-taken.machine c.advance.new.machine c.loop-taken.out.items r refl c.loop-taken-test.true
    (subst (λ x. IsAdvanced c.loop-taken.machine c.loop-taken.out.items x c.advance.new.machine c.advance.new.out.items) c.in-Some.is c.in_ok-cause.ensures) c.loop-taken.invariant

pub returns-in-Some-clause-meant : goal.returns-in-Some-clause-meant
returns-in-Some-clause-meant c =
    let r : Ran = record { cause = c.in-Some.cause; out = c.advance.new.out } in
    let is : IsRun c.args.words.now c.args.turns r = run_over c.args.words.now c.args.turns c.loop-taken._taken (limit c.args.words.now c.args.turns) c.loop-taken.machine c.advance.new.machine c.loop-taken.out.items r refl c.loop-taken-test.true
    (subst (λ x. IsAdvanced c.loop-taken.machine c.loop-taken.out.items x c.advance.new.machine c.advance.new.out.items) c.in-Some.is c.in_ok-cause.ensures) c.loop-taken.invariant in
    run_meant c.args.words.now c.args.turns r is

pub returns-clause-run : goal.returns-clause-run
returns-clause-run c =
    let r : Ran = record { cause = OutOfInstructions; out = c.loop-taken.out } in
    run_spent c.args.words.now c.args.turns c.loop-taken._taken (limit c.args.words.now c.args.turns) c.loop-taken.machine r refl c.loop-taken-test.false refl c.loop-taken.invariant

pub returns-clause-meant : goal.returns-clause-meant
returns-clause-meant c =
    let r : Ran = record { cause = OutOfInstructions; out = c.loop-taken.out } in
    let is : IsRun c.args.words.now c.args.turns r = run_spent c.args.words.now c.args.turns c.loop-taken._taken (limit c.args.words.now c.args.turns) c.loop-taken.machine r refl c.loop-taken-test.false refl c.loop-taken.invariant in
    run_meant c.args.words.now c.args.turns r is
