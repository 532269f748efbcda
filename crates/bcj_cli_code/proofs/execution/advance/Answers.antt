use Rattle.std.proofs.Common.{subst}
use Rattle.rv_steps.specs.MachineRun.{IsStep}
use Rattle.rv_machine.specs.declared.answers.Step.TheVariants.{Went, Call, Fault}
use Rattle.bcj_cli_code.specs.Correct.{answer}
use Rattle.bcj_cli_code.specs.function.Execution.{IsAnswered}
use Rattle.bcj_cli_code.proofs.Advance.{advance_went, advance_resumed, advance_ended, advance_refused, advance_faulted}
use Rattle.bcj_cli_code.proofs.execution.advance.Goals as goal

pub returns-in-Went : goal.returns-in-Went
returns-in-Went c =
    let is : IsStep c.args.machine.now Went c.step.new.self = record { unaligned = c.in-Went.ensures.unaligned; outside = c.in-Went.ensures.outside; illegal = c.in-Went.ensures.illegal; does = c.in-Went.ensures.does } in
    advance_went _ _ c.args.out.now.items c.args.out.now.items is

pub returns-in-Fault : goal.returns-in-Fault
returns-in-Fault c =
    let is : IsStep c.args.machine.now (Fault c.in-Fault.kind) c.step.new.self = record { unaligned = c.in-Fault.ensures.unaligned; outside = c.in-Fault.ensures.outside; illegal = c.in-Fault.ensures.illegal; does = c.in-Fault.ensures.does } in
    advance_faulted _ _ c.args.out.now.items c.args.out.now.items c.in-Fault.kind is

pub returns-in-Resumed : goal.returns-in-Resumed
returns-in-Resumed c =
    let is : IsStep c.args.machine.now Call c.step.new.self = record { unaligned = c.in-Call.ensures.unaligned; outside = c.in-Call.ensures.outside; illegal = c.in-Call.ensures.illegal; does = c.in-Call.ensures.does } in
    let told = subst (λ r. IsAnswered (answer c.step.new.self c.args.out.now.items) r c.step.new.self c.args.out.now.items c.respond.new.out.items) c.in-Resumed.is c.in_ok-respond-in-Call.ensures in
    advance_resumed _ _ c.args.out.now.items c.respond.new.out.items is told

pub returns-in-Ended : goal.returns-in-Ended
returns-in-Ended c =
    let is : IsStep c.args.machine.now Call c.step.new.self = record { unaligned = c.in-Call.ensures.unaligned; outside = c.in-Call.ensures.outside; illegal = c.in-Call.ensures.illegal; does = c.in-Call.ensures.does } in
    let told = subst (λ r. IsAnswered (answer c.step.new.self c.args.out.now.items) r c.step.new.self c.args.out.now.items c.respond.new.out.items) c.in-Ended.is c.in_ok-respond-in-Call.ensures in
    advance_ended _ _ c.args.out.now.items c.respond.new.out.items c.in-Ended.ending is told

pub returns-in-Refused : goal.returns-in-Refused
returns-in-Refused c =
    let is : IsStep c.args.machine.now Call c.step.new.self = record { unaligned = c.in-Call.ensures.unaligned; outside = c.in-Call.ensures.outside; illegal = c.in-Call.ensures.illegal; does = c.in-Call.ensures.does } in
    let told = subst (λ r. IsAnswered (answer c.step.new.self c.args.out.now.items) r c.step.new.self c.args.out.now.items c.respond.new.out.items) c.in-Refused.is c.in_ok-respond-in-Call.ensures in
    advance_refused _ _ c.args.out.now.items c.respond.new.out.items is told.0 told.1
