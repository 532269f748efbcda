use Rattle.std.proofs.Common.{subst}
use Rattle.rv_machine.specs.Machine.{State, IsMachine, exec}
use Rattle.rv_machine.proofs.Kept.{Keeps, kept, keeps_machine}
use Rattle.rv_machine.proofs.hart.Machine.step.Goals as goal

pub returns-in-Some-clause-kept : goal.returns-in-Some-clause-kept
returns-in-Some-clause-kept c =
    (subst (λ r. Keeps c.args.self.now r) c.execute.ensures (kept c.in-Some.i c.args.self.now)).on_fault

pub returns-in-Some-clause-never : goal.returns-in-Some-clause-never
returns-in-Some-clause-never c =
    (subst (λ r. Keeps c.args.self.now r) c.execute.ensures (kept c.in-Some.i c.args.self.now)).never

pub returns-in-Some-clause-memory : goal.returns-in-Some-clause-memory
returns-in-Some-clause-memory c =
    (subst (λ r. Keeps c.args.self.now r) c.execute.ensures (kept c.in-Some.i c.args.self.now)).memory

pub returns-in-Some-clause-read_only : goal.returns-in-Some-clause-read_only
returns-in-Some-clause-read_only c =
    (subst (λ r. Keeps c.args.self.now r) c.execute.ensures (kept c.in-Some.i c.args.self.now)).read_only

pub returns-in-Some-clause-machine : goal.returns-in-Some-clause-machine
returns-in-Some-clause-machine c =
    let s : State = c.args.self.now in
    let i = c.in-Some.i in
    let before = subst IsMachine c.self.view_is
    (record { registers = c.self.invariant.1; memory = c.self.invariant.2; read_only = c.self.invariant.3 }) in
    subst (λ r. IsMachine r.1) c.execute.ensures (keeps_machine s (exec i s) (kept i s) before)
