use Rattle.bcj_linker_code.proofs.Parted.{one_passed, not_yet}
use Rattle.bcj_linker_code.proofs.object.take_relocation.Goals as goal

pub returns-in-Some-clause-found : goal.returns-in-Some-clause-found
returns-in-Some-clause-found c =
    let there = c.in-Some.ensures.lookup.3 in
    λ h. (one_passed c.args.relocations.now c.args.passed.now c.args.at c.in-Some.r.now there.0 (there.1 c.in-Some.r.now) c.if-r-at.true h).found

pub returns-in-Some-clause-parted : goal.returns-in-Some-clause-parted
returns-in-Some-clause-parted c =
    let there = c.in-Some.ensures.lookup.3 in
    λ h. (one_passed c.args.relocations.now c.args.passed.now c.args.at c.in-Some.r.now there.0 (there.1 c.in-Some.r.now) c.if-r-at.true h).parted

pub returns-in_default-clause-found : goal.returns-in_default-clause-found
returns-in_default-clause-found c =
    let there = c.in-Some.ensures.lookup.3 in
    λ h. (not_yet c.args.relocations.now c.args.passed.now c.args.at c.in-Some.r.now there.0 (there.1 c.in-Some.r.now) c.if-r-at.false h).found

pub returns-in_default-clause-parted : goal.returns-in_default-clause-parted
returns-in_default-clause-parted c =
    let there = c.in-Some.ensures.lookup.3 in
    λ h. (not_yet c.args.relocations.now c.args.passed.now c.args.at c.in-Some.r.now there.0 (there.1 c.in-Some.r.now) c.if-r-at.false h).parted
