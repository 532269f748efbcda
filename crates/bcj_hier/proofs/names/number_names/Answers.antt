use Rattle.std.proofs.Common.{◌≡◌, ◌+◌, ◌∙◌, ℕ, suc, take, length, slice_get, Some, refl, sym, subst, arith}
use Rattle.std.proofs.lemmas.Option.{slice_get_read}
use Rattle.bcj_hier_rules.specs.Heads.{AreDistinct}
use Rattle.bcj_hier.specs.Numbers.{names_of}
use Rattle.bcj_hier.proofs.Repeats.{first_repeat, stop_of, one_more_name, one_more_distinct}
use Rattle.bcj_hier.proofs.names.number_names.Goals as goal

pub returns-in-Some-clause-err : goal.returns-in-Some-clause-err
returns-in-Some-clause-err c =
    let there : slice_get c.args.heads.now c.loop-second.second ≡ Some c.index-heads-second.result =
    slice_get_read c.args.heads.now (length c.args.heads.now) c.loop-second.second c.index-heads-second.result refl c.loop-second-test.true c.index-heads-second.is in
    stop_of c.args.heads.now c.index-heads-second.result.name c.in-Some.first c.loop-second.second c.in_ok-duplicate-in-Some.field-0 c.in_ok-duplicate-in-Some.ensures
    (first_repeat c.args.heads.now c.loop-second.names c.in-Some.first c.loop-second.second c.index-heads-second.result there c.loop-second.invariant.named c.loop-second.invariant.distinct
    (sym c.in-Some.is ∙ c.in_ok-add.ensures.absent))

pub loop-second-preserved : goal.loop-second-preserved
loop-second-preserved c =
    let there : slice_get c.args.heads.now c.loop-second.second ≡ Some c.index-heads-second.result =
    slice_get_read c.args.heads.now (length c.args.heads.now) c.loop-second.second c.index-heads-second.result refl c.loop-second-test.true c.index-heads-second.is in
    let next : suc c.loop-second.second ≡ c.loop-second.second + 1 = omega arith in
    record {
      named =
          subst (λ (n : ℕ). c.add.new.self ≡ names_of (take n c.args.heads.now)) next
          (one_more_name c.args.heads.now c.loop-second.names c.add.new.self c.loop-second.second c.index-heads-second.result there c.loop-second.invariant.named (c.in_ok-add.ensures.added c.in-None.is));
      distinct =
          subst (λ (n : ℕ). AreDistinct (take n c.args.heads.now)) next
          (one_more_distinct c.args.heads.now c.loop-second.names c.loop-second.second c.index-heads-second.result there c.loop-second.invariant.named c.loop-second.invariant.distinct
          (sym c.in-None.is ∙ c.in_ok-add.ensures.absent));
    }
