use Rattle.bcj_linker_code.proofs.Objects.{next_formed, one_put}
use Rattle.bcj_linker_code.proofs.code.push_code.Goals as goal

pub loop-gathered-preserved : goal.loop-gathered-preserved
loop-gathered-preserved c = λ cs main places objects.
    let put = c.loop-gathered.invariant cs main places objects in
    let formed = next_formed cs main c.args.objects.now c.args.words.now c.loop-gathered.words c.loop-gathered.gathered-index c.loop-gathered.first c.gathered-item.result c.loop-gathered-test.true c.gathered-item.is put in
    one_put cs main c.args.objects.now c.args.words.now c.loop-gathered.words c.push_object.new.words c.loop-gathered.gathered-index c.loop-gathered.first c.in_ok-first.first c.gathered-item.result
    c.loop-gathered-test.true c.gathered-item.is (c.in_ok-push_object.ensures cs main places formed) c.in_ok-first.ensures put
