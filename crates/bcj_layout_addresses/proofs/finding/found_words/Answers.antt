use Rattle.std.proofs.Common.{◌≡◌, ◌<◌, ◌∙◌, length, slice_get, Some, refl, sym, ap, arith}
use Rattle.std.proofs.lemmas.Option.{slice_get_read}
use Rattle.bcj_tables_rules.specs.declared.records.MethodRecord.{MethodRecord}
use Rattle.bcj_layout_addresses.specs.Lists.{found_at}
use Rattle.bcj_layout_addresses.proofs.Growing.{one_more}
use Rattle.bcj_layout_addresses.proofs.FirstWords.{found_word}
use Rattle.bcj_layout_addresses.proofs.finding.found_words.Goals as goal

pub loop-method-preserved : goal.loop-method-preserved
loop-method-preserved c =
    let methods = c.args.methods.now in
    let k = c.loop-method.method-index in
    let item : MethodRecord = c.method-item.result in
    let inside : c.loop-method.method-index < length c.args.methods.now = omega arith in
    let read : slice_get methods k ≡ Some item = slice_get_read methods (length methods) k item refl inside c.method-item.is in
    one_more (found_at c.args.text methods) methods k c.loop-method.words c.push.new.self c.word_of.result inside c.in_ok-push.ensures.ok
    (λ m e.
    let both : Some item ≡ Some m = sym read ∙ e in
    let same : item ≡ m = cc in
    c.word_of.ensures
    ∙ (found_word c.args.class.now c.args.text methods item c.in_ok-found.found c.key_of.result c.in_ok-found.ensures c.key_of.ensures ∙ ap (found_at c.args.text methods) same))
    ∙ c.loop-method.invariant
