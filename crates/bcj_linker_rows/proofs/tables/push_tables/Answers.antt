use Rattle.std.proofs.Common.{◌≡◌, ◌∙◌, ◌++◌, ap, sym, length, slice_get, Some, arith}
use Rattle.std.proofs.lemmas.Option.{slice_get_read, get_or_from_slice_get}
use Rattle.bcj_layout_addresses.specs.Addresses.{own_addresses}
use Rattle.bcj_layout_addresses.specs.Parts.{classes_of, main_of}
use Rattle.bcj_linker_rules.specs.Memory.{regions_from}
use Rattle.bcj_linker_rows.proofs.TableLemmas.{region_step}
use Rattle.bcj_linker_rows.proofs.tables.push_tables.Goals as goal

pub loop-k-preserved : goal.loop-k-preserved
loop-k-preserved c =
    let cs = classes_of c.args.parts.now in
    let main = main_of c.args.parts.now in
    let k = c.loop-k.k in
    let rs = c.as_slice-classes.result.now in
    let r = c.index-classes-k.result in
    let lists = c.as_slice-addresses.result.now in
    let same : rs ≡ cs = c.as_slice-classes.ensures ∙ c.records.ensures in
    let there : slice_get rs k ≡ Some r = slice_get_read rs (length rs) k r (omega arith) c.loop-k-test.true c.index-classes-k.is in
    let there_too : slice_get cs k ≡ Some r = sym (ap (λ xs. slice_get xs k) same) ∙ there in
    let own : slice_get lists k ≡ Some (own_addresses cs main k r) = ap (λ xs. slice_get xs k) c.as_slice-addresses.ensures ∙ c.requires.addresses.own k r there_too in
    let addresses : c.index-addresses-k.result ≡ own_addresses cs main k r =
    c.index-addresses-k.is ∙ get_or_from_slice_get lists k (own_addresses cs main k r) c.index-addresses-k.result own in
    region_step cs main k rs r c.loop-k.words c.push_region.new.words (c.push_zeros.new.words ++ regions_from cs main 0 rs) there
    (c.in_ok-push_region.ensures cs main k (c.as_slice.ensures ∙ addresses))
    c.loop-k.invariant
