use Rattle.std.proofs.Common.{◌≡◌, ◌<◌, ◌≤◌, ◌-◌, ℕ, suc, List, drop, length, slice_get, Some, refl, sym, subst, arith}
use Rattle.std.proofs.lemmas.List.{drop_all}
use Rattle.std.proofs.lemmas.Option.{slice_get_read}
use Rattle.bcj_tables_rules.specs.declared.records.MethodRecord.{MethodRecord}
use Rattle.bcj_layout_addresses.specs.Finding.{HasFirst}
use Rattle.bcj_layout_addresses.proofs.FirstWords.{first_none, first_more}
use Rattle.bcj_layout_addresses.proofs.finding.first_words.Goals as goal

pub loop-k-init : goal.loop-k-init
loop-k-init c =
    let methods : List MethodRecord = c.args.methods.now in
    let all : length methods ≤ length methods = omega arith in
    record {
      within = all;
      first = first_none c.args.class.now c.args.text methods (drop (length methods) methods) c.new-found.result (drop_all (length methods) methods all) c.new-found.ensures.empty;
    }

pub loop-k-preserved : goal.loop-k-preserved
loop-k-preserved c =
    let methods : List MethodRecord = c.args.methods.now in
    let k : ℕ = c.loop-k.k - 1 in
    let m : MethodRecord = c.index-methods-k.result in
    let within : c.loop-k.k ≤ length c.args.methods.now = c.loop-k.invariant.within in
    let inside : c.loop-k.k - 1 < length c.args.methods.now = omega (arith, within, c.loop-k-test.true) in
    let next : suc (c.loop-k.k - 1) ≡ c.loop-k.k = omega (arith, c.loop-k-test.true) in
    let read : slice_get methods k ≡ Some m = slice_get_read methods (length methods) k m refl inside c.index-methods-k.is in
    let P : ℕ → Type 0 = λ n. HasFirst c.args.class.now c.args.text c.args.methods.now (drop n c.args.methods.now) c.loop-k.found in
    record {
      within = omega (arith, inside);
      first = first_more c.args.class.now c.args.text methods k m c.loop-k.found c.put.new.found c.key_of.result c.in_ok-word.word read c.key_of.ensures c.in_ok-word.ensures c.in_ok-put.ensures
          (subst P (sym next) c.loop-k.invariant.first);
    }
