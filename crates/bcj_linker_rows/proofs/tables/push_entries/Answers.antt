use Rattle.std.proofs.Common.{◌≡◌, ◌∙◌, ◌+◌, ◌++◌, ap, replicate}
use Rattle.bcj_linker_rows.proofs.ListLemmas.{zeros_behind}
use Rattle.bcj_linker_rows.proofs.TableLemmas.{entry_count}
use Rattle.bcj_linker_rows.proofs.tables.push_entries.Goals as goal

pub returns : goal.returns
returns c =
    let w = c.args.words.now in
    let w1 = c.push_zeros.new.words in
    let w2 = c.push_zeros-2.new.words in
    let w3 = c.push_zeros-3.new.words in
    let w4 = c.push_zeros-4.new.words in
    let two : w2 ≡ w ++ replicate (c.len.result + c.len-2.result) 0 = zeros_behind w w1 w2 c.len.result c.len-2.result c.in_ok-push_zeros.ensures c.in_ok-push_zeros-2.ensures in
    let three : w3 ≡ w ++ replicate (c.len.result + c.len-2.result + c.len-3.result) 0 = zeros_behind w w2 w3 (c.len.result + c.len-2.result) c.len-3.result two c.in_ok-push_zeros-3.ensures in
    zeros_behind w w3 w4 (c.len.result + c.len-2.result + c.len-3.result) c.len-4.result three c.in_ok-push_zeros-4.ensures
    ∙ ap (λ n. w ++ replicate n 0) (entry_count c.args.class.now c.len.result c.len-2.result c.len-3.result c.len-4.result c.len.ensures c.len-2.ensures c.len-3.ensures c.len-4.ensures)
