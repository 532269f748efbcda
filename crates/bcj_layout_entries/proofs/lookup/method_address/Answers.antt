use Rattle.std.proofs.Common.{ℕ, List, subst}
use Rattle.bcj_layout_entries.proofs.Lookups.{IsWord, method-word}
use Rattle.bcj_layout_entries.proofs.lookup.method_address.Goals as goal

pub returns : goal.returns
returns c =
    let P : List (List ℕ) → Type 0 = λ lists. IsWord lists c.args.method.class.0 c.args.method.method c.word_of.result in
    λ cs main x are is. method-word cs main c.args.addresses.now c.args.method x c.word_of.result are is (subst P c.as_slice.ensures c.word_of.ensures)
