use Rattle.std.proofs.Common.{ℕ, List, subst}
use Rattle.bcj_layout_entries.proofs.Lookups.{IsWord, static-word, offset-word}
use Rattle.bcj_layout_entries.proofs.lookup.field_place.Goals as goal

pub returns-clause-static_fields : goal.returns-clause-static_fields
returns-clause-static_fields c =
    let P : List (List ℕ) → Type 0 = λ lists. IsWord lists c.args.field.class.0 c.args.field.field c.word_of.result in
    λ cs main x are is it. static-word cs main c.args.addresses.now c.args.field x c.word_of.result are is (subst P c.as_slice.ensures c.word_of.ensures) it

pub returns-clause-other_fields : goal.returns-clause-other_fields
returns-clause-other_fields c =
    let P : List (List ℕ) → Type 0 = λ lists. IsWord lists c.args.field.class.0 c.args.field.field c.word_of.result in
    λ cs main x are is other loaded.
    offset-word cs main c.args.addresses.now c.args.field x c.word_of.result are is (subst P c.as_slice.ensures c.word_of.ensures) other loaded
