use Rattle.std.proofs.Common.{◌≡◌, ℕ, List, slice_get, Some, subst, string_bytes}
use Rattle.bcj_tables_rules.specs.declared.records.MethodRecord.{MethodRecord}
use Rattle.bcj_tables_rules.specs.declared.records.ClassRecord.{ClassRecord}
use Rattle.bcj_layout_rules.specs.Places.{method_at}
use Rattle.bcj_layout.specs.LaidOut.{LaidOut}
use Rattle.bcj_layout.proofs.MemberLemmas.{IsWord, own_word}
use Rattle.bcj_layout.proofs.layout.Layout.method_at.Goals as goal

pub returns : goal.returns
returns c =
    let k : ℕ = c.args.c.0 in
    let word : ℕ = c.word_of.result in
    let P : List (List ℕ) → Type 0 = λ lists. IsWord lists k c.args.method word in
    let is : IsWord c.self.inside.addresses.own k c.args.method word = subst P c.as_slice.ensures c.word_of.ensures in
    let Q : LaidOut → Type 0 = λ l. (r : ClassRecord) (m : MethodRecord) → slice_get l.classes k ≡ Some r → slice_get r.methods c.args.method ≡ Some m → word ≡ method_at l.classes l.main k r m in
    subst Q c.self.view_is (λ r m class there. own_word c.self.inside.resolver (string_bytes c.self.inside.main) c.self.inside.addresses k c.args.method word r m c.self.invariant.addresses is class there)
