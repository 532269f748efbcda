use Rattle.std.proofs.Common.{arith, ◌≡◌, ◌<◌, ℕ, Some, slice_get, get_or, List, length, refl, subst, ◌∙◌, ap}
use Rattle.std.proofs.lemmas.Option.{slice_get_read}
use Rattle.std.proofs.lemmas.List.{length-map}
use Rattle.bcj_layout_entries.specs.declared.entries.Entry.{Entry}
use Rattle.bcj_layout_entries.specs.Entries.{AreEntries}
use Rattle.bcj_layout.specs.LaidOut.{LaidOut}
use Rattle.bcj_layout.proofs.layout.Layout.entries.Goals as goal

pub returns : goal.returns
returns c = λ r there.
    let all : List (List Entry) = c.self.inside.entries in
    let k : ℕ = c.args.c.0 in
    let P : LaidOut → Type 0 = λ l. AreEntries l.classes l.main r c.as_slice-2.result.now in
    let same : c.as_slice.result.now ≡ all = c.as_slice.ensures in
    let read : c.as_slice-2.result.now ≡ get_or all k c.as_slice-2.result.now = cc (c.index-as_slice-c.is, same, c.as_slice-2.ensures) in
    let classes : c.self.inside.resolver ≡ c.args.self.now.classes = ap (λ (l : LaidOut). l.classes) c.self.view_is in
    let within : k < length all = omega (arith, c.requires, c.self.invariant.entries_are.count, ap (λ cs. length cs) classes, length-map c.args.self.now.classes (λ d. d.head)) in
    let given : slice_get all k ≡ Some c.as_slice-2.result.now = slice_get_read all (length all) k c.as_slice-2.result.now refl within read in
    let class : slice_get c.self.inside.resolver k ≡ Some r = ap (λ cs. slice_get cs k) classes ∙ there in
    subst P c.self.view_is (c.self.invariant.entries_are.each k r c.as_slice-2.result.now class given)
