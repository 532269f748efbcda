use Rattle.std.proofs.Common.{◌∙◌, ◌<◌, ap, sym, subst, ℕ, length, slice_get, get_or, Ok, None}
use Rattle.std.proofs.lemmas.Option.{slice_get-get_or}
use Rattle.bcj_layout_entries.specs.declared.entries.Entry.{Entry}
use Rattle.bcj_layout.specs.EntryPlaces.{results_in, classes_in}
use Rattle.bcj_layout.proofs.EntryLemmas.{number-within, read-within, read-class}
use Rattle.bcj_layout.proofs.layout.Layout.entry_of.Goals as goal

pub returns-clause-class : goal.returns-clause-class
returns-clause-class c =
    let cs = c.args.self.now.classes in
    let main = c.args.self.now.main in
    let e = c.args.e in
    let es = c.region_entries-entries.result.now in
    let n = c.entry_number.result in
    let none : Entry = record { word = Ok 0; class = None } in
    let below : n < length (results_in cs main e.class) = subst (λ (k : ℕ). k < length (results_in cs main e.class)) (sym c.entry_number.ensures) (number-within cs main e.class e.table e.index c.requires) in
    let within : n < length es = read-within cs main e.class es n c.region_entries-entries.ensures below in
    ap (slice_get (classes_in cs main e.class)) (sym c.entry_number.ensures)
    ∙ read-class cs main e.class es n (get_or es n none) c.region_entries-entries.ensures (slice_get-get_or es n none within)
