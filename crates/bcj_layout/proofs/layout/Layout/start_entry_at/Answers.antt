use Rattle.std.proofs.Common.{◌≡◌, ◌∙◌, ◌+◌, ◌*◌, ap, sym}
use Rattle.bcj_layout_rules.specs.Places.{word_size, tables_at}
use Rattle.bcj_layout.specs.EntryPlaces.{entry_number}
use Rattle.bcj_layout.proofs.EntryLemmas.{match-map, start-number-at, start-numbered, start-stands-at}
use Rattle.bcj_layout.proofs.layout.Layout.start_entry_at.Goals as goal

pub returns-in-None : goal.returns-in-None
returns-in-None c = λ e is here.
    let cs = c.args.self.now.classes in
    c.in-None.ensures (entry_number cs e) (ap (λ t. t + word_size * entry_number cs e) c.tables.ensures ∙ start-number-at cs c.args.self.now.main c.args.at e is here)

pub returns-in-Some : goal.returns-in-Some
returns-in-Some c =
    let cs = c.args.self.now.classes in
    let main = c.args.self.now.main in
    let place : tables_at cs main + word_size * c.in-Some.words ≡ c.args.at = ap (λ t. t + word_size * c.in-Some.words) (sym c.tables.ensures) ∙ c.in-Some.ensures in
    match-map c.start_entry.result _ _ _ _ (c.start_entry.ensures cs)
    (λ none e is here. none e (start-numbered cs main c.args.at c.in-Some.words e place is here))
    (λ e is. start-stands-at cs main c.args.at c.in-Some.words e place is)
