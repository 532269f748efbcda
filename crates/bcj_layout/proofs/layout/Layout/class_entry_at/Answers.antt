use Rattle.std.proofs.Common.{◌∙◌, ◌+◌, ◌*◌, ap}
use Rattle.bcj_layout_rules.specs.Places.{word_size}
use Rattle.bcj_layout.specs.EntryPlaces.{entry_number}
use Rattle.bcj_layout.proofs.EntryLemmas.{number-at}
use Rattle.bcj_layout.proofs.layout.Layout.class_entry_at.Goals as goal

pub returns-in-None : goal.returns-in-None
returns-in-None c = λ e is here.
    let cs = c.args.self.now.classes in
    c.in-None.ensures (entry_number cs e + 1)
    (ap (λ t. t + word_size * (entry_number cs e + 1)) c.region.ensures ∙ number-at cs c.args.self.now.main c.args.c c.args.at e is here)
