use Rattle.std.proofs.Common.{◌≡◌, ◌<◌, ◌∙◌, ℕ, List, Option, None, length, get_or, ap, sym, subst}
use Rattle.std.specs.Option.{unwrap_or}
use Rattle.bcj_layout_rules.specs.Rows.{loaded}
use Rattle.bcj_layout_places.specs.Places.{ArePlaces}
use Rattle.bcj_layout.specs.LaidOut.{LaidOut}
use Rattle.bcj_layout.specs.RowTypes.{class_number}
use Rattle.bcj_layout.proofs.RowLemmas.{class-read, loading-number}
use Rattle.bcj_layout.proofs.layout.Layout.class_number.Goals as goal

pub returns-clause-number : goal.returns-clause-number
returns-clause-number c =
    let P : LaidOut → Type 0 = λ l. ArePlaces l.classes l.main c.self.inside.places in
    let places : ArePlaces c.args.self.now.classes c.args.self.now.main c.self.inside.places = subst P c.self.view_is c.self.invariant.places in
    class-read c.args.self.now.classes c.self.inside.places.row_numbers c.args.c c.unwrap_or.result places.row_numbers c.requires
    (c.unwrap_or.ensures ∙ ap (λ (l : List (Option ℕ)). unwrap_or (get_or l c.args.c.0 None) 0) c.as_slice.ensures)

pub returns-clause-within : goal.returns-clause-within
returns-clause-within c =
    let P : LaidOut → Type 0 = λ l. ArePlaces l.classes l.main c.self.inside.places in
    let places : ArePlaces c.args.self.now.classes c.args.self.now.main c.self.inside.places = subst P c.self.view_is c.self.invariant.places in
    let number : c.unwrap_or.result ≡ class_number c.args.self.now.classes c.args.c =
    class-read c.args.self.now.classes c.self.inside.places.row_numbers c.args.c c.unwrap_or.result places.row_numbers c.requires
    (c.unwrap_or.ensures ∙ ap (λ (l : List (Option ℕ)). unwrap_or (get_or l c.args.c.0 None) 0) c.as_slice.ensures) in
    let Q : ℕ → Type 0 = λ n. n < length (loaded c.args.self.now.classes) in
    subst Q (sym number) (loading-number c.args.self.now.classes c.args.c c.requires).within
