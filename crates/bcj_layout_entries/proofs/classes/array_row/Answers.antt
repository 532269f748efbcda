use Rattle.std.proofs.Common.{◌≡◌, ◌∙◌, ◌+◌, sym, ap, ℕ, length, position, Option}
use Rattle.std.proofs.lemmas.Result.{IfOk-weaker}
use Rattle.std.specs.Option.{option_map_or}
use Rattle.bcj_symbolic_trees.specs.Types.{ty_of}
use Rattle.bcj_symbolic_trees.specs.Same.{same_type}
use Rattle.bcj_layout_rules.specs.Rows.{loaded, row_number}
use Rattle.bcj_layout_entries.proofs.Words.{behind}
use Rattle.bcj_layout_entries.proofs.classes.array_row.Goals as goal
use Rattle.bcj_layout_entries.proofs.classes.array_row.Goals.{After-number}

-- the number of the row, by the place among the array types that was found
by-place : (c : After-number) → option_map_or (λ n. n) (row_number c.args.parts.now.resolver.now (ty_of c.args.ty.now)) 0 ≡ option_map_or (λ k. length (loaded c.args.parts.now.resolver.now) + k) c.number.result 0
by-place c =
    let cs = c.args.parts.now.resolver.now in
    let t = ty_of c.args.ty.now in
    behind cs t c.requires.plain
    ∙ ap (λ (o : Option ℕ). option_map_or (λ k. length (loaded cs) + k) o 0) (ap (position (same_type t)) (sym c.requires.parts.arrays) ∙ sym c.number.ensures)

pub returns-in-None : goal.returns-in-None
returns-in-None c =
    let cs = c.args.parts.now.resolver.now in
    sym (by-place (goal.at.returns-in-None c).After-number ∙ ap (λ (o : Option ℕ). option_map_or (λ k. length (loaded cs) + k) o 0) c.in-None.is)

pub returns-in-Some : goal.returns-in-Some
returns-in-Some c =
    let cs = c.args.parts.now.resolver.now in
    IfOk-weaker c.behind_classes.result _ _
    (λ n h. h ∙ sym (by-place (goal.at.returns-in-Some c).After-number ∙ ap (λ (o : Option ℕ). option_map_or (λ k. length (loaded cs) + k) o 0) c.in-Some.is)) c.behind_classes.ensures
