use Rattle.std.proofs.Common.{◌≡◌, ◌∙◌, ◌<◌, ap, subst, refl, ℕ, Option, Some, None, get_or}
use Rattle.std.proofs.lemmas.List.{length-map}
use Rattle.std.proofs.lemmas.Option.{get_or_from_slice_get}
use Rattle.std.specs.Option.{option_map_or, unwrap_or}
use Rattle.bcj_symbolic_trees.specs.Types.{class_type}
use Rattle.bcj_hier_rules.specs.Heads.{name_of}
use Rattle.bcj_layout_members.proofs.Elements.{some_at}
use Rattle.bcj_layout_rules.specs.Rows.{row_number}
use Rattle.bcj_layout_resolution.specs.Places.{heads_in}
use Rattle.bcj_layout_entries.proofs.Words.{row-named}
use Rattle.bcj_layout_entries.proofs.classes.class_row.Goals as goal

-- 0 where there is none
or-zero : (o : Option ℕ) → unwrap_or o 0 ≡ option_map_or (λ n. n) o 0
or-zero None = refl
or-zero (Some n) = refl

pub returns : goal.returns
returns c =
    let cs = c.args.parts.now.resolver.now in
    let k = c.args.class.0 in
    let row : Option ℕ = row_number cs (class_type (name_of (heads_in cs) c.args.class)) in
    let P : ℕ → Type 0 = λ n. k < n in
    let there = some_at cs k (subst P (length-map cs (λ x. x.head)) c.requires.there) in
    let read : get_or c.args.parts.now.places.now.row_numbers k None ≡ row =
    get_or_from_slice_get c.args.parts.now.places.now.row_numbers k row None (row-named cs c.args.parts.now.places.now.row_numbers c.args.class there.0 c.requires.parts.places.row_numbers there.1) in
    c.unwrap_or.ensures ∙ (ap (λ l. unwrap_or (get_or l k None) 0) c.as_slice.ensures ∙ (ap (λ o. unwrap_or o 0) read ∙ or-zero row))
