use Rattle.std.proofs.Common.{◌∙◌, ◌-◌, ◌++◌, ◌∷◌, [], ap, get_or, replicate, find, true}
use Rattle.std.specs.Option.{option_map_or}
use Rattle.bcj_layout_rules.specs.Places.{method_at, region_words}
use Rattle.bcj_linker_rows.proofs.ListLemmas.{pushed}
use Rattle.bcj_linker_rows.proofs.TableLemmas.{first_made}
use Rattle.bcj_linker_rows.proofs.tables.push_region.Goals as goal

pub returns : goal.returns
returns c =
    let r = c.args.class.now in
    λ cs main k own. pushed c.args.words.now c.push.new.self c.push_entries.new.words (replicate (region_words r - 1) 0) (option_map_or (method_at cs main k r) (find (λ m. true) r.methods) 0)
    (c.in_ok-push.ensures.ok ∙ ap (λ x. c.args.words.now ++ x ∷ []) (c.first_of.ensures ∙ (ap (λ xs. get_or xs 0 0) own ∙ first_made (method_at cs main k r) r.methods)))
    c.in_ok-push_entries.ensures
