use Rattle.std.proofs.Common.{◌∙◌, ◌++◌, ◌∷◌, [], ap}
use Rattle.bcj_hier_rules.specs.Heads.{name_of}
use Rattle.bcj_layout_rules.specs.Rows.{mixture_of}
use Rattle.bcj_layout_rules.specs.Places.{class_dispatch_at}
use Rattle.bcj_hier_rules.specs.Trees.{low, high}
use Rattle.bcj_layout_resolution.specs.Places.{heads_in}
use Rattle.bcj_layout_resolution.proofs.Records.{loads_in}
use Rattle.bcj_layout_addresses.specs.Parts.{classes_of, main_of}
use Rattle.bcj_linker_rules.specs.Memory.{slot_words}
use Rattle.bcj_linker_rows.proofs.ListLemmas.{pushed_four}
use Rattle.bcj_linker_rows.proofs.HierLemmas.{low_by_heads, high_by_heads}
use Rattle.bcj_linker_rows.proofs.rows.push_class_row.Goals as goal

pub low-requires-clause-loads : goal.low-requires-clause-loads
low-requires-clause-loads c = loads_in c.hier-hier.result.now (classes_of c.args.parts.now) c.args.class c.hier-hier.ensures ∙ c.requires.loading.loads

pub high-requires-clause-loads : goal.high-requires-clause-loads
high-requires-clause-loads c = loads_in c.hier-hier.result.now (classes_of c.args.parts.now) c.args.class c.hier-hier.ensures ∙ c.requires.loading.loads

pub returns : goal.returns
returns c =
    let cs = classes_of c.args.parts.now in
    let main = main_of c.args.parts.now in
    let class = name_of (heads_in cs) c.args.class in
    pushed_four c.args.words.now c.push.new.self c.push-2.new.self c.push-3.new.self c.push-4.new.self c.push_slots.new.words (slot_words cs main class)
    c.args.number (low (mixture_of cs) class) (high (mixture_of cs) class) (class_dispatch_at cs main c.args.number class)
    c.in_ok-push.ensures.ok
    (c.in_ok-push-2.ensures.ok ∙ ap (λ x. c.push.new.self ++ x ∷ []) (c.low.ensures ∙ low_by_heads c.hier-hier.result.now cs c.args.class c.hier-hier.ensures))
    (c.in_ok-push-3.ensures.ok ∙ ap (λ x. c.push-2.new.self ++ x ∷ []) (c.high.ensures ∙ high_by_heads c.hier-hier.result.now cs c.args.class c.hier-hier.ensures))
    (c.in_ok-push-4.ensures.ok ∙ ap (λ x. c.push-3.new.self ++ x ∷ []) c.requires.dispatch)
    c.in_ok-push_slots.ensures
