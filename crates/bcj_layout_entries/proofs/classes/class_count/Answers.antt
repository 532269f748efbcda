use Rattle.std.proofs.Common.{◌∙◌, sym, ap, length}
use Rattle.std.proofs.lemmas.List.{length-map}
use Rattle.bcj_hier_rules.specs.Heads.{name_of}
use Rattle.bcj_layout_resolution.specs.Places.{heads_in}
use Rattle.bcj_layout_entries.proofs.classes.class_count.Goals as goal

pub returns : goal.returns
returns c =
    c.len.ensures ∙ (sym (length-map c.args.parts.now.places.now.loaded (name_of (heads_in c.args.parts.now.resolver.now))) ∙ ap length c.requires.places.types)
