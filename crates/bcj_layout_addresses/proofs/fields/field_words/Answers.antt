use Rattle.std.proofs.Common.{◌∙◌, ap, map}
use Rattle.std.proofs.lemmas.Result.{IfOk-weaker}
use Rattle.bcj_hier_rules.specs.Heads.{name_of}
use Rattle.bcj_layout_rules.specs.Rows.{Classes, mixture_of}
use Rattle.bcj_layout_rules.specs.Members.{field_number}
use Rattle.bcj_layout_resolution.specs.Places.{heads_in}
use Rattle.bcj_layout_addresses.specs.Lists.{place_in}
use Rattle.bcj_layout_addresses.proofs.Placing.{fields_at}
use Rattle.bcj_layout_addresses.proofs.fields.field_words.Goals as goal

pub returns : goal.returns
returns c =
    IfOk-weaker c.places_of.result _ _
    (λ ws e. λ r there.
    e
    ∙ (ap
    (λ (cs : Classes). map (place_in c.args.statics c.is_loaded-is_loaded.result (field_number (mixture_of cs) (name_of (heads_in cs) c.args.class)) c.fields_of-fields.result.now) c.fields_of-fields.result.now)
    c.requires.same
    ∙ fields_at c.args.resolver.now c.args.class c.args.statics c.is_loaded-is_loaded.result c.fields_of-fields.result.now r there c.is_loaded-is_loaded.ensures c.fields_of-fields.ensures))
    c.places_of.ensures
