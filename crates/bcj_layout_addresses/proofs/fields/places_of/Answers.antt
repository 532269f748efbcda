use Rattle.std.proofs.Common.{◌∙◌}
use Rattle.bcj_hier_rules.specs.Heads.{name_of}
use Rattle.bcj_layout_rules.specs.Rows.{mixture_of}
use Rattle.bcj_layout_rules.specs.Members.{field_number}
use Rattle.bcj_layout_resolution.specs.Places.{heads_in}
use Rattle.bcj_layout_addresses.specs.Lists.{place_in}
use Rattle.bcj_layout_addresses.proofs.Growing.{one_more}
use Rattle.bcj_layout_addresses.proofs.fields.places_of.Goals as goal

pub loop-k-preserved : goal.loop-k-preserved
loop-k-preserved c =
    let place = place_in c.args.statics c.args.is_loaded (field_number (mixture_of c.args.members.now) (name_of (heads_in c.args.members.now) c.args.class)) c.args.fields.now in
    one_more place c.args.fields.now c.loop-k.k c.loop-k.words c.push.new.self c.in_ok-place_at.field-0 c.loop-k-test.true c.in_ok-push.ensures.ok c.in_ok-place_at.ensures
    ∙ c.loop-k.invariant
