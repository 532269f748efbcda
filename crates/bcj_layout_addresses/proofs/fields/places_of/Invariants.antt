use Rattle.std.proofs.Common.{◌≡◌, ◌++◌, map, drop}
use Rattle.bcj_hier_rules.specs.Heads.{name_of}
use Rattle.bcj_layout_rules.specs.Rows.{mixture_of}
use Rattle.bcj_layout_rules.specs.Members.{field_number}
use Rattle.bcj_layout_resolution.specs.Places.{heads_in}
use Rattle.bcj_layout_addresses.specs.Lists.{place_in}
use Rattle.bcj_layout_addresses.proofs.fields.places_of.Given as goal

abbrev pub invariant-loop-k : goal.invariant-loop-k
invariant-loop-k l =
    let place = place_in l.statics l.is_loaded (field_number (mixture_of l.members) (name_of (heads_in l.members) l.class)) l.fields in
    l.words ++ map place (drop l.k l.fields) ≡ map place l.fields
