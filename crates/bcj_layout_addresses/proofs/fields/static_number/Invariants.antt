use Rattle.std.proofs.Common.{◌≡◌, ◌≤◌, drop}
use Rattle.std.specs.List.{filter, position, position_from}
use Rattle.bcj_layout_addresses.specs.Lists.{is_same_field}
use Rattle.bcj_layout_addresses.proofs.fields.static_number.Given as goal

abbrev pub invariant-loop-field : goal.invariant-loop-field
invariant-loop-field l =
    record {
      few : l.number ≤ l.field-index;
      so_far :
          position_from (is_same_field l.name l.desc) l.number (filter (λ f. f.is_static) (drop l.field-index l.fields))
          ≡ position (is_same_field l.name l.desc) (filter (λ f. f.is_static) l.fields);
    }
