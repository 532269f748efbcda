use Rattle.std.proofs.Common.{◌≡◌, ◌≤◌, not, map, drop}
use Rattle.std.specs.List.{filter, position, position_from}
use Rattle.bcj_hier_rules.specs.Shapes.{field_of_record, is_field}
use Rattle.bcj_layout_members.proofs.field.own_field_number.Given as goal

abbrev pub invariant-loop-field : goal.invariant-loop-field
invariant-loop-field l =
    record {
      few : l.k ≤ l.field-index;
      so_far :
          position_from (is_field l.name l.desc) l.k (filter (λ f. not f.is_static) (map field_of_record (drop l.field-index l.fields)))
          ≡ position (is_field l.name l.desc) (filter (λ f. not f.is_static) (map field_of_record l.fields));
    }
