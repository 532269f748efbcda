use Rattle.std.proofs.Common.{sym, not, map, arith}
use Rattle.std.specs.List.{filter}
use Rattle.bcj_hier_rules.specs.Shapes.{field_of_record, is_field}
use Rattle.bcj_layout_members.proofs.Positions.{position_is}
use Rattle.bcj_layout_members.proofs.field.own_field_number.Goals as goal

pub loop-field-init : goal.loop-field-init
loop-field-init c = record {
  few = omega arith;
  so_far = sym (position_is (is_field c.args.name.now c.args.desc.now) (filter (λ f. not f.is_static) (map field_of_record c.args.fields.now)));
}
