use Rattle.std.proofs.Common.{sym, arith}
use Rattle.std.specs.List.{filter}
use Rattle.std.proofs.lemmas.Iterator.Adapters.{position_from-zero}
use Rattle.bcj_layout_addresses.specs.Lists.{is_same_field}
use Rattle.bcj_layout_addresses.proofs.fields.static_number.Goals as goal

pub loop-field-init : goal.loop-field-init
loop-field-init c = record {
  few = omega arith;
  so_far = sym (position_from-zero (is_same_field c.args.name.now c.args.desc.now) (filter (λ f. f.is_static) c.args.fields.now));
}
