use Rattle.std.proofs.Common.{◌≡◌, ◌+◌, ◌<◌, sym, ◌∙◌, not, map, arith, length}
use Rattle.std.specs.List.{filter}
use Rattle.bcj_hier_rules.specs.Shapes.{field_of_record, is_field}
use Rattle.bcj_layout_members.proofs.Positions.{position_within}
use Rattle.bcj_layout_members.proofs.Types.{count_mapped}
use Rattle.bcj_layout_members.proofs.field.number_in.Goals as goal
use Rattle.bcj_layout_members.proofs.field.number_in.Goals.{In-Some}

few : (c : In-Some) → c.in-Some.k < length (filter (λ f. not f.is_static) c.args.fields.now)
few c =
    let at : c.in-Some.k < length (filter (λ f. not f.is_static) (map field_of_record c.args.fields.now)) =
    position_within (is_field c.args.field.now.name c.args.field.now.ty) (filter (λ f. not f.is_static) (map field_of_record c.args.fields.now)) c.in-Some.k
    (sym c.own_field_number.ensures ∙ c.in-Some.is) in
    let same : length (filter (λ f. not f.is_static) (map field_of_record c.args.fields.now)) ≡ length (filter (λ f. not f.is_static) c.args.fields.now) = count_mapped c.args.fields.now in
    omega arith

pub overflow_cast-result : goal.overflow_cast-result
overflow_cast-result c =
    let at : c.in-Some.k < length (filter (λ f. not f.is_static) c.args.fields.now) = few c in
    let sum : c.args.total ≡ c.args.before + length (filter (λ f. not f.is_static) c.args.fields.now) = c.requires in
    omega (arith, c.ranges.total.fits)

pub overflow_add-result : goal.overflow_add-result
overflow_add-result c =
    let at : c.in-Some.k < length (filter (λ f. not f.is_static) c.args.fields.now) = few c in
    let sum : c.args.total ≡ c.args.before + length (filter (λ f. not f.is_static) c.args.fields.now) = c.requires in
    omega (arith, c.ranges.total.fits)
