use Rattle.std.proofs.Common.{sym, ◌∙◌, ap, position}
use Rattle.bcj_hier_rules.specs.Shapes.{is_field, field_of_record}
use Rattle.bcj_layout_resolution.proofs.Searching.{field_numbered, no_field_numbered}
use Rattle.bcj_layout_resolution.proofs.resolver.Resolver.own_field.Goals as goal

pub returns-in-None : goal.returns-in-None
returns-in-None c =
    no_field_numbered c.args.self.now c.args.record.now c.args.name.now c.args.desc.now (ap (position (λ f. is_field c.args.name.now c.args.desc.now (field_of_record f))) (sym c.as_slice.ensures) ∙ sym c.in-None.ensures)

pub returns-in-Some : goal.returns-in-Some
returns-in-Some c =
    field_numbered c.args.self.now c.args.class c.args.record.now c.args.name.now c.args.desc.now c.in-Some.number c.requires.record
    (ap (position (λ f. is_field c.args.name.now c.args.desc.now (field_of_record f))) (sym c.as_slice.ensures) ∙ sym c.in-Some.ensures)
