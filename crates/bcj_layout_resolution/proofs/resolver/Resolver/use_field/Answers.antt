use Rattle.std.proofs.Common.{◌∙◌, sym, refl, true, false}
use Rattle.bcj_hier_rules.specs.Heads.{name_of}
use Rattle.bcj_hier_rules.specs.Resolution.{same_bool}
use Rattle.bcj_layout_resolution.specs.Places.{heads_in}
use Rattle.bcj_layout_resolution.proofs.Using.{used_field_by}
use Rattle.bcj_layout_resolution.proofs.resolver.Resolver.use_field.Goals as goal

pub returns-then-is_hidden : goal.returns-then-is_hidden
returns-then-is_hidden c = λ x is.
    used_field_by (name_of (heads_in c.args.self.now) c.args.from) c.args.is_static x (name_of (heads_in c.args.self.now) c.args.field.class) c.field_record-record.result.now true
    (same_bool c.args.is_static c.field_record-record.result.now.is_static)
    (c.field_record-record.ensures.class x is) (c.field_record-record.ensures.record x is) (sym c.is_hidden.ensures ∙ c.if-is_hidden.true) refl

pub returns-then-same_bool : goal.returns-then-same_bool
returns-then-same_bool c = λ x is.
    used_field_by (name_of (heads_in c.args.self.now) c.args.from) c.args.is_static x (name_of (heads_in c.args.self.now) c.args.field.class) c.field_record-record.result.now false true
    (c.field_record-record.ensures.class x is) (c.field_record-record.ensures.record x is) (sym c.is_hidden.ensures ∙ c.if-is_hidden.false) (sym c.same_bool.ensures ∙ c.if-same_bool.true)

pub returns-else-same_bool : goal.returns-else-same_bool
returns-else-same_bool c = λ x is.
    used_field_by (name_of (heads_in c.args.self.now) c.args.from) c.args.is_static x (name_of (heads_in c.args.self.now) c.args.field.class) c.field_record-record.result.now false false
    (c.field_record-record.ensures.class x is) (c.field_record-record.ensures.record x is) (sym c.is_hidden.ensures ∙ c.if-is_hidden.false) (sym c.same_bool.ensures ∙ c.if-same_bool.false)
