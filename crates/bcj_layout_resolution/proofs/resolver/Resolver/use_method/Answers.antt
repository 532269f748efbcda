use Rattle.std.proofs.Common.{◌≡◌, ◌∙◌, ◌&&◌, sym, refl, ap, true, false}
use Rattle.bcj_hier_rules.specs.Shapes.{method_of_record, is_static, is_abstract}
use Rattle.bcj_hier_rules.specs.Heads.{name_of}
use Rattle.bcj_hier_rules.specs.Resolution.{same_bool, wants_static, is_direct}
use Rattle.bcj_layout_resolution.specs.Places.{heads_in}
use Rattle.bcj_layout_resolution.proofs.Using.{used_method_by}
use Rattle.bcj_layout_resolution.proofs.resolver.Resolver.use_method.Goals as goal
use Rattle.bcj_layout_resolution.proofs.resolver.Resolver.use_method.Goals.{After-same_bool}

right : (c : After-same_bool) → same_bool (wants_static c.args.kind) (is_static (method_of_record c.method_record-record.result.now)) ≡ c.same_bool.result
right c = ap (λ b. same_bool b (is_static (method_of_record c.method_record-record.result.now))) (sym c.wants_static.ensures) ∙ (ap (same_bool c.wants_static.result) (sym c.is_static.ensures) ∙ sym c.same_bool.ensures)

pub returns-then-is_hidden : goal.returns-then-is_hidden
returns-then-is_hidden c = λ x is.
    used_method_by (name_of (heads_in c.args.self.now) c.args.from) c.args.kind x (name_of (heads_in c.args.self.now) c.args.method.class) c.method_record-record.result.now true
    (same_bool (wants_static c.args.kind) (is_static (method_of_record c.method_record-record.result.now))) (is_direct c.args.kind && is_abstract (method_of_record c.method_record-record.result.now))
    (c.method_record-record.ensures.class x is) (c.method_record-record.ensures.record x is) (sym c.is_hidden.ensures ∙ c.if-is_hidden.true) refl refl

pub returns-then-not-same_bool : goal.returns-then-not-same_bool
returns-then-not-same_bool c = λ x is.
    used_method_by (name_of (heads_in c.args.self.now) c.args.from) c.args.kind x (name_of (heads_in c.args.self.now) c.args.method.class) c.method_record-record.result.now false
    false (is_direct c.args.kind && is_abstract (method_of_record c.method_record-record.result.now))
    (c.method_record-record.ensures.class x is) (c.method_record-record.ensures.record x is) (sym c.is_hidden.ensures ∙ c.if-is_hidden.false)
    (right (goal.at.returns-then-not-same_bool c).After-same_bool ∙ c.if-not-same_bool.true) refl

pub returns-then-lacks_code : goal.returns-then-lacks_code
returns-then-lacks_code c = λ x is.
    used_method_by (name_of (heads_in c.args.self.now) c.args.from) c.args.kind x (name_of (heads_in c.args.self.now) c.args.method.class) c.method_record-record.result.now false
    true true
    (c.method_record-record.ensures.class x is) (c.method_record-record.ensures.record x is) (sym c.is_hidden.ensures ∙ c.if-is_hidden.false)
    (right (goal.at.returns-then-lacks_code c).After-same_bool ∙ c.if-not-same_bool.false) (sym c.lacks_code.ensures ∙ c.if-lacks_code.true)

pub returns : goal.returns
returns c = λ x is.
    used_method_by (name_of (heads_in c.args.self.now) c.args.from) c.args.kind x (name_of (heads_in c.args.self.now) c.args.method.class) c.method_record-record.result.now false
    true false
    (c.method_record-record.ensures.class x is) (c.method_record-record.ensures.record x is) (sym c.is_hidden.ensures ∙ c.if-is_hidden.false)
    (right (goal.at.returns c).After-same_bool ∙ c.if-not-same_bool.false) (sym c.lacks_code.ensures ∙ c.if-lacks_code.false)
