-- Which uses of a member are allowed, by its record.
use Rattle.std.proofs.Common.{◌≡◌, Result, Ok, Err, Bool, not, cond, ◌&&◌, ◌∙◌, ap}
use Rattle.bcj_tables_rules.specs.declared.records.FieldRecord.{FieldRecord}
use Rattle.bcj_tables_rules.specs.declared.records.MethodRecord.{MethodRecord}
use Rattle.bcj_hier_rules.specs.declared.call_kind.CallKind.{CallKind}
use Rattle.bcj_hier_rules.specs.declared.link_error.LinkError.{LinkError}
use Rattle.bcj_hier_rules.specs.declared.link_error.LinkError.TheVariants as error
use Rattle.bcj_hier_rules.specs.Shapes.{Named, Field, Method, field_of_record, method_of_record, is_static, is_abstract}
use Rattle.bcj_hier_rules.specs.Resolution.{FoundField, FoundMethod, is_hidden, same_bool, used_field, wants_static, is_direct, used_method}

abbrev field_by : Bool → Bool → FoundField → Result FoundField LinkError
field_by hidden right x = cond hidden (Err error.IllegalAccess) (cond right (Ok x) (Err error.IncompatibleClassChange))

-- a use of a field by three facts of it
pub used_field_by : (from : Named) (static : Bool) (x : FoundField) (class : Named) (f : FieldRecord) (hidden right : Bool) → x.class ≡ class → x.field ≡ field_of_record f → is_hidden from class f.is_private ≡ hidden
    → same_bool static f.is_static ≡ right → used_field from static x ≡ field_by hidden right x
used_field_by from static x class f hidden right named is h r =
    ap (λ c. field_by (is_hidden from c x.field.is_private) (same_bool static x.field.is_static) x) named
    ∙ (ap (λ (y : Field). field_by (is_hidden from class y.is_private) (same_bool static y.is_static) x) is
    ∙ (ap (λ b. field_by b (same_bool static f.is_static) x) h ∙ ap (λ b. field_by hidden b x) r))

abbrev method_by : Bool → Bool → Bool → FoundMethod → Result FoundMethod LinkError
method_by hidden right codeless x =
    cond hidden (Err error.IllegalAccess) (cond (not right) (Err error.IncompatibleClassChange) (cond codeless (Err error.AbstractMethod) (Ok x)))

-- and of a method
pub used_method_by : (from : Named) (kind : CallKind) (x : FoundMethod) (class : Named) (f : MethodRecord) (hidden right codeless : Bool) → x.class ≡ class → x.method ≡ method_of_record f
    → is_hidden from class f.is_private ≡ hidden → same_bool (wants_static kind) (is_static (method_of_record f)) ≡ right → (is_direct kind && is_abstract (method_of_record f)) ≡ codeless
    → used_method from kind x ≡ method_by hidden right codeless x
used_method_by from kind x class f hidden right codeless named is h r a =
    ap (λ c. method_by (is_hidden from c x.method.is_private) (same_bool (wants_static kind) (is_static x.method)) (is_direct kind && is_abstract x.method) x) named
    ∙ (ap (λ (y : Method). method_by (is_hidden from class y.is_private) (same_bool (wants_static kind) (is_static y)) (is_direct kind && is_abstract y) x) is
    ∙ (ap (λ b. method_by b (same_bool (wants_static kind) (is_static (method_of_record f))) (is_direct kind && is_abstract (method_of_record f)) x) h
    ∙ (ap (λ b. method_by hidden b (is_direct kind && is_abstract (method_of_record f)) x) r ∙ ap (λ b. method_by hidden right b x) a)))
