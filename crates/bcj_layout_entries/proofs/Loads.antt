-- What stands above a type that loads loads, so the class that declares a member that was found does.
use Rattle.std.proofs.Common.{◌≡◌, ◌∙◌, sym, ap, refl, Option, Some, None, Result, Ok, Err, Bool, true, false, cond}
use Rattle.bcj_hier_rules.specs.declared.call_kind.CallKind.{CallKind}
use Rattle.bcj_hier_rules.specs.declared.link_error.LinkError.{LinkError}
use Rattle.bcj_hier_rules.specs.declared.link_error.LinkError.TheVariants as error
use Rattle.bcj_hier_rules.specs.Shapes.{Named, Mixture, Reference}
use Rattle.bcj_hier_rules.specs.Loading.{load_error, superclass, interface}
use Rattle.bcj_hier_rules.specs.Resolution.{FoundField, FoundMethod, resolved_field, resolved_method, found_field, then_try, or_error, with_found, is_hidden, same_bool, used_field}
use Rattle.bcj_hier_soundness.specs.Laws.{Reaches, at_once, onward}
use Rattle.bcj_hier_soundness.proofs.Loads.{superclasses_load, superinterfaces_load}
use Rattle.bcj_hier_soundness.proofs.Resolving.{fields_are_members, methods_are_members}

-- what is reached from a type that loads loads
reached-loads : (m : Mixture) (c d : Named) → load_error m c ≡ None → Reaches m c d → load_error m d ≡ None
reached-loads m c d h (at_once e) = h
reached-loads m c d h (onward {p = p} {s = s} e (superclass up) rest) = reached-loads m p d (superclasses_load m c p s h e up).0 rest
reached-loads m c d h (onward {p = p} {s = s} e (interface front back up) rest) = reached-loads m p d (superinterfaces_load m c p s front back h e up).0 rest

-- the class that is named loads
pub method-named : (m : Mixture) (from : Named) (r : Reference) (kind : CallKind) (x : FoundMethod) → resolved_method m from r kind ≡ Ok x → load_error m r.class ≡ None
method-named m from r kind x h = (methods_are_members m from r kind x h).0

-- and the one that declares the method
pub method-declared : (m : Mixture) (from : Named) (r : Reference) (kind : CallKind) (x : FoundMethod) → resolved_method m from r kind ≡ Ok x → load_error m x.class ≡ None
method-declared m from r kind x h =
    let member = methods_are_members m from r kind x h in
    reached-loads m r.class x.class member.0 member.1.reached

-- the one that declares the field
pub field-declared : (m : Mixture) (from : Named) (r : Reference) (static : Bool) (x : FoundField) → resolved_field m from r static ≡ Ok x → load_error m x.class ≡ None
field-declared m from r static x h =
    let member = fields_are_members m from r static x h in
    reached-loads m r.class x.class member.0 member.1.reached

-- a field that may be used is static where that is asked for
used-static : (from : Named) (static : Bool) (f x : FoundField) → used_field from static f ≡ Ok x → x.field.is_static ≡ static
used-static from static f x h = by (is_hidden from f.class f.field.is_private) (same_bool static f.field.is_static) refl h
  where
    alike : (a b : Bool) → same_bool a b ≡ true → b ≡ a
    alike true b e = e
    alike false true e = sym e
    alike false false e = refl

    by : (hidden right : Bool) → same_bool static f.field.is_static ≡ right
        → cond hidden (Err error.IllegalAccess) (cond right (Ok f) (Err error.IncompatibleClassChange)) ≡ Ok x → x.field.is_static ≡ static
    by true right e g = cc
    by false false e g = cc
    by false true e g = ap (λ (r : Result FoundField LinkError). elim r [ Ok y ↦ y.field.is_static | Err d ↦ f.field.is_static ]) (sym g) ∙ alike static f.field.is_static e

-- and so is one that a reference resolves to
pub field-static : (m : Mixture) (from : Named) (r : Reference) (static : Bool) (x : FoundField) → resolved_field m from r static ≡ Ok x → x.field.is_static ≡ static
field-static m from r static x h = by (load_error m r.class) (found_field m r) h
  where
    by : (o : Option LinkError) (f : Option FoundField) → then_try o (with_found (or_error error.NoSuchField f) (used_field from static)) ≡ Ok x → x.field.is_static ≡ static
    by (Some e) f g = cc
    by None None g = cc
    by None (Some f) g = used-static from static f x g
