-- What a reference resolves to is a member.
use Rattle.std.proofs.Common.{◌≡◌, find, Option, Some, None, Result, Ok, Err, Bool, true, false, not, cond, ◌&&◌, refl, sym, ◌∙◌, ap, subst, inl, inr, option_map}
use Rattle.bcj_hier_rules.specs.declared.call_kind.CallKind.{CallKind}
use Rattle.bcj_hier_rules.specs.declared.call_kind.CallKind.TheVariants as call
use Rattle.bcj_hier_rules.specs.declared.link_error.LinkError.{LinkError}
use Rattle.bcj_hier_rules.specs.declared.link_error.LinkError.TheVariants as error
use Rattle.bcj_hier_rules.specs.Shapes.{Named, Shape, Mixture, found, is_static, is_abstract, is_constructor_of, Reference}
use Rattle.bcj_hier_rules.specs.Loading.{turns, load_error, is_interface}
use Rattle.bcj_hier_rules.specs.Resolution.{FoundField, FoundMethod, method_there, class_method_within, inherited_within, found_field, found_class_method, found_interface_method, found_constructor, then_try, or_error, with_found, is_hidden, same_bool, used_field, wants_static, is_direct, used_method, class_method, called_method, interface_method}
use Rattle.bcj_hier_soundness.specs.Laws as law
use Rattle.bcj_hier_soundness.proofs.Names.{found_name}
use Rattle.bcj_hier_soundness.proofs.Members.{Made, made, or_some, own, IsField, fields_found, IsMethod, class_methods_found, interface_methods_found, all_inherited_found}

-- ---- what an answer came from

tried : {A : Type 0} (o : Option LinkError) (r : Result A LinkError) (x : A) → then_try o r ≡ Ok x → (o ≡ None) × (r ≡ Ok x)
tried None r x h = (refl, h)
tried (Some e) r x h = cc

there : {A : Type 0} (e : LinkError) (o : Option A) (x : A) → or_error e o ≡ Ok x → o ≡ Some x
there e None x h = cc
there e (Some y) x h = ap (λ r. elim r [ Ok z ↦ Some z | Err d ↦ Some y ]) h

with_value : {A B : Type 0} (r : Result A LinkError) (f : A → Result B LinkError) (y : B) → with_found r f ≡ Ok y → (x : A) × (r ≡ Ok x) × (f x ≡ Ok y)
with_value (Ok x) f y h = (x, refl, h)
with_value (Err e) f y h = cc

not_refused : {A : Type 0} (wrong : Bool) (e : LinkError) (r : Result A LinkError) (x : A) → cond wrong (Err e) r ≡ Ok x → (wrong ≡ false) × (r ≡ Ok x)
not_refused true e r x h = cc
not_refused false e r x h = (refl, h)

allowed : {A : Type 0} (right : Bool) (e : LinkError) (r : Result A LinkError) (x : A) → cond right r (Err e) ≡ Ok x → (right ≡ true) × (r ≡ Ok x)
allowed true e r x h = (refl, h)
allowed false e r x h = cc

same_ok : {A : Type 0} (x y : A) → ◌≡◌ {A = Result A LinkError} (Ok x) (Ok y) → x ≡ y
same_ok x y h = ap (λ r. elim r [ Ok z ↦ z | Err d ↦ x ]) h

-- what may be used is what was found
used_as_field : (from : Named) (static : Bool) (f g : FoundField) → used_field from static f ≡ Ok g → f ≡ g
used_as_field from static f g h =
    let seen : (is_hidden from f.class f.field.is_private ≡ false) × (cond (same_bool static f.field.is_static) (Ok f) (Err error.IncompatibleClassChange) ≡ Ok g) = not_refused _ _ _ g h in
    same_ok f g (allowed (same_bool static f.field.is_static) _ (Ok f) g seen.1).1

used_as_method : (from : Named) (kind : CallKind) (f g : FoundMethod) → used_method from kind f ≡ Ok g → f ≡ g
used_as_method from kind f g h =
    let direct : Result FoundMethod LinkError = cond (is_direct kind && is_abstract f.method) (Err error.AbstractMethod) (Ok f) in
    let kept : Result FoundMethod LinkError = cond (not (same_bool (wants_static kind) (is_static f.method))) (Err error.IncompatibleClassChange) direct in
    let seen : (is_hidden from f.class f.method.is_private ≡ false) × (kept ≡ Ok g) = not_refused (is_hidden from f.class f.method.is_private) error.IllegalAccess kept g h in
    let right : (not (same_bool (wants_static kind) (is_static f.method)) ≡ false) × (direct ≡ Ok g) = not_refused _ error.IncompatibleClassChange direct g seen.1 in
    same_ok f g (not_refused (is_direct kind && is_abstract f.method) error.AbstractMethod (Ok f) g right.1).1

-- ---- fields

pub fields_are_members : law.FieldsAreMembers
fields_are_members m from r static f h =
    let loaded : (load_error m r.class ≡ None) × (with_found (or_error error.NoSuchField (found_field m r)) (used_field from static) ≡ Ok f) = tried (load_error m r.class) _ f h in
    let used : (g : FoundField) × (or_error error.NoSuchField (found_field m r) ≡ Ok g) × (used_field from static g ≡ Ok f) = with_value (or_error error.NoSuchField (found_field m r)) (used_field from static) f loaded.1 in
    let P : FoundField → Type 0 = λ g. IsField m r.name r.desc r.class g in
    (loaded.0, subst P (used_as_field from static used.0 f used.2) (fields_found m (turns m) r.name r.desc r.class used.0 (there _ _ used.0 used.1)))

-- ---- methods

class_member : (m : Mixture) (r : Reference) (f : FoundMethod) → class_method m r ≡ Ok f → IsMethod m r.name r.desc r.class f
class_member m r f h =
    let looked : (is_interface m r.class ≡ false) × (or_error error.NoSuchMethod (found_class_method m r) ≡ Ok f) = not_refused (is_interface m r.class) error.IncompatibleClassChange _ f h in
    elim (or_some (class_method_within m (turns m) r.name r.desc r.class) (inherited_within m (turns m) r.name r.desc r.class) f (there _ _ f looked.1)) [
      | inl own_it ↦ class_methods_found m (turns m) r.name r.desc r.class f own_it
      | inr inherited ↦ all_inherited_found m (turns m) r.name r.desc r.class f inherited
    ]

abbrev constructor_at : Reference → Option Shape → Option FoundMethod
constructor_at r o = elim o [ None ↦ None | Some s ↦ option_map (method_there s) (find (is_constructor_of r.desc) s.methods) ]

-- a constructor and the class that is named
record Constructs (m : Mixture) (r : Reference) (f : FoundMethod) : Type 0 where
  member : law.IsMember m (λ s. s.methods) (is_constructor_of r.desc) r.class f.class f.method
  own_class : f.class ≡ r.class

constructor_by : (m : Mixture) (r : Reference) (f : FoundMethod) (o : Option Shape) → found m r.class ≡ o → constructor_at r o ≡ Some f → Constructs m r f
constructor_by m r f None e h = cc
constructor_by m r f (Some s) e h =
    let i : Made (method_there s) (find (is_constructor_of r.desc) s.methods) f = made (method_there s) (find (is_constructor_of r.desc) s.methods) f h in
    let P : FoundMethod → Type 0 = λ g. law.IsMember m (λ v. v.methods) (is_constructor_of r.desc) r.class g.class g.method in
    record { member = subst P i.gives (own m (λ v. v.methods) (is_constructor_of r.desc) r.class s e i.value i.given); own_class = ap (λ g. g.class) (sym i.gives) ∙ found_name m r.class s e }

constructs : (m : Mixture) (r : Reference) (f : FoundMethod) → or_error error.NoSuchMethod (found_constructor m r) ≡ Ok f → Constructs m r f
constructs m r f h = constructor_by m r f (found m r.class) refl (there _ _ f h)

abbrev IsCalled : Mixture → Reference → CallKind → FoundMethod → Type 0
IsCalled m r kind f = law.IsMember m (λ s. s.methods) (law.is_called kind r) r.class f.class f.method

called_member : (m : Mixture) (r : Reference) (kind : CallKind) (f : FoundMethod) → called_method m r kind ≡ Ok f → IsCalled m r kind f
called_member m r call.Constructor f h = (constructs m r f h).member
called_member m r kind f h = class_member m r f h

-- a method that was resolved, as it was found
record Resolved (m : Mixture) (from : Named) (r : Reference) (kind : CallKind) (f : FoundMethod) : Type 0 where
  loads : load_error m r.class ≡ None
  is_it : called_method m r kind ≡ Ok f

resolved : (m : Mixture) (from : Named) (r : Reference) (kind : CallKind) (f : FoundMethod) → then_try (load_error m r.class) (with_found (called_method m r kind) (used_method from kind)) ≡ Ok f → Resolved m from r kind f
resolved m from r kind f h =
    let loaded : (load_error m r.class ≡ None) × (with_found (called_method m r kind) (used_method from kind) ≡ Ok f) = tried (load_error m r.class) _ f h in
    let used : (g : FoundMethod) × (called_method m r kind ≡ Ok g) × (used_method from kind g ≡ Ok f) = with_value (called_method m r kind) (used_method from kind) f loaded.1 in
    record { loads = loaded.0; is_it = used.1 ∙ ap Ok (used_as_method from kind used.0 f used.2) }

pub methods_are_members : law.MethodsAreMembers
methods_are_members m from r kind f h =
    let s : Resolved m from r kind f = resolved m from r kind f h in
    (s.loads, called_member m r kind f s.is_it)

pub constructors_are_own : law.ConstructorsAreOwn
constructors_are_own m from r f h =
    let s : Resolved m from r call.Constructor f = resolved m from r call.Constructor f h in
    (constructs m r f s.is_it).own_class

pub interface_methods_are_members : law.InterfaceMethodsAreMembers
interface_methods_are_members m from r f h =
    let loaded : (load_error m r.class ≡ None) × (with_found (interface_method m r) (used_method from call.Instance) ≡ Ok f) = tried (load_error m r.class) _ f h in
    let used : (g : FoundMethod) × (interface_method m r ≡ Ok g) × (used_method from call.Instance g ≡ Ok f) = with_value (interface_method m r) (used_method from call.Instance) f loaded.1 in
    let looked : (is_interface m r.class ≡ true) × (or_error error.NoSuchMethod (found_interface_method m r) ≡ Ok used.0) = allowed (is_interface m r.class) error.IncompatibleClassChange _ used.0 used.1 in
    let P : FoundMethod → Type 0 = λ g. IsMethod m r.name r.desc r.class g in
    (loaded.0, looked.0, subst P (used_as_method from call.Instance used.0 f used.2) (interface_methods_found m (turns m) r.name r.desc r.class used.0 (there _ _ used.0 looked.1)))
