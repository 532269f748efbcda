-- What calls take, by the record of the method.
use Rattle.std.proofs.Common.{◌≡◌, ◌∙◌, ap, refl, ℕ, Bool, true, false, cond, None, Some, Result, Ok, Err}
use Rattle.std.specs.Option.{unwrap_or}
use Rattle.bcj_tables_rules.specs.Codes as codes_of
use Rattle.bcj_tables_rules.specs.declared.records.MethodRecord.{MethodRecord}
use Rattle.bcj_hier_rules.specs.declared.link_error.LinkError.{LinkError}
use Rattle.bcj_hier_rules.specs.declared.link_error.LinkError.TheVariants as error
use Rattle.bcj_hier_rules.specs.declared.call_kind.CallKind.TheVariants as call
use Rattle.bcj_hier_rules.specs.Shapes.{Named, Method, Reference, method_of_record, is_abstract}
use Rattle.bcj_hier_rules.specs.Heads.{number_of}
use Rattle.bcj_hier_rules.specs.Loading.{turns, implements}
use Rattle.bcj_hier_rules.specs.Resolution.{FoundMethod, then_try, with_found, interface_method, used_method, resolved_interface}
use Rattle.bcj_hier_rules.specs.Selection.{open_within, with_code}
use Rattle.bcj_layout_rules.specs.Rows.{Classes, mixture_of}
use Rattle.bcj_layout_rules.specs.Entries.{address_of_method}
use Rattle.bcj_layout_resolution.specs.Places.{heads_in}
use Rattle.bcj_layout_resolution.proofs.Records.{none_at, none_loads}
use Rattle.bcj_linker_rules.specs.Memory.{dispatched, selected_for, dispatch_word}
use Rattle.bcj_linker_rows.specs.Calls.{address_if}

-- an abstract method has no code
pub without_code : (cs : Classes) (main : Named) (x : FoundMethod) (r : MethodRecord) → x.method ≡ method_of_record r → codes_of.is_abstract r.kind ≡ true
    → address_if cs main (with_code (mixture_of cs) (Some x)) ≡ None
without_code cs main x r is it =
    ap (λ (m : Method). address_if cs main (cond (is_abstract m) (Err error.AbstractMethod) (Ok x))) is ∙ ap (λ b. address_if cs main (cond b (Err error.AbstractMethod) (Ok x))) it

-- any other has an address
pub with_code_there : (cs : Classes) (main : Named) (x : FoundMethod) (r : MethodRecord) → x.method ≡ method_of_record r → codes_of.is_abstract r.kind ≡ false
    → address_if cs main (with_code (mixture_of cs) (Some x)) ≡ Some (address_of_method cs main x)
with_code_there cs main x r is it =
    ap (λ (m : Method). address_if cs main (cond (is_abstract m) (Err error.AbstractMethod) (Ok x))) is ∙ ap (λ b. address_if cs main (cond b (Err error.AbstractMethod) (Ok x))) it

-- what a private method is selected for is its address
pub selected_private : (cs : Classes) (main class : Named) (x : FoundMethod) (r : MethodRecord) → x.method ≡ method_of_record r → r.is_private ≡ true
    → selected_for cs main class (Ok x) ≡ address_of_method cs main x
selected_private cs main class x r is it =
    ap (λ (m : Method). dispatched cs main (cond m.is_private (Ok x) (with_code (mixture_of cs) (open_within (mixture_of cs) (turns (mixture_of cs)) m.name m.desc class)))) is
    ∙ ap (λ b. dispatched cs main (cond b (Ok x) (with_code (mixture_of cs) (open_within (mixture_of cs) (turns (mixture_of cs)) r.name r.desc class)))) it

-- for any other a method is searched
pub selected_open : (cs : Classes) (main class : Named) (x : FoundMethod) (r : MethodRecord) → x.method ≡ method_of_record r → r.is_private ≡ false
    → selected_for cs main class (Ok x) ≡ dispatched cs main (with_code (mixture_of cs) (open_within (mixture_of cs) (turns (mixture_of cs)) r.name r.desc class))
selected_open cs main class x r is it =
    ap (λ (m : Method). dispatched cs main (cond m.is_private (Ok x) (with_code (mixture_of cs) (open_within (mixture_of cs) (turns (mixture_of cs)) m.name m.desc class)))) is
    ∙ ap (λ b. dispatched cs main (cond b (Ok x) (with_code (mixture_of cs) (open_within (mixture_of cs) (turns (mixture_of cs)) r.name r.desc class)))) it

-- its address, or that there is no code
pub or_no_code : (cs : Classes) (main : Named) (r : Result FoundMethod LinkError) → unwrap_or (address_if cs main r) 1 ≡ dispatched cs main r
or_no_code cs main (Ok f) = refl
or_no_code cs main (Err e) = refl

-- ---- selectors

-- the word of a selector whose interface is implemented
pub implemented_word : (cs : Classes) (main class : Named) (r : Reference) (x : FoundMethod) → implements (mixture_of cs) class r.class ≡ true → resolved_interface (mixture_of cs) r.class r ≡ Ok x
    → dispatch_word cs main class r ≡ selected_for cs main class (Ok x)
implemented_word cs main class r x it resolved =
    ap (λ b. cond b (selected_for cs main class (resolved_interface (mixture_of cs) r.class r)) 0) it ∙ ap (selected_for cs main class) resolved

-- and of one whose interface isn't
pub not_implemented : (cs : Classes) (main class : Named) (r : Reference) → implements (mixture_of cs) class r.class ≡ false → dispatch_word cs main class r ≡ 0
not_implemented cs main class r it = ap (λ b. cond b (selected_for cs main class (resolved_interface (mixture_of cs) r.class r)) 0) it

-- and of one that doesn't resolve
pub not_resolved : (cs : Classes) (main class : Named) (r : Reference) (e : LinkError) → resolved_interface (mixture_of cs) r.class r ≡ Err e → dispatch_word cs main class r ≡ 0
not_resolved cs main class r e resolved =
    ap (λ x. cond (implements (mixture_of cs) class r.class) (selected_for cs main class x) 0) resolved ∙ same (implements (mixture_of cs) class r.class)
  where
    same : (b : Bool) → ◌≡◌ {A = ℕ} (cond b 0 0) 0
    same true = refl
    same false = refl

-- a name without a number names no interface
pub not_found : (cs : Classes) (main class : Named) (r : Reference) → number_of (heads_in cs) r.class ≡ None → dispatch_word cs main class r ≡ 0
not_found cs main class r none =
    not_resolved cs main class r error.NoClassDefFound
    (ap (λ o. then_try o (with_found (interface_method (mixture_of cs) r) (used_method r.class call.Instance))) (none_loads cs r.class (none_at cs r.class none)))
