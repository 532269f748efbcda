-- The words that are kept of members that were found.
use Rattle.std.proofs.Common.{◌≡◌, ℕ, List, map, slice_get, true, false, cond, Some, sym, ◌∙◌, ap}
use Rattle.std.proofs.lemmas.Option.{slice_get-map}
use Rattle.std.specs.Option.{option_map}
use Rattle.bcj_tables_rules.specs.declared.records.MethodRecord.{MethodRecord}
use Rattle.bcj_hier_rules.specs.Shapes.{Named}
use Rattle.bcj_hier_rules.specs.Trees.{loads}
use Rattle.bcj_hier_rules.specs.Resolution.{FoundField, FoundMethod}
use Rattle.bcj_layout_rules.specs.Rows.{Classes, mixture_of}
use Rattle.bcj_layout_rules.specs.Entries.{address_in, address_of_method, address_of_field, offset_of_field}
use Rattle.bcj_layout_resolution.specs.declared.member.FieldId.{FieldId}
use Rattle.bcj_layout_resolution.specs.declared.member.MethodId.{MethodId}
use Rattle.bcj_layout_resolution.specs.Places.{IsField, IsMethod}
use Rattle.bcj_layout_addresses.specs.declared.addresses.Addresses.{Addresses}
use Rattle.bcj_layout_addresses.specs.Addresses.{AreAddresses, field_in, method_addresses, field_place, field_places}

-- an element of what a function makes
made-at : {X Y : Type 0} (f : X → Y) (xs : List X) (k : ℕ) (x : X) → slice_get xs k ≡ Some x → slice_get (map f xs) k ≡ Some (f x)
made-at f xs k x e = slice_get-map f xs k ∙ ap (option_map f) e

-- a word, by the number of a class and of a member
abbrev pub IsWord : List (List ℕ) → ℕ → ℕ → ℕ → Type 0
IsWord lists class member result = (ws : List ℕ) → slice_get lists class ≡ Some ws → (w : ℕ) → slice_get ws member ≡ Some w → result ≡ w

-- a method has its address
pub method-word : (cs : Classes) (main : Named) (a : Addresses) (f : MethodId) (x : FoundMethod) (result : ℕ) → AreAddresses cs main a → IsMethod cs f x → IsWord a.methods f.class.0 f.method result
    → result ≡ address_of_method cs main x
method-word cs main a f x result are is word =
    let list : slice_get a.methods f.class.0 ≡ Some (method_addresses cs main is.class) =
    ap (λ l. slice_get l f.class.0) are.methods ∙ made-at (method_addresses cs main) cs f.class.0 is.class is.record_of in
    let there = made-at (λ (m : MethodRecord). address_in cs main is.class.head.name m.name m.desc) is.class.methods f.method is.method is.there in
    word (method_addresses cs main is.class) list (address_in cs main is.class.head.name is.method.name is.method.desc) there
    ∙ sym (λ i. address_in cs main (is.named i) (ap (λ m. m.name) is.is_it i) (ap (λ m. m.desc) is.is_it i))

-- what is kept of a field
field-word : (cs : Classes) (main : Named) (a : Addresses) (f : FieldId) (x : FoundField) (result : ℕ) → AreAddresses cs main a → (is : IsField cs f x) → IsWord a.fields f.class.0 f.field result
    → result ≡ field_place cs main is.class is.field
field-word cs main a f x result are is word =
    let list : slice_get a.fields f.class.0 ≡ Some (field_places cs main is.class) =
    ap (λ l. slice_get l f.class.0) are.fields ∙ made-at (field_places cs main) cs f.class.0 is.class is.record_of in
    word (field_places cs main is.class) list (field_place cs main is.class is.field) (made-at (field_place cs main is.class) is.class.fields f.field is.field is.there)

-- the field in its class
field-found : (cs : Classes) (f : FieldId) (x : FoundField) (is : IsField cs f x) → field_in is.class is.field ≡ x
field-found cs f x is = sym (λ i. record { class = is.named i; field = is.is_it i })

-- a static field has its address
pub static-word : (cs : Classes) (main : Named) (a : Addresses) (f : FieldId) (x : FoundField) (result : ℕ) → AreAddresses cs main a → IsField cs f x → IsWord a.fields f.class.0 f.field result
    → x.field.is_static ≡ true → result ≡ address_of_field cs main x
static-word cs main a f x result are is word it =
    let static : is.field.is_static ≡ true = sym (ap (λ g. g.is_static) is.is_it) ∙ it in
    field-word cs main a f x result are is word
    ∙ (ap
    (λ b. cond b (address_of_field cs main (field_in is.class is.field)) (cond (loads (mixture_of cs) is.class.head.name) (offset_of_field cs main (field_in is.class is.field)) 0))
    static
    ∙ ap (address_of_field cs main) (field-found cs f x is))

-- and another one of a class that loads its offset
pub offset-word : (cs : Classes) (main : Named) (a : Addresses) (f : FieldId) (x : FoundField) (result : ℕ) → AreAddresses cs main a → IsField cs f x → IsWord a.fields f.class.0 f.field result
    → x.field.is_static ≡ false → loads (mixture_of cs) x.class ≡ true → result ≡ offset_of_field cs main x
offset-word cs main a f x result are is word other loaded =
    let instance : is.field.is_static ≡ false = sym (ap (λ g. g.is_static) is.is_it) ∙ other in
    let loading : loads (mixture_of cs) is.class.head.name ≡ true = sym (ap (loads (mixture_of cs)) is.named) ∙ loaded in
    field-word cs main a f x result are is word
    ∙ (ap
    (λ b. cond b (address_of_field cs main (field_in is.class is.field)) (cond (loads (mixture_of cs) is.class.head.name) (offset_of_field cs main (field_in is.class is.field)) 0))
    instance
    ∙ (ap (λ b. cond b (offset_of_field cs main (field_in is.class is.field)) 0) loading ∙ ap (offset_of_field cs main) (field-found cs f x is)))
