-- Members by the addresses that are kept.
use Rattle.std.proofs.Common.{◌≡◌, ◌∙◌, sym, ap, ℕ, List, slice_get, Bool, true, false, Some, Ok, is_none}
use Rattle.std.specs.Option.{option_map}
use Rattle.std.proofs.lemmas.Option.{slice_get-map}
use Rattle.bcj_tables_rules.specs.declared.records.MethodRecord.{MethodRecord}
use Rattle.bcj_tables_rules.specs.declared.records.ClassRecord.{ClassRecord}
use Rattle.bcj_hier_rules.specs.Shapes.{Named, Reference}
use Rattle.bcj_hier_rules.specs.Trees.{loads}
use Rattle.bcj_hier_rules.specs.Resolution.{FoundField, resolved_field}
use Rattle.bcj_layout_rules.specs.Rows.{Classes, mixture_of}
use Rattle.bcj_layout_rules.specs.Places.{method_at}
use Rattle.bcj_layout_rules.specs.Entries.{address_of_field, offset_of_field}
use Rattle.bcj_layout_resolution.specs.declared.member.FieldId.{FieldId}
use Rattle.bcj_layout_resolution.specs.Places.{IsField}
use Rattle.bcj_layout_addresses.specs.declared.addresses.Addresses.{Addresses}
use Rattle.bcj_layout_addresses.specs.Addresses.{AreAddresses, own_addresses}
use Rattle.bcj_layout_entries.proofs.Loads.{field-declared, field-static}
use Rattle.bcj_layout_entries.proofs.Words.{name-there, is-there}
use Rattle.bcj_layout.specs.declared.place.FieldPlace.{FieldPlace}
use Rattle.bcj_layout.specs.MemberPlaces.{IsFieldPlace, at_of_field}

-- a word, by the number of a class and of a member
abbrev pub IsWord : List (List ℕ) → ℕ → ℕ → ℕ → Type 0
IsWord lists class member word = (ws : List ℕ) → slice_get lists class ≡ Some ws → (w : ℕ) → slice_get ws member ≡ Some w → word ≡ w

-- the word that is kept of a method is its address
pub own_word : (cs : Classes) (main : Named) (a : Addresses) (k method word : ℕ) (r : ClassRecord) (m : MethodRecord) → AreAddresses cs main a → IsWord a.own k method word
    → slice_get cs k ≡ Some r → slice_get r.methods method ≡ Some m → word ≡ method_at cs main k r m
own_word cs main a k method word r m are is class there =
    is (own_addresses cs main k r) (are.own k r class) (method_at cs main k r m) (slice_get-map (method_at cs main k r) r.methods method ∙ ap (option_map (method_at cs main k r)) there)

-- what is kept of a field of a class that loads is where it is asked for
placed : (cs : Classes) (main : Named) (at : ℕ) (x : FoundField) (is_static : Bool) → x.field.is_static ≡ is_static → loads (mixture_of cs) x.class ≡ true
    → (x.field.is_static ≡ true → at ≡ address_of_field cs main x) → (x.field.is_static ≡ false → loads (mixture_of cs) x.class ≡ true → at ≡ offset_of_field cs main x)
    → at ≡ at_of_field cs main is_static x
placed cs main at x true is loading address offset = address is
placed cs main at x false is loading address offset = offset is loading

-- the place of a field that a reference resolves to
pub field_placed : (cs : Classes) (main from : Named) (r : Reference) (is_static : Bool) (f : FieldId) (x : FoundField) (p : FieldPlace) → p.class ≡ f.class → IsField cs f x
    → resolved_field (mixture_of cs) from r is_static ≡ Ok x
    → (x.field.is_static ≡ true → p.at ≡ address_of_field cs main x) → (x.field.is_static ≡ false → loads (mixture_of cs) x.class ≡ true → p.at ≡ offset_of_field cs main x)
    → IsFieldPlace cs main is_static p x
field_placed cs main from r is_static f x p same is ok address offset =
    let record_there : slice_get cs p.class.0 ≡ Some is.class = ap (λ c. slice_get cs c.0) same ∙ is.record_of in
    record {
      there = is-there cs p.class is.class record_there;
      named = name-there cs p.class is.class record_there ∙ sym is.named;
      place = placed cs main p.at x is_static (field-static (mixture_of cs) from r is_static x ok) (ap is_none (field-declared (mixture_of cs) from r is_static x ok)) address offset;
    }
