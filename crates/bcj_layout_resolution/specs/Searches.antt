-- What the searches answer, by numbers.
use Rattle.std.specs.Prelude.{◌≡◌, ◌≤◌, ℕ, zero, suc, Bool, length, slice_get, Option, None, Some, Result, Ok, Err, true, false}
use Rattle.std.specs.List.{find}
use Rattle.std.specs.Option.{option_or, option_map}
use Rattle.bcj_tables_rules.specs.declared.records.ClassRecord.{ClassRecord}
use Rattle.bcj_hier_rules.specs.declared.class_id.ClassId.{ClassId}
use Rattle.bcj_hier_rules.specs.declared.link_error.LinkError.{LinkError}
use Rattle.bcj_hier_rules.specs.Shapes.{Named, Method, Shape, Mixture, found, record_shape, is_field, is_method, is_constructor_of}
use Rattle.bcj_hier_rules.specs.Heads.{IsIn, name_of}
use Rattle.bcj_hier_rules.specs.Loading.{load_error, implements}
use Rattle.bcj_hier_rules.specs.Resolution.{FoundField, FoundMethod, field_there, method_there, of_option}
use Rattle.bcj_hier_rules.specs.Selection.{is_open}
use Rattle.bcj_layout_rules.specs.Rows.{Classes, mixture_of}
use Rattle.bcj_layout_resolution.specs.declared.member.FieldId.{FieldId}
use Rattle.bcj_layout_resolution.specs.declared.member.MethodId.{MethodId}
use Rattle.bcj_layout_resolution.specs.declared.sought.Sought.{Sought}
use Rattle.bcj_layout_resolution.specs.declared.sought.Sought.TheVariants as sought
use Rattle.bcj_layout_resolution.specs.Places.{heads_in, IsField, IsMethod}

-- ---- classes

-- members of one class that numbers can tell
abbrev pub max_members : ℕ
max_members = 4294967295

pub record IsNumbered (r : ClassRecord) : Type 0 where
  pub fields : length r.fields ≤ max_members
  pub methods : length r.methods ≤ max_members

abbrev pub AreNumbered : Classes → Type 0
AreNumbered cs = (k : ℕ) (r : ClassRecord) → slice_get cs k ≡ Some r → IsNumbered r

-- the record of a class, by its number and by its name
pub record IsRecord (cs : Classes) (c : ClassId) (r : ClassRecord) : Type 0 where
  pub there : slice_get cs c.0 ≡ Some r
  pub named : name_of (heads_in cs) c ≡ r.head.name
  pub is_it : found (mixture_of cs) r.head.name ≡ Some (record_shape r)
  pub numbered : IsNumbered r

-- the class of a name that a head may have
abbrev pub IsAbove : Classes → Option Named → Option ClassId → Type 0
IsAbove cs name None = (n : Named) → name ≡ Some n → found (mixture_of cs) n ≡ None
IsAbove cs name (Some c) = IsIn (heads_in cs) c × (name ≡ Some (name_of (heads_in cs) c))

-- ---- answers of searches

abbrev pub Names : {I X : Type 0} → (I → X → Type 0) → Option I → Option X → Type 0
Names {X = X} Is None o = o ≡ None
Names {X = X} Is (Some i) o = (x : X) × (o ≡ Some x) × Is i x

abbrev pub NamesField : Classes → Option FieldId → Option FoundField → Type 0
NamesField cs = Names (IsField cs)

abbrev pub NamesMethod : Classes → Option MethodId → Option FoundMethod → Type 0
NamesMethod cs = Names (IsMethod cs)

-- a member of the class itself
abbrev pub own_field : Named → Named → Shape → Option FoundField
own_field name desc s = option_map (field_there s) (find (is_field name desc) s.fields)

abbrev pub own_method : (Method → Bool) → Shape → Option FoundMethod
own_method fits s = option_map (method_there s) (find fits s.methods)

-- ---- methods

abbrev pub fits : Sought → Named → Named → Method → Bool
fits sought.Method name desc = is_method name desc
fits sought.Open name desc = is_open name desc
fits sought.Constructor name desc = is_constructor_of desc

-- a constructor is told by its descriptor alone
abbrev pub asks_name : Sought → Bool
asks_name sought.Constructor = false
asks_name _ = true

-- the class and its superclasses, from near to far
abbrev pub along : (Method → Bool) → Mixture → ℕ → Named → Option FoundMethod
along p m zero type = None
along p m (suc n) type = elim (found m type) [ None ↦ None | Some s ↦ option_or (own_method p s) (of_option (along p m n) s.head.superclass) ]

-- ---- interfaces

-- the type with this number has no such member, or stands nowhere above this type
abbrev pub IsWithout : {X : Type 0} → Classes → (Shape → Option X) → Named → ℕ → Type 0
IsWithout cs own type k =
    (r : ClassRecord) → slice_get cs k ≡ Some r → load_error (mixture_of cs) r.head.name ≡ None → implements (mixture_of cs) type r.head.name ≡ true → own (record_shape r) ≡ None

-- ---- uses

-- what is answered where a member was found and its use was tested
abbrev pub when_used : {A : Type 0} → A → Result (Unit {0}) LinkError → Result A LinkError
when_used x (Ok u) = Ok x
when_used x (Err e) = Err e

-- ---- answers of references

abbrev pub AnswersMethod : Classes → Result MethodId LinkError → Result FoundMethod LinkError → Type 0
AnswersMethod cs (Ok f) r = (x : FoundMethod) × (r ≡ Ok x) × IsMethod cs f x
AnswersMethod cs (Err e) r = r ≡ Err e
