-- The tests of descriptors agree with the types that they stand for.
use Rattle.std.proofs.Common.{◌≡◌, ℕ, zero, suc, ◌+◌, ◌<◌, ◌≤◌, Bool, true, false, List, [], ◌∷◌, ◌++◌, length, take, drop, Option, Some, None, inl, inr, refl, sym, ap, subst, ◌∙◌, append_assoc, arith}
use Rattle.std.specs.Prelude.{◌&&◌, ◌||◌, ◌==◌, nat_lt, codes, if◌then◌else◌}
use Rattle.std.specs.Option.{option_map_or, option_and_then}
use Rattle.std.specs.List.{AllByRecursion, list_all}
use Rattle.std.specs.Str.{bytes_eq}
use Rattle.std.proofs.lemmas.Bool.{cases_Bool, eqb-true, ltb-true, lt-ltb}
use Rattle.std.proofs.lemmas.List.{take_at, drop_at, length-append, append-nil}
use Rattle.std.proofs.lemmas.Slice.Eq.{bytes_eq-Decides}
use Rattle.bcj_names.specs.Identifiers.{begins_identifier, in_identifier, is_word, is_identifier}
use Rattle.bcj_symbolic_trees.specs.Types.{PlainTy, int_type, bool_type, void_type, class_type, array_type}
use Rattle.bcj_symbolic_trees.specs.Descriptors.{descriptor, descriptors, method_descriptor}
use Rattle.bcj_tables_rules.specs.Texts.{is_empty, behind_brackets, semicolon_at, behind_name, behind_element, behind_type, is_type, is_result, behind_parameters, is_method_descriptor}
use Rattle.bcj_tables_rules.specs.TypesOfTexts.{is_value_type, dimensions, IsRecordType, Describes, IsRecordResult, DescribesMethod}
use Rattle.bcj_tables_rules.proofs.Lawful.{both}

-- ---- names

no_semicolon : (b : ℕ) → in_identifier b ≡ true → (b == 59) ≡ false
no_semicolon b h = elim (cases_Bool (b == 59)) [
  | inl it ↦ let clash : in_identifier 59 ≡ true = subst (λ (c : ℕ). in_identifier c ≡ true) (eqb-true b 59 it) h in absurd cc
  | inr other ↦ other
]

begins_in : (b : ℕ) → begins_identifier b ≡ true → in_identifier b ≡ true
begins_in b h = rw h refl

all_in : (name : List ℕ) → is_word name ≡ true → list_all in_identifier name ≡ true
all_in [] h = absurd cc
all_in (b ∷ name) h =
    let p = both (begins_identifier b) (list_all in_identifier name) h in
    rw (begins_in b p.0, p.1) refl

semicolon_behind : (name left : List ℕ) → list_all in_identifier name ≡ true → semicolon_at (name ++ 59 ∷ left) ≡ length name
unfolding semicolon_at
semicolon_behind [] left h = refl
semicolon_behind (b ∷ name) left h =
    let p = both (in_identifier b) (list_all in_identifier name) h in
    rw (no_semicolon b p.0) (ap suc (semicolon_behind name left p.1))

behind_one : (name left : List ℕ) → drop (length name + 1) (name ++ 59 ∷ left) ≡ left
behind_one name left = ap (drop (length name + 1)) (sym (append_assoc name (59 ∷ []) left)) ∙ drop_at (name ++ 59 ∷ []) left (length name + 1) (length-append name (59 ∷ []))

name_again : (name left : List ℕ) → is_identifier name ≡ true → behind_name (name ++ 59 ∷ left) ≡ Some left
unfolding behind_name is_identifier
name_again name left h =
    let at : semicolon_at (name ++ 59 ∷ left) ≡ length name = semicolon_behind name left (all_in name (both _ _ h).0) in
    let before : length name < length (name ++ 59 ∷ left) = omega (arith, length-append name (59 ∷ left)) in
    rw (at, lt-ltb (length name) (length (name ++ 59 ∷ left)) before, take_at name (59 ∷ left) (length name) refl, h) (ap Some (behind_one name left))

-- ---- types

brackets_kept : (n b : ℕ) (left : List ℕ) → (b == 91) ≡ false → behind_brackets n (b ∷ left) ≡ b ∷ left
unfolding behind_brackets
brackets_kept zero b left h = refl
brackets_kept (suc n) b left h = rw h refl

class_again : (name left : List ℕ) → is_identifier name ≡ true → behind_element (descriptor (class_type name) ++ left) ≡ Some left
unfolding behind_element
class_again name left h = ap behind_name (append_assoc name (59 ∷ []) left) ∙ name_again name left h

type_again : (n : ℕ) (t : PlainTy) (left : List ℕ) → is_value_type t ≡ true → dimensions t ≤ n → behind_element (behind_brackets n (descriptor t ++ left)) ≡ Some left
unfolding behind_element behind_brackets
type_again n int_type left h low = ap behind_element (brackets_kept n 73 left refl)
type_again n bool_type left h low = ap behind_element (brackets_kept n 90 left refl)
type_again n void_type left h low = absurd cc
type_again n (class_type name) left h low = ap behind_element (brackets_kept n 76 ((name ++ 59 ∷ []) ++ left) refl) ∙ class_again name left h
type_again zero (array_type t) left h low = absurd (omega (arith, low))
type_again (suc n) (array_type t) left h low = type_again n t left h (omega (arith, low))

-- what stands at the front of a text
record Front (n : ℕ) (text left : List ℕ) : Type 0 where
  ty : PlainTy
  value : is_value_type ty ≡ true
  low : dimensions ty ≤ n
  spelled : descriptor ty ++ left ≡ text

same_some : (x y : List ℕ) → ◌≡◌ {A = Option (List ℕ)} (Some x) (Some y) → x ≡ y
same_some x y e = cc

none_some : (y : List ℕ) → ◌≡◌ {A = Option (List ℕ)} None (Some y) → ⊥
none_some y e = cc

semicolon_splits : (text : List ℕ) → semicolon_at text < length text → take (semicolon_at text) text ++ 59 ∷ drop (semicolon_at text + 1) text ≡ text
unfolding semicolon_at
semicolon_splits [] lt = absurd (omega (arith, lt))
semicolon_splits (b ∷ text) lt = elim (cases_Bool (b == 59)) [
  | inl it ↦ rw it (ap (λ (c : ℕ). c ∷ text) (sym (eqb-true b 59 it)))
  | inr other ↦
      let lt' : suc (semicolon_at text) < suc (length text) = rw other at lt in
      let step : suc (semicolon_at text) + 1 ≡ suc (semicolon_at text + 1) = omega arith in
      rw other (ap (λ (n : ℕ). b ∷ (take (semicolon_at text) text ++ 59 ∷ drop n (b ∷ text))) step ∙ ap (λ (z : List ℕ). b ∷ z) (semicolon_splits text (omega (arith, lt'))))
]

some_if : (b : Bool) (x y : List ℕ) → ◌≡◌ {A = Option (List ℕ)} (if b then Some x else None) (Some y) → (b ≡ true) × (x ≡ y)
some_if true x y e = (refl, same_some x y e)
some_if false x y e = absurd (none_some y e)

name_front : (text left : List ℕ) → behind_name text ≡ Some left → (name : List ℕ) × ((is_identifier name ≡ true) × (name ++ 59 ∷ left ≡ text))
unfolding behind_name
name_front text left e =
    let s = some_if (nat_lt (semicolon_at text) (length text) && is_identifier (take (semicolon_at text) text)) (drop (semicolon_at text + 1) text) left e in
    let p = both (nat_lt (semicolon_at text) (length text)) (is_identifier (take (semicolon_at text) text)) s.0 in
    (take (semicolon_at text) text, (p.1, ap (λ (z : List ℕ). take (semicolon_at text) text ++ 59 ∷ z) (sym s.1) ∙ semicolon_splits text (ltb-true _ _ p.0)))

class_front : (n : ℕ) (text left : List ℕ) → behind_name text ≡ Some left → Front n (76 ∷ text) left
class_front n text left e =
    let f = name_front text left e in
    record { ty = class_type f.0; value = f.1.0; low = omega arith; spelled = ap (λ (z : List ℕ). 76 ∷ z) (append_assoc f.0 (59 ∷ []) left ∙ f.1.1) }

element_by : (n b : ℕ) (text left : List ℕ) (is_int is_bool is_class : Bool) → (b == 73) ≡ is_int → (b == 90) ≡ is_bool → (b == 76) ≡ is_class
    → ◌≡◌ {A = Option (List ℕ)} (if is_int || is_bool then Some text else (if is_class then behind_name text else None)) (Some left) → Front n (b ∷ text) left
element_by n b text left true is_bool is_class i o c e = record { ty = int_type; value = refl; low = omega arith; spelled = (λ j. sym (eqb-true b 73 i) j ∷ sym (same_some text left e) j) }
element_by n b text left false true is_class i o c e = record { ty = bool_type; value = refl; low = omega arith; spelled = (λ j. sym (eqb-true b 90 o) j ∷ sym (same_some text left e) j) }
element_by n b text left false false true i o c e = subst (λ (z : ℕ). Front n (z ∷ text) left) (sym (eqb-true b 76 c)) (class_front n text left e)
element_by n b text left false false false i o c e = absurd (none_some left e)

element_front : (n : ℕ) (text left : List ℕ) → behind_element text ≡ Some left → Front n text left
unfolding behind_element
element_front n [] left e = absurd (none_some left e)
element_front n (b ∷ text) left e = element_by n b text left (b == 73) (b == 90) (b == 76) refl refl refl e

array_front : (n : ℕ) (text left : List ℕ) → Front n text left → Front (suc n) (91 ∷ text) left
array_front n text left f = record { ty = array_type f.ty; value = f.value; low = omega (arith, f.low); spelled = ap (λ (z : List ℕ). 91 ∷ z) f.spelled }

bracket_front : (n b : ℕ) (text left : List ℕ) (is : Bool) → (behind_element (behind_brackets n text) ≡ Some left → Front n text left) → (b == 91) ≡ is
    → behind_element (if is then behind_brackets n text else b ∷ text) ≡ Some left → Front (suc n) (b ∷ text) left
bracket_front n b text left true more i e = subst (λ (z : ℕ). Front (suc n) (z ∷ text) left) (sym (eqb-true b 91 i)) (array_front n text left (more e))
bracket_front n b text left false more i e = element_front (suc n) (b ∷ text) left e

type_front : (n : ℕ) (text left : List ℕ) → behind_element (behind_brackets n text) ≡ Some left → Front n text left
unfolding behind_brackets
type_front zero text left e = element_front zero text left e
type_front (suc n) [] left e = element_front (suc n) [] left e
type_front (suc n) (b ∷ text) left e = bracket_front n b text left (b == 91) (type_front n text left) refl e

-- ---- the test of a type

described_by : (text : List ℕ) (o : Option (List ℕ)) → behind_type text ≡ o → option_map_or is_empty o false ≡ true → (t : PlainTy) × Describes t text
unfolding behind_type
described_by text None e h = absurd cc
described_by text (Some (b ∷ left)) e h = absurd cc
described_by text (Some []) e h =
    let f = type_front 255 text [] e in
    (f.ty, record { is = record { value = f.value; low = f.low }; spelled = sym (append-nil (descriptor f.ty)) ∙ f.spelled })

pub type_is_described : (text : List ℕ) → is_type text ≡ true → (t : PlainTy) × Describes t text
unfolding is_type
type_is_described text h = described_by text (behind_type text) refl h

descriptor_is_type : (t : PlainTy) → IsRecordType t → is_type (descriptor t) ≡ true
unfolding is_type behind_type
descriptor_is_type t is =
    let e : behind_element (behind_brackets 255 (descriptor t)) ≡ Some [] = ap (λ (z : List ℕ). behind_element (behind_brackets 255 z)) (sym (append-nil (descriptor t))) ∙ type_again 255 t [] is.value is.low in
    ap (λ (o : Option (List ℕ)). option_map_or is_empty o false) e

pub described_is_type : (t : PlainTy) (text : List ℕ) → Describes t text → is_type text ≡ true
described_is_type t text d = subst (λ (z : List ℕ). is_type z ≡ true) d.spelled (descriptor_is_type t d.is)

-- ---- parameters

parameter_turn : (n : ℕ) (t : PlainTy) (left : List ℕ) → is_value_type t ≡ true → behind_parameters (suc n) (descriptor t ++ left) ≡ option_and_then (behind_parameters n) (behind_type (descriptor t ++ left))
unfolding behind_parameters
parameter_turn n int_type left h = refl
parameter_turn n bool_type left h = refl
parameter_turn n void_type left h = absurd cc
parameter_turn n (class_type name) left h = refl
parameter_turn n (array_type t) left h = refl

type_read : (t : PlainTy) (left : List ℕ) → IsRecordType t → behind_type (descriptor t ++ left) ≡ Some left
unfolding behind_type
type_read t left is = type_again 255 t left is.value is.low

parameters_again : (ts : List PlainTy) (n : ℕ) (left : List ℕ) → AllByRecursion IsRecordType ts → suc (length ts) ≤ n → behind_parameters n (descriptors ts ++ 41 ∷ left) ≡ Some left
unfolding behind_parameters
parameters_again ts zero left are le = absurd (omega (arith, le))
parameters_again [] (suc n) left are le = refl
parameters_again (t ∷ ts) (suc n) left are le =
    ap (behind_parameters (suc n)) (append_assoc (descriptor t) (descriptors ts) (41 ∷ left))
    ∙ (parameter_turn n t (descriptors ts ++ 41 ∷ left) are.0.value
    ∙ (ap (option_and_then (behind_parameters n)) (type_read t (descriptors ts ++ 41 ∷ left) are.0) ∙ parameters_again ts n left are.1 (omega (arith, le))))

descriptor_long : (t : PlainTy) → 1 ≤ length (descriptor t)
descriptor_long int_type = omega arith
descriptor_long bool_type = omega arith
descriptor_long void_type = omega arith
descriptor_long (class_type name) = omega arith
descriptor_long (array_type t) = omega arith

descriptors_long : (ts : List PlainTy) → length ts ≤ length (descriptors ts)
descriptors_long [] = omega arith
descriptors_long (t ∷ ts) = omega (arith, length-append (descriptor t) (descriptors ts), descriptor_long t, descriptors_long ts)

record Parameters (text left : List ℕ) : Type 0 where
  types : List PlainTy
  are : AllByRecursion IsRecordType types
  spelled : descriptors types ++ 41 ∷ left ≡ text

more_parameters : (text middle left : List ℕ) → Front 255 text middle → Parameters middle left → Parameters text left
more_parameters text middle left f p = record {
  types = f.ty ∷ p.types;
  are = (record { value = f.value; low = f.low }, p.are);
  spelled = append_assoc (descriptor f.ty) (descriptors p.types) (41 ∷ left) ∙ (ap (λ (z : List ℕ). descriptor f.ty ++ z) p.spelled ∙ f.spelled);
}

read_front : (text left : List ℕ) → behind_type text ≡ Some left → Front 255 text left
unfolding behind_type
read_front text left e = type_front 255 text left e

parameter_front : (n b : ℕ) (text left : List ℕ) (is : Bool) (o : Option (List ℕ)) → ((middle : List ℕ) → behind_parameters n middle ≡ Some left → Parameters middle left) → (b == 41) ≡ is → behind_type (b ∷ text) ≡ o
    → (if is then Some text else option_and_then (behind_parameters n) o) ≡ Some left → Parameters (b ∷ text) left
parameter_front n b text left true o more i r e = record { types = []; are = tt; spelled = (λ j. sym (eqb-true b 41 i) j ∷ sym (same_some text left e) j) }
parameter_front n b text left false None more i r e = absurd (none_some left e)
parameter_front n b text left false (Some middle) more i r e = more_parameters (b ∷ text) middle left (read_front (b ∷ text) middle r) (more middle e)

parameters_front : (n : ℕ) (text left : List ℕ) → behind_parameters n text ≡ Some left → Parameters text left
unfolding behind_parameters
parameters_front zero text left e = absurd (none_some left e)
parameters_front (suc n) [] left e = absurd (none_some left e)
parameters_front (suc n) (b ∷ text) left e = parameter_front n b text left (b == 41) (behind_type (b ∷ text)) (λ middle. parameters_front n middle left) refl refl e

-- ---- the test of a method

or_true : (b : Bool) → (b || true) ≡ true
or_true true = refl
or_true false = refl

result_of : (t : PlainTy) → IsRecordType t → IsRecordResult t
result_of int_type is = is
result_of bool_type is = is
result_of void_type is = tt
result_of (class_type name) is = is
result_of (array_type t) is = is

value_result : (t : PlainTy) → IsRecordType t → is_result (descriptor t) ≡ true
unfolding is_result
value_result t is = rw (descriptor_is_type t is) (or_true (bytes_eq (descriptor t) (codes "V")))

descriptor_is_result : (t : PlainTy) → IsRecordResult t → is_result (descriptor t) ≡ true
unfolding is_result
descriptor_is_result int_type is = value_result int_type is
descriptor_is_result bool_type is = value_result bool_type is
descriptor_is_result void_type is = refl
descriptor_is_result (class_type name) is = value_result (class_type name) is
descriptor_is_result (array_type t) is = value_result (array_type t) is

record ResultAt (text : List ℕ) : Type 0 where
  ty : PlainTy
  is : IsRecordResult ty
  spelled : descriptor ty ≡ text

result_by : (text : List ℕ) (is_void : Bool) → bytes_eq text (codes "V") ≡ is_void → (is_void || is_type text) ≡ true → ResultAt text
result_by text true v h = record { ty = void_type; is = tt; spelled = sym ((bytes_eq-Decides text (codes "V")).0 v) }
result_by text false v h = let d = type_is_described text h in record { ty = d.0; is = result_of d.0 d.1.is; spelled = d.1.spelled }

result_is_described : (text : List ℕ) → is_result text ≡ true → ResultAt text
unfolding is_result
result_is_described text h = result_by text (bytes_eq text (codes "V")) refl h

method_by : (b : ℕ) (text : List ℕ) (is : Bool) (o : Option (List ℕ)) → (b == 40) ≡ is → behind_parameters (length text) text ≡ o → (if is then option_map_or is_result o false else false) ≡ true
    → (params : List PlainTy) × ((result : PlainTy) × DescribesMethod params result (b ∷ text))
method_by b text false o i e h = absurd cc
method_by b text true None i e h = absurd cc
method_by b text true (Some left) i e h =
    let p = parameters_front (length text) text left e in
    let r = result_is_described left h in
    let spelled : method_descriptor p.types r.ty ≡ b ∷ text =
    (λ j. sym (eqb-true b 40 i) j ∷ (descriptors p.types ++ (41 ∷ r.spelled j))) ∙ ap (λ (z : List ℕ). b ∷ z) p.spelled in
    (p.types, (r.ty, record { params_are = p.are; result_is = r.is; spelled = spelled }))

pub method_is_described : (text : List ℕ) → is_method_descriptor text ≡ true → (params : List PlainTy) × ((result : PlainTy) × DescribesMethod params result text)
unfolding is_method_descriptor
method_is_described [] h = absurd cc
method_is_described (b ∷ text) h = method_by b text (b == 40) (behind_parameters (length text) text) refl refl h

descriptor_is_method : (params : List PlainTy) (result : PlainTy) → AllByRecursion IsRecordType params → IsRecordResult result → is_method_descriptor (method_descriptor params result) ≡ true
unfolding is_method_descriptor
descriptor_is_method params result are is =
    let text = descriptors params ++ 41 ∷ descriptor result in
    let long : suc (length params) ≤ length text = omega (arith, length-append (descriptors params) (41 ∷ descriptor result), descriptors_long params) in
    ap (λ (o : Option (List ℕ)). option_map_or is_result o false) (parameters_again params (length text) (descriptor result) are long) ∙ descriptor_is_result result is

pub described_is_method : (params : List PlainTy) (result : PlainTy) (text : List ℕ) → DescribesMethod params result text → is_method_descriptor text ≡ true
described_is_method params result text d = subst (λ (z : List ℕ). is_method_descriptor z ≡ true) d.spelled (descriptor_is_method params result d.params_are d.result_is)
