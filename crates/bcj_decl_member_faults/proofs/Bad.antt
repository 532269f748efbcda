-- A member is bad where it stands before already or is wrong in itself.
use Rattle.std.proofs.Common.{◌≡◌, Bool, true, false, ◌||◌, ◌⊎◌, inl, inr, List, [], ◌∷◌, refl, sym, ◌∙◌, ap, subst, Result, Ok, Err, IfOk}
use Rattle.std.proofs.lemmas.Bool.{or_cases, or_left, or_right}
use Rattle.std.specs.Bool.{Decides}
use Rattle.std.specs.List.{list_any}
use Rattle.bcj_parser_trees.specs.declared.names.Mods.{Mods}
use Rattle.bcj_parser_trees.specs.declared.names.Param.{Param}
use Rattle.bcj_parser_trees.specs.declared.names.TypeName.{TypeName}
use Rattle.bcj_parser_trees.specs.Trees.{PlainBody, PlainMember, field_member, method_member, constructor_member, static_member, PlainType}
use Rattle.bcj_symbolic_trees.specs.declared.class_tree.MethodKind.{MethodKind}
use Rattle.bcj_symbolic_trees.specs.declared.class_tree.MethodKind.TheVariants as kind
use Rattle.bcj_decl_rules.specs.World.{Named, Method, World, declared_type, method_with, kind_in}
use Rattle.bcj_decl_rules.specs.Faults.{is_abstract, is_field_of, is_method_of, is_constructor_of}
use Rattle.bcj_decl_member_faults.specs.Decisions.{is_wrong_field, is_wrong_method, is_wrong_constructor, IsWrongMethod, IsWrong, IsBad, Clash}
use Rattle.bcj_decl_member_faults.specs.Earlier.{is_again}

-- what fails of each fails
no_one : (ms : List PlainMember) → list_any (λ (m : PlainMember). false) ms ≡ false
no_one [] = refl
no_one (m ∷ ms) = no_one ms

-- a member that stands before is bad
bad_again : (w : World) (t : PlainType) (before : List PlainMember) (m : PlainMember) → list_any (is_again m) before ≡ true → IsBad w t before m
bad_again w t before (field_member at mods ty name init) h = or_left (list_any (is_field_of name) before) (is_wrong_field t.interface mods init) h
bad_again w t before (method_member at mods result name params throws body) h =
    inl (or_left (list_any (is_method_of name params) before) (is_wrong_method t.interface t.is_abstract mods params body (is_abstract (method_with t.interface t.name mods result name params))) h)
bad_again w t before (constructor_member at mods name params throws first body) h = or_left (list_any (is_constructor_of params) before) (is_wrong_constructor t.name mods name params) h
bad_again w t before (static_member at body) h = absurd (let none : list_any (λ (m : PlainMember). false) before ≡ false = no_one before in cc)

-- a member that is wrong in itself is bad
bad_wrong : (w : World) (t : PlainType) (before : List PlainMember) (m : PlainMember) → IsWrong w t m → IsBad w t before m
bad_wrong w t before (field_member at mods ty name init) h = or_right (list_any (is_field_of name) before) (is_wrong_field t.interface mods init) h
bad_wrong w t before (method_member at mods result name params throws body) (inl h) =
    inl (or_right (list_any (is_method_of name params) before) (is_wrong_method t.interface t.is_abstract mods params body (is_abstract (method_with t.interface t.name mods result name params))) h)
bad_wrong w t before (method_member at mods result name params throws body) (inr clash) = inr clash
bad_wrong w t before (constructor_member at mods name params throws first body) h = or_right (list_any (is_constructor_of params) before) (is_wrong_constructor t.name mods name params) h
bad_wrong w t before (static_member at body) h = h

-- a bad member is one or the other
bad_cases : (w : World) (t : PlainType) (before : List PlainMember) (m : PlainMember) → IsBad w t before m → (list_any (is_again m) before ≡ true) ⊎ IsWrong w t m
bad_cases w t before (field_member at mods ty name init) h = or_cases (list_any (is_field_of name) before) (is_wrong_field t.interface mods init) h
bad_cases w t before (method_member at mods result name params throws body) (inl h) =
    elim (or_cases (list_any (is_method_of name params) before) (is_wrong_method t.interface t.is_abstract mods params body (is_abstract (method_with t.interface t.name mods result name params))) h)
    [ inl again ↦ inl again | inr wrong ↦ inr (inl wrong) ]
bad_cases w t before (method_member at mods result name params throws body) (inr clash) = inr (inr clash)
bad_cases w t before (constructor_member at mods name params throws first body) h = or_cases (list_any (is_constructor_of params) before) (is_wrong_constructor t.name mods name params) h
bad_cases w t before (static_member at body) h = absurd h

-- it stands before
pub decides_again : (w : World) (t : PlainType) (before : List PlainMember) (m : PlainMember) (a : Bool) → a ≡ list_any (is_again m) before → a ≡ true → Decides true (IsBad w t before m)
decides_again w t before m a e h = (λ _. bad_again w t before m (sym e ∙ h), λ _. refl)

-- it doesn't stand before
pub decides_wrong : (w : World) (t : PlainType) (before : List PlainMember) (m : PlainMember) (a b : Bool) → a ≡ list_any (is_again m) before → a ≡ false → Decides b (IsWrong w t m) → Decides b (IsBad w t before m)
decides_wrong w t before m a b e h wrong = (
  λ it. bad_wrong w t before m (wrong.0 it),
  λ bad. elim (bad_cases w t before m bad) [ inl again ↦ absurd (let new : list_any (is_again m) before ≡ false = sym e ∙ h in cc) | inr it ↦ wrong.1 it ],
)

-- the first of two tests fails
pub decides_right : (a b c : Bool) (P : Type 0) → a ≡ b → a ≡ false → Decides c P → Decides c ((b ≡ true) ⊎ P)
decides_right a b c P e h d = (λ it. inr (d.0 it), λ either. elim either [ inl left ↦ absurd (let not_it : b ≡ false = sym e ∙ h in cc) | inr right ↦ d.1 right ])

-- a method is abstract in an interface or by its modifier
abbrev is_abstract_kind : MethodKind → Bool
is_abstract_kind k = elim k [ kind.Abstract ↦ true | _ ↦ false ]

-- the kind of a method of a class
abbrev kind_by : Bool → Bool → MethodKind
kind_by a s = elim a [ true ↦ kind.Abstract | false ↦ elim s [ true ↦ kind.Static | false ↦ kind.Instance ] ]

-- it is abstract by its modifier
by_modifiers : (a s : Bool) → is_abstract_kind (kind_by a s) ≡ a
by_modifiers true s = refl
by_modifiers false true = refl
by_modifiers false false = refl

-- in a class or an interface
abstract_kind : (interface : Bool) (mods : Mods) → is_abstract_kind (kind_in interface mods) ≡ (interface || mods.is_abstract)
abstract_kind true mods = refl
abstract_kind false mods = by_modifiers mods.is_abstract mods.is_static

-- the test of a method, by its modifiers
pub method_test : (interface abstract_type : Bool) (mods : Mods) (params : List Param) (body : PlainBody) (class : Named) (result : TypeName) (name : Named)
    → is_wrong_method interface abstract_type mods params body (interface || mods.is_abstract) ≡ is_wrong_method interface abstract_type mods params body (is_abstract (method_with interface class mods result name params))
method_test interface abstract_type mods params body class result name = ap (is_wrong_method interface abstract_type mods params body) (sym (abstract_kind interface mods))

-- a method that is right in itself is wrong where something that passes to its type is at odds with it
pub wrong_method : (w : World) (t : PlainType) (mods : Mods) (params : List Param) (body : PlainBody) (result : TypeName) (name : Named) (a : Bool)
    → a ≡ is_wrong_method t.interface t.is_abstract mods params body (t.interface || mods.is_abstract) → a ≡ false → (d : Method) → d ≡ method_with t.interface t.name mods result name params
    → (b : Bool) → Decides b (Clash w (declared_type t) d) → Decides b (IsWrongMethod w t mods params body (method_with t.interface t.name mods result name params))
wrong_method w t mods params body result name a e no_fault d same b clash =
    let it : Method = method_with t.interface t.name mods result name params in
    let P : Method → Type 0 = λ n. Decides b (Clash w (declared_type t) n) in
    decides_right a (is_wrong_method t.interface t.is_abstract mods params body (is_abstract it)) b (Clash w (declared_type t) it)
    (e ∙ method_test t.interface t.is_abstract mods params body t.name result name) no_fault (subst P same clash)

-- what holds of a result follows for it
pub if_ok : {T E : Type 0} (P Q : T → Type 0) → ((x : T) → P x → Q x) → (r : Result T E) → IfOk r P → IfOk r Q
if_ok P Q f (Ok x) h = f x h
if_ok P Q f (Err e) h = h
