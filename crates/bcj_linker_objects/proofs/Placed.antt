-- What records say of the heads of their classes, and of their number.
use Rattle.std.proofs.Common.{◌≡◌, ℕ, ◌<◌, ◌^◌, Bool, true, false, List, [], ◌∷◌, ◌++◌, length, Option, None, Some, refl, sym, subst}
use Rattle.std.specs.Prelude.{◌&&◌, ◌||◌, ◌==◌, nat_lt, is_none, if◌then◌else◌}
use Rattle.std.specs.List.{list_all}
use Rattle.std.specs.Str.{bytes_eq}
use Rattle.std.proofs.lemmas.Bool.{and_parts, and_from, ltb-true}
use Rattle.std.proofs.lemmas.Slice.Eq.{bytes_eq-Decides}
use Rattle.bcj_names.specs.Identifiers.{is_identifier}
use Rattle.bcj_symbolic_trees.specs.Names.{object_name}
use Rattle.bcj_symbolic_trees.specs.declared.class_tree.ClassHead.{ClassHead}
use Rattle.bcj_tables_rules.specs.declared.records.ClassRecord.{ClassRecord}
use Rattle.bcj_tables_rules.specs.declared.parts.ClassPlace.{ClassPlace}
use Rattle.bcj_tables_rules.specs.Texts.{is_empty}
use Rattle.bcj_tables_rules.specs.Format.{Format, meets_items}
use Rattle.bcj_tables_rules.specs.Entries.{is_option_text}
use Rattle.bcj_tables_rules.specs.Spelling.{text_of_option}
use Rattle.bcj_tables_rules.specs.Records.{Outside, Meets, is_superclass, head_format, class_format, classes_format, records_format}
use Rattle.bcj_tables.specs.Places.{outside_of}
use Rattle.bcj_hier_rules.specs.Heads.{is_placed}
use Rattle.bcj_hier_rules.specs.Resolution.{same_bool}
use Rattle.bcj_linker_rules.specs.Memory.{Linked}
use Rattle.bcj_linker_objects.specs.Names.{heads_in}
use Rattle.bcj_linker_objects.specs.Objects.{IsLinked}

-- no identifier is empty
not_empty : is_identifier [] ≡ true → ⊥
unfolding is_identifier
not_empty e = cc

-- what is asked of a superclass says whether there is one
superclass_placed : (name : List ℕ) (interface : Bool) (superclass : Option (List ℕ)) → is_option_text superclass ≡ true → is_superclass name interface (text_of_option superclass) ≡ true
    → same_bool (is_none superclass) (interface || bytes_eq name object_name) ≡ true
unfolding is_superclass
superclass_placed name interface superclass some is = placed (interface || bytes_eq name object_name) superclass some is
  where
    placed : (top : Bool) (superclass : Option (List ℕ)) → is_option_text superclass ≡ true → (if top then is_empty (text_of_option superclass) else is_identifier (text_of_option superclass)) ≡ true
        → same_bool (is_none superclass) top ≡ true
    placed true None some is = refl
    placed false None some is = absurd (not_empty is)
    placed true (Some []) some is = absurd cc
    placed true (Some (b ∷ text)) some is = absurd cc
    placed false (Some text) some is = refl

-- the head of a class is as its superclass asks
head_placed : (name : List ℕ) (h : ClassHead) → (head_format name).meets h ≡ true → is_placed h ≡ true
unfolding head_format
head_placed name h e =
    let first = and_parts _ _ e in
    let named : bytes_eq h.name name ≡ true = (and_parts _ _ first.0).1 in
    let second = and_parts _ _ first.1 in
    let third = and_parts _ _ second.1 in
    let superclass = and_parts _ _ third.0 in
    let asked = and_parts _ _ superclass.1 in
    let same : h.name ≡ name = (bytes_eq-Decides h.name name).0 named in
    superclass_placed h.name h.interface h.superclass superclass.0
    (subst (λ n. is_superclass n h.interface (text_of_option h.superclass) ≡ true) (sym same) asked.1)

-- so is the head of a record
class_placed : (version : ℕ) (p : ClassPlace) (name : List ℕ) (c : ClassRecord) → (class_format version p name).meets c ≡ true → is_placed c.head ≡ true
unfolding class_format
class_placed version p name c e = head_placed name c.head (and_parts _ _ e).0

module _ (o : Outside) (version : ℕ) where
  abbrev one : List ClassRecord → Format ClassRecord
  one before = class_format version (o.place (length before)) (o.name (length before))

  -- and the heads of all records of an object
  items_placed : (before cs : List ClassRecord) → meets_items one before cs ≡ true → list_all is_placed (heads_in cs) ≡ true
  unfolding meets_items
  items_placed before [] e = refl
  items_placed before (c ∷ cs) e =
      let parts = and_parts ((one before).meets c) (meets_items one (before ++ c ∷ []) cs) e in
      and_from (is_placed c.head) (list_all is_placed (heads_in cs)) (class_placed version (o.place (length before)) (o.name (length before)) c parts.0) (items_placed (before ++ c ∷ []) cs parts.1)

-- what records ask of the list of their classes
pub record AreAsked (o : Outside) (version : ℕ) (cs : List ClassRecord) : Type 0 where
  pub few : length cs < 2 ^ 32
  pub items : meets_items (one o version) [] cs ≡ true

-- the records of an object say so
classes_asked : (o : Outside) (version : ℕ) (cs : List ClassRecord) → Meets o (record { version = version; classes = cs }) → AreAsked o version cs
unfolding records_format classes_format
classes_asked o version cs e =
    let records = and_parts _ _ e in
    let count = and_parts (nat_lt (length cs) (2 ^ 32) && length cs == o.count) (meets_items (one o version) [] cs) records.1 in
    let few = and_parts (nat_lt (length cs) (2 ^ 32)) (length cs == o.count) count.0 in
    record { few = ltb-true (length cs) (2 ^ 32) few.0; items = count.1 }

-- and those of bytes that are one
asked : (bytes : List ℕ) (l : Linked) (is : IsLinked bytes l) → AreAsked (outside_of l.object) is.version l.classes
asked bytes l is = classes_asked (outside_of l.object) is.version l.classes is.meets

-- an object has fewer classes than a word can count
pub few_classes : (bytes : List ℕ) (l : Linked) → IsLinked bytes l → length l.classes < 2 ^ 32
few_classes bytes l is = (asked bytes l is).few

-- exactly Object and the interfaces of an object have no superclass
pub linked_placed : (bytes : List ℕ) (l : Linked) → IsLinked bytes l → list_all is_placed (heads_in l.classes) ≡ true
linked_placed bytes l is = items_placed (outside_of l.object) is.version [] l.classes (asked bytes l is).items
