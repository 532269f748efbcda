-- The formats spell records as `spelling` does.
use Rattle.std.proofs.Common.{◌≡◌, ℕ, Bool, true, List, [], ◌∷◌, ◌++◌, length, refl, ap}
use Rattle.std.specs.Prelude.{◌==◌, nat_lt}
use Rattle.std.specs.List.{flat_map}
use Rattle.bcj_names.specs.Identifiers.{is_identifier}
use Rattle.bcj_symbolic_trees.specs.declared.class_tree.ClassHead.{ClassHead}
use Rattle.bcj_tables_rules.specs.declared.parts.ClassPlace.{ClassPlace}
use Rattle.bcj_tables_rules.specs.declared.parts.Tables.{Tables}
use Rattle.bcj_tables_rules.specs.declared.records.ClassRecord.{ClassRecord}
use Rattle.bcj_tables_rules.specs.declared.records.Records.{Records}
use Rattle.bcj_tables_rules.specs.Spelling.{word, text, text_of_option, list, head_bytes, field_bytes, method_bytes, range_bytes, pair_bytes, centry_bytes, oentry_bytes, aentry_bytes, ientry_bytes, tables_bytes, tables_of, class_bytes, spelling}
use Rattle.bcj_tables_rules.specs.Codes.{class_flags_number}
use Rattle.bcj_tables_rules.specs.Format.{Format, spell_items, list_of, text_field}
use Rattle.bcj_tables_rules.specs.Members.{field_format, fields_format, code_format, method_format, methods_format, turn_of, has_field, has_method}
use Rattle.bcj_tables_rules.specs.Entries.{range_format, pair_format, centry_format, member_format, oentry_format, aentry_format}
use Rattle.bcj_tables_rules.specs.Records.{Outside, head_format, tables_format, is_open, class_format, classes_format, records_format}

items_spelled : {A : Type 0} (one : List A → Format A) (f : A → List ℕ) → ((before : List A) (x : A) → (one before).spell x ≡ f x) → (before xs : List A) → spell_items one before xs ≡ flat_map f xs
unfolding spell_items
items_spelled one f same before [] = refl
items_spelled one f same before (x ∷ xs) = λ j. same before x j ++ items_spelled one f same (before ++ x ∷ []) xs j

list_spelled : {A : Type 0} (test : ℕ → Bool) (one : ℕ → List A → Format A) (f : A → List ℕ) → ((count : ℕ) (before : List A) (x : A) → (one count before).spell x ≡ f x) → (xs : List A)
    → (list_of test one).spell xs ≡ list f xs
list_spelled test one f same xs = ap (λ (z : List ℕ). word (length xs) ++ z) (items_spelled (one (length xs)) f (same (length xs)) [] xs)

head_spelled : (name : List ℕ) (h : ClassHead) → (head_format name).spell h ≡ head_bytes h
unfolding head_format head_bytes
head_spelled name h = λ j. text h.name ++ (class_flags_number (record { interface = h.interface; is_abstract = h.is_abstract }) ∷ [] ++ (text (text_of_option h.superclass) ++ list_spelled (λ _. true) (λ _ _. text_field is_identifier) text (λ _ _ t. refl) h.interfaces j))

fields_spelled : (b : Bool) (c : ClassRecord) → (fields_format b).spell c.fields ≡ list field_bytes c.fields
unfolding fields_format field_format field_bytes
fields_spelled b c = list_spelled (λ _. true) (λ _ before. field_format b (has_field before)) field_bytes (λ _ _ f. refl) c.fields

methods_spelled : (p : ClassPlace) (b : Bool) (c : ClassRecord) → (methods_format p b).spell c.methods ≡ list method_bytes c.methods
unfolding methods_format method_format code_format method_bytes
methods_spelled p b c = list_spelled (λ count. nat_lt 0 count) (λ count before. method_format (turn_of p count before) b (has_method before)) method_bytes (λ _ _ m. refl) c.methods

tables_spelled : (p : ClassPlace) (t : Tables) → (tables_format p).spell t ≡ tables_bytes t
unfolding tables_format centry_format oentry_format aentry_format member_format tables_bytes
tables_spelled p t = λ j.
    list_spelled (λ _. true) (λ _ _. centry_format) centry_bytes (λ _ _ e. refl) t.ctable j
    ++ (list_spelled (λ _. true) (λ _ _. oentry_format) oentry_bytes (λ _ _ e. refl) t.otable j
    ++ (list_spelled (λ _. true) (λ _ _. aentry_format) aentry_bytes (λ _ _ e. refl) t.atable j
    ++ (list_spelled (λ _. true) (λ _ _. member_format true) ientry_bytes (λ _ _ e. refl) t.itable j ++ word t.table)))

class_spelled : (version : ℕ) (p : ClassPlace) (name : List ℕ) (c : ClassRecord) → (class_format version p name).spell c ≡ class_bytes c
unfolding class_format class_bytes range_format range_bytes pair_format
class_spelled version p name c = λ j.
    head_spelled name c.head j
    ++ (fields_spelled (is_open version c.head) c j
    ++ (methods_spelled p (is_open version c.head) c j
    ++ (list_spelled (λ _. true) (λ _ _. range_format c.methods) range_bytes (λ _ _ r. refl) c.ranges j
    ++ (list_spelled (λ _. true) (λ _ _. pair_format) pair_bytes (λ _ _ q. refl) c.pairs j ++ tables_spelled p (tables_of c) j))))

pub records_spelled : (o : Outside) (r : Records) → (records_format o).spell r ≡ spelling r
unfolding records_format classes_format spelling
records_spelled o r = λ j.
    word r.version ++ list_spelled (λ count. count == o.count) (λ _ before. class_format r.version (o.place (length before)) (o.name (length before))) class_bytes (λ _ before c. class_spelled r.version (o.place (length before)) (o.name (length before)) c) r.classes j
