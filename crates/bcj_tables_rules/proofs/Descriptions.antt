-- Each part of the records is read as it is written, and only so.
use Rattle.std.proofs.Common.{◌≡◌, ℕ, ◌+◌, Bool, true, false, List, [], ◌∷◌, Option, None, Some, length, refl}
use Rattle.std.specs.Prelude.{◌==◌, nat_lt}
use Rattle.bcj_names.specs.Identifiers.{is_identifier}
use Rattle.bcj_symbolic_trees.specs.declared.class_tree.MethodKind.{MethodKind}
use Rattle.bcj_symbolic_trees.specs.declared.class_tree.MethodKind.TheVariants.{Static, Instance, Abstract, Constructor}
use Rattle.bcj_tables_rules.specs.declared.records.AEntryKind.{AEntryKind}
use Rattle.bcj_tables_rules.specs.declared.records.AEntryKind.TheVariants.{Field, StaticMethod, Special}
use Rattle.bcj_tables_rules.specs.declared.records.MethodRecord.{MethodRecord}
use Rattle.bcj_tables_rules.specs.declared.codes.ClassFlags.{ClassFlags}
use Rattle.bcj_tables_rules.specs.declared.codes.FieldFlags.{FieldFlags}
use Rattle.bcj_tables_rules.specs.declared.codes.MethodCode.{MethodCode}
use Rattle.bcj_tables_rules.specs.declared.parts.ClassPlace.{ClassPlace}
use Rattle.bcj_tables_rules.specs.declared.parts.MethodTurn.{MethodTurn}
use Rattle.bcj_tables_rules.specs.Codes.{bit, is_one, class_flags_number, class_flags_of, field_flags_number, field_flags_of, method_code_number, method_code_of, address_number, address_of}
use Rattle.bcj_tables_rules.specs.Texts.{is_type, is_member_name}
use Rattle.bcj_tables_rules.specs.Spelling.{text_of_option}
use Rattle.bcj_tables_rules.specs.Members as member
use Rattle.bcj_tables_rules.specs.Members.{always}
use Rattle.bcj_tables_rules.specs.Entries as entry
use Rattle.bcj_tables_rules.specs.Entries.{option_of_text, is_option_text, option_field}
use Rattle.bcj_tables_rules.specs.Records as rule
use Rattle.bcj_tables_rules.specs.Records.{Outside}
use Rattle.bcj_tables_rules.proofs.Lawful.{Lawful, word_lawful, text_lawful, made_lawful, then_lawful, code_lawful, list_lawful}

-- ---- codes

bit_back : (b : Bool) → is_one (bit b) ≡ b
bit_back true = refl
bit_back false = refl

class_flags_by : (i a : Bool) → class_flags_of (class_flags_number (record { interface = i; is_abstract = a })) ≡ record { interface = i; is_abstract = a }
class_flags_by true true = refl
class_flags_by true false = refl
class_flags_by false true = refl
class_flags_by false false = refl

class_flags_back : (f : ClassFlags) → class_flags_of (class_flags_number f) ≡ f
class_flags_back f = class_flags_by f.interface f.is_abstract

abbrev flags : Bool → Bool → Bool → Bool → FieldFlags
flags s f p c = record { is_static = s; is_final = f; is_private = p; is_constant = c }

field_flags_by : (s f p c : Bool) → field_flags_of (field_flags_number (flags s f p c)) ≡ flags s f p c
field_flags_by true true true true = refl
field_flags_by true true true false = refl
field_flags_by true true false true = refl
field_flags_by true true false false = refl
field_flags_by true false true true = refl
field_flags_by true false true false = refl
field_flags_by true false false true = refl
field_flags_by true false false false = refl
field_flags_by false true true true = refl
field_flags_by false true true false = refl
field_flags_by false true false true = refl
field_flags_by false true false false = refl
field_flags_by false false true true = refl
field_flags_by false false true false = refl
field_flags_by false false false true = refl
field_flags_by false false false false = refl

field_flags_back : (f : FieldFlags) → field_flags_of (field_flags_number f) ≡ f
field_flags_back f = field_flags_by f.is_static f.is_final f.is_private f.is_constant

method_code_by : (k : MethodKind) (p : Bool) → method_code_of (method_code_number (record { kind = k; is_private = p })) ≡ record { kind = k; is_private = p }
method_code_by Static true = refl
method_code_by Static false = refl
method_code_by Instance true = refl
method_code_by Instance false = refl
method_code_by Abstract true = refl
method_code_by Abstract false = refl
method_code_by Constructor true = refl
method_code_by Constructor false = refl

method_code_back : (c : MethodCode) → method_code_of (method_code_number c) ≡ c
method_code_back c = method_code_by c.kind c.is_private

address_back : (k : AEntryKind) → address_of (address_number k) ≡ k
address_back Field = refl
address_back StaticMethod = refl
address_back Special = refl

-- ---- texts that may be none

there : (t : List ℕ) → text_of_option (option_of_text t) ≡ t
there [] = refl
there (b ∷ t) = refl

kept : (t : List ℕ) → is_option_text (option_of_text t) ≡ true
kept [] = refl
kept (b ∷ t) = refl

back : (o : Option (List ℕ)) → is_option_text o ≡ true → option_of_text (text_of_option o) ≡ o
back None h = refl
back (Some []) h = absurd cc
back (Some (b ∷ t)) h = refl

option_lawful : (test : List ℕ → Bool) → Lawful (option_field test)
option_lawful test = made_lawful is_option_text option_of_text text_of_option (text_lawful test) (record { there = λ t h. there t; kept = λ t h. kept t; back = back })

-- ---- members

field_lawful : (is_open : Bool) (seen : List ℕ → Bool) → Lawful (member.field_format is_open seen)
unfolding member.field_format
field_lawful is_open seen =
    made_lawful always member.field_from member.field_parts
    (then_lawful (text_lawful is_identifier) (λ name. then_lawful (text_lawful (member.is_new_type seen name)) (λ ty. then_lawful (code_lawful field_flags_number field_flags_of (member.are_field_flags is_open) field_flags_back) (λ flags. word_lawful (member.is_value flags)))))
    (record { there = λ p h. refl; kept = λ p h. refl; back = λ f h. refl })

fields_lawful : (is_open : Bool) → Lawful (member.fields_format is_open)
unfolding member.fields_format
fields_lawful is_open = list_lawful (λ _. true) (λ _ before. field_lawful is_open (member.has_field before))

code_lawful_of : (turn : MethodTurn) (kind : MethodKind) → Lawful (member.code_format turn kind)
unfolding member.code_format
code_lawful_of turn kind =
    made_lawful always member.span_from member.span_parts
    (then_lawful (word_lawful (member.is_entry turn kind)) (λ entry. then_lawful (word_lawful (member.is_length turn kind)) (λ words. word_lawful (member.is_frame kind))))
    (record { there = λ p h. refl; kept = λ p h. refl; back = λ s h. refl })

method_lawful : (turn : MethodTurn) (is_open : Bool) (seen : List ℕ → Bool) → Lawful (member.method_format turn is_open seen)
unfolding member.method_format
method_lawful turn is_open seen =
    made_lawful always member.method_from member.method_parts
    (then_lawful (text_lawful (member.is_method_name turn)) (λ name. then_lawful (text_lawful (member.is_new_desc seen name)) (λ desc. then_lawful (code_lawful method_code_number method_code_of (member.is_method_code turn is_open name) method_code_back) (λ code. code_lawful_of turn code.kind))))
    (record { there = λ p h. refl; kept = λ p h. refl; back = λ m h. refl })

methods_lawful : (p : ClassPlace) (is_open : Bool) → Lawful (member.methods_format p is_open)
unfolding member.methods_format
methods_lawful p is_open = list_lawful (λ count. nat_lt 0 count) (λ count before. method_lawful (member.turn_of p count before) is_open (member.has_method before))

-- ---- ranges, pairs and tables

range_lawful : (methods : List MethodRecord) → Lawful (entry.range_format methods)
unfolding entry.range_format
range_lawful methods =
    made_lawful always entry.range_from entry.range_parts
    (then_lawful (word_lawful (entry.has_code methods)) (λ method. then_lawful (word_lawful (entry.is_start methods method)) (λ start. then_lawful (word_lawful (entry.is_end methods method start)) (λ past. then_lawful (word_lawful (entry.is_target methods method)) (λ target. option_lawful entry.is_option_name)))))
    (record { there = λ p h. refl; kept = λ p h. refl; back = λ r h. refl })

pair_lawful : Lawful entry.pair_format
unfolding entry.pair_format
pair_lawful = made_lawful always entry.pair_from entry.pair_parts (then_lawful (text_lawful is_type) (λ from. text_lawful is_type)) (record { there = λ p h. refl; kept = λ p h. refl; back = λ q h. refl })

centry_lawful : Lawful entry.centry_format
unfolding entry.centry_format
centry_lawful =
    made_lawful always entry.centry_from entry.centry_parts (then_lawful (code_lawful bit is_one always bit_back) (λ is_new. text_lawful (entry.is_ctable_type is_new))) (record { there = λ p h. refl; kept = λ p h. refl; back = λ e h. refl })

member_lawful : (is_method : Bool) → Lawful (entry.member_format is_method)
unfolding entry.member_format
member_lawful is_method =
    made_lawful always entry.member_from entry.member_parts
    (then_lawful (text_lawful is_identifier) (λ class. then_lawful (text_lawful is_member_name) (λ name. text_lawful (entry.is_member_type is_method))))
    (record { there = λ p h. refl; kept = λ p h. refl; back = λ e h. refl })

oentry_lawful : Lawful entry.oentry_format
unfolding entry.oentry_format
oentry_lawful = made_lawful always entry.oentry_from entry.oentry_parts (then_lawful (code_lawful bit is_one always bit_back) member_lawful) (record { there = λ p h. refl; kept = λ p h. refl; back = λ e h. refl })

aentry_lawful : Lawful entry.aentry_format
unfolding entry.aentry_format
aentry_lawful =
    made_lawful always entry.aentry_from entry.aentry_parts (then_lawful (code_lawful address_number address_of always address_back) (λ kind. member_lawful (entry.is_method_address kind))) (record { there = λ p h. refl; kept = λ p h. refl; back = λ e h. refl })

tables_lawful : (p : ClassPlace) → Lawful (rule.tables_format p)
unfolding rule.tables_format
tables_lawful p =
    made_lawful always rule.tables_from rule.tables_parts
    (then_lawful (list_lawful (λ _. true) (λ _ _. centry_lawful))
    (λ cs. then_lawful (list_lawful (λ _. true) (λ _ _. oentry_lawful))
    (λ os. then_lawful (list_lawful (λ _. true) (λ _ _. aentry_lawful))
    (λ adrs. then_lawful (list_lawful (λ _. true) (λ _ _. member_lawful true)) (λ is. word_lawful (rule.is_table p (length cs + length os + length adrs + length is)))))))
    (record { there = λ p h. refl; kept = λ p h. refl; back = λ t h. refl })

-- ---- classes

head_lawful : (name : List ℕ) → Lawful (rule.head_format name)
unfolding rule.head_format
head_lawful name =
    made_lawful always rule.head_from rule.head_parts
    (then_lawful (text_lawful (rule.is_name name))
    (λ text. then_lawful (code_lawful class_flags_number class_flags_of always class_flags_back)
    (λ flags. then_lawful (option_lawful (rule.is_superclass name flags.interface)) (λ superclass. list_lawful (λ _. true) (λ _ _. text_lawful is_identifier)))))
    (record { there = λ p h. refl; kept = λ p h. refl; back = λ head h. refl })

class_lawful : (version : ℕ) (p : ClassPlace) (name : List ℕ) → Lawful (rule.class_format version p name)
unfolding rule.class_format
class_lawful version p name =
    made_lawful always rule.class_from rule.class_parts
    (then_lawful (head_lawful name)
    (λ head. then_lawful (fields_lawful (rule.is_open version head))
    (λ fields. then_lawful (methods_lawful p (rule.is_open version head))
    (λ methods. then_lawful (list_lawful (λ _. true) (λ _ _. range_lawful methods))
    (λ ranges. then_lawful (list_lawful (λ _. true) (λ _ _. pair_lawful)) (λ pairs. tables_lawful p))))))
    (record { there = λ p h. refl; kept = λ p h. refl; back = λ c h. refl })

classes_lawful : (o : Outside) (version : ℕ) → Lawful (rule.classes_format o version)
unfolding rule.classes_format
classes_lawful o version = list_lawful (λ count. count == o.count) (λ _ before. class_lawful version (o.place (length before)) (o.name (length before)))

pub records_lawful : (o : Outside) → Lawful (rule.records_format o)
unfolding rule.records_format
records_lawful o =
    made_lawful always rule.records_from rule.records_parts (then_lawful (word_lawful rule.is_version) (λ version. classes_lawful o version)) (record { there = λ p h. refl; kept = λ p h. refl; back = λ r h. refl })
