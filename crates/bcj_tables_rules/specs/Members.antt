-- What is asked of the fields and methods of a class.
use Rattle.std.specs.Prelude.{ℕ, ◌+◌, ◌*◌, List, [], ◌∷◌, ◌++◌, length, Bool, true, false, not, ◌&&◌, ◌||◌, ◌==◌, nat_lt, nat_le, codes, if◌then◌else◌}
use Rattle.std.specs.List.{list_any, list_all}
use Rattle.std.specs.Str.{bytes_eq}
use Rattle.bcj_names.specs.Identifiers.{is_identifier}
use Rattle.bcj_symbolic_trees.specs.Names.{constructor_name, class_initialiser_name}
use Rattle.bcj_symbolic_trees.specs.declared.class_tree.MethodKind.{MethodKind}
use Rattle.bcj_tables_rules.specs.declared.records.FieldRecord.{FieldRecord}
use Rattle.bcj_tables_rules.specs.declared.records.MethodRecord.{MethodRecord}
use Rattle.bcj_tables_rules.specs.declared.codes.FieldFlags.{FieldFlags}
use Rattle.bcj_tables_rules.specs.declared.codes.MethodCode.{MethodCode}
use Rattle.bcj_tables_rules.specs.declared.parts.ClassPlace.{ClassPlace}
use Rattle.bcj_tables_rules.specs.declared.parts.MethodTurn.{MethodTurn}
use Rattle.bcj_tables_rules.specs.declared.parts.CodeSpan.{CodeSpan}
use Rattle.bcj_tables_rules.specs.Codes.{field_flags_number, field_flags_of, method_code_number, method_code_of, is_abstract, is_static, is_constructor}
use Rattle.bcj_tables_rules.specs.Texts.{is_type, is_method_descriptor}
use Rattle.bcj_tables_rules.specs.Format.{Format, word_field, text_field, made, code_field, ◌>>◌, list_of}

-- the name and the descriptor of a member as one text; no name has a colon
abbrev pub member_key : List ℕ → List ℕ → List ℕ
member_key name desc = name ++ codes ":" ++ desc

abbrev pub always : {A : Type 0} → A → Bool
always _ = true

-- ---- fields

-- a constant is static; is_open says that members may be private
abbrev pub are_field_flags : Bool → FieldFlags → Bool
are_field_flags is_open f = (not f.is_constant || f.is_static) && (not f.is_private || is_open)

abbrev pub field_from : List ℕ × (List ℕ × (FieldFlags × ℕ)) → FieldRecord
field_from p = record {
  name = p.0;
  ty = p.1.0;
  is_static = p.1.1.0.is_static;
  is_final = p.1.1.0.is_final;
  is_private = p.1.1.0.is_private;
  is_constant = p.1.1.0.is_constant;
  value = p.1.1.1;
}

abbrev pub field_parts : FieldRecord → List ℕ × (List ℕ × (FieldFlags × ℕ))
field_parts f = (f.name, (f.ty, (record { is_static = f.is_static; is_final = f.is_final; is_private = f.is_private; is_constant = f.is_constant }, f.value)))

-- seen tells the keys of the members before
abbrev pub is_new_type : (List ℕ → Bool) → List ℕ → List ℕ → Bool
is_new_type seen name ty = is_type ty && not (seen (member_key name ty))

-- what is no constant has the value 0
abbrev pub is_value : FieldFlags → ℕ → Bool
is_value flags value = flags.is_constant || value == 0

unfoldable pub field_format : Bool → (List ℕ → Bool) → Format FieldRecord
field_format is_open seen =
    made always field_from field_parts
    (text_field is_identifier
    >> (λ name. text_field (is_new_type seen name)
    >> (λ ty. code_field field_flags_number field_flags_of (are_field_flags is_open)
    >> (λ flags. word_field (is_value flags)))))

abbrev pub has_field : List FieldRecord → List ℕ → Bool
has_field before key = list_any (λ f. bytes_eq (member_key f.name f.ty) key) before

-- No field's name stands twice with its type.
unfoldable pub fields_format : Bool → Format (List FieldRecord)
fields_format is_open = list_of (λ _. true) (λ _ before. field_format is_open (has_field before))

-- ---- methods

-- the class initialiser is the first; then come the constructors
unfoldable pub is_method_name : MethodTurn → List ℕ → Bool
is_method_name turn name =
    if turn.is_first then bytes_eq name class_initialiser_name else is_identifier name || turn.may_construct && bytes_eq name constructor_name

unfoldable pub is_method_type : List ℕ → List ℕ → Bool
is_method_type name desc = if bytes_eq name class_initialiser_name then bytes_eq desc (codes "()V") else is_method_descriptor desc

unfoldable pub is_kind_of : List ℕ → MethodCode → Bool
is_kind_of name code =
    if bytes_eq name class_initialiser_name then is_static code.kind && not code.is_private
    else (if bytes_eq name constructor_name then is_constructor code.kind else not (is_constructor code.kind))

-- an abstract method that is the last leaves no code, another method needs some
unfoldable pub finds_code : MethodTurn → MethodKind → Bool
finds_code turn kind = if is_abstract kind then not turn.is_last || turn.code == turn.code_end else nat_lt turn.code turn.code_end

-- an abstract method isn't private
unfoldable pub is_method_code : MethodTurn → Bool → List ℕ → MethodCode → Bool
is_method_code turn is_open name code = is_kind_of name code && (not code.is_private || is_open && not (is_abstract code.kind)) && finds_code turn code.kind

-- at least one word, in the code of the class, and the last method fills it
unfoldable pub are_words : MethodTurn → ℕ → Bool
are_words turn words =
    nat_lt 0 words && nat_le (turn.code + 4 * words) turn.code_end && (not turn.is_last || turn.code + 4 * words == turn.code_end)

abbrev pub span_from : ℕ × (ℕ × ℕ) → CodeSpan
span_from p = record { entry = p.0; words = p.1.0; frame = p.1.1 }

abbrev pub span_parts : CodeSpan → ℕ × (ℕ × ℕ)
span_parts s = (s.entry, (s.words, s.frame))

-- an abstract method has 0 in all three; a frame has one word at least, and its bytes are an immediate
abbrev pub is_entry : MethodTurn → MethodKind → ℕ → Bool
is_entry turn kind entry = if is_abstract kind then entry == 0 else entry == turn.code

abbrev pub is_length : MethodTurn → MethodKind → ℕ → Bool
is_length turn kind words = if is_abstract kind then words == 0 else are_words turn words

abbrev pub is_frame : MethodKind → ℕ → Bool
is_frame kind frame = if is_abstract kind then frame == 0 else nat_lt 0 frame && nat_le frame 508

unfoldable pub code_format : MethodTurn → MethodKind → Format CodeSpan
code_format turn kind =
    made always span_from span_parts
    (word_field (is_entry turn kind) >> (λ _. word_field (is_length turn kind) >> (λ _. word_field (is_frame kind))))

abbrev pub is_new_desc : (List ℕ → Bool) → List ℕ → List ℕ → Bool
is_new_desc seen name desc = is_method_type name desc && not (seen (member_key name desc))

abbrev pub method_from : List ℕ × (List ℕ × (MethodCode × CodeSpan)) → MethodRecord
method_from p = record {
  name = p.0;
  desc = p.1.0;
  kind = p.1.1.0.kind;
  is_private = p.1.1.0.is_private;
  entry = p.1.1.1.entry;
  words = p.1.1.1.words;
  frame = p.1.1.1.frame;
}

abbrev pub method_parts : MethodRecord → List ℕ × (List ℕ × (MethodCode × CodeSpan))
method_parts m = (m.name, (m.desc, (record { kind = m.kind; is_private = m.is_private }, record { entry = m.entry; words = m.words; frame = m.frame })))

unfoldable pub method_format : MethodTurn → Bool → (List ℕ → Bool) → Format MethodRecord
method_format turn is_open seen =
    made always method_from method_parts
    (text_field (is_method_name turn)
    >> (λ name. text_field (is_new_desc seen name)
    >> (λ desc. code_field method_code_number method_code_of (is_method_code turn is_open name)
    >> (λ code. code_format turn code.kind))))

abbrev pub has_method : List MethodRecord → List ℕ → Bool
has_method before key = list_any (λ m. bytes_eq (member_key m.name m.desc) key) before

-- the code of the methods before stands without gaps from the beginning of that of the class
abbrev pub code_behind : ℕ → List MethodRecord → ℕ
code_behind from [] = from
code_behind from (m ∷ ms) = code_behind (from + 4 * m.words) ms

abbrev pub none_named : List MethodRecord → Bool
none_named before = list_all (λ m. not (is_identifier m.name)) before

abbrev pub is_nil : {A : Type 0} → List A → Bool
is_nil [] = true
is_nil (x ∷ xs) = false

abbrev pub turn_of : ClassPlace → ℕ → List MethodRecord → MethodTurn
turn_of p count before = record {
  is_first = length before == 0;
  is_last = length before + 1 == count;
  may_construct = none_named before;
  code = code_behind p.code before;
  code_end = p.code + p.code_size;
}

-- The first method is the class initialiser. No method's name stands twice with its descriptor.
unfoldable pub methods_format : ClassPlace → Bool → Format (List MethodRecord)
methods_format p is_open = list_of (λ count. nat_lt 0 count) (λ count before. method_format (turn_of p count before) is_open (has_method before))
