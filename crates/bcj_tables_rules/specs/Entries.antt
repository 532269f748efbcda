-- What is asked of the ranges, of the pairs and of the entries of the four tables.
use Rattle.std.specs.Prelude.{ℕ, ◌+◌, ◌*◌, ◌%◌, List, [], ◌∷◌, Bool, true, false, not, ◌&&◌, ◌||◌, ◌==◌, nat_lt, nat_le, Option, Some, None, slice_get, if◌then◌else◌}
use Rattle.std.specs.Option.{option_map_or}
use Rattle.bcj_names.specs.Identifiers.{is_identifier}
use Rattle.bcj_tables_rules.specs.declared.records.MethodRecord.{MethodRecord}
use Rattle.bcj_tables_rules.specs.declared.records.Range.{Range}
use Rattle.bcj_tables_rules.specs.declared.records.PairRecord.{PairRecord}
use Rattle.bcj_tables_rules.specs.declared.records.CEntry.{CEntry}
use Rattle.bcj_tables_rules.specs.declared.records.OEntry.{OEntry}
use Rattle.bcj_tables_rules.specs.declared.records.AEntry.{AEntry}
use Rattle.bcj_tables_rules.specs.declared.records.IEntry.{IEntry}
use Rattle.bcj_tables_rules.specs.declared.records.AEntryKind.{AEntryKind}
use Rattle.bcj_tables_rules.specs.declared.records.AEntryKind.TheVariants.{Field, StaticMethod, Special}
use Rattle.bcj_tables_rules.specs.Codes.{bit, is_one, address_number, address_of}
use Rattle.bcj_tables_rules.specs.Texts.{is_empty, is_member_name, is_type, is_class_type, is_array_type, is_method_descriptor}
use Rattle.bcj_tables_rules.specs.Spelling.{text_of_option}
use Rattle.bcj_tables_rules.specs.Members.{always}
use Rattle.bcj_tables_rules.specs.Format.{Format, word_field, text_field, made, code_field, ◌>>◌}

-- an empty text is none
abbrev pub option_of_text : List ℕ → Option (List ℕ)
option_of_text [] = None
option_of_text (b ∷ text) = Some (b ∷ text)

abbrev pub is_option_text : Option (List ℕ) → Bool
is_option_text None = true
is_option_text (Some t) = not (is_empty t)

-- a text that may be none
abbrev pub option_field : (List ℕ → Bool) → Format (Option (List ℕ))
option_field test = made is_option_text option_of_text text_of_option (text_field test)

-- ---- ranges

-- where the code of a method begins and ends; an abstract one has none, as has a number without a method
unfoldable pub begins_at : List MethodRecord → ℕ → ℕ
begins_at methods number = option_map_or (λ m. m.entry) (slice_get methods number) 0

unfoldable pub ends_at : List MethodRecord → ℕ → ℕ
ends_at methods number = option_map_or (λ m. m.entry + 4 * m.words) (slice_get methods number) 0

-- an instruction begins there, or the code ends there
abbrev pub is_place : ℕ → ℕ → ℕ → Bool
is_place at least most = at % 4 == 0 && nat_le least at && nat_le at most

abbrev pub is_option_name : List ℕ → Bool
is_option_name t = is_empty t || is_identifier t

abbrev pub range_from : ℕ × (ℕ × (ℕ × (ℕ × Option (List ℕ)))) → Range
range_from p = record { method = p.0; start = p.1.0; «end» = p.1.1.0; target = p.1.1.1.0; class = p.1.1.1.1 }

abbrev pub range_parts : Range → ℕ × (ℕ × (ℕ × (ℕ × Option (List ℕ))))
range_parts r = (r.method, (r.start, (r.end, (r.target, r.class))))

abbrev pub has_code : List MethodRecord → ℕ → Bool
has_code methods method = nat_lt (begins_at methods method) (ends_at methods method)

abbrev pub is_start : List MethodRecord → ℕ → ℕ → Bool
is_start methods method start = is_place start (begins_at methods method) (ends_at methods method)

abbrev pub is_end : List MethodRecord → ℕ → ℕ → ℕ → Bool
is_end methods method start past = is_place past start (ends_at methods method)

abbrev pub is_target : List MethodRecord → ℕ → ℕ → Bool
is_target methods method target = is_place target (begins_at methods method) (ends_at methods method) && nat_lt target (ends_at methods method)

-- The range lies in the code of its method, and its target at an instruction there.
unfoldable pub range_format : List MethodRecord → Format Range
range_format methods =
    made always range_from range_parts
    (word_field (has_code methods)
    >> (λ method. word_field (is_start methods method)
    >> (λ start. word_field (is_end methods method start)
    >> (λ past. word_field (is_target methods method)
    >> (λ target. option_field is_option_name)))))

-- ---- pairs

abbrev pub pair_from : List ℕ × List ℕ → PairRecord
pair_from p = record { from = p.0; to = p.1 }

abbrev pub pair_parts : PairRecord → List ℕ × List ℕ
pair_parts p = (p.from, p.to)

unfoldable pub pair_format : Format PairRecord
pair_format = made always pair_from pair_parts (text_field is_type >> (λ _. text_field is_type))

-- ---- tables

abbrev pub is_ctable_type : Bool → List ℕ → Bool
is_ctable_type is_new ty = is_class_type ty || not is_new && is_array_type ty

abbrev pub centry_from : Bool × List ℕ → CEntry
centry_from p = record { is_new = p.0; ty = p.1 }

abbrev pub centry_parts : CEntry → Bool × List ℕ
centry_parts e = (e.is_new, e.ty)

-- an object is made of a class; other uses name arrays too
unfoldable pub centry_format : Format CEntry
centry_format = made always centry_from centry_parts (code_field bit is_one always >> (λ is_new. text_field (is_ctable_type is_new)))

abbrev pub is_member_type : Bool → List ℕ → Bool
is_member_type is_method desc = if is_method then is_method_descriptor desc else is_type desc

abbrev pub member_from : List ℕ × (List ℕ × List ℕ) → IEntry
member_from p = record { class = p.0; name = p.1.0; desc = p.1.1 }

abbrev pub member_parts : IEntry → List ℕ × (List ℕ × List ℕ)
member_parts e = (e.class, (e.name, e.desc))

-- a class, a name in it and the descriptor of a method or of a field
unfoldable pub member_format : Bool → Format IEntry
member_format is_method =
    made always member_from member_parts
    (text_field is_identifier >> (λ _. text_field is_member_name >> (λ _. text_field (is_member_type is_method))))

abbrev pub oentry_from : Bool × IEntry → OEntry
oentry_from p = record { is_method = p.0; class = p.1.class; name = p.1.name; desc = p.1.desc }

abbrev pub oentry_parts : OEntry → Bool × IEntry
oentry_parts e = (e.is_method, record { class = e.class; name = e.name; desc = e.desc })

unfoldable pub oentry_format : Format OEntry
oentry_format = made always oentry_from oentry_parts (code_field bit is_one always >> member_format)

abbrev pub is_method_address : AEntryKind → Bool
is_method_address Field = false
is_method_address StaticMethod = true
is_method_address Special = true

abbrev pub aentry_from : AEntryKind × IEntry → AEntry
aentry_from p = record { kind = p.0; class = p.1.class; name = p.1.name; desc = p.1.desc }

abbrev pub aentry_parts : AEntry → AEntryKind × IEntry
aentry_parts e = (e.kind, record { class = e.class; name = e.name; desc = e.desc })

unfoldable pub aentry_format : Format AEntry
aentry_format = made always aentry_from aentry_parts (code_field address_number address_of always >> (λ kind. member_format (is_method_address kind)))
