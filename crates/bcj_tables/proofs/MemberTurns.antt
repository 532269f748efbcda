-- The loops that read the members of a class: what the members so far say of the next one.
use Rattle.std.proofs.Common.{◌≡◌, ℕ, ◌+◌, ◌*◌, ◌≤◌, Bool, true, false, List, [], ◌∷◌, ◌++◌, length, refl, sym, ap, ◌∙◌, arith}
use Rattle.std.specs.Prelude.{not, ◌&&◌, ◌||◌, ◌==◌}
use Rattle.std.specs.List.{list_any, list_all}
use Rattle.std.specs.Str.{bytes_eq}
use Rattle.std.proofs.lemmas.Bool.{leb-true, eqb-true, and_parts}
use Rattle.bcj_names.specs.Identifiers.{is_identifier}
use Rattle.bcj_symbolic_trees.specs.declared.class_tree.MethodKind.{MethodKind}
use Rattle.bcj_symbolic_trees.specs.declared.class_tree.MethodKind.TheVariants.{Static, Instance, Abstract, Constructor}
use Rattle.bcj_tables_rules.specs.declared.parts.ClassPlace.{ClassPlace}
use Rattle.bcj_tables_rules.specs.declared.parts.MethodTurn.{MethodTurn}
use Rattle.bcj_tables_rules.specs.declared.records.FieldRecord.{FieldRecord}
use Rattle.bcj_tables_rules.specs.declared.records.MethodRecord.{MethodRecord}
use Rattle.bcj_tables_rules.specs.Members.{member_key, field_format, has_field, method_format, has_method, is_length, are_words, code_behind, none_named, turn_of}

-- ---- what one more member changes

or_assoc : (a b c : Bool) → (a || (b || c)) ≡ ((a || b) || c)
or_assoc true b c = refl
or_assoc false b c = refl

or_false : (a : Bool) → (a || false) ≡ a
or_false true = refl
or_false false = refl

any_more : {A : Type 0} (p : A → Bool) (xs : List A) (x : A) → list_any p (xs ++ x ∷ []) ≡ (list_any p xs || p x)
any_more p [] x = or_false (p x)
any_more p (y ∷ ys) x = ap (λ b. p y || b) (any_more p ys x) ∙ or_assoc (p y) (list_any p ys) (p x)

and_assoc : (a b c : Bool) → (a && (b && c)) ≡ ((a && b) && c)
and_assoc true b c = refl
and_assoc false b c = refl

and_end : (a : Bool) → (a && true) ≡ a
and_end true = refl
and_end false = refl

all_more : {A : Type 0} (p : A → Bool) (xs : List A) (x : A) → list_all p (xs ++ x ∷ []) ≡ (list_all p xs && p x)
all_more p [] x = and_end (p x)
all_more p (y ∷ ys) x = ap (λ b. p y && b) (all_more p ys x) ∙ and_assoc (p y) (list_all p ys) (p x)

-- a field's key is noted
pub field_noted : (old new : List ℕ → Bool) (found : List FieldRecord) (f : FieldRecord) → ((q : List ℕ) → old q ≡ has_field found q)
    → ((q : List ℕ) → new q ≡ (old q || bytes_eq (member_key f.name f.ty) q)) → (q : List ℕ) → new q ≡ has_field (found ++ f ∷ []) q
field_noted old new found f h k q = k q ∙ (ap (λ b. b || bytes_eq (member_key f.name f.ty) q) (h q) ∙ sym (any_more (λ g. bytes_eq (member_key g.name g.ty) q) found f))

-- a method's key is noted
pub method_noted : (old new : List ℕ → Bool) (found : List MethodRecord) (m : MethodRecord) → ((q : List ℕ) → old q ≡ has_method found q)
    → ((q : List ℕ) → new q ≡ (old q || bytes_eq (member_key m.name m.desc) q)) → (q : List ℕ) → new q ≡ has_method (found ++ m ∷ []) q
method_noted old new found m h k q = k q ∙ (ap (λ b. b || bytes_eq (member_key m.name m.desc) q) (h q) ∙ sym (any_more (λ n. bytes_eq (member_key n.name n.desc) q) found m))

-- the keys say what the fields say
pub field_formats : (is_open : Bool) (seen : List ℕ → Bool) (found : List FieldRecord) → ((q : List ℕ) → seen q ≡ has_field found q) → (i : List ℕ)
    → (field_format is_open (has_field found)).reads i ≡ (field_format is_open seen).reads i
field_formats is_open seen found h i = λ j. (field_format is_open (λ q. sym (h q) j)).reads i

-- the code of the methods grows
pub code_more : (from : ℕ) (ms : List MethodRecord) (m : MethodRecord) → code_behind from (ms ++ m ∷ []) ≡ code_behind from ms + 4 * m.words
code_more from [] m = refl
code_more from (n ∷ ms) m = code_more (from + 4 * n.words) ms m

pub named_more : (ms : List MethodRecord) (m : MethodRecord) → none_named (ms ++ m ∷ []) ≡ (none_named ms && not (is_identifier m.name))
named_more ms m = all_more (λ n. not (is_identifier n.name)) ms m

-- ---- words

-- what has as many words as its turn allows lies in the code of the class
words_within : (turn : MethodTurn) (words : ℕ) → are_words turn words ≡ true → turn.code + 4 * words ≤ turn.code_end
unfolding are_words
words_within turn words h = leb-true _ _ (and_parts _ _ (and_parts _ _ h).0).1

none_within : (turn : MethodTurn) (words : ℕ) → turn.code ≤ turn.code_end → (words == 0) ≡ true → turn.code + 4 * words ≤ turn.code_end
none_within turn words o h = let none : words ≡ 0 = eqb-true _ _ h in omega arith

pub length_within : (turn : MethodTurn) (kind : MethodKind) (words : ℕ) → turn.code ≤ turn.code_end → is_length turn kind words ≡ true → turn.code + 4 * words ≤ turn.code_end
length_within turn Static words o h = words_within turn words h
length_within turn Instance words o h = words_within turn words h
length_within turn Abstract words o h = none_within turn words o h
length_within turn Constructor words o h = words_within turn words h

-- what the loop keeps says what the methods say
pub method_formats : (p : ClassPlace) (count at code : ℕ) (may is_open : Bool) (seen : List ℕ → Bool) (found : List MethodRecord) → length found ≡ at → code ≡ code_behind p.code found → may ≡ none_named found
    → ((q : List ℕ) → seen q ≡ has_method found q) → (i : List ℕ)
    → (method_format (turn_of p count found) is_open (has_method found)).reads i
    ≡ (method_format (record { is_first = at == 0; is_last = at + 1 == count; may_construct = may; code = code; code_end = p.code + p.code_size }) is_open seen).reads i
method_formats p count at code may is_open seen found size same named h i = λ j.
    (method_format (record { is_first = size j == 0; is_last = size j + 1 == count; may_construct = sym named j; code = sym same j; code_end = p.code + p.code_size }) is_open (λ q. sym (h q) j)).reads i
