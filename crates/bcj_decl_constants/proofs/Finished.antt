-- A book is that of units, and a finished table has their constants.
use Rattle.std.proofs.Common.{◌≡◌, ◌+◌, ◌++◌, ◌<◌, ◌≤◌, ◌↔◌, List, [], ◌∷◌, map, Option, Some, None, Bool, refl, sym, ◌∙◌, ap, subst, ℕ, zero, suc, length, length-append, arith, slice_get, inl, inr, Result, Ok, Err, IfOk, Vec, Global}
use Rattle.std.proofs.lemmas.Bool.{cases_lt}
use Rattle.std.proofs.lemmas.List.{map-append, length-map}
use Rattle.std.proofs.lemmas.List.Concat.{flat_map-append}
use Rattle.std.specs.List.{flat_map, filter_map}
use Rattle.std.specs.Option.{option_map_or}
use Rattle.bcj_parser_trees.specs.Trees.{PlainOption, PlainUnit, PlainType, PlainMember, field_member, method_member, constructor_member, static_member, absent}
use Rattle.bcj_decl_rules.specs.declared.value.Value.{Value}
use Rattle.bcj_decl_rules.specs.World.{Named, Field, Declared, World, boot_types, source_types, declared_type, field_in, world_of}
use Rattle.bcj_decl_rules.specs.Constants.{IsConstantField}
use Rattle.bcj_decl_constants.specs.Initials.{boot_initials, initial_in, initials_of_type, initials_in, FieldsStandOnce}
use denote.Ref.{Bor}
use Rattle.bcj_parser_trees.specs.declared.expression.Expr.{Expr}
use Rattle.bcj_decl_table.specs.declared.info.FieldInfo.{FieldInfo}
use Rattle.bcj_decl_table.specs.declared.info.TypeInfo.{TypeInfo}
use Rattle.bcj_decl_table.specs.Views.{field_of_info, world_in}
use Rattle.bcj_decl_constants.specs.declared.book.Book.{Book}
use Rattle.bcj_decl_constants.specs.Books.{IsBook, IsBookOf, initial_of, initials, worth_in}
use Rattle.bcj_decl_constants.specs.Laws.{AreConstants}
use Rattle.bcj_decl_constants.specs.Needs.{fields_in}
use Rattle.bcj_decl_constants.specs.Numbers.{meant, needs_of, needs_with, offsets_from, worth}
use Rattle.bcj_decl_constants.specs.Waiting.{Table, IsDone, list_at}
use Rattle.bcj_decl_constants.proofs.Whole.{each_value_is_a_constant, each_constant_is_there}

-- ---- as many initialisers as fields

member_lengths : (i : Bool) (name : Named) (ms : List PlainMember) → length (filter_map initial_in ms) ≡ length (filter_map (field_in i name) ms)
member_lengths i name [] = refl
member_lengths i name (field_member at mods ty x init ∷ ms) = ap suc (member_lengths i name ms)
member_lengths i name (method_member at mods result x params throws body ∷ ms) = member_lengths i name ms
member_lengths i name (constructor_member at mods x params throws first body ∷ ms) = member_lengths i name ms
member_lengths i name (static_member at body ∷ ms) = member_lengths i name ms

type_lengths : (ts : List PlainType) → length (flat_map initials_of_type ts) ≡ length (fields_in (map declared_type ts))
type_lengths [] = refl
type_lengths (t ∷ ts) =
    let here_it : length (initials_of_type t) ≡ length (filter_map (field_in t.interface t.name) t.members) = member_lengths t.interface t.name t.members in
    let rest : length (flat_map initials_of_type ts) ≡ length (fields_in (map declared_type ts)) = type_lengths ts in
    let left : length (initials_of_type t ++ flat_map initials_of_type ts) ≡ length (initials_of_type t) + length (flat_map initials_of_type ts) = length-append (initials_of_type t) (flat_map initials_of_type ts) in
    let right : length (filter_map (field_in t.interface t.name) t.members ++ fields_in (map declared_type ts)) ≡ length (filter_map (field_in t.interface t.name) t.members) + length (fields_in (map declared_type ts)) =
    length-append (filter_map (field_in t.interface t.name) t.members) (fields_in (map declared_type ts)) in
    omega arith

pub initial_lengths : (units : List PlainUnit) → length (initials_in units) ≡ length (fields_in (world_of units))
unfolding world_of
initial_lengths units =
    let rest : length (flat_map initials_of_type (source_types units)) ≡ length (fields_in (map declared_type (source_types units))) = type_lengths (source_types units) in
    let left : length (boot_initials ++ flat_map initials_of_type (source_types units)) ≡ length boot_initials + length (flat_map initials_of_type (source_types units)) =
    length-append boot_initials (flat_map initials_of_type (source_types units)) in
    let split : fields_in (boot_types ++ map declared_type (source_types units)) ≡ fields_in boot_types ++ fields_in (map declared_type (source_types units)) =
    flat_map-append (λ (t : Declared). t.fields) boot_types (map declared_type (source_types units)) in
    let right : length (fields_in boot_types ++ fields_in (map declared_type (source_types units))) ≡ length (fields_in boot_types) + length (fields_in (map declared_type (source_types units))) =
    length-append (fields_in boot_types) (fields_in (map declared_type (source_types units))) in
    let boot : length boot_initials ≡ length (fields_in boot_types) = refl in
    let whole : length (fields_in (boot_types ++ map declared_type (source_types units))) ≡ length (fields_in boot_types ++ fields_in (map declared_type (source_types units))) = ap length split in
    omega arith

-- ---- past the end nothing is needed

get_past : {A : Type 0} (xs : List A) (n : ℕ) → length xs ≤ n → slice_get xs n ≡ None
get_past [] n h = refl
get_past (x ∷ xs) zero h = absurd (omega arith)
get_past (x ∷ xs) (suc n) h = get_past xs n (omega arith)

list_past : (xs : List (List ℕ)) (n : ℕ) → length xs ≤ n → list_at xs n ≡ []
list_past [] n h = refl
list_past (x ∷ xs) zero h = absurd (omega arith)
list_past (x ∷ xs) (suc n) h = list_past xs n (omega arith)

needs_past : (w : World) (inits : List PlainOption) (n : ℕ) → length (fields_in w) ≤ n → needs_of w inits n ≡ []
needs_past w inits n h = ap (λ o. option_map_or (λ f. option_map_or (needs_with w f) (slice_get inits n) []) o []) (get_past (fields_in w) n h)

-- at each number, where it is so at those below the length
pub all_means : (w : World) (inits : List PlainOption) (needs : List (List ℕ)) → length needs ≡ length (fields_in w)
    → ((n : ℕ) → n < length (fields_in w) → meant w (list_at needs n) ≡ map Some (needs_of w inits n)) → (n : ℕ) → meant w (list_at needs n) ≡ map Some (needs_of w inits n)
all_means w inits needs many below n =
    elim (cases_lt n (length (fields_in w))) [
      | inl inside ↦ below n inside
      | inr past ↦
          let none : list_at needs n ≡ [] = list_past needs n (omega (arith, many)) in
          ap (meant w) none ∙ sym (ap (map Some) (needs_past w inits n past))
    ]

-- ---- the book of units

abbrev Means : World → Book → List (Option (Bor Expr)) → Type 0
Means w b is = (n : ℕ) → n < length b.fields.items → meant w (list_at b.needs.items n) ≡ map Some (needs_of w (map initial_of is) n)

pub is_book : (units : List PlainUnit) (sw : World) (given listed : List TypeInfo) (b : Book) (is : List (Option (Bor Expr))) → given ≡ listed → is ≡ b.initialisers.items → sw ≡ world_in listed
    → world_in listed ≡ world_of units → b.offsets.items ≡ offsets_from 0 (world_in given) → map (λ r. field_of_info r.now) b.fields.items ≡ fields_in (world_in given) → FieldsStandOnce units
    → initials b ≡ initials_in units → length b.needs.items ≡ length b.fields.items → Means sw b is → IsBookOf units b
is_book units sw given listed b is same inits e world offsets fields once written many means =
    let P : World → Type 0 = λ w. Means w b is in
    let Q : List (Option (Bor Expr)) → Type 0 = λ l. Means (world_of units) b l in
    let here_it : Means (world_of units) b b.initialisers.items = subst Q inits (subst P (e ∙ world) means) in
    let to_world : world_in given ≡ world_of units = ap world_in same ∙ world in
    let all : map (λ r. field_of_info r.now) b.fields.items ≡ fields_in (world_of units) = fields ∙ ap fields_in to_world in
    let count : length b.fields.items ≡ length (fields_in (world_of units)) = sym (length-map b.fields.items (λ (r : Bor FieldInfo). field_of_info r.now)) ∙ ap length all in
    let numbers : length b.needs.items ≡ length (fields_in (world_of units)) = many ∙ count in
    record {
      book = record {
        offsets = offsets ∙ ap (offsets_from 0) to_world;
        fields = all;
        once = once.once;
        inits = sym (length-map b.initialisers.items initial_of) ∙ (ap length written ∙ initial_lengths units);
        needs = numbers;
        means = all_means (world_of units) (initials b) b.needs.items numbers (λ n less. here_it n (omega (arith, count)));
      };
      written = written;
    }

-- ---- what a finished table has

finished : (units : List PlainUnit) (inits : List PlainOption) (count : ℕ) (values : Table) → FieldsStandOnce units → inits ≡ initials_in units → count ≡ length (fields_in (world_of units))
    → IsDone (worth (world_of units) inits) count values → AreConstants units values
finished units inits count values once written many done =
    let P : List PlainOption → Type 0 = λ l. IsDone (worth (world_of units) l) count values in
    let Q : ℕ → Type 0 = λ n. IsDone (worth (world_of units) (initials_in units)) n values in
    let whole : IsDone (worth (world_of units) (initials_in units)) (length (fields_in (world_of units))) values = subst Q many (subst P written done) in
    record {
      many = whole.many;
      each = λ n f v at. (
        λ e. each_value_is_a_constant units (initials_in units) once.own values whole n f v at e,
        λ c. each_constant_is_there units (initials_in units) once.once once.own values whole n f v at c,
      );
    }

-- by the book of units
pub finished_by : (units : List PlainUnit) (sw : World) (b : Book) (values : Table) → FieldsStandOnce units → sw ≡ world_of units → IsBookOf units b → IsDone (worth_in sw b) (length b.needs.items) values
    → AreConstants units values
finished_by units sw b values once e book done =
    let P : World → Type 0 = λ w. IsDone (worth_in w b) (length b.needs.items) values in
    finished units (initials b) (length b.needs.items) values once book.written book.book.needs (subst P e done)

-- a book of units is one of a world that is theirs
pub book_in : (units : List PlainUnit) (sw : World) (b : Book) → sw ≡ world_of units → IsBookOf units b → IsBook sw b
book_in units sw b e book = let P : World → Type 0 = λ w. IsBook w b in subst P (sym e) book.book

-- the same of an answer that want of memory may stand in for
pub finished_ok : {E : Type 0} (units : List PlainUnit) (sw : World) (b : Book) (r : Result (Vec (Option Value) Global) E) → FieldsStandOnce units → sw ≡ world_of units → IsBookOf units b
    → IfOk r (λ v. IsDone (worth_in sw b) (length b.needs.items) v.items) → IfOk r (λ v. AreConstants units v.items)
finished_ok units sw b (Ok v) once e book done = finished_by units sw b v.items once e book done
finished_ok units sw b (Err x) once e book done = done
