-- The symbols of an object have numbers and names that can be read again.
use Rattle.std.proofs.Common.{◌≡◌, ℕ, zero, suc, ◌+◌, ◌-◌, ◌^◌, ◌<◌, ◌≤◌, true, lit<, List, [], ◌∷◌, ◌++◌, length, sym, subst, arith}
use Rattle.std.specs.Prelude.{codes}
use Rattle.std.specs.List.{AllByRecursion, list_all}
use Rattle.std.specs.Str.{bytes_eq}
use Rattle.std.proofs.lemmas.Bool.{leb-true, eqb-true}
use Rattle.std.proofs.lemmas.List.{take-append-drop}
use Rattle.std.proofs.lemmas.Slice.Eq.{bytes_eq-Decides}
use Rattle.bcj_elf.specs.declared.object.Section.{Section}
use Rattle.bcj_elf.specs.declared.object.Section.TheVariants.{Text, Tab}
use Rattle.bcj_elf.specs.Plain.{PlainSymbol}
use Rattle.bcj_names.specs.Identifiers.{begins_identifier, in_identifier, is_word, is_identifier}
use Rattle.bcj_elf.specs.Rules.{before_end, at_end, is_code_name, is_tables_name, is_named, is_region, are_symbols}
use Rattle.bcj_elf.proofs.Facts.{both}
use Rattle.bcj_elf.proofs.Fields.{NoZero, IsWritable}

positive : (b : ℕ) → in_identifier b ≡ true → 0 < b
positive zero h = absurd cc
positive (suc b) h = omega arith

begin_positive : (b : ℕ) → begins_identifier b ≡ true → 0 < b
begin_positive zero h = absurd cc
begin_positive (suc b) h = omega arith

all_positive : (bs : List ℕ) → list_all in_identifier bs ≡ true → NoZero bs
all_positive [] h = tt
all_positive (b ∷ bs) h = let p = both _ _ h in (positive b p.0, all_positive bs p.1)

word_positive : (name : List ℕ) → is_word name ≡ true → NoZero name
word_positive [] h = absurd cc
word_positive (b ∷ bs) h = let p = both _ _ h in (begin_positive b p.0, all_positive bs p.1)

identifier_positive : (name : List ℕ) → is_identifier name ≡ true → NoZero name
unfolding is_identifier
identifier_positive name h = word_positive name (both _ _ h).0

append_positive : (a b : List ℕ) → NoZero a → NoZero b → NoZero (a ++ b)
append_positive [] b h k = k
append_positive (x ∷ a) b h k = (h.0, append_positive a b h.1 k)

-- a name is its front and its end
split_positive : (n : ℕ) (name : List ℕ) → NoZero (before_end n name) → NoZero (at_end n name) → NoZero name
split_positive n name h k = subst NoZero (take-append-drop (length name - n) name) (append_positive (before_end n name) (at_end n name) h k)

is_text : (name : List ℕ) → bytes_eq name (codes ".text") ≡ true → NoZero name
is_text name h = let e : name ≡ codes ".text" = (bytes_eq-Decides name (codes ".text")).0 h in subst NoZero (sym e) (lit< tt, (lit< tt, (lit< tt, (lit< tt, (lit< tt, tt)))))

is_tab : (name : List ℕ) → bytes_eq name (codes ".tab") ≡ true → NoZero name
is_tab name h = let e : name ≡ codes ".tab" = (bytes_eq-Decides name (codes ".tab")).0 h in subst NoZero (sym e) (lit< tt, (lit< tt, (lit< tt, (lit< tt, tt))))

names_positive : (code tables : List ℕ) → is_named code tables ≡ true → NoZero code × NoZero tables
unfolding is_named is_code_name is_tables_name
names_positive code tables h =
    let p = both _ _ h in
    let p1 = both _ _ p.0 in
    let p2 = both _ _ p.1 in
    let front = identifier_positive (before_end 5 code) p1.0 in
    let same : before_end 4 tables ≡ before_end 5 code = (bytes_eq-Decides (before_end 4 tables) (before_end 5 code)).0 p2.1 in
    (split_positive 5 code front (is_text (at_end 5 code) p1.1), split_positive 4 tables (subst NoZero (sym same) front) (is_tab (at_end 4 tables) p2.0))

region_fits : (section : Section) («end» at : ℕ) (s : PlainSymbol) → «end» < 2 ^ 32 → is_region section «end» at s ≡ true → (s.value < 2 ^ 32) × (s.size < 2 ^ 32)
unfolding is_region
region_fits section «end» at s small h =
    let p4 = both _ _ h in
    let p3 = both _ _ p4.0 in
    let p2 = both _ _ p3.0 in
    let p1 = both _ _ p2.0 in
    let value : s.value ≡ at = eqb-true _ _ p1.1 in
    let within : at + s.size ≤ «end» = leb-true _ _ p4.1 in
    (omega arith, omega arith)

pub are_writable : (text tab text_at tab_at : ℕ) (ss : List PlainSymbol) → text < 2 ^ 32 → tab < 2 ^ 32 → are_symbols text tab text_at tab_at ss ≡ true → AllByRecursion IsWritable ss
are_writable text tab text_at tab_at [] small small' h = tt
are_writable text tab text_at tab_at (x ∷ []) small small' h = absurd cc
are_writable text tab text_at tab_at (x ∷ y ∷ ss) small small' h =
    let p3 = both _ _ h in
    let p2 = both _ _ p3.0 in
    let p1 = both _ _ p2.0 in
    let names = names_positive x.name y.name p1.0 in
    let code = region_fits Text text text_at x small p1.1 in
    let tables = region_fits Tab tab tab_at y small' p2.1 in (
      record { name = names.0; value = code.0; size = code.1 },
      (
        record { name = names.1; value = tables.0; size = tables.1 },
        are_writable text tab (text_at + x.size) (tab_at + y.size) ss small small' p3.1,
      ),
    )
