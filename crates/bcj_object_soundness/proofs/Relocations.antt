-- The relocations of a unit within the limits are in place: those of lines rise with the places of the items, and each sets bits of its
-- word that are zero.
use Rattle.std.proofs.Common.{◌≡◌, refl, ap, sym, ◌∙◌, subst, ℕ, zero, suc, ◌+◌, ◌*◌, ◌^◌, ◌<◌, ◌≤◌, ℤ, pos, negsuc, Bool, true, false, List, [], ◌∷◌, ◌++◌, length, map, replicate, drop, append_assoc, if◌then◌else◌, Option, Some, None, arith}
use Rattle.std.specs.List.{flat_map, AllByRecursion}
use Rattle.std.proofs.lemmas.Bool.{le-leb, lt-ltb, eqb-true}
use Rattle.std.proofs.lemmas.List.{append-nil, map-append, length-append, length-replicate, replicate-append-replicate}
use Rattle.std.proofs.lemmas.List.Concat.{flat_map-append}
use Rattle.std.proofs.lemmas.List.Elements.{recursion_from_All}
use Rattle.rv_isa.specs.declared.instruction.Instr.{Instr}
use Rattle.rv_isa.specs.declared.instruction.Instr.TheVariants as instr
use Rattle.rv_isa.specs.Words.{InRange, word_of, fields_of}
use Rattle.bcj_asm.specs.declared.item.Item.{Item}
use Rattle.bcj_asm.specs.declared.item.Item.TheVariants as item
use Rattle.bcj_asm.specs.declared.forms.Form.{Form}
use Rattle.bcj_asm.specs.declared.forms.Formed.{Formed}
use Rattle.bcj_asm.specs.Forms.{size, sizes, next_behind, next_forms, rounds, all_long, formed, places_in, target_in}
use Rattle.bcj_asm.specs.Assembly.{IsItem, emitted, all_emitted}
use Rattle.bcj_asm.specs.Reach.{items_in}
use Rattle.bcj_elf.specs.declared.object.Section.TheVariants.{Text, Tab}
use Rattle.bcj_elf.specs.declared.object.RelocationKind.TheVariants.{Word}
use Rattle.bcj_elf.specs.declared.object.Relocation.{Relocation}
use Rattle.bcj_elf.specs.Plain.{PlainObject}
use Rattle.bcj_elf.specs.Layout.{file_end}
use Rattle.bcj_elf.specs.Layout.{sizes as sizes_of}
use Rattle.bcj_elf.specs.Rules.{can_relocate, is_clear, is_bound, are_relocations}
use Rattle.bcj_elf.specs.Spelling as elf
use Rattle.bcj_symbolic_trees.specs.Units.{PlainMethod, PlainClass}
use Rattle.bcj_symbolic_check.specs.Classes.{is_abstract}
use Rattle.bcj_symbolic_measure.specs.Entries.{PlainEntry, same_entry}
use Rattle.bcj_symbolic_measure.specs.Bodies.{method_frame_size, init_frame_size, methods_frame_size, class_frame_size}
use Rattle.bcj_symbolic_measure.specs.Measures.{frames_of}
use Rattle.bcj_symbolic_measure.specs.Objects.{object_size}
use Rattle.bcj_symbolic_measure.specs.Totals.{larger}
use Rattle.bcj_lower_rules.specs.declared.half.Half.{Half}
use Rattle.bcj_lower_rules.specs.declared.half.Half.TheVariants as half
use Rattle.bcj_lower_rules.specs.Lines.{Address, region, entry, Relocated, Line, items_of}
use Rattle.bcj_lower_rules.specs.Bodies.{Body, without_code, with_code, method_lines, method_body, method_bodies, init_lines, init_body, bodies_of, max_frame}
use Rattle.bcj_lower_rules.specs.Laws.{is_zero, has_room, is_placed, misplaced, HalvesArePlaced}
use Rattle.bcj_lower_rules.specs.Classes.{instruction_words, line_words, body_words, all_words, Table, class_table, offset_table, address_table, interface_table, table_of, table, number_in, table_start, interface_start, region_offset, relocation_at, relocations_at, body_relocations, all_relocations, all_uses, code_of, code_of_bodies}
use Rattle.bcj_lower_soundness.specs.Laws.{MethodLinesAreItems, InitLinesAreItems}
use Rattle.bcj_lower_soundness.proofs.Words.{words_each, emitted_size, words_sizes}
use Rattle.bcj_lower_rules.specs.Ranges.{stmts_ranges}
use Rattle.bcj_object_rules.specs.Objects.{Placed, placed, text_size, table_words, tab_size, code_symbol, tables_symbol, half_kind, class_text, class_tab, text_relocation, class_text_relocations, tab_relocation, object_at, object_of}
use Rattle.bcj_object_rules.specs.Sizes.{max_object}
use Rattle.bcj_object_soundness.specs.Laws.{TextRelocationsAreInPlace, TabRelocationsAreInPlace, EndsAreMeasured}
use Rattle.bcj_object_soundness.proofs.Sizes.{tabs, tab-length, symbols-length}
use Rattle.bcj_object_soundness.proofs.Words.{each, stands_later, Ready, ready-nil, ready-later, ready-cons}

-- ---- the words that have room for halves

-- what isn't negative and passes the test is zero
zero_is : (z : ℤ) → is_zero z ≡ true → z ≡ pos 0
zero_is (pos n) h = ap pos (eqb-true n 0 h)
zero_is (negsuc n) h = cc

-- a word whose bits for a half of an address are zero
record HasRoom (h : Half) (w : ℕ) : Type 0 where
  clear : is_clear (half_kind h) w ≡ true
  small : w < 2 ^ 32

upper_room : (rd : ℕ) → rd < 32 → HasRoom half.Upper (word_of (fields_of (instr.Lui rd (pos 0))))
upper_room rd h = record { clear = lt-ltb (word_of (fields_of (instr.Lui rd (pos 0)))) (2 ^ 12) (omega arith); small = omega arith }

add_room : (rd rs : ℕ) → rd < 32 → rs < 32 → HasRoom half.Lower (word_of (fields_of (instr.Addi rd rs (pos 0))))
add_room rd rs h k = record { clear = lt-ltb (word_of (fields_of (instr.Addi rd rs (pos 0)))) (2 ^ 20) (omega arith); small = omega arith }

load_room : (rd rs : ℕ) → rd < 32 → rs < 32 → HasRoom half.Lower (word_of (fields_of (instr.Lw rd rs (pos 0))))
load_room rd rs h k = record { clear = lt-ltb (word_of (fields_of (instr.Lw rd rs (pos 0)))) (2 ^ 20) (omega arith); small = omega arith }

has_room_in : (h : Half) (i : Instr) → has_room h i ≡ true → InRange i → HasRoom h (word_of (fields_of i))
has_room_in half.Upper (instr.Lui rd z) e r =
    subst (λ (x : ℤ). HasRoom half.Upper (word_of (fields_of (instr.Lui rd x)))) (sym (zero_is z e)) (upper_room rd r.0)
has_room_in half.Lower (instr.Addi rd rs z) e r =
    subst (λ (x : ℤ). HasRoom half.Lower (word_of (fields_of (instr.Addi rd rs x)))) (sym (zero_is z e)) (add_room rd rs r.0 r.1)
has_room_in half.Lower (instr.Lw rd rs z) e r =
    subst (λ (x : ℤ). HasRoom half.Lower (word_of (fields_of (instr.Lw rd rs x)))) (sym (zero_is z e)) (load_room rd rs r.0 r.1)
has_room_in _ _ e r = cc

-- ---- symbols and addends

can_relocate_text : (h : Half) → can_relocate Text (half_kind h) ≡ true
can_relocate_text half.Upper = refl
can_relocate_text half.Lower = refl

-- a relocation of code has its symbol, and room for it and its addend
text_bound : (number symbols offset addend : ℕ) (h : Half) → 2 * number + 2 ≤ symbols → symbols < 2 ^ 24 → addend < 2 ^ 32
    → is_bound Text symbols (record { offset = offset; symbol = tables_symbol number; kind = half_kind h; addend = addend }) ≡ true
unfolding is_bound
text_bound number symbols offset addend h numbered few fits =
    each
    (each
    (each (each (can_relocate_text h) (lt-ltb 0 (tables_symbol number) (omega arith))) (le-leb (tables_symbol number) symbols numbered))
    (lt-ltb (tables_symbol number) (2 ^ 24) (omega arith)))
    (lt-ltb addend (2 ^ 32) fits)

-- an entry's offset lies in the region
number_le : (e : PlainEntry) (es : List PlainEntry) → number_in e es ≤ length es
number_le e [] = omega arith
number_le e (x ∷ xs) = by (same_entry e x) (number_le e xs)
  where
    by : (b : Bool) → number_in e xs ≤ length xs → (if b then 0 else suc (number_in e xs)) ≤ suc (length xs)
    by true rest = omega arith
    by false rest = omega arith

-- the words of a class's region
abbrev region_words : List PlainEntry → ℕ
region_words us = interface_start us + length (table interface_table us)

place_le : (us : List PlainEntry) (e : PlainEntry) (t : Table) → table_start t us + number_in e (table t us) ≤ region_words us
place_le us e class_table = omega (arith, number_le e (table class_table us))
place_le us e offset_table = omega (arith, number_le e (table offset_table us))
place_le us e address_table = omega (arith, number_le e (table address_table us))
place_le us e interface_table = omega (arith, number_le e (table interface_table us))

offset_le : (us : List PlainEntry) (a : Address) → region_offset us a ≤ 4 * region_words us
offset_le us region = omega arith
offset_le us (entry e) = omega (arith, place_le us e (table_of e.role))

-- ---- forms keep the items

-- a round changes forms alone
items_next : (front xs : List Formed) → items_in (next_behind front xs) ≡ items_in xs
items_next front [] = refl
items_next front (x ∷ xs) = ap (λ ys. x.item ∷ ys) (items_next (front ++ x ∷ []) xs)

items_rounds : (n : ℕ) (xs : List Formed) → items_in (rounds n xs) ≡ items_in xs
items_rounds zero xs = refl
items_rounds (suc n) xs = items_rounds n (next_forms xs) ∙ items_next [] xs

items_long : (xs : List Item) → items_in (all_long xs) ≡ xs
items_long [] = refl
items_long (x ∷ xs) = ap (λ ys. x ∷ ys) (items_long xs)

items_formed : (xs : List Item) → items_in (formed xs) ≡ xs
items_formed xs = items_rounds (length xs) (all_long xs) ∙ items_long xs

words-append : (a b : List Instr) → instruction_words (a ++ b) ≡ instruction_words a ++ instruction_words b
words-append [] b = refl
words-append (i ∷ a) b = ap (λ ws. word_of (fields_of i) ∷ ws) (words-append a b)

-- two lists one behind the other, before others
map_two : {A B : Type 0} (f : A → B) (a b : List A) (rs : List B) → map f a ++ (map f b ++ rs) ≡ map f (a ++ b) ++ rs
map_two f a b rs = sym (append_assoc (map f a) (map f b) rs) ∙ sym (ap (λ y. y ++ rs) (map-append f a b))

no_fault : (b : Bool) → ◌≡◌ {A = ℕ} (if b then 0 else 1) 0 → b ≡ true
no_fault true h = refl
no_fault false h = absurd (omega arith)

-- ---- the relocations of a class whose code begins at a word

-- each line of a body is an item, and a half of an address stands where there is room for it
abbrev IsGood : Body → Type 0
IsGood without_code = Unit {0}
IsGood (with_code frame lines ranges) = AllByRecursion IsItem (items_of lines) × (misplaced lines ≡ 0)

module _ (ws : List ℕ) (symbols : ℕ) (p : Placed) (base : ℕ) (us : List PlainEntry) (at_base : p.text ≡ 4 * base)
    (numbered : 2 * p.number + 2 ≤ symbols) (few : symbols < 2 ^ 24) (room : 4 * region_words us < 2 ^ 32) where
  -- one line
  line_ready : (q at here : ℕ) (target : ℕ → ℕ) (f : Form) (x : Item) (o : Option Relocated) (behind : List ℕ) (rs : List Relocation) → q ≡ base + at → is_placed x o ≡ true → IsItem x
      → drop q ws ≡ instruction_words (emitted target here f x) ++ behind → Ready Text ws symbols (q + size f x) rs
      → Ready Text ws symbols q (map (text_relocation p) (relocation_at us at o) ++ rs)
  line_ready q at here target f x None behind rs is placed good stands ready = ready-later Text ws symbols q (q + size f x) rs (omega arith) ready
  line_ready q at here target f (item.Word i) (Some r) behind rs is placed good stands ready =
      let has = has_room_in r.half i placed good in
      ready-cons Text ws behind symbols q (word_of (fields_of i)) (text_relocation p (record { offset = 4 * at; half = r.half; addend = region_offset us r.address })) rs (omega arith) stands
      has.small has.clear (text_bound p.number symbols (p.text + 4 * at) (region_offset us r.address) r.half numbered few (omega (arith, offset_le us r.address))) ready
  line_ready q at here target f (item.Jump rd to) (Some r) behind rs is placed good stands ready = cc
  line_ready q at here target f (item.Branch i to) (Some r) behind rs is placed good stands ready = cc
  line_ready q at here target f (item.Place l) (Some r) behind rs is placed good stands ready = cc

  -- the lines of a body from an item on
  lines_ready : (q start here : ℕ) (target : ℕ → ℕ) (ls : List Line) (xs : List Formed) (behind : List ℕ) (rs : List Relocation) → q ≡ base + (start + here) → items_in xs ≡ items_of ls
      → AllByRecursion IsItem (items_of ls) → misplaced ls ≡ 0 → drop q ws ≡ instruction_words (all_emitted target here xs) ++ behind → Ready Text ws symbols (q + sizes xs) rs
      → Ready Text ws symbols q (map (text_relocation p) (relocations_at us start ls (places_in here xs)) ++ rs)
  unfolding misplaced
  lines_ready q start here target [] xs behind rs is same good placed stands ready = ready-later Text ws symbols q (q + sizes xs) rs (omega arith) ready
  lines_ready q start here target (l ∷ ls) [] behind rs is same good placed stands ready = cc
  lines_ready q start here target (l ∷ ls) (x ∷ xs) behind rs is same good placed stands ready =
      let n : ℕ = size x.form x.item in
      let first : x.item ≡ l.item = cc in
      let others : items_in xs ≡ items_of ls = cc in
      let front = instruction_words (emitted target here x.form x.item) in
      let rest = instruction_words (all_emitted target (here + n) xs) in
      let split : drop q ws ≡ front ++ (rest ++ behind) =
      stands ∙ ap (λ y. y ++ behind) (words-append (emitted target here x.form x.item) (all_emitted target (here + n) xs)) ∙ append_assoc front rest behind in
      let len : length front ≡ n = words_each (emitted target here x.form x.item) ∙ emitted_size target here x.form x.item in
      let after = lines_ready (q + n) start (here + n) target ls xs behind rs (omega arith) others good.1 (omega arith) (stands_later q n ws front (rest ++ behind) split len)
      (ready-later Text ws symbols (q + n + sizes xs) (q + (n + sizes xs)) rs (omega arith) ready) in
      let no : is_placed l.item l.relocated ≡ true = no_fault (is_placed l.item l.relocated) (omega arith) in
      let here_ready = line_ready q (start + here) here target x.form x.item l.relocated (rest ++ behind) (map (text_relocation p) (relocations_at us start ls (places_in (here + n) xs)) ++ rs) is
      (ap (λ (i : Item). is_placed i l.relocated) first ∙ no) (subst IsItem (sym first) good.0) split after in
      let joined = map_two (text_relocation p) (relocation_at us (start + here) l.relocated) (relocations_at us start ls (places_in (here + n) xs)) rs in
      subst (Ready Text ws symbols q) joined here_ready

  -- a body, and the bodies from one on
  body_ready : (q start : ℕ) (b : Body) (behind : List ℕ) (rs : List Relocation) → q ≡ base + start → IsGood b → drop q ws ≡ body_words b ++ behind
      → Ready Text ws symbols (q + length (body_words b)) rs → Ready Text ws symbols q (map (text_relocation p) (body_relocations us start b) ++ rs)
  unfolding line_words
  body_ready q start without_code behind rs is good stands ready = ready-later Text ws symbols q (q + 0) rs (omega arith) ready
  body_ready q start (with_code frame lines ranges) behind rs is good stands ready =
      let xs = formed (items_of lines) in
      lines_ready q start 0 (target_in xs) lines xs behind rs (omega arith) (items_formed (items_of lines)) good.0 good.1 stands
      (ready-later Text ws symbols (q + sizes xs) (q + length (line_words lines)) rs (omega (arith, words_sizes lines)) ready)

  bodies_ready : (q start : ℕ) (bs : List Body) (behind : List ℕ) (rs : List Relocation) → q ≡ base + start → AllByRecursion IsGood bs → drop q ws ≡ all_words bs ++ behind
      → Ready Text ws symbols (q + length (all_words bs)) rs → Ready Text ws symbols q (map (text_relocation p) (all_relocations us start bs) ++ rs)
  bodies_ready q start [] behind rs is good stands ready = ready-later Text ws symbols q (q + 0) rs (omega arith) ready
  bodies_ready q start (b ∷ bs) behind rs is good stands ready =
      let n : ℕ = length (body_words b) in
      let split : drop q ws ≡ body_words b ++ (all_words bs ++ behind) = stands ∙ append_assoc (body_words b) (all_words bs) behind in
      let after = bodies_ready (q + n) (start + n) bs behind rs (omega arith) good.1 (stands_later q n ws (body_words b) (all_words bs ++ behind) split refl)
      (ready-later Text ws symbols (q + n + length (all_words bs)) (q + length (body_words b ++ all_words bs)) rs (omega (arith, length-append (body_words b) (all_words bs))) ready) in
      let here_ready = body_ready q start b (all_words bs ++ behind) (map (text_relocation p) (all_relocations us (start + n) bs) ++ rs) is good.0 split after in
      let joined = map_two (text_relocation p) (body_relocations us start b) (all_relocations us (start + n) bs) rs in
      subst (Ready Text ws symbols q) joined here_ready

-- ---- the classes of a unit

-- the words of their code, and those of their tables
words_of : List PlainClass → List ℕ
words_of [] = []
words_of (c ∷ cs) = (code_of c).words ++ words_of cs

table_zeros : List PlainClass → List ℕ
table_zeros [] = []
table_zeros (c ∷ cs) = replicate (table_words (code_of c)) 0 ++ table_zeros cs

abbrev IsFramed : PlainClass → Type 0
IsFramed c = class_frame_size c ≤ max_frame

-- frames within the limit
framed : (cs : List PlainClass) → frames_of cs ≤ max_frame → AllByRecursion IsFramed cs
unfolding larger
framed [] h = tt
framed (c ∷ cs) h = (omega arith, framed cs (omega arith))

module _ (methods : MethodLinesAreItems) (initialiser : InitLinesAreItems) (halves : HalvesArePlaced) where
  good_init : (c : PlainClass) → init_frame_size c ≤ max_frame → IsGood (init_body c)
  unfolding init_body
  good_init c h = (recursion_from_All IsItem (items_of (init_lines c)) (initialiser c h), halves.initialiser c)

  good_method : (c : PlainClass) (m : PlainMethod) → method_frame_size m ≤ max_frame → IsGood (method_body c m)
  unfolding method_body
  good_method c m h = by (is_abstract m.kind) refl
    where
      by : (b : Bool) → is_abstract m.kind ≡ b → IsGood (if b then without_code else with_code (method_frame_size m) (method_lines c m) (stmts_ranges 0 m.body))
      by true e = tt
      by false e = (recursion_from_All IsItem (items_of (method_lines c m)) (methods c m e h), halves.methods c m)

  good_methods : (c : PlainClass) (ms : List PlainMethod) → methods_frame_size ms ≤ max_frame → AllByRecursion IsGood (method_bodies c ms)
  unfolding larger
  good_methods c [] h = tt
  good_methods c (m ∷ ms) h = (good_method c m (omega arith), good_methods c ms (omega arith))

  good_bodies : (c : PlainClass) → IsFramed c → AllByRecursion IsGood (bodies_of c)
  unfolding larger
  good_bodies c h = (good_init c (omega arith), good_methods c c.methods (omega arith))

  -- the classes from one on
  text_ready : (ws : List ℕ) (symbols n q t b : ℕ) (cs : List PlainClass) (behind : List ℕ) → t ≡ 4 * q → 2 * (n + length cs) ≤ symbols → symbols < 2 ^ 24 → tabs cs < 2 ^ 32
      → AllByRecursion IsFramed cs → drop q ws ≡ words_of cs ++ behind → Ready Text ws symbols q (flat_map class_text_relocations (placed n t b cs))
  unfolding words_of tabs code_of_bodies
  text_ready ws symbols n q t b [] behind is numbered few small frames stands = ready-nil Text ws symbols q
  text_ready ws symbols n q t b (c ∷ cs) behind is numbered few small frames stands =
      let here : Placed = record { class = c; code = code_of c; number = n; text = t; tab = b } in
      let k : ℕ = length (code_of c).words in
      let split : drop q ws ≡ (code_of c).words ++ (words_of cs ++ behind) = stands ∙ append_assoc (code_of c).words (words_of cs) behind in
      let after = text_ready ws symbols (n + 1) (q + k) (t + text_size (code_of c)) (b + tab_size (code_of c)) cs behind (omega arith) (omega arith) few (omega arith) frames.1
      (stands_later q k ws (code_of c).words (words_of cs ++ behind) split refl) in
      bodies_ready ws symbols here q (all_uses (bodies_of c)) is (omega arith) few (omega arith) q 0 (bodies_of c) (words_of cs ++ behind)
      (flat_map class_text_relocations (placed (n + 1) (t + text_size (code_of c)) (b + tab_size (code_of c)) cs)) (omega arith) (good_bodies c frames.0) split after

-- the sections as words
text_is : (n t b : ℕ) (cs : List PlainClass) → flat_map class_text (placed n t b cs) ≡ flat_map elf.word (words_of cs)
unfolding words_of
text_is n t b [] = refl
text_is n t b (c ∷ cs) =
    ap (λ x. flat_map elf.word (code_of c).words ++ x) (text_is (n + 1) (t + text_size (code_of c)) (b + tab_size (code_of c)) cs)
    ∙ sym (flat_map-append elf.word (code_of c).words (words_of cs))

-- ---- tables

zeros : (k : ℕ) → replicate {A = ℕ} (4 * k) 0 ≡ flat_map elf.word (replicate k 0)
unfolding elf.word
zeros zero = refl
zeros (suc k) =
    let more : 4 * suc k ≡ 4 + 4 * k = omega arith in
    ap (λ n. replicate n 0) more ∙ sym (replicate-append-replicate 4 (4 * k) 0) ∙ ap (λ x. replicate 4 0 ++ x) (zeros k)

tab_is : (n t b : ℕ) (cs : List PlainClass) → flat_map class_tab (placed n t b cs) ≡ flat_map elf.word (table_zeros cs)
unfolding table_zeros
tab_is n t b [] = refl
tab_is n t b (c ∷ cs) =
    ap (λ x. replicate (tab_size (code_of c)) 0 ++ x) (tab_is (n + 1) (t + text_size (code_of c)) (b + tab_size (code_of c)) cs)
    ∙ ap (λ x. x ++ flat_map elf.word (table_zeros cs)) (zeros (table_words (code_of c)))
    ∙ sym (flat_map-append elf.word (replicate (table_words (code_of c)) 0) (table_zeros cs))

-- a relocation of tables has its symbol
tab_bound : (number symbols offset : ℕ) → 2 * number + 2 ≤ symbols → symbols < 2 ^ 24
    → is_bound Tab symbols (record { offset = offset; symbol = code_symbol number; kind = Word; addend = 0 }) ≡ true
unfolding is_bound
tab_bound number symbols offset numbered few =
    each
    (each (each (lt-ltb 0 (code_symbol number) (omega arith)) (le-leb (code_symbol number) symbols (omega arith))) (lt-ltb (code_symbol number) (2 ^ 24) (omega arith)))
    refl

-- a region has a first word
record SomeZeros (k : ℕ) : Type 0 where
  rest : ℕ
  is : replicate {A = ℕ} k 0 ≡ 0 ∷ replicate {A = ℕ} rest 0

some_zeros : (k : ℕ) → 0 < k → SomeZeros k
some_zeros zero h = absurd (omega arith)
some_zeros (suc k) h = record { rest = k; is = refl }

-- the first word of each region from one on
tab_ready : (ws : List ℕ) (symbols n q t b : ℕ) (cs : List PlainClass) (behind : List ℕ) → b ≡ 4 * q → 2 * (n + length cs) ≤ symbols → symbols < 2 ^ 24
    → drop q ws ≡ table_zeros cs ++ behind → Ready Tab ws symbols q (map tab_relocation (placed n t b cs))
unfolding table_zeros
tab_ready ws symbols n q t b [] behind is numbered few stands = ready-nil Tab ws symbols q
tab_ready ws symbols n q t b (c ∷ cs) behind is numbered few stands =
    let here : Placed = record { class = c; code = code_of c; number = n; text = t; tab = b } in
    let k : ℕ = table_words (code_of c) in
    let some = some_zeros k (omega arith) in
    let split : drop q ws ≡ replicate k 0 ++ (table_zeros cs ++ behind) = stands ∙ append_assoc (replicate k 0) (table_zeros cs) behind in
    let after = tab_ready ws symbols (n + 1) (q + k) (t + text_size (code_of c)) (b + tab_size (code_of c)) cs behind (omega arith) (omega arith) few
    (stands_later q k ws (replicate k 0) (table_zeros cs ++ behind) split (length-replicate k 0)) in
    let first : drop q ws ≡ 0 ∷ (replicate some.rest 0 ++ (table_zeros cs ++ behind)) = split ∙ ap (λ x. x ++ (table_zeros cs ++ behind)) some.is in
    ready-cons Tab ws (replicate some.rest 0 ++ (table_zeros cs ++ behind)) symbols q 0 (tab_relocation here) (map tab_relocation (placed (n + 1) (t + text_size (code_of c)) (b + tab_size (code_of c)) cs)) is
    first (omega arith) refl (tab_bound n symbols b (omega arith) few) (ready-later Tab ws symbols (q + 1) (q + k) _ (omega arith) after)

-- ---- the whole

-- what the size of an object says of its parts
record IsShort (symbols tab : ℕ) : Type 0 where
  few : symbols < 2 ^ 24
  small : tab < 2 ^ 32

short_object : (o : PlainObject) (n : ℕ) → file_end (sizes_of o) ≤ n → n ≤ max_object → IsShort (length o.symbols) (length o.tab)
short_object o n h k = record { few = omega arith; small = omega arith }

pub text-in-place : MethodLinesAreItems → InitLinesAreItems → HalvesArePlaced → EndsAreMeasured → TextRelocationsAreInPlace
unfolding object_at
text-in-place methods initialiser halves measured version u is_small =
    let cs = u.classes in
    let o : PlainObject = object_of version u in
    let short = short_object o (object_size u) (measured version u) is_small.object in
    let ready = text_ready methods initialiser halves (words_of cs) (length o.symbols) 0 0 0 0 cs [] refl (omega (arith, symbols-length 0 0 0 cs)) short.few
    (omega (arith, tab-length 0 0 0 cs, short.small)) (framed cs is_small.frame) (sym (append-nil (words_of cs))) in
    ap (λ (bytes : List ℕ). are_relocations Text bytes (length o.symbols) 0 o.text_relocs) (text_is 0 0 0 cs) ∙ ready.from 0 (omega arith)

pub tab-in-place : EndsAreMeasured → TabRelocationsAreInPlace
unfolding object_at
tab-in-place measured version u is_small =
    let cs = u.classes in
    let o : PlainObject = object_of version u in
    let short = short_object o (object_size u) (measured version u) is_small.object in
    let ready = tab_ready (table_zeros cs) (length o.symbols) 0 0 0 0 cs [] refl (omega (arith, symbols-length 0 0 0 cs)) short.few (sym (append-nil (table_zeros cs))) in
    ap (λ (bytes : List ℕ). are_relocations Tab bytes (length o.symbols) 0 o.tab_relocs) (tab_is 0 0 0 cs) ∙ ready.from 0 (omega arith)
