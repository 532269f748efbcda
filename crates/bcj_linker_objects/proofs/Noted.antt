-- The names of classes are noted one by one.
use Rattle.std.proofs.Common.{◌≡◌, ℕ, ◌+◌, ◌<◌, Bool, true, false, [], ◌∷◌, ◌++◌, length, take, drop, get_or, Option, None, Some, refl, sym, ap, subst, ◌∙◌, append_assoc}
use Rattle.std.specs.Prelude.{◌||◌, is_some, if◌then◌else◌}
use Rattle.std.specs.List.{list_any}
use Rattle.std.specs.Option.{option_or}
use Rattle.std.specs.Str.{bytes_eq}
use Rattle.std.proofs.lemmas.List.{append-nil, map-append, take_more, take-append-drop}
use Rattle.std.proofs.lemmas.List.Folds.{list_any-append}
use Rattle.bcj_tables_rules.specs.declared.records.ClassRecord.{ClassRecord}
use Rattle.bcj_hier_rules.specs.Shapes.{Named}
use Rattle.bcj_hier_rules.specs.Heads.{is_called, AreDistinct, number_of}
use Rattle.bcj_layout_rules.specs.Rows.{Classes}
use Rattle.bcj_linker_objects.specs.declared.gathering.Gathering.{Gathering}
use Rattle.bcj_linker_objects.specs.declared.stop.LinkStop.{LinkStop}
use Rattle.bcj_linker_objects.specs.declared.stop.LinkStop.TheVariants.{Malformed, Duplicate, TooLarge, NoMemory}
use Rattle.bcj_linker_objects.specs.Names.{heads_in, has_name}
use Rattle.bcj_linker_objects.specs.Steps.{owner_in, AreNamed, AddsName, IsTaken, AddsNames, IsNameStop}
use Rattle.bcj_linker_objects.proofs.Distinct.{none_called, distinct_more}

-- ---- names of more classes

-- a name is in one part or the other
pub has_name-append : (q : Named) (cs ds : Classes) → has_name q (cs ++ ds) ≡ (has_name q cs || has_name q ds)
has_name-append q cs ds = ap (list_any (is_called q)) (map-append (λ (c : ClassRecord). c.head) cs ds) ∙ list_any-append (is_called q) (heads_in cs) (heads_in ds)

-- heads of two parts
pub heads_in-append : (cs ds : Classes) → heads_in (cs ++ ds) ≡ heads_in cs ++ heads_in ds
heads_in-append cs ds = map-append (λ (c : ClassRecord). c.head) cs ds

-- nothing else
or-nothing : (o : Option ℕ) → option_or o None ≡ o
or-nothing None = refl
or-nothing (Some n) = refl

-- false says nothing
or_false : (b : Bool) → (b || false) ≡ b
or_false true = refl
or_false false = refl

abbrev where_so : Bool → ℕ → Option ℕ
where_so b object = if b then Some object else None

-- an owner for one test and then for another
or_twice : (o : Option ℕ) (x y : Bool) (object : ℕ) → option_or (option_or o (where_so x object)) (where_so y object) ≡ option_or o (where_so (x || y) object)
or_twice None true y object = refl
or_twice None false y object = refl
or_twice (Some n) x y object = refl

-- nothing on both sides
both_none : (o : Option ℕ) (x : Bool) (object : ℕ) → option_or o (where_so x object) ≡ None → (is_some o ≡ false) × (x ≡ false)
both_none None true object e = absurd cc
both_none None false object e = (refl, refl)
both_none (Some n) x object e = absurd cc

-- ---- notes

-- no class
pub adds_none : (g : Gathering) (object : ℕ) → AddsNames g g [] object
adds_none g object = record {
  classes = refl;
  objects = refl;
  owners = λ q. sym (or-nothing (owner_in g q));
  distinct = λ are. subst (λ cs. AreDistinct (heads_in cs)) (sym (append-nil g.classes)) are.distinct;
}

-- a name that no class has yet is new
new_name : (old mid : Gathering) (cs : Classes) (object : ℕ) (q : Named) → AddsNames old mid cs object → AreNamed old → owner_in mid q ≡ None → number_of (heads_in (old.classes ++ cs)) q ≡ None
new_name old mid cs object q adds are free =
    let none = both_none (owner_in old q) (has_name q cs) object (sym (adds.owners q) ∙ free) in
    let before : has_name q old.classes ≡ false = sym (are.known q) ∙ none.0 in
    let all : has_name q (old.classes ++ cs) ≡ false = has_name-append q old.classes cs ∙ rw (before, none.1) refl in
    none_called q (heads_in (old.classes ++ cs)) all

-- one more class
pub adds_more : (old mid new : Gathering) (cs : Classes) (c : ClassRecord) (object : ℕ) → AddsNames old mid cs object → AddsName mid new c object → AddsNames old new (cs ++ c ∷ []) object
adds_more old mid new cs c object adds one = record {
  classes = one.classes ∙ adds.classes;
  objects = one.objects ∙ adds.objects;
  owners = λ q.
      one.owners q
      ∙ ap (λ (o : Option ℕ). option_or o (where_so (bytes_eq c.head.name q) object)) (adds.owners q)
      ∙ or_twice (owner_in old q) (has_name q cs) (bytes_eq c.head.name q) object
      ∙ ap (λ b. option_or (owner_in old q) (where_so b object)) (sym (has_name-append q cs (c ∷ []) ∙ ap (λ b. has_name q cs || b) (or_false (bytes_eq c.head.name q))));
  distinct = λ are.
      let fresh = distinct_more (heads_in (old.classes ++ cs)) c.head (adds.distinct are) (new_name old mid cs object c.head.name adds are one.free) in
      subst AreDistinct (sym (heads_in-append (old.classes ++ cs) (c ∷ [])) ∙ ap heads_in (append_assoc old.classes cs (c ∷ []))) fresh;
}

-- a class whose name is taken
pub stops_at : (old mid : Gathering) (cs front : Classes) (c : ClassRecord) (behind : Classes) (object : ℕ) (e : LinkStop) → cs ≡ front ++ c ∷ behind → AddsNames old mid front object → IsTaken mid c object e → IsNameStop old cs object e
stops_at old mid cs front c behind object (Malformed number at) split adds h = h
stops_at old mid cs front c behind object (Duplicate name first second) split adds h = record {
  front = front;
  class = c;
  behind = behind;
  split = split;
  named = h.named;
  distinct = adds.distinct;
  earlier = sym (adds.owners name) ∙ h.earlier;
  number = h.number;
}
stops_at old mid cs front c behind object (TooLarge what) split adds h = h
stops_at old mid cs front c behind object NoMemory split adds h = h

-- ---- turns over a slice

-- a list around its item at a place
pub around : (cs : Classes) (i : ℕ) (c : ClassRecord) → i < length cs → c ≡ get_or cs i c → cs ≡ take i cs ++ c ∷ drop (i + 1) cs
around cs i c h e =
    sym (take-append-drop (i + 1) cs)
    ∙ ap (λ l. l ++ drop (i + 1) cs) (take_more cs i c h ∙ ap (λ (x : ClassRecord). take i cs ++ x ∷ []) (sym e))
    ∙ append_assoc (take i cs) (c ∷ []) (drop (i + 1) cs)

-- a turn of the loop notes one more
pub turn : (old mid new : Gathering) (cs : Classes) (i : ℕ) (c : ClassRecord) (object : ℕ) → i < length cs → c ≡ get_or cs i c → AddsNames old mid (take i cs) object → AddsName mid new c object → AddsNames old new (take (i + 1) cs) object
turn old mid new cs i c object h e adds one =
    subst (λ l. AddsNames old new l object) (sym (take_more cs i c h ∙ ap (λ (x : ClassRecord). take i cs ++ x ∷ []) (sym e))) (adds_more old mid new (take i cs) c object adds one)

-- or stops at a name that is taken
pub stop_in_turn : (old mid : Gathering) (cs : Classes) (i : ℕ) (c : ClassRecord) (object : ℕ) (e : LinkStop) → i < length cs → c ≡ get_or cs i c → AddsNames old mid (take i cs) object → IsTaken mid c object e → IsNameStop old cs object e
stop_in_turn old mid cs i c object e h is adds taken = stops_at old mid cs (take i cs) c (drop (i + 1) cs) object e (around cs i c h is) adds taken
