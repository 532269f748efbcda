-- Each class of a well-typed unit has its two symbols, whose regions follow one another and fill both sections.
use Rattle.std.proofs.Common.{◌≡◌, refl, ap, sym, ◌∙◌, ℕ, ◌+◌, ◌-◌, ◌*◌, ◌%◌, ◌<◌, ◌≤◌, nat_lt, not, true, List, [], ◌∷◌, ◌++◌, length, arith}
use Rattle.std.specs.List.{flat_map, AllByRecursion}
use Rattle.std.specs.Str.{bytes_eq}
use Rattle.std.proofs.lemmas.Bool.{le-leb, lt-ltb, eq-eqb}
use Rattle.std.proofs.lemmas.List.{length-append, take_at, drop_at}
use Rattle.std.proofs.lemmas.Slice.Eq.{bytes_eq-Decides}
use Rattle.bcj_names.specs.Identifiers.{is_identifier}
use Rattle.bcj_elf.specs.declared.object.Section.{Section}
use Rattle.bcj_elf.specs.declared.object.Section.TheVariants.{Text, Tab}
use Rattle.bcj_elf.specs.Rules.{code_ending, tables_ending, before_end, at_end, is_code_name, is_tables_name, is_named, is_region, are_symbols}
use Rattle.bcj_symbolic_trees.specs.Units.{PlainClass}
use Rattle.bcj_symbolic_check.specs.Classes.{has_class, head_holds, members_hold, class_holds, class_marks, EachHasRule, WellTypedLaw}
use Rattle.bcj_symbolic_check.specs.Limits.{max_types}
use Rattle.bcj_lower_rules.specs.Bodies.{init_body, init_lines, method_bodies}
use Rattle.bcj_lower_rules.specs.Classes.{line_words, all_words, code_of, code_of_bodies}
use Rattle.bcj_lower_soundness.specs.Laws.{InitHasWords}
use Rattle.bcj_object_rules.specs.Objects.{placed, text_size, table_words, tab_size, class_symbols, object_at, object_of}
use Rattle.bcj_object_soundness.specs.Laws.{SymbolsArePlaced}
use Rattle.bcj_object_soundness.proofs.Words.{both, each}
use Rattle.bcj_object_soundness.proofs.Sizes.{texts, tabs, text-length, tab-length}

-- ---- names

abbrev IsNamed : PlainClass → Type 0
IsNamed c = is_identifier c.head.name ≡ true

-- a class whose conditions hold is named by an identifier
class_named : (n : ℕ) (before : List PlainClass) (c : PlainClass) → class_holds n before c ≡ true → IsNamed c
unfolding class_holds head_holds
class_named n before c h =
    let p = both (nat_lt n max_types) _ h in
    let q = both (not (has_class c.head.name before)) _ p.1 in
    let r = both (head_holds c.head) (members_hold c) q.1 in (both (is_identifier c.head.name) _ r.0).0

classes_named : (n : ℕ) (before cs : List PlainClass) → EachHasRule n before cs → AllByRecursion IsNamed cs
unfolding class_marks
classes_named n before [] h = tt
classes_named n before (c ∷ rest) h = (
  class_named n before c (both (class_holds n before c) _ h.0).0,
  classes_named (n + 1) (before ++ c ∷ []) rest h.1,
)

-- what stands before and behind the ending of a name
before-ending : (name ending : List ℕ) → before_end (length ending) (name ++ ending) ≡ name
before-ending name ending = take_at name ending (length (name ++ ending) - length ending) (omega (arith, length-append name ending))

at-ending : (name ending : List ℕ) → at_end (length ending) (name ++ ending) ≡ ending
at-ending name ending = drop_at name ending (length (name ++ ending) - length ending) (omega (arith, length-append name ending))

same-bytes : (a b : List ℕ) → a ≡ b → bytes_eq a b ≡ true
same-bytes a b e = (bytes_eq-Decides a b).1 e

named-by : (name : List ℕ) → is_identifier name ≡ true → is_named (name ++ code_ending) (name ++ tables_ending) ≡ true
unfolding is_named is_code_name is_tables_name
named-by name h =
    each
    (each (ap is_identifier (before-ending name code_ending) ∙ h) (same-bytes _ code_ending (at-ending name code_ending)))
    (each
    (same-bytes _ tables_ending (at-ending name tables_ending))
    (same-bytes _ _ (before-ending name tables_ending ∙ sym (before-ending name code_ending))))

-- ---- regions

-- a region of some words that begins where the one before ended
region-in : (section : Section) (past at k : ℕ) (name : List ℕ) → 0 < k → at + 4 * k ≤ past
    → is_region section past at (record { name = name; value = at; size = 4 * k; section = section }) ≡ true
unfolding is_region
region-in section past at k name some fits = each (each (each (each (own section) (eq-eqb at at refl)) (lt-ltb 0 (4 * k) (omega arith))) (eq-eqb (4 * k % 4) 0 (omega arith))) (le-leb (at + 4 * k) past fits)
  where
    own : (s : Section) → Rattle.bcj_elf.specs.Rules.is_section s s ≡ true
    own Text = refl
    own Tab = refl

-- code has at least the words of its class initialiser
has-words : InitHasWords → (c : PlainClass) → 0 < length (code_of c).words
unfolding code_of_bodies init_body
has-words law c = omega (arith, length-append (line_words (init_lines c)) (all_words (method_bodies c c.methods)), law c)

-- the symbols of the classes from one on fill what is left of both sections
symbols-fill : InitHasWords → (n t b text tab : ℕ) (cs : List PlainClass) → AllByRecursion IsNamed cs → t + texts cs ≡ text → b + tabs cs ≡ tab
    → are_symbols text tab t b (flat_map class_symbols (placed n t b cs)) ≡ true
unfolding texts tabs
symbols-fill law n t b text tab [] names e f = each (eq-eqb t text (omega arith)) (eq-eqb b tab (omega arith))
symbols-fill law n t b text tab (c ∷ cs) names e f =
    each
    (each
    (each (named-by c.head.name names.0) (region-in Text text t (length (code_of c).words) (c.head.name ++ code_ending) (has-words law c) (omega arith)))
    (region-in Tab tab b (table_words (code_of c)) (c.head.name ++ tables_ending) (omega arith) (omega arith)))
    (symbols-fill law (n + 1) (t + text_size (code_of c)) (b + tab_size (code_of c)) text tab cs names.1 (omega arith) (omega arith))

pub symbols-placed : InitHasWords → WellTypedLaw → SymbolsArePlaced
unfolding object_at
symbols-placed has typed version u none =
    symbols-fill has 0 0 0 (length (object_of version u).text) (length (object_of version u).tab) u.classes (classes_named 0 [] u.classes ((typed u).0 none))
    (omega (arith, text-length 0 0 0 u.classes))
    (omega (arith, tab-length 0 0 0 u.classes))
