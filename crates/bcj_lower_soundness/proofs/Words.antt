-- The words of lines: no more than with all jumps long, and some where an instruction stands first.
use Rattle.std.proofs.Common.{◌≡◌, refl, ap, ◌∙◌, ℕ, zero, suc, ◌+◌, ◌<◌, ◌≤◌, Bool, true, false, List, [], ◌∷◌, length, arith}
use Rattle.std.proofs.lemmas.List.{length-append}
use Rattle.rv_isa.specs.declared.instruction.Instr.{Instr}
use Rattle.bcj_asm.specs.declared.item.Item.{Item}
use Rattle.bcj_asm.specs.declared.item.Item.TheVariants as item
use Rattle.bcj_asm.specs.declared.forms.Form.{Form}
use Rattle.bcj_asm.specs.declared.forms.Form.TheVariants.{Short, Long}
use Rattle.bcj_asm.specs.declared.forms.Formed.{Formed}
use Rattle.bcj_asm.specs.Forms.{size, sizes, next_forms, rounds, all_long, formed, target_in}
use Rattle.bcj_asm.specs.Assembly.{emitted, all_emitted, instructions_of}
use Rattle.bcj_asm.proofs.Rounding.{shrink, only_shrink}
use Rattle.bcj_symbolic_trees.specs.Units.{PlainMethod, PlainClass}
use Rattle.bcj_lower_rules.specs.Lines.{Line, items_of}
use Rattle.bcj_lower_rules.specs.Words.{enter}
use Rattle.bcj_lower_rules.specs.Bodies.{method_lines, init_lines, long_words}
use Rattle.bcj_lower_rules.specs.Classes.{instruction_words, line_words}

-- ---- as many words as the forms have

-- a word for each instruction, and as many instructions of an item as its size says
pub words_each : (is : List Instr) → length (instruction_words is) ≡ length is
words_each [] = refl
words_each (i ∷ is) = ap suc (words_each is)

pub emitted_size : (target : ℕ → ℕ) (here : ℕ) (f : Form) (x : Item) → length (emitted target here f x) ≡ size f x
emitted_size target here f (item.Word i) = refl
emitted_size target here f (item.Jump rd to) = refl
emitted_size target here Short (item.Branch i to) = refl
emitted_size target here Long (item.Branch i to) = refl
emitted_size target here f (item.Place l) = refl

all_size : (target : ℕ → ℕ) (here : ℕ) (xs : List Formed) → length (all_emitted target here xs) ≡ sizes xs
all_size target here [] = refl
all_size target here (x ∷ xs) =
    length-append (emitted target here x.form x.item) (all_emitted target (here + size x.form x.item) xs)
    ∙ (λ i. emitted_size target here x.form x.item i + all_size target (here + size x.form x.item) xs i)

-- the words of lines are those that their items have in their forms
pub words_sizes : (lines : List Line) → length (line_words lines) ≡ sizes (formed (items_of lines))
unfolding line_words
words_sizes lines =
    words_each (instructions_of (formed (items_of lines))) ∙ all_size (target_in (formed (items_of lines))) 0 (formed (items_of lines))

-- ---- no more than with all jumps long

-- a round behind others
last_round : (n : ℕ) (xs : List Formed) → rounds (suc n) xs ≡ next_forms (rounds n xs)
last_round zero xs = refl
last_round (suc n) xs = last_round n (next_forms xs)

-- after any rounds there are no more than at first
rounds_shrink : (n : ℕ) (items : List Item) → sizes (rounds n (all_long items)) ≤ sizes (all_long items)
rounds_shrink zero items = omega arith
rounds_shrink (suc n) items =
    let one = shrink (rounds n (all_long items)) (next_forms (rounds n (all_long items))) (only_shrink items n) in
    let same = ap sizes (last_round n (all_long items)) in
    let before = rounds_shrink n items in omega (arith, one, same, before)

pub not_longer : (lines : List Line) → length (line_words lines) ≤ long_words lines
unfolding long_words
not_longer lines = omega (arith, words_sizes lines, rounds_shrink (length (items_of lines)) (items_of lines))

-- ---- some, where an instruction stands first

is_word : Item → Bool
is_word (item.Word i) = true
is_word _ = false

word_first : List Formed → Bool
word_first [] = false
word_first (x ∷ xs) = is_word x.item

-- a round keeps what stands first
stays_first : (xs : List Formed) → word_first (next_forms xs) ≡ word_first xs
unfolding word_first
stays_first [] = refl
stays_first (x ∷ xs) = refl

rounds_first : (n : ℕ) (xs : List Formed) → word_first (rounds n xs) ≡ word_first xs
rounds_first zero xs = refl
rounds_first (suc n) xs = rounds_first n (next_forms xs) ∙ stays_first xs

-- an instruction is a word
word_counts : (f : Form) (x : Item) (n : ℕ) → is_word x ≡ true → 0 < size f x + n
unfolding is_word
word_counts f (item.Word i) n h = omega arith
word_counts f (item.Jump rd to) n h = cc
word_counts f (item.Branch i to) n h = cc
word_counts f (item.Place l) n h = cc

first_counts : (xs : List Formed) → word_first xs ≡ true → 0 < sizes xs
unfolding word_first
first_counts [] h = cc
first_counts (x ∷ xs) h = word_counts x.form x.item (sizes xs) h

have_words : (lines : List Line) → word_first (all_long (items_of lines)) ≡ true → 0 < length (line_words lines)
have_words lines h =
    let items = items_of lines in
    let some = first_counts (formed items) (rounds_first (length items) (all_long items) ∙ h) in omega (arith, words_sizes lines, some)

pub method_has_words : (c : PlainClass) (m : PlainMethod) → 0 < length (line_words (method_lines c m))
unfolding method_lines enter word_first is_word
method_has_words c m = have_words (method_lines c m) refl

pub init_has_words : (c : PlainClass) → 0 < length (line_words (init_lines c))
unfolding init_lines enter word_first is_word
init_has_words c = have_words (init_lines c) refl
