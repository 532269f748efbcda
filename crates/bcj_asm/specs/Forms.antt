-- How many words an item takes, and where labels lead. A conditional branch reaches less far than a jump (RISC-V Instruction Set
-- Manual, volume I, "Conditional Branches"): where it reaches its label it is one word, and in its long form it is two, the
-- opposite branch, which passes over a jump to the label. Which form each item has stands here alone; which words stand for
-- given forms is said in Assembly.
use Rattle.std.specs.Prelude.{ℕ, zero, suc, ◌+◌, ◌*◌, ◌==◌, nat_le, ℤ, pos, negsuc, ◌-ℤ◌, Bool, if◌then◌else◌, List, [], ◌∷◌, ◌++◌, length, Option, Some, None, unwrap_or}
use Rattle.rv_isa.specs.Words.{instruction_size}
use Rattle.bcj_asm.specs.declared.item.Item.{Item}
use Rattle.bcj_asm.specs.declared.item.Item.TheVariants.{Word, Jump, Branch, Place}
use Rattle.bcj_asm.specs.declared.forms.Form.{Form}
use Rattle.bcj_asm.specs.declared.forms.Form.TheVariants.{Short, Long}
use Rattle.bcj_asm.specs.declared.forms.Formed.{Formed}

-- an item in a form, which matters for a branch alone
abbrev pub in_form : Form → Item → Formed
in_form f x = record { form = f; item = x }

abbrev pub branch_size : Form → ℕ
branch_size Short = 1
branch_size Long = 2

abbrev pub size : Form → Item → ℕ
size f (Word i) = 1
size f (Jump rd to) = 1
size f (Branch i to) = branch_size f
size f (Place l) = 0

abbrev pub sizes : List Formed → ℕ
sizes [] = 0
sizes (x ∷ xs) = size x.form x.item + sizes xs

-- ---- places: a label is the place of the word behind it, counted in words from the first

abbrev pub last_of : Option ℕ → Option ℕ → Option ℕ
last_of a (Some p) = Some p
last_of a None = a

-- the place that an item at a place gives to a label
abbrev pub own_place : ℕ → Item → ℕ → Option ℕ
own_place here (Word i) l = None
own_place here (Jump rd to) l = None
own_place here (Branch i to) l = None
own_place here (Place m) l = if l == m.0 then Some here else None

-- the place of a label among items that begin at a place: the last, if several items place it
abbrev pub place_in : ℕ → List Formed → ℕ → Option ℕ
place_in here [] l = None
place_in here (x ∷ xs) l = last_of (own_place here x.item l) (place_in (here + size x.form x.item) xs l)

-- where a label leads: to the first word, if nothing places it
abbrev pub target_in : List Formed → ℕ → ℕ
target_in xs l = unwrap_or (place_in 0 xs l) 0

-- from one place to another, in bytes
abbrev pub distance : ℕ → ℕ → ℤ
distance here to = pos (instruction_size * to) -ℤ pos (instruction_size * here)

-- ---- which branches are short

-- whether a branch reaches over so many bytes: from -4,096 to 4,094
abbrev pub reaches : ℤ → Bool
reaches (pos n) = nat_le n 4094
reaches (negsuc n) = nat_le n 4095

-- whether a branch between other items reaches its label when it counts as one word itself
abbrev pub reaches_as_one : List Formed → Item → ℕ → List Formed → Bool
reaches_as_one front x to back = reaches (distance (sizes front) (target_in (front ++ in_form Short x ∷ back) to))

-- the form in the next round of an item between others: a branch is short where it reaches as one word
abbrev pub next_form : List Formed → Item → List Formed → Form
next_form front (Word i) back = Long
next_form front (Jump rd to) back = Long
next_form front (Branch i to) back = if reaches_as_one front (Branch i to) to.0 back then Short else Long
next_form front (Place l) back = Long

-- the next round of the items behind some others
abbrev pub next_behind : List Formed → List Formed → List Formed
next_behind front [] = []
next_behind front (x ∷ back) = in_form (next_form front x.item back) x.item ∷ next_behind (front ++ x ∷ []) back

-- one round: each branch that reaches as one word, while the others stay as they are, becomes short
abbrev pub next_forms : List Formed → List Formed
next_forms xs = next_behind [] xs

abbrev pub rounds : ℕ → List Formed → List Formed
rounds zero xs = xs
rounds (suc n) xs = rounds n (next_forms xs)

-- at first each branch is long
abbrev pub all_long : List Item → List Formed
all_long [] = []
all_long (x ∷ xs) = in_form Long x ∷ all_long xs

-- the items in the forms that they take: those of the last round, as many rounds as there are items
abbrev pub formed : List Item → List Formed
formed items = rounds (length items) (all_long items)

-- ---- where each item stands

abbrev pub places_in : ℕ → List Formed → List ℕ
places_in here [] = []
places_in here (x ∷ xs) = here ∷ places_in (here + size x.form x.item) xs

-- the place of each item: the sizes of those before it
abbrev pub places_of : List Item → List ℕ
places_of items = places_in 0 (formed items)
