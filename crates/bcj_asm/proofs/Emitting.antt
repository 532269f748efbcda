-- The words that an item adds.
use Rattle.std.proofs.Common.{◌≡◌, ℕ, ◌+◌, ◌<◌, ◌≤◌, List, [], ◌∷◌, ◌++◌, length, get_or, take, drop, zero, suc, refl, ap, sym, ◌∙◌, append_assoc, arith}
use Rattle.std.specs.Ordering.{nat_cmp}
use Rattle.std.specs.BTreeMap.{BTreeMap, get}
use Rattle.std.specs.List.{All, AllZip}
use Rattle.rv_isa.specs.declared.instruction.Instr.{Instr}
use Rattle.rv_isa.specs.declared.instruction.Instr.TheVariants.{Jal}
use Rattle.rv_isa.specs.Registers as register
use Rattle.rv_isa.specs.Words.{Spells}
use Rattle.bcj_asm.specs.declared.item.Item.{Item}
use Rattle.bcj_asm.specs.declared.item.Item.TheVariants.{Word, Jump, Branch, Place}
use Rattle.bcj_asm.specs.declared.item.Label.{Label}
use Rattle.bcj_asm.specs.declared.forms.Form.{Form}
use Rattle.bcj_asm.specs.declared.forms.Form.TheVariants.{Short, Long}
use Rattle.bcj_asm.specs.declared.forms.Formed.{Formed}
use Rattle.bcj_asm.specs.Forms.{formed, size, sizes, distance, place_in, target_in}
use Rattle.bcj_asm.specs.Assembly.{AreItems, over_next, aimed, opposite, branch_by, emitted, all_emitted, Assembles}
use Rattle.bcj_asm.specs.Reach.{items_in}
use Rattle.bcj_asm.specs.function.Emitting.{AllFit, Fits, IsFormed}
use Rattle.bcj_asm.specs.function.Places.{named_place}
use Rattle.bcj_asm.proofs.Steps.{all_emitted_more, split_at, target_bound}
use Rattle.bcj_asm.proofs.Rounding.{all_fit, named_target}
use Rattle.bcj_asm.proofs.Reached.{same_items}

spell_more : (is : List Instr) (ws : List ℕ) (i : Instr) (w : ℕ) → AllZip Spells is ws → Spells i w
    → AllZip Spells (is ++ i ∷ []) (ws ++ w ∷ [])
spell_more [] [] i w h s = (s, tt)
spell_more [] (v ∷ ws) i w h s = absurd h
spell_more (k ∷ is) [] i w h s = absurd h
spell_more (k ∷ is) (v ∷ ws) i w h s = (h.0, spell_more is ws i w h.1 s)

-- the code with one more word
pushed : (old new : List ℕ) (i j : Instr) (w : ℕ) → j ≡ i → Spells j w → new ≡ old ++ w ∷ []
    → (before : List Instr) → AllZip Spells before old → AllZip Spells (before ++ i ∷ []) new
pushed old new i j w same s e before h = rw e (spell_more before old i w h (rw same at s))

pub word_emitted : (t : ℕ → ℕ) (old new : List ℕ) (f : Form) (x : Item) (i : Instr) (w : ℕ)
    → x ≡ Word i → Spells i w → new ≡ old ++ w ∷ []
    → (before : List Instr) → AllZip Spells before old
    → AllZip Spells (before ++ emitted t (length old) f x) new
word_emitted t old new f x i w is s e before h = rw is (pushed old new i i w refl s e before h)

pub jump_emitted : (t : ℕ → ℕ) (old new : List ℕ) (f : Form) (x : Item) (rd : ℕ) (to : Label) (j : Instr) (w here there : ℕ)
    → x ≡ Jump rd to → here ≡ length old → there ≡ t to.0 → j ≡ Jal rd (distance here there) → Spells j w
    → new ≡ old ++ w ∷ []
    → (before : List Instr) → AllZip Spells before old
    → AllZip Spells (before ++ emitted t (length old) f x) new
jump_emitted t old new f x rd to j w here there is eh et ej s e before h =
    rw (is, ← eh, ← et) (pushed old new (Jal rd (distance here there)) j w ej s e before h)

pub short_emitted : (old new : List ℕ) (f : Form) (i b : Instr) (w here to : ℕ)
    → f ≡ Short → here ≡ length old → b ≡ aimed i (distance here to) → Spells b w → new ≡ old ++ w ∷ []
    → (before : List Instr) → AllZip Spells before old
    → AllZip Spells (before ++ branch_by f i (length old) to) new
short_emitted old new f i b w here to ef eh eb s e before h =
    rw (ef, ← eh) (pushed old new (aimed i (distance here to)) b w eb s e before h)

pub long_emitted : (old mid new : List ℕ) (f : Form) (i b j : Instr) (v w here to : ℕ)
    → f ≡ Long → here ≡ length old
    → b ≡ aimed (opposite i) over_next → Spells b v → mid ≡ old ++ v ∷ []
    → j ≡ Jal register.zero (distance (here + 1) to) → Spells j w → new ≡ mid ++ w ∷ []
    → (before : List Instr) → AllZip Spells before old
    → AllZip Spells (before ++ branch_by f i (length old) to) new
long_emitted old mid new f i b j v w here to ef eh eb sb em ej sj en before h =
    let first = pushed old mid (aimed (opposite i) over_next) b v eb sb em before h in
    let second = pushed mid new (Jal register.zero (distance (here + 1) to)) j w ej sj en (before ++ aimed (opposite i) over_next ∷ []) first in
    rw (ef, ← eh) (rw (append_assoc before (aimed (opposite i) over_next ∷ []) (Jal register.zero (distance (here + 1) to) ∷ [])) at second)

pub emitted_more : (t : ℕ → ℕ) (xs : List Formed) (i : ℕ) (x d : Formed) (old new : List ℕ)
    → i < length xs → x ≡ get_or xs i d → length old ≡ sizes (take i xs)
    → ((before : List Instr) → AllZip Spells before old
    → AllZip Spells (before ++ emitted t (length old) x.form x.item) new)
    → AllZip Spells (all_emitted t 0 (take i xs)) old
    → AllZip Spells (all_emitted t 0 (take (i + 1) xs)) new
emitted_more t xs i x d old new l e len step h =
    rw (all_emitted_more t xs i x d l e, ← len) (step (all_emitted t 0 (take i xs)) h)

pub fits_here : (t : ℕ → ℕ) (xs : List Formed) (i : ℕ) (x d : Formed) (here : ℕ)
    → i < length xs → x ≡ get_or xs i d → here ≡ sizes (take i xs) → AllFit t xs → Fits t here x.form x.item
fits_here t xs i x d here l e eh h = rw eh (h (take i xs) (drop (i + 1) xs) x (split_at xs i x d l e))

-- ---- the code in the forms of its items

same_target : (t : ℕ → ℕ) (xs ys : List Formed) (here : ℕ) → xs ≡ ys → ((l : ℕ) → t l ≡ target_in ys l)
    → (code : List ℕ) → AllZip Spells (all_emitted t here xs) code → AllZip Spells (all_emitted (target_in ys) here ys) code
same_target t xs ys here e same code h = rw (← same_emitted t (target_in ys) ys here same) (rw e at h)
  where
    same_one : (t u : ℕ → ℕ) (here : ℕ) (f : Form) (x : Item) → ((l : ℕ) → t l ≡ u l) → emitted t here f x ≡ emitted u here f x
    same_one t u here f (Word i) same = refl
    same_one t u here f (Jump rd to) same = rw (same to.0) refl
    same_one t u here f (Branch i to) same = rw (same to.0) refl
    same_one t u here f (Place l) same = refl

    same_emitted : (t u : ℕ → ℕ) (xs : List Formed) (here : ℕ) → ((l : ℕ) → t l ≡ u l)
        → all_emitted t here xs ≡ all_emitted u here xs
    same_emitted t u [] here same = refl
    same_emitted t u (x ∷ xs) here same =
        rw (same_one t u here x.form x.item same, same_emitted t u xs (here + size x.form x.item) same) refl

-- ---- a table of labels

pub table_bound : (named : BTreeMap ℕ ℕ) (xs : List Formed) (n : ℕ)
    → ((l : ℕ) → get nat_cmp named l ≡ place_in 0 xs l)
    → sizes xs ≤ n → (l : ℕ) → named_place named l ≤ n
table_bound named xs n same few l = rw (same l) (omega (arith, target_bound xs l))

pub table_fits : (named : BTreeMap ℕ ℕ) (items : List Item) (xs : List Formed) → xs ≡ formed items
    → ((l : ℕ) → get nat_cmp named l ≡ place_in 0 xs l) → AllFit (named_place named) xs
table_fits named items xs e same = all_fit (named_place named) items xs e (named_target named xs same)

pub table_assembles : (named : BTreeMap ℕ ℕ) (items : List Item) (xs : List Formed) (code : List ℕ) → xs ≡ formed items
    → ((l : ℕ) → get nat_cmp named l ≡ place_in 0 xs l)
    → AllZip Spells (all_emitted (named_place named) 0 xs) code → Assembles items code
table_assembles named items xs code e same h =
    same_target (named_place named) xs (formed items) 0 e (named_target named (formed items) (rw e at same)) code h

-- ---- the items in their forms

item_at : (xs : List Formed) (k : ℕ) (d : Formed) → get_or (items_in xs) k d.item ≡ (get_or xs k d).item
item_at [] k d = refl
item_at (x ∷ xs) zero d = refl
item_at (x ∷ xs) (suc k) d = item_at xs k d

as_many_items : (xs : List Formed) → length (items_in xs) ≡ length xs
as_many_items [] = refl
as_many_items (x ∷ xs) = ap suc (as_many_items xs)

are_formed : (xs : List Formed) → AreItems (items_in xs) → All IsFormed xs
are_formed xs h k d l = rw (item_at xs k d) at (h k d.item (rw (as_many_items xs) l))

pub all_formed : (items : List Item) (xs : List Formed) → xs ≡ formed items → AreItems items → All IsFormed xs
all_formed items xs e h = rw e (are_formed (formed items) (rw (same_items items) h))

pub few_formed : (items : List Item) (xs : List Formed) (n : ℕ) → xs ≡ formed items → length items ≤ n → length xs ≤ n
few_formed items xs n e h =
    let k : length xs ≡ length items =
    ap length e ∙ sym (as_many_items (formed items)) ∙ ap length (same_items items) in
    omega arith
