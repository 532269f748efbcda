-- The values of locals by number, against an environment of names.
use Rattle.std.proofs.Common.{◌≡◌, ℕ, zero, suc, ◌+◌, ◌-◌, ◌^◌, ◌<◌, ◌≤◌, Bool, true, false, List, [], ◌∷◌, ◌++◌, length, drop, refl, sym, ap, ◌∙◌, subst, arith, if◌then◌else◌, append_assoc, length-append}
use Rattle.std.specs.Prelude.{Contains}
use Rattle.std.specs.Str.{bytes_eq}
use Rattle.std.proofs.lemmas.Slice.Eq.{bytes_eq-Decides}
use Rattle.bcj_cli_code.specs.declared.scope.Local.{Local}
use Rattle.bcj_cli_code.specs.function.Slots.{Frame, slot_of, frame_after, frame_through}
use Rattle.bcj_cli_language.specs.declared.tree.Operator.TheVariants.{Add, Sub, Mul}
use Rattle.bcj_cli_language.specs.Tree.{Sum, number, local, binary, Act, print, declare, assign, choose, repeat, Acts, nil, cons}
use Rattle.bcj_cli_language.specs.Scopes.{Scope, declared_by, declared_in, names_after}
use Rattle.bcj_cli_language.specs.Bounds.{HasSmallNumbers}
use Rattle.bcj_cli_language.specs.Meaning.{Entry, Environment, value_at, assigned, value_of}

abbrev pub names : List Local → Scope
names [] = []
names (s ∷ ss) = s.name ∷ names ss

-- numbers fall, all below n
abbrev pub Agree : (ℕ → ℕ) → ℕ → List Local → Environment → Type 0
Agree vs n [] [] = Unit {0}
Agree vs n [] (e ∷ es) = ⊥
Agree vs n (s ∷ ss) [] = ⊥
Agree vs n (s ∷ ss) (e ∷ es) = (s.name ≡ e.name) × (s.number < n) × (vs s.number ≡ e.value) × (e.value < 2 ^ 32) × Agree vs s.number ss es

pub agree_more : (vs : ℕ → ℕ) (n m : ℕ) → n ≤ m → (ss : List Local) (es : Environment) → Agree vs n ss es → Agree vs m ss es
agree_more vs n m le [] [] h = tt
agree_more vs n m le [] (e ∷ es) h = h
agree_more vs n m le (s ∷ ss) [] h = h
agree_more vs n m le (s ∷ ss) (e ∷ es) h = (h.0, omega arith, h.2, h.3, h.4)

pub agree_same : (vs ws : ℕ → ℕ) (n : ℕ) → ((i : ℕ) → i < n → ws i ≡ vs i) → (ss : List Local) (es : Environment) → Agree vs n ss es → Agree ws n ss es
agree_same vs ws n same [] [] h = tt
agree_same vs ws n same [] (e ∷ es) h = h
agree_same vs ws n same (s ∷ ss) [] h = h
agree_same vs ws n same (s ∷ ss) (e ∷ es) h = (h.0, h.1, same s.number h.1 ∙ h.2, h.3, agree_same vs ws s.number (λ i lt. same i (omega arith)) ss es h.4)

-- the numbers stay below their bound
pub agree_bound : (vs ws : ℕ → ℕ) (n m : ℕ) (ss : List Local) (es fs : Environment) → Agree vs n ss es → Agree ws m ss fs → Agree ws n ss fs
agree_bound vs ws n m [] [] [] g h = tt
agree_bound vs ws n m [] [] (f ∷ fs) g h = h
agree_bound vs ws n m [] (e ∷ es) fs g h = absurd g
agree_bound vs ws n m (s ∷ ss) [] fs g h = absurd g
agree_bound vs ws n m (s ∷ ss) (e ∷ es) [] g h = h
agree_bound vs ws n m (s ∷ ss) (e ∷ es) (f ∷ fs) g h = (h.0, g.1, h.2, h.3, h.4)

pub agree_length : (vs : ℕ → ℕ) (n : ℕ) (ss : List Local) (es : Environment) → Agree vs n ss es → length es ≡ length ss
agree_length vs n [] [] h = refl
agree_length vs n [] (e ∷ es) h = absurd h
agree_length vs n (s ∷ ss) [] h = absurd h
agree_length vs n (s ∷ ss) (e ∷ es) h = ap suc (agree_length vs s.number ss es h.4)

pub agree_drop : (vs : ℕ → ℕ) (n : ℕ) (more ss : List Local) (es : Environment) → Agree vs n (more ++ ss) es → (m : ℕ) × Agree vs m ss (drop (length more) es)
agree_drop vs n [] ss es h = (n, h)
agree_drop vs n (s ∷ more) ss [] h = absurd h
agree_drop vs n (s ∷ more) ss (e ∷ es) h = agree_drop vs s.number more ss es h.4

-- an element of a longer list
later : (y : List ℕ) (ys : Scope) (x : List ℕ) → (y ≡ x → ⊥) → Contains (y ∷ ys) x → Contains ys x
later y ys x ne (zero, lt, is) = absurd (ne is)
later y ys x ne (suc k, lt, is) = (k, omega arith, is)

test_of_names : (x y z : List ℕ) → y ≡ z → bytes_eq x y ≡ bytes_eq x z
test_of_names x y z e = ap (bytes_eq x) e

not_named : (x y : List ℕ) → bytes_eq x y ≡ false → y ≡ x → ⊥
not_named x y f e = let t : bytes_eq x y ≡ true = (bytes_eq-Decides x y).1 (sym e) in absurd cc

look_step : (vs : ℕ → ℕ) (n m v i w : ℕ) (b c : Bool) → b ≡ c → vs m ≡ v → m < n → (b ≡ false → (vs i ≡ w) × (i < m)) → (vs (if b then m else i) ≡ (if c then v else w)) × ((if b then m else i) < n)
look_step vs n m v i w true true e hv lt more = (hv, lt)
look_step vs n m v i w true false e hv lt more = absurd cc
look_step vs n m v i w false true e hv lt more = absurd cc
look_step vs n m v i w false false e hv lt more = let r = more refl in let under : i < m = r.1 in (r.0, omega arith)

-- the value of a name
pub look : (vs : ℕ → ℕ) (n : ℕ) (ss : List Local) (es : Environment) (x : List ℕ) → Agree vs n ss es → Contains (names ss) x → (vs (slot_of ss x) ≡ value_at es x) × (slot_of ss x < n)
look vs n [] es x h (k, lt, is) = absurd (omega arith)
look vs n (s ∷ ss) [] x h c = absurd h
look vs n (s ∷ ss) (e ∷ es) x h c =
    look_step vs n s.number e.value (slot_of ss x) (value_at es x) (bytes_eq x s.name) (bytes_eq x e.name) (test_of_names x s.name e.name h.0) h.2 h.1
    (λ f. look vs s.number ss es x h.4 (later s.name (names ss) x (not_named x s.name f) c))

assign_step : (vs ws : ℕ → ℕ) (n : ℕ) (s : Local) (ss : List Local) (e : Entry) (es fs : Environment) (v i : ℕ) (b c : Bool) → b ≡ c → Agree vs n (s ∷ ss) (e ∷ es) → v < 2 ^ 32
    → ws (if b then s.number else i) ≡ v → ((j : ℕ) → j < n → (j ≡ (if b then s.number else i) → ⊥) → ws j ≡ vs j)
    → (b ≡ false → (i < s.number) × (ws i ≡ v → ((j : ℕ) → j < s.number → (j ≡ i → ⊥) → ws j ≡ vs j) → Agree ws s.number ss fs))
    → Agree ws n (s ∷ ss) (if c then (record { name = e.name; value = v }) ∷ es else e ∷ fs)
assign_step vs ws n s ss e es fs v i true true q h small here there more = (h.0, h.1, here, small, agree_same vs ws s.number (λ j lt. there j (omega (arith, h.1)) (λ z. omega arith)) ss es h.4)
assign_step vs ws n s ss e es fs v i true false q h small here there more = absurd cc
assign_step vs ws n s ss e es fs v i false true q h small here there more = absurd cc
assign_step vs ws n s ss e es fs v i false false q h small here there more =
    let r = more refl in
    let under : i < s.number = r.0 in
    (h.0, h.1, there s.number h.1 (λ z. omega arith) ∙ h.2, h.3, r.1 here (λ j lt ne. there j (omega (arith, h.1)) ne))

-- the local of a name takes another value
pub agree_assign : (vs ws : ℕ → ℕ) (n : ℕ) (ss : List Local) (es : Environment) (x : List ℕ) (v : ℕ) → Agree vs n ss es → Contains (names ss) x → v < 2 ^ 32
    → ws (slot_of ss x) ≡ v → ((j : ℕ) → j < n → (j ≡ slot_of ss x → ⊥) → ws j ≡ vs j) → Agree ws n ss (assigned es x v)
agree_assign vs ws n [] es x v h (k, lt, is) small here there = absurd (omega arith)
agree_assign vs ws n (s ∷ ss) [] x v h c small here there = absurd h
agree_assign vs ws n (s ∷ ss) (e ∷ es) x v h c small here there =
    assign_step vs ws n s ss e es (assigned es x v) v (slot_of ss x) (bytes_eq x s.name) (bytes_eq x e.name) (test_of_names x s.name e.name h.0) h small here there
    (λ f. let d = later s.name (names ss) x (not_named x s.name f) c in ((look vs s.number ss es x h.4 d).1, agree_assign vs ws s.number ss es x v h.4 d small))

value_at_small : (vs : ℕ → ℕ) (n : ℕ) (ss : List Local) (es : Environment) (x : List ℕ) → Agree vs n ss es → value_at es x < 2 ^ 32
value_at_small vs n ss [] x h = omega arith
value_at_small vs n [] (e ∷ es) x h = absurd h
value_at_small vs n (s ∷ ss) (e ∷ es) x h = pick_small (bytes_eq x e.name) e.value (value_at es x) h.3 (value_at_small vs s.number ss es x h.4)
  where
    pick_small : (b : Bool) (v w : ℕ) → v < 2 ^ 32 → w < 2 ^ 32 → (if b then v else w) < 2 ^ 32
    pick_small true v w p q = p
    pick_small false v w p q = q

-- each value fits 32 bits
pub value_small : (vs : ℕ → ℕ) (n : ℕ) (ss : List Local) (es : Environment) → Agree vs n ss es → (e : Sum) → HasSmallNumbers e → value_of es e < 2 ^ 32
value_small vs n ss es h (number k) s = omega arith
value_small vs n ss es h (local x) s = value_at_small vs n ss es x h
value_small vs n ss es h (binary Add a b) s = omega arith
value_small vs n ss es h (binary Sub a b) s = omega arith
value_small vs n ss es h (binary Mul a b) s = omega arith

pub names_behind : (f : Frame) (a : Act) → names (frame_after f a).slots ≡ names_after (names f.slots) a
names_behind f (print e) = refl
names_behind f (declare x e) = refl
names_behind f (assign x e) = refl
names_behind f (choose t a b) = refl
names_behind f (repeat t a) = refl

pub next_behind : (f : Frame) (a : Act) → (frame_after f a).next ≡ f.next + declared_by a
next_behind f (print e) = omega arith
next_behind f (declare x e) = refl
next_behind f (assign x e) = omega arith
next_behind f (choose t a b) = refl
next_behind f (repeat t a) = refl

slots_behind : (f : Frame) (a : Act) → (more : List Local) × ((frame_after f a).slots ≡ more ++ f.slots)
slots_behind f (print e) = ([], refl)
slots_behind f (declare x e) = (record { name = x; number = f.next } ∷ [], refl)
slots_behind f (assign x e) = ([], refl)
slots_behind f (choose t a b) = ([], refl)
slots_behind f (repeat t a) = ([], refl)

-- the locals of a block stand before those around it
pub slots_through : (f : Frame) (p : Acts) → (more : List Local) × ((frame_through f p).slots ≡ more ++ f.slots)
slots_through f nil = ([], refl)
slots_through f (cons a rest) =
    let one = slots_behind f a in
    let all = slots_through (frame_after f a) rest in
    (all.0 ++ one.0, all.1 ∙ ap (λ l. all.0 ++ l) one.1 ∙ sym (append_assoc all.0 one.0 f.slots))

pub next_through : (f : Frame) (p : Acts) → (frame_through f p).next ≡ f.next + declared_in p
next_through f nil = omega arith
next_through f (cons a rest) = next_through (frame_after f a) rest ∙ omega (arith, next_behind f a)

-- behind a block its locals go
pub agree_leave : (vs ws : ℕ → ℕ) (m : ℕ) (f : Frame) (p : Acts) (es fs : Environment) → Agree vs f.next f.slots es → Agree ws m (frame_through f p).slots fs → Agree ws f.next f.slots (drop (length fs - length es) fs)
agree_leave vs ws m f p es fs g h =
    let s = slots_through f p in
    let joined : Agree ws m (s.0 ++ f.slots) fs = subst (λ l. Agree ws m l fs) s.1 h in
    let r = agree_drop ws m s.0 f.slots fs joined in
    let long : length fs - length es ≡ length s.0 = omega (arith, agree_length vs f.next f.slots es g, agree_length ws m (s.0 ++ f.slots) fs joined, length-append s.0 f.slots) in
    subst (λ k. Agree ws f.next f.slots (drop k fs)) (sym long) (agree_bound vs ws f.next r.0 f.slots es (drop (length s.0) fs) g r.1)
