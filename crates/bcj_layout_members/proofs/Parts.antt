-- The slots and fields of a type that loads, by those of its superclass and of its superinterfaces: the turns make no difference.
use Rattle.std.proofs.Common.{◌≡◌, ◌+◌, List, [], ◌∷◌, Option, Some, None, Bool, true, false, not, refl, sym, ◌∙◌, ap, ℕ, zero, suc, length}
use Rattle.std.specs.List.{fold}
use Rattle.std.specs.Option.{option_or, option_map_or}
use Rattle.bcj_hier_rules.specs.declared.link_error.LinkError.{LinkError}
use Rattle.bcj_hier_rules.specs.declared.link_error.LinkError.TheVariants as error
use Rattle.bcj_hier_rules.specs.Shapes.{Named, Shape, Mixture, found}
use Rattle.bcj_hier_rules.specs.Loading.{is_interface, turns, error_where, superclass_error, interfaces_error, load_within, load_error}
use Rattle.bcj_hier_soundness.proofs.Loads.{Loaded, loaded, loaded_there, superclass_part}
use Rattle.bcj_layout_rules.specs.Members.{Slot, with_own, with_interface, slots_within, slots, own_fields, fields_within, field_count}
use Rattle.bcj_layout_members.proofs.Merging.{merged, Commutes, fold_commutes, own_commutes}

abbrev interface_at : Mixture → ℕ → List Slot → Option Shape → List Slot
interface_at m n xs o = elim o [ None ↦ xs | Some s ↦ fold (with_interface m n) (with_own xs s) s.head.interfaces ]

abbrev slots_at : Mixture → ℕ → Option Shape → List Slot
slots_at m n o = elim o [ None ↦ [] | Some s ↦ fold (with_interface m n) (with_own (option_map_or (slots_within m n) s.head.superclass []) s) s.head.interfaces ]

abbrev fields_at : Mixture → ℕ → Option Shape → ℕ
fields_at m n o = elim o [ None ↦ 0 | Some s ↦ option_map_or (fields_within m n) s.head.superclass 0 + length (own_fields m s) ]

-- ---- whatever stands before

-- the same for what is found
interface_commutes_at : (m : Mixture) (n : ℕ) → ((i : Named) → Commutes (λ xs. with_interface m n xs i)) → (o : Option Shape) → Commutes (λ xs. interface_at m n xs o)
interface_commutes_at m n again None cur xs = refl
interface_commutes_at m n again (Some s) cur xs =
    fold_commutes (with_interface m n) again s.head.interfaces cur (with_own xs s) ∙ ap (λ ys. fold (with_interface m n) ys s.head.interfaces) (own_commutes s cur xs)

-- to put the slots of an interface commutes
interface_commutes : (m : Mixture) (n : ℕ) (i : Named) → Commutes (λ xs. with_interface m n xs i)
interface_commutes m zero i cur xs = refl
interface_commutes m (suc n) i cur xs = interface_commutes_at m n (interface_commutes m n) (found m i) cur xs

-- ---- the turns

-- where either fails neither the second does
none_left : (a b : Option LinkError) → option_or a b ≡ None → b ≡ None
none_left None b h = h
none_left (Some x) b h = cc

-- the rest of superinterfaces that load loads
pub interfaces_rest : (m : Mixture) (f : Named → Option LinkError) (i : Named) (rest : List Named) → interfaces_error m f (i ∷ rest) ≡ None → interfaces_error m f rest ≡ None
interfaces_rest m f i rest h = none_left (option_or (f i) (error_where (not (is_interface m i)) error.IncompatibleClassChange)) (interfaces_error m f rest) h

-- nor the first
none_first : (a b : Option LinkError) → option_or a b ≡ None → a ≡ None
none_first None b h = refl
none_first (Some x) b h = cc

-- what isn't of the wrong kind is an interface
right_kind : (b : Bool) → error_where (not b) error.IncompatibleClassChange ≡ None → b ≡ true
right_kind true h = refl
right_kind false h = cc

-- the first of superinterfaces that load loads, and is an interface
pub interface_first : (m : Mixture) (f : Named → Option LinkError) (i : Named) (rest : List Named) → interfaces_error m f (i ∷ rest) ≡ None → (f i ≡ None) × (is_interface m i ≡ true)
interface_first m f i rest h =
    let wrong : Option LinkError = error_where (not (is_interface m i)) error.IncompatibleClassChange in
    let both : option_or (f i) wrong ≡ None = none_first (option_or (f i) wrong) (interfaces_error m f rest) h in
    (none_first (f i) wrong both, right_kind (is_interface m i) (none_left (f i) wrong both))

abbrev Settled : Mixture → ℕ → List Named → Type 0
Settled m n way = (i : Named) → load_within m n way i ≡ None → (xs : List Slot) → with_interface m (suc n) xs i ≡ with_interface m n xs i

-- one turn more puts the same slots of superinterfaces
interfaces_settled : (m : Mixture) (n : ℕ) (way : List Named) → Settled m n way → (names : List Named) → interfaces_error m (load_within m n way) names ≡ None → (xs : List Slot)
    → fold (with_interface m (suc n)) xs names ≡ fold (with_interface m n) xs names
interfaces_settled m n way each [] h xs = refl
interfaces_settled m n way each (i ∷ rest) h xs =
    let first : load_within m n way i ≡ None = (interface_first m (load_within m n way) i rest h).0 in
    ap (λ ys. fold (with_interface m (suc n)) ys rest) (each i first xs)
    ∙ interfaces_settled m n way each rest (interfaces_rest m (load_within m n way) i rest h) (with_interface m n xs i)

-- one turn more puts the same slots of an interface that loads
interface_settled : (m : Mixture) (n : ℕ) (way : List Named) → Settled m n way
interface_settled m zero way i h xs = cc
interface_settled m (suc n) way i h xs =
    let t : (s : Shape) × (found m i ≡ Some s) = loaded_there m (suc n) way i h in
    let l : Loaded m n way i t.0 = loaded m n way i t.0 t.1 h in
    ap (interface_at m (suc n) xs) t.1
    ∙ (interfaces_settled m n (i ∷ way) (interface_settled m n (i ∷ way)) t.0.head.interfaces l.interfaces (with_own xs t.0) ∙ sym (ap (interface_at m n xs) t.1))

abbrev Same : {A : Type 0} → Mixture → ℕ → List Named → (ℕ → Named → A) → Type 0
Same m n way f = (p : Named) → load_within m n way p ≡ None → f (suc n) p ≡ f n p

-- one turn more gives the same of a superclass
superclass_settled : {A : Type 0} (m : Mixture) (n : ℕ) (way : List Named) (f : ℕ → Named → A) (none : A) → Same m n way f → (o : Option Named) → superclass_error m (load_within m n way) o ≡ None
    → option_map_or (f (suc n)) o none ≡ option_map_or (f n) o none
superclass_settled m n way f none each None h = refl
superclass_settled m n way f none each (Some p) h = each p (superclass_part m (load_within m n way) (Some p) p refl h).0

-- one turn more gives the same slots
slots_settled : (m : Mixture) (n : ℕ) (way : List Named) → Same m n way (slots_within m)
slots_settled m zero way c h = cc
slots_settled m (suc n) way c h =
    let t : (s : Shape) × (found m c ≡ Some s) = loaded_there m (suc n) way c h in
    let l : Loaded m n way c t.0 = loaded m n way c t.0 t.1 h in
    let above : option_map_or (slots_within m (suc n)) t.0.head.superclass [] ≡ option_map_or (slots_within m n) t.0.head.superclass [] =
    superclass_settled m n (c ∷ way) (slots_within m) [] (slots_settled m n (c ∷ way)) t.0.head.superclass l.superclass in
    ap (slots_at m (suc n)) t.1
    ∙ (ap (λ xs. fold (with_interface m (suc n)) (with_own xs t.0) t.0.head.interfaces) above
    ∙ (interfaces_settled m n (c ∷ way) (interface_settled m n (c ∷ way)) t.0.head.interfaces l.interfaces (with_own (option_map_or (slots_within m n) t.0.head.superclass []) t.0)
    ∙ sym (ap (slots_at m n) t.1)))

-- one turn more counts the same fields
fields_settled : (m : Mixture) (n : ℕ) (way : List Named) → Same m n way (fields_within m)
fields_settled m zero way c h = cc
fields_settled m (suc n) way c h =
    let t : (s : Shape) × (found m c ≡ Some s) = loaded_there m (suc n) way c h in
    let l : Loaded m n way c t.0 = loaded m n way c t.0 t.1 h in
    ap (fields_at m (suc n)) t.1
    ∙ (ap (λ k. k + length (own_fields m t.0)) (superclass_settled m n (c ∷ way) (fields_within m) 0 (fields_settled m n (c ∷ way)) t.0.head.superclass l.superclass)
    ∙ sym (ap (fields_at m n) t.1))

-- ---- by parts

-- no interface has a superclass
abbrev pub NoneAbove : Mixture → Type 0
NoneAbove m = (i : Named) (s : Shape) → found m i ≡ Some s → s.head.interface ≡ true → s.head.superclass ≡ None

-- an interface is there
interface_there_at : (m : Mixture) (i : Named) (o : Option Shape) → found m i ≡ o → option_map_or (λ s. s.head.interface) o false ≡ true → (s : Shape) × (found m i ≡ Some s) × (s.head.interface ≡ true)
interface_there_at m i None e h = cc
interface_there_at m i (Some s) e h = (s, e, h)

-- the slots of an interface that stand behind others are its own, without those
interface_merges : (m : Mixture) → NoneAbove m → (i : Named) → is_interface m i ≡ true → (xs : List Slot) → with_interface m (turns m) xs i ≡ merged xs (slots m i)
interface_merges m alone i h xs =
    let t : (s : Shape) × (found m i ≡ Some s) × (s.head.interface ≡ true) = interface_there_at m i (found m i) refl h in
    let up : t.0.head.superclass ≡ None = alone i t.0 t.1 t.2 in
    let none : List Slot → List Slot = λ ys. fold (with_interface m (length m)) (with_own ys t.0) t.0.head.interfaces in
    let same : with_interface m (turns m) [] i ≡ slots m i =
    ap (interface_at m (length m) []) t.1 ∙ (ap none (sym (ap (λ o. option_map_or (slots_within m (length m)) o []) up)) ∙ sym (ap (slots_at m (length m)) t.1)) in
    sym (interface_commutes m (turns m) i xs []) ∙ ap (merged xs) same

-- so it is for superinterfaces one after another
interfaces_merge : (m : Mixture) → NoneAbove m → (f : Named → Option LinkError) (names : List Named) → interfaces_error m f names ≡ None → (xs : List Slot)
    → fold (with_interface m (turns m)) xs names ≡ fold (λ ys i. merged ys (slots m i)) xs names
interfaces_merge m alone f [] h xs = refl
interfaces_merge m alone f (i ∷ rest) h xs =
    let first : is_interface m i ≡ true = (interface_first m f i rest h).1 in
    ap (λ ys. fold (with_interface m (turns m)) ys rest) (interface_merges m alone i first xs)
    ∙ interfaces_merge m alone f rest (interfaces_rest m f i rest h) (merged xs (slots m i))

-- the slots of a type: the superclass's, its own, and those of its superinterfaces
pub slots_by_parts : (m : Mixture) → NoneAbove m → (c : Named) (s : Shape) → load_error m c ≡ None → found m c ≡ Some s
    → slots m c ≡ fold (λ ys i. merged ys (slots m i)) (with_own (option_map_or (slots m) s.head.superclass []) s) s.head.interfaces
slots_by_parts m alone c s h e =
    let l : Loaded m (length m) [] c s = loaded m (length m) [] c s e h in
    sym (slots_settled m (turns m) [] c h)
    ∙ (ap (slots_at m (turns m)) e
    ∙ interfaces_merge m alone (load_within m (length m) (c ∷ [])) s.head.interfaces l.interfaces (with_own (option_map_or (slots m) s.head.superclass []) s))

-- the fields of a type: the superclass's and its own
pub fields_by_parts : (m : Mixture) (c : Named) (s : Shape) → load_error m c ≡ None → found m c ≡ Some s
    → field_count m c ≡ option_map_or (field_count m) s.head.superclass 0 + length (own_fields m s)
fields_by_parts m c s h e = sym (fields_settled m (turns m) [] c h) ∙ ap (fields_at m (turns m)) e
