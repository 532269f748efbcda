-- Why a type doesn't load is told by its parts alone: the way to it makes no difference. A search that keeps no way shows this.
use Rattle.std.proofs.Common.{◌≡◌, ◌<◌, ◌≤◌, List, [], ◌∷◌, ◌++◌, Option, Some, None, Bool, true, false, not, cond, ◌⊎◌, refl, sym, ◌∙◌, ap, subst, ℕ, zero, suc, inl, inr, arith}
use Rattle.std.proofs.Math.Path.{fun_ext}
use Rattle.std.proofs.lemmas.Bool.{cases_Bool, or_cases}
use Rattle.std.specs.Option.{option_or}
use Rattle.std.specs.Str.{bytes_eq}
use Rattle.bcj_hier_rules.specs.declared.link_error.LinkError.{LinkError}
use Rattle.bcj_hier_rules.specs.declared.link_error.LinkError.TheVariants as error
use Rattle.bcj_hier_rules.specs.Shapes.{Named, Shape, Mixture, found}
use Rattle.bcj_hier_rules.specs.Loading.{is_interface, turns, error_where, superclass_error, interfaces_error, head_error, load_within, load_error}
use Rattle.bcj_hier_soundness.specs.Laws.{Waits, by_superclass, by_interface}
use Rattle.bcj_hier_soundness.specs.Laws as law
use Rattle.bcj_hier_soundness.proofs.Names.{is_in, same_bytes}
use Rattle.bcj_hier_soundness.proofs.Turns.{left, left_falls, left_all}
use Rattle.bcj_hier_soundness.proofs.Loads.{or_none}

abbrev circle : Option LinkError
circle = Some error.ClassCircularity

-- an answer that a longer search keeps, or none yet
abbrev Kept : Option LinkError → Option LinkError → Type 0
Kept a b = (a ≡ circle) ⊎ (b ≡ a)

abbrev AllKept : (Named → Option LinkError) → (Named → Option LinkError) → Type 0
AllKept f g = (x : Named) → Kept (f x) (g x)

kept_on : (a b c : Option LinkError) → Kept a b → Kept b c → Kept a c
kept_on a b c (inl e) k = inl e
kept_on a b c (inr e) (inl f) = inl (sym e ∙ f)
kept_on a b c (inr e) (inr f) = inr (f ∙ e)

-- an answer that is not given in the end was not given before
kept_back : (a b : Option LinkError) → Kept a b → b ≡ circle → a ≡ circle
kept_back a b (inl e) f = e
kept_back a b (inr e) f = sym e ∙ f

or_circle : (a b : Option LinkError) → a ≡ circle → option_or a b ≡ circle
or_circle a b e = ap (λ o. option_or o b) e

or_same : (a x y : Option LinkError) → Kept x y → Kept (option_or a x) (option_or a y)
or_same None x y k = k
or_same (Some e) x y k = inr refl

kept_or : (a b x y : Option LinkError) → Kept a b → Kept x y → Kept (option_or a x) (option_or b y)
kept_or a b x y (inl e) k = inl (or_circle a x e)
kept_or a b x y (inr e) k =
    let P : Option LinkError → Type 0 = λ o. Kept (option_or a x) (option_or o y) in
    subst P (sym e) (or_same a x y k)

superclass_kept : (m : Mixture) (f g : Named → Option LinkError) → AllKept f g → (o : Option Named) → Kept (superclass_error m f o) (superclass_error m g o)
superclass_kept m f g k None = inr refl
superclass_kept m f g k (Some p) = kept_or (f p) (g p) _ (error_where (is_interface m p) error.IncompatibleClassChange) (k p) (inr refl)

interfaces_kept : (m : Mixture) (f g : Named → Option LinkError) → AllKept f g → (names : List Named) → Kept (interfaces_error m f names) (interfaces_error m g names)
interfaces_kept m f g k [] = inr refl
interfaces_kept m f g k (i ∷ rest) =
    let wrong : Option LinkError = error_where (not (is_interface m i)) error.IncompatibleClassChange in
    kept_or (option_or (f i) wrong) (option_or (g i) wrong) (interfaces_error m f rest) (interfaces_error m g rest) (kept_or (f i) (g i) wrong wrong (k i) (inr refl)) (interfaces_kept m f g k rest)

head_kept : (m : Mixture) (f g : Named → Option LinkError) → AllKept f g → (s : Shape) → Kept (head_error m f s) (head_error m g s)
head_kept m f g k s =
    kept_or (superclass_error m f s.head.superclass) (superclass_error m g s.head.superclass) (interfaces_error m f s.head.interfaces) (interfaces_error m g s.head.interfaces)
    (superclass_kept m f g k s.head.superclass) (interfaces_kept m f g k s.head.interfaces)

-- ---- a search without a way

abbrev pub by_parts : Mixture → (Named → Option LinkError) → Option Shape → Option LinkError
by_parts m load o = elim o [ None ↦ Some error.NoClassDefFound | Some s ↦ head_error m load s ]

abbrev free : Mixture → ℕ → Named → Option LinkError
free m zero c = circle
free m (suc n) c = by_parts m (free m n) (found m c)

parts_kept : (m : Mixture) (f g : Named → Option LinkError) → AllKept f g → (o : Option Shape) → Kept (by_parts m f o) (by_parts m g o)
parts_kept m f g k None = inr refl
parts_kept m f g k (Some s) = head_kept m f g k s

-- more turns keep its answers
free_kept : (m : Mixture) (n k : ℕ) → n ≤ k → AllKept (free m n) (free m k)
free_kept m zero k few c = inl refl
free_kept m (suc n) zero few c = absurd (omega arith)
free_kept m (suc n) (suc k) few c = parts_kept m (free m n) (free m k) (free_kept m n k (omega arith)) (found m c)

abbrev load_new : Mixture → ℕ → List Named → Named → Shape → Bool → Option LinkError
load_new m n way name s old = cond old circle (head_error m (load_within m n (name ∷ way)) s)

abbrev load_at : Mixture → ℕ → List Named → Named → Option Shape → Option LinkError
load_at m n way name o = elim o [ None ↦ Some error.NoClassDefFound | Some s ↦ load_new m n way name s (is_in name way) ]

-- it keeps those of a search with a way
way_kept_new : (m : Mixture) (n k : ℕ) (way : List Named) (c : Named) (s : Shape) → AllKept (load_within m n (c ∷ way)) (free m k) → (old : Bool) → Kept (load_new m n way c s old) (head_error m (free m k) s)
way_kept_new m n k way c s again true = inl refl
way_kept_new m n k way c s again false = head_kept m (load_within m n (c ∷ way)) (free m k) again s

way_kept_at : (m : Mixture) (n k : ℕ) (way : List Named) (c : Named) → AllKept (load_within m n (c ∷ way)) (free m k) → (o : Option Shape) → Kept (load_at m n way c o) (by_parts m (free m k) o)
way_kept_at m n k way c again None = inr refl
way_kept_at m n k way c again (Some s) = way_kept_new m n k way c s again (is_in c way)

way_kept : (m : Mixture) (n k : ℕ) → n ≤ k → (way : List Named) → AllKept (load_within m n way) (free m k)
way_kept m zero k few way c = inl refl
way_kept m (suc n) zero few way c = absurd (omega arith)
way_kept m (suc n) (suc k) few way c = way_kept_at m n k way c (way_kept m n k (omega arith) (c ∷ way)) (found m c)

-- ---- a search with a way keeps its answers

-- each name on a way is on a circle, as far as these turns show
abbrev OnCircle : Mixture → ℕ → List Named → Type 0
OnCircle m k way = (w : Named) → is_in w way ≡ true → free m k w ≡ circle

abbrev Keeps : Mixture → ℕ → Type 0
Keeps m k = (n : ℕ) (way : List Named) → left way m < n → OnCircle m k way → AllKept (free m k) (load_within m n way)

earlier_circle : (m : Mixture) (k : ℕ) (way : List Named) → OnCircle m (suc k) way → OnCircle m k way
earlier_circle m k way on w i = kept_back (free m k w) (free m (suc k) w) (free_kept m k (suc k) (omega arith) w) (on w i)

joined_circle : (m : Mixture) (k : ℕ) (way : List Named) (c : Named) → OnCircle m k way → free m k c ≡ circle → OnCircle m k (c ∷ way)
joined_circle m k way c on at w i =
    elim (or_cases (bytes_eq w c) (is_in w way) i) [ inl it ↦ ap (free m k) (same_bytes w c it) ∙ at | inr old ↦ on w old ]

keeps_new : (m : Mixture) (k : ℕ) → Keeps m k → (n : ℕ) (way : List Named) (c : Named) → left way m < suc n → OnCircle m (suc k) way → free m k c ≡ circle → (s : Shape) → found m c ≡ Some s
    → Kept (head_error m (free m k) s) (load_new m n way c s (is_in c way))
keeps_new m k again n way c few on at s e =
    let P : Option LinkError → Type 0 = λ o. Kept (head_error m (free m k) s) o in
    elim (cases_Bool (is_in c way)) [
      | inl old ↦ inl (sym (ap (by_parts m (free m k)) e) ∙ on c old)
      | inr new ↦
          let falls : left (c ∷ way) m < left way m = left_falls c s way m new e in
          subst P (sym (ap (load_new m n way c s) new))
          (head_kept m (free m k) (load_within m n (c ∷ way)) (again n (c ∷ way) (omega arith) (joined_circle m k way c (earlier_circle m k way on) at)) s)
    ]

keeps_at : (m : Mixture) (k : ℕ) → Keeps m k → (n : ℕ) (way : List Named) (c : Named) → left way m < suc n → OnCircle m (suc k) way → free m k c ≡ circle → (o : Option Shape) → found m c ≡ o
    → Kept (by_parts m (free m k) o) (load_at m n way c o)
keeps_at m k again n way c few on at None e = inr refl
keeps_at m k again n way c few on at (Some s) e = keeps_new m k again n way c few on at s e

-- an answer of fewer turns is that of more
keeps_sooner : (a b l : Option LinkError) → Kept a b → l ≡ a → (a ≡ circle → Kept b l) → Kept b l
keeps_sooner a b l (inl e) h later = later e
keeps_sooner a b l (inr e) h later = inr (h ∙ sym e)

keeps_by : (m : Mixture) (k : ℕ) → Keeps m k → (n : ℕ) (way : List Named) → left way m < suc n → OnCircle m (suc k) way → (c : Named) → Kept (free m k c) (load_within m (suc n) way c)
    → Kept (free m (suc k) c) (load_within m (suc n) way c)
keeps_by m k again n way few on c (inl e) = keeps_at m k again n way c few on e (found m c) refl
keeps_by m k again n way few on c (inr h) =
    keeps_sooner (free m k c) (free m (suc k) c) (load_within m (suc n) way c) (free_kept m k (suc k) (omega arith) c) h (λ e. keeps_at m k again n way c few on e (found m c) refl)

keeps : (m : Mixture) (k : ℕ) → Keeps m k
keeps m zero n way few on c = inl refl
keeps m (suc k) zero way few on c = absurd (omega arith)
keeps m (suc k) (suc n) way few on c = keeps_by m k (keeps m k) n way few on c (keeps m k (suc n) way few (earlier_circle m k way on) c)

-- what any turns of the search without a way answer is why the type doesn't load
pub load_keeps : (m : Mixture) (k : ℕ) → AllKept (free m k) (load_error m)
load_keeps m k = keeps m k (turns m) [] (omega (arith, left_all m)) (λ w i. cc)

same_kept : (a b : Option LinkError) → Kept a b → Kept b a → a ≡ b
same_kept a b (inl e) k = e ∙ sym (kept_back b a k e)
same_kept a b (inr e) k = sym e

pub load_free : (m : Mixture) (k : ℕ) → turns m ≤ k → (c : Named) → load_error m c ≡ free m k c
load_free m k few c = same_kept (load_error m c) (free m k c) (way_kept m (turns m) k few [] c) (load_keeps m k c)

pub loads_by_parts : law.LoadsByParts
loads_by_parts m c = load_free m (suc (turns m)) (omega arith) c ∙ ap (λ f. by_parts m f (found m c)) (fun_ext (λ x. sym (load_free m (turns m) (omega arith) x)))

-- ---- circles

none_then : (a b x : Option LinkError) → Kept a b → b ≡ None → x ≡ circle → option_or a x ≡ circle
none_then a b x (inl e) none h = or_circle a x e
none_then a b x (inr e) none h = ap (λ o. option_or o x) (sym e ∙ none) ∙ h

-- behind superinterfaces without error
circle_behind : (m : Mixture) (f g : Named → Option LinkError) → AllKept f g → (front back : List Named) (i : Named) → interfaces_error m g front ≡ None → f i ≡ circle
    → interfaces_error m f (front ++ i ∷ back) ≡ circle
circle_behind m f g k [] back i none h =
    let wrong : Option LinkError = error_where (not (is_interface m i)) error.IncompatibleClassChange in
    or_circle (option_or (f i) wrong) (interfaces_error m f back) (or_circle (f i) wrong h)
circle_behind m f g k (x ∷ front) back i none h =
    let wrong : Option LinkError = error_where (not (is_interface m x)) error.IncompatibleClassChange in
    let parts : (option_or (g x) wrong ≡ None) × (interfaces_error m g front ≡ None) = or_none (option_or (g x) wrong) (interfaces_error m g front) none in
    none_then (option_or (f x) wrong) (option_or (g x) wrong) (interfaces_error m f (front ++ i ∷ back)) (kept_or (f x) (g x) wrong wrong (k x) (inr refl)) parts.0
    (circle_behind m f g k front back i parts.1 h)

circle_above : (m : Mixture) (U : Named → Bool) (n : ℕ) → ((c : Named) → U c ≡ true → free m n c ≡ circle) → (c : Named) → Waits m U c → free m (suc n) c ≡ circle
circle_above m U n again c (by_superclass {s = s} {p = p} e up u) =
    let wrong : Option LinkError = error_where (is_interface m p) error.IncompatibleClassChange in
    ap (by_parts m (free m n)) e
    ∙ or_circle (superclass_error m (free m n) s.head.superclass) (interfaces_error m (free m n) s.head.interfaces)
    (ap (superclass_error m (free m n)) up ∙ or_circle (free m n p) wrong (again p u))
circle_above m U n again c (by_interface {s = s} front back i e fine all none u) =
    ap (by_parts m (free m n)) e
    ∙ none_then (superclass_error m (free m n) s.head.superclass) (superclass_error m (load_error m) s.head.superclass) (interfaces_error m (free m n) s.head.interfaces)
    (superclass_kept m (free m n) (load_error m) (load_keeps m n) s.head.superclass) fine
    (ap (interfaces_error m (free m n)) all ∙ circle_behind m (free m n) (load_error m) (load_keeps m n) front back i none (again i u))

circles_stay : (m : Mixture) (U : Named → Bool) → ((c : Named) → U c ≡ true → Waits m U c) → (n : ℕ) (c : Named) → U c ≡ true → free m n c ≡ circle
circles_stay m U waits zero c u = refl
circles_stay m U waits (suc n) c u = circle_above m U n (circles_stay m U waits n) c (waits c u)

pub circles_fail : law.CirclesFail
circles_fail m U waits c u = load_free m (turns m) (omega arith) c ∙ circles_stay m U waits (turns m) c u
