-- What loads: more turns change nothing, and all types above one that loads load.
use Rattle.std.proofs.Common.{◌≡◌, ◌<◌, ◌≤◌, List, [], ◌∷◌, ◌++◌, Option, Some, None, Bool, true, false, not, cond, refl, sym, ◌∙◌, ap, ℕ, zero, suc, length, inl, inr, arith}
use Rattle.std.proofs.Math.Path.{fun_ext}
use Rattle.std.proofs.lemmas.Bool.{cases_Bool, cases_lt, or_cases, or_left, or_right, not-false}
use Rattle.std.specs.Option.{option_or}
use Rattle.std.specs.Str.{bytes_eq}
use Rattle.bcj_hier_rules.specs.declared.link_error.LinkError.{LinkError}
use Rattle.bcj_hier_rules.specs.declared.link_error.LinkError.TheVariants as error
use Rattle.bcj_hier_rules.specs.Shapes.{Named, Shape, Mixture, found}
use Rattle.bcj_hier_rules.specs.Loading.{is_interface, turns, error_where, superclass_error, interfaces_error, head_error, load_within, load_error}
use Rattle.bcj_hier_soundness.proofs.Names.{is_in}
use Rattle.bcj_hier_soundness.proofs.Turns.{left, left_falls, left_all}
use Rattle.bcj_hier_soundness.specs.Laws as law

abbrev load_new : Mixture → ℕ → List Named → Named → Shape → Bool → Option LinkError
load_new m n way name s circle = cond circle (Some error.ClassCircularity) (head_error m (load_within m n (name ∷ way)) s)

abbrev load_at : Mixture → ℕ → List Named → Named → Option Shape → Option LinkError
load_at m n way name o = elim o [ None ↦ Some error.NoClassDefFound | Some s ↦ load_new m n way name s (is_in name way) ]

-- ---- turns

abbrev Stays : Mixture → ℕ → Type 0
Stays m n = (way : List Named) (name : Named) → left way m < n → load_within m (suc n) way name ≡ load_within m n way name

stays_at : (m : Mixture) (n : ℕ) → Stays m n → (way : List Named) (name : Named) → left way m < suc n → (o : Option Shape) → found m name ≡ o → load_at m (suc n) way name o ≡ load_at m n way name o
stays_at m n again way name few None e = refl
stays_at m n again way name few (Some s) e =
    elim (cases_Bool (is_in name way)) [
      | inl circle ↦ ap (load_new m (suc n) way name s) circle ∙ sym (ap (load_new m n way name s) circle)
      | inr new ↦
          let falls : left (name ∷ way) m < left way m = left_falls name s way m new e in
          let above : load_within m (suc n) (name ∷ way) ≡ load_within m n (name ∷ way) = fun_ext (λ x. again (name ∷ way) x (omega arith)) in
          ap (load_new m (suc n) way name s) new ∙ (ap (λ f. head_error m f s) above ∙ sym (ap (load_new m n way name s) new))
    ]

stays : (m : Mixture) (n : ℕ) → Stays m n
stays m zero way name few = absurd (omega arith)
stays m (suc n) way name few = stays_at m n (stays m n) way name few (found m name) refl

pub turns_suffice : law.TurnsSuffice
turns_suffice m zero name few = absurd (omega arith)
turns_suffice m (suc n) name few =
    elim (cases_lt (length m) n) [
      | inl more ↦ stays m n [] name (omega (arith, left_all m)) ∙ turns_suffice m n name (omega arith)
      | inr last ↦
          let all : n ≡ length m = omega arith in
          ap (λ k. load_within m (suc k) [] name) all
    ]

-- ---- what loads, in fewer turns or behind more

pub or_none : {A : Type 0} (a b : Option A) → option_or a b ≡ None → (a ≡ None) × (b ≡ None)
or_none None b h = (refl, h)
or_none (Some x) b h = cc

none_or : {A : Type 0} (a b : Option A) → a ≡ None → b ≡ None → option_or a b ≡ None
none_or None b ea eb = eb
none_or (Some x) b ea eb = cc

no_error : (wrong : Bool) (e : LinkError) → error_where wrong e ≡ None → wrong ≡ false
no_error true e h = cc
no_error false e h = refl

abbrev NoMore : (Named → Option LinkError) → (Named → Option LinkError) → Type 0
NoMore f g = (x : Named) → f x ≡ None → g x ≡ None

superclass_none : (m : Mixture) (f g : Named → Option LinkError) → NoMore f g → (o : Option Named) → superclass_error m f o ≡ None → superclass_error m g o ≡ None
superclass_none m f g better None h = refl
superclass_none m f g better (Some p) h =
    let parts : (f p ≡ None) × (error_where (is_interface m p) error.IncompatibleClassChange ≡ None) = or_none (f p) _ h in
    none_or (g p) _ (better p parts.0) parts.1

interfaces_none : (m : Mixture) (f g : Named → Option LinkError) → NoMore f g → (names : List Named) → interfaces_error m f names ≡ None → interfaces_error m g names ≡ None
interfaces_none m f g better [] h = refl
interfaces_none m f g better (i ∷ rest) h =
    let first : Option LinkError = option_or (f i) (error_where (not (is_interface m i)) error.IncompatibleClassChange) in
    let parts : (first ≡ None) × (interfaces_error m f rest ≡ None) = or_none first (interfaces_error m f rest) h in
    let firsts : (f i ≡ None) × (error_where (not (is_interface m i)) error.IncompatibleClassChange ≡ None) = or_none (f i) _ parts.0 in
    none_or _ (interfaces_error m g rest) (none_or (g i) _ (better i firsts.0) firsts.1) (interfaces_none m f g better rest parts.1)

-- what loads is there and was not passed, and what stands in its head loads
pub record Loaded (m : Mixture) (n : ℕ) (way : List Named) (name : Named) (s : Shape) : Type 0 where
  pub new : is_in name way ≡ false
  pub superclass : superclass_error m (load_within m n (name ∷ way)) s.head.superclass ≡ None
  pub interfaces : interfaces_error m (load_within m n (name ∷ way)) s.head.interfaces ≡ None

pub loaded : (m : Mixture) (n : ℕ) (way : List Named) (name : Named) (s : Shape) → found m name ≡ Some s → load_within m (suc n) way name ≡ None → Loaded m n way name s
loaded m n way name s e h =
    let at : load_new m n way name s (is_in name way) ≡ None = sym (ap (load_at m n way name) e) ∙ h in
    elim (cases_Bool (is_in name way)) [
      | inl circle ↦
          let wrong : Some error.ClassCircularity ≡ None = sym (ap (load_new m n way name s) circle) ∙ at in
          absurd (cc)
      | inr new ↦
          let head : head_error m (load_within m n (name ∷ way)) s ≡ None = sym (ap (load_new m n way name s) new) ∙ at in
          let parts : (superclass_error m (load_within m n (name ∷ way)) s.head.superclass ≡ None) × (interfaces_error m (load_within m n (name ∷ way)) s.head.interfaces ≡ None) =
          or_none _ (interfaces_error m (load_within m n (name ∷ way)) s.head.interfaces) head in
          record { new = new; superclass = parts.0; interfaces = parts.1 }
    ]

there_at : (m : Mixture) (n : ℕ) (way : List Named) (name : Named) (o : Option Shape) → found m name ≡ o → load_at m n way name o ≡ None → (s : Shape) × (found m name ≡ Some s)
there_at m n way name None e h = cc
there_at m n way name (Some s) e h = (s, e)

pub loaded_there : (m : Mixture) (n : ℕ) (way : List Named) (name : Named) → load_within m n way name ≡ None → (s : Shape) × (found m name ≡ Some s)
loaded_there m zero way name h = cc
loaded_there m (suc n) way name h = there_at m n way name (found m name) refl h

-- the names of a way are among those of another
abbrev Within : List Named → List Named → Type 0
Within less way = (x : Named) → is_in x less ≡ true → is_in x way ≡ true

within_more : (less way : List Named) (name : Named) → Within less way → Within (name ∷ less) (name ∷ way)
within_more less way name within x h =
    elim (or_cases (bytes_eq x name) (is_in x less) h) [ inl it ↦ or_left (bytes_eq x name) (is_in x way) it | inr other ↦ or_right (bytes_eq x name) (is_in x way) (within x other) ]

still_new : (less way : List Named) (name : Named) → Within less way → is_in name way ≡ false → is_in name less ≡ false
still_new less way name within new =
    elim (cases_Bool (is_in name less)) [
      | inl old ↦
          let wrong : true ≡ false = sym (within name old) ∙ new in
          absurd (cc)
      | inr fresh ↦ fresh
    ]

abbrev LoadsSooner : Mixture → ℕ → ℕ → Type 0
LoadsSooner m n k = (way less : List Named) → Within less way → NoMore (load_within m n way) (load_within m k less)

sooner_at : (m : Mixture) (n k : ℕ) → LoadsSooner m n k → (way less : List Named) → Within less way → (name : Named) (s : Shape) → found m name ≡ Some s → Loaded m n way name s → load_within m (suc k) less name ≡ None
sooner_at m n k again way less within name s e h =
    let better : NoMore (load_within m n (name ∷ way)) (load_within m k (name ∷ less)) = again (name ∷ way) (name ∷ less) (within_more less way name within) in
    ap (load_at m k less name) e
    ∙ (ap (load_new m k less name s) (still_new less way name within h.new)
    ∙ none_or (superclass_error m (load_within m k (name ∷ less)) s.head.superclass) (interfaces_error m (load_within m k (name ∷ less)) s.head.interfaces)
    (superclass_none m _ _ better s.head.superclass h.superclass) (interfaces_none m _ _ better s.head.interfaces h.interfaces))

pub loads_sooner : (m : Mixture) (n k : ℕ) → n ≤ k → LoadsSooner m n k
loads_sooner m zero k few way less within name h = cc
loads_sooner m (suc n) zero few way less within name h = absurd (omega arith)
loads_sooner m (suc n) (suc k) few way less within name h =
    let t : (s : Shape) × (found m name ≡ Some s) = loaded_there m (suc n) way name h in
    sooner_at m n k (loads_sooner m n k (omega arith)) way less within name t.0 t.1 (loaded m n way name t.0 t.1 h)

-- what loads behind a way loads
pub loads_alone : (m : Mixture) (way : List Named) (name : Named) → load_within m (length m) way name ≡ None → load_error m name ≡ None
loads_alone m way name h = loads_sooner m (length m) (turns m) (omega arith) way [] (λ x e. cc) name h

-- ---- above what loads

pub each_that_loads_is_there : law.EachThatLoadsIsThere
each_that_loads_is_there m c h = loaded_there m (turns m) [] c h

pub superclass_part : (m : Mixture) (f : Named → Option LinkError) (o : Option Named) (p : Named) → o ≡ Some p → superclass_error m f o ≡ None → (f p ≡ None) × (is_interface m p ≡ false)
superclass_part m f o p e h =
    let at : superclass_error m f (Some p) ≡ None = sym (ap (superclass_error m f) e) ∙ h in
    let parts : (f p ≡ None) × (error_where (is_interface m p) error.IncompatibleClassChange ≡ None) = or_none (f p) _ at in
    (parts.0, no_error (is_interface m p) _ parts.1)

interface_part : (m : Mixture) (f : Named → Option LinkError) (front back : List Named) (i : Named) → interfaces_error m f (front ++ i ∷ back) ≡ None → (f i ≡ None) × (is_interface m i ≡ true)
interface_part m f [] back i h =
    let first : Option LinkError = option_or (f i) (error_where (not (is_interface m i)) error.IncompatibleClassChange) in
    let parts : (first ≡ None) × (interfaces_error m f back ≡ None) = or_none first (interfaces_error m f back) h in
    let firsts : (f i ≡ None) × (error_where (not (is_interface m i)) error.IncompatibleClassChange ≡ None) = or_none (f i) _ parts.0 in
    (firsts.0, not-false (is_interface m i) (no_error (not (is_interface m i)) _ firsts.1))
interface_part m f (x ∷ front) back i h =
    let first : Option LinkError = option_or (f x) (error_where (not (is_interface m x)) error.IncompatibleClassChange) in
    let parts : (first ≡ None) × (interfaces_error m f (front ++ i ∷ back) ≡ None) = or_none first (interfaces_error m f (front ++ i ∷ back)) h in
    interface_part m f front back i parts.1

pub superclasses_load : law.SuperclassesLoad
superclasses_load m c p s h e up =
    let l : Loaded m (length m) [] c s = loaded m (length m) [] c s e h in
    let parts : (load_within m (length m) (c ∷ []) p ≡ None) × (is_interface m p ≡ false) = superclass_part m (load_within m (length m) (c ∷ [])) s.head.superclass p up l.superclass in
    (loads_alone m (c ∷ []) p parts.0, parts.1)

pub superinterfaces_load : law.SuperinterfacesLoad
superinterfaces_load m c i s front back h e up =
    let l : Loaded m (length m) [] c s = loaded m (length m) [] c s e h in
    let all : interfaces_error m (load_within m (length m) (c ∷ [])) (front ++ i ∷ back) ≡ None = sym (ap (interfaces_error m (load_within m (length m) (c ∷ []))) up) ∙ l.interfaces in
    let parts : (load_within m (length m) (c ∷ []) i ≡ None) × (is_interface m i ≡ true) = interface_part m (load_within m (length m) (c ∷ [])) front back i all in
    (loads_alone m (c ∷ []) i parts.0, parts.1)
