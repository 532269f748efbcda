-- The contexts of bodies are sound, and the frames of methods and initialisers agree with them.
use Rattle.std.proofs.Common.{◌≡◌, sym, ap, subst, ◌∙◌, inl, inr, ℕ, zero, suc, Bool, true, false, not, cond, ◌||◌, List, [], ◌∷◌, Option, Some}
use Rattle.std.specs.List.{find, list_any}
use Rattle.std.specs.Option.{option_and_then}
use Rattle.std.proofs.lemmas.Bool.{cases_Bool}
use Rattle.bcj_parser_trees.specs.declared.names.Param.{Param}
use Rattle.bcj_parser_trees.specs.Trees.{PlainType, PlainUnit}
use Rattle.bcj_symbolic_trees.specs.Types.{PlainTy, class_type}
use Rattle.bcj_symbolic_trees.specs.Units.{PlainPair}
use Rattle.bcj_symbolic_check.specs.Judgements.{Frame}
use Rattle.bcj_symbolic_check.specs.Typing.{Each, each_of_none, each_of_more, IsListed, At, at_first, at_next, IsThis, Begins, begins_at_all, begins_longer, AreValueTypes}
use Rattle.bcj_decl_rules.specs.World.{Named, World, Declared, world_of, has_type, is_named, declared_type, superclass_of, param_types}
use Rattle.bcj_decl_rules.specs.Subtypes.{Subtype}
use Rattle.bcj_typing_rules.specs.Context.{Local, Finals, superclass_at}
use Rattle.bcj_typing_rules.specs.Members.{body_of, params_from, first_param, first_types}
use Rattle.bcj_typing_soundness.specs.World.{IsKnown, IsKnownResult, WorldIsSound}
use Rattle.bcj_typing_soundness.specs.Frames.{IsSoundContext, IsHeld, Agrees, GoOn, HasThisFirst}
use Rattle.bcj_typing_soundness.proofs.Known.{known_class}
use Rattle.bcj_typing_soundness.proofs.Lists.{each_weaker}
use Rattle.bcj_typing_soundness.proofs.Declared.{IsDeclaredType}

-- ---- types of locals

-- types that go on in others begin them
pub begins_on : (types locals : List PlainTy) → GoOn types locals → Begins types locals
begins_on [] locals g = begins_at_all
begins_on (t ∷ ts) locals g = by locals (g 0 t at_first) (λ i s a. g (suc i) s (at_next a)) (λ rest h. begins_on ts rest h) where
  next : {x : PlainTy} {xs : List PlainTy} {i : ℕ} {s : PlainTy} → At (x ∷ xs) (suc i) s → At xs i s
  next (at_next a) = a

  by : (ls : List PlainTy) → At ls zero t → ((i : ℕ) (s : PlainTy) → At ts i s → At ls (suc i) s) → ((rest : List PlainTy) → GoOn ts rest → Begins ts rest) → Begins (t ∷ ts) ls
  by [] a h again = elim a [ ]
  by (x ∷ xs) at_first h again = begins_longer (again xs (λ i s a. next (h i s a)))

-- types that are there are of values
pub values_known : {w : World} {ts : List PlainTy} → Each (IsKnown w) ts → AreValueTypes ts
values_known k = each_weaker (λ t h. h.value) k

-- types by their numbers, from one on
abbrev HeldFrom : (ℕ → PlainTy → Type 0) → ℕ → List PlainTy → Type 0
HeldFrom P n [] = Unit {0}
HeldFrom P n (t ∷ ts) = P n t × HeldFrom P (suc n) ts

-- counted from one on
held_one_on : (P : ℕ → PlainTy → Type 0) (n : ℕ) (ts : List PlainTy) → HeldFrom (λ i t. P (suc i) t) n ts → HeldFrom P (suc n) ts
held_one_on P n [] h = tt
held_one_on P n (t ∷ ts) h = (h.0, held_one_on P (suc n) ts h.1)

-- from the first on
held_from_first : (P : ℕ → PlainTy → Type 0) (ts : List PlainTy) → ((i : ℕ) (t : PlainTy) → At ts i t → P i t) → HeldFrom P 0 ts
held_from_first P [] f = tt
held_from_first P (t ∷ ts) f = (f 0 t at_first, held_one_on P 0 ts (held_from_first (λ i s. P (suc i) s) ts (λ i s a. f (suc i) s (at_next a))))

-- the parameters by their numbers
params_held : (frame : Frame) (n : ℕ) (ps : List Param) → HeldFrom (λ i t. At frame.locals i t × ¬ IsThis frame i) n (param_types ps) → Each (IsHeld frame) (params_from n ps)
params_held frame n [] h = each_of_none
params_held frame n (p ∷ ps) h = each_of_more h.0 (params_held frame (suc n) ps h.1)

-- ---- one type

-- what is found passes the test
found_any : {A : Type 0} (p : A → Bool) (xs : List A) (x : A) → find p xs ≡ Some x → list_any p xs ≡ true
found_any p [] x e = cc
found_any p (y ∷ ys) x e =
    elim (cases_Bool (p y)) [
      | inl it ↦ ap (λ b. b || list_any p ys) it
      | inr other ↦ ap (λ b. b || list_any p ys) other ∙ found_any p ys x (ap (λ b. cond b (Some y) (find p ys)) (sym other) ∙ e)
    ]

-- a frame of a body of the type, and its pairs
pub record IsFrameOf (units : List PlainUnit) (t : PlainType) (is_static : Bool) (frame : Frame) : Type 0 where
  pub class : frame.class ≡ t.name
  pub superclass : frame.superclass ≡ superclass_of t
  pub this : frame.has_this ≡ not is_static
  pub pairs : (p : PlainPair) → IsListed p frame.pairs → Subtype (world_of units) p.from p.to

module _ (units : List PlainUnit) (sound : WorldIsSound units) (before : List PlainType) (t : PlainType) (declared : IsDeclaredType units before t) where
  -- the type is there
  pub type_there : has_type (world_of units) t.name ≡ true
  type_there = found_any (is_named t.name) (world_of units) (declared_type t) declared.found

  -- its type is one of values
  pub own_type_known : IsKnown (world_of units) (class_type t.name)
  own_type_known = known_class declared.formed.name type_there

  -- its superclass is that of the context
  pub context_superclass : (is_static : Bool) (result : Option PlainTy) (assigned : Finals) (locals : List Local) → superclass_at (body_of units t.name is_static result assigned locals) ≡ superclass_of t
  context_superclass is_static result assigned locals = ap (option_and_then (λ (d : Declared). d.superclass)) declared.found

  -- the parameters are of types that are there
  params_sound : (n : ℕ) (ps : List Param) → Each (IsKnown (world_of units)) (param_types ps) → Each (λ (l : Local). IsKnown (world_of units) l.ty) (params_from n ps)
  params_sound n [] k = each_of_none
  params_sound n (p ∷ ps) (each_of_more x r) = each_of_more x (params_sound (suc n) ps r)

  -- the context of a body is sound
  pub body_sound : (is_static : Bool) (result : Option PlainTy) (assigned : Finals) (n : ℕ) (ps : List Param) → Each (IsKnown (world_of units)) (param_types ps)
      → ((r : PlainTy) → result ≡ Some r → IsKnownResult (world_of units) r) → IsSoundContext (body_of units t.name is_static result assigned (params_from n ps))
  body_sound is_static result assigned n ps k r = record { world = sound; class = type_there; locals = params_sound n ps k; result = r }

  -- `this` and the parameters are of types that are there
  pub first_known : (is_static : Bool) (ts : List PlainTy) → Each (IsKnown (world_of units)) ts → Each (IsKnown (world_of units)) (first_types t.name is_static ts)
  first_known true ts k = k
  first_known false ts k = each_of_more own_type_known k

  -- without `this` no local is it
  static_not_this : (frame : Frame) (i : ℕ) → frame.has_this ≡ false → ¬ IsThis frame i
  static_not_this frame i h k = let wrong : true ≡ false = sym k.0 ∙ h in cc

  -- only the first local is it
  later_not_this : (frame : Frame) (i : ℕ) → ¬ IsThis frame (suc i)
  later_not_this frame i k = let wrong = k.1 in cc

  -- a frame has the parameters by their numbers
  first_held : (frame : Frame) (is_static : Bool) → frame.class ≡ t.name → frame.has_this ≡ not is_static → (ps : List Param) → GoOn (first_types t.name is_static (param_types ps)) frame.locals
      → Each (IsHeld frame) (params_from (first_param is_static) ps)
  first_held frame true c h ps g =
      params_held frame 0 ps (held_from_first (λ i s. At frame.locals i s × ¬ IsThis frame i) (param_types ps) (λ i s a. (g i s a, static_not_this frame i h)))
  first_held frame false c h ps g =
      params_held frame 1 ps
      (held_one_on (λ i s. At frame.locals i s × ¬ IsThis frame i) 0 (param_types ps)
      (held_from_first (λ i s. At frame.locals (suc i) s × ¬ IsThis frame (suc i)) (param_types ps) (λ i s a. (g (suc i) s (at_next a), later_not_this frame i))))

  -- and `this` as its first local
  this_held : (frame : Frame) (is_static : Bool) → frame.has_this ≡ not is_static → (ts : List PlainTy) → GoOn (first_types t.name is_static ts) frame.locals → not is_static ≡ true
      → (frame.has_this ≡ true) × At frame.locals 0 (class_type t.name)
  this_held frame true h ts g n = cc
  this_held frame false h ts g n = (h, g 0 (class_type t.name) at_first)

  -- a frame of the body agrees with its context
  pub body_agrees : (frame : Frame) (is_static : Bool) (result : Option PlainTy) (assigned : Finals) (ps : List Param) → IsFrameOf units t is_static frame
      → GoOn (first_types t.name is_static (param_types ps)) frame.locals → Agrees frame (body_of units t.name is_static result assigned (params_from (first_param is_static) ps))
  body_agrees frame is_static result assigned ps f g =
      record {
        class = f.class;
        superclass = f.superclass ∙ sym (context_superclass is_static result assigned (params_from (first_param is_static) ps));
        this = this_held frame is_static f.this (param_types ps) g;
        locals = first_held frame is_static f.class f.this ps g;
        pairs = f.pairs;
      }

  -- an initialiser has no locals around it
  pub initialiser_agrees : (frame : Frame) (is_static : Bool) (result : Option PlainTy) (assigned : Finals) → IsFrameOf units t is_static frame → (not is_static ≡ true → At frame.locals 0 (class_type t.name))
      → Agrees frame (body_of units t.name is_static result assigned [])
  initialiser_agrees frame is_static result assigned f g =
      record {
        class = f.class;
        superclass = f.superclass ∙ sym (context_superclass is_static result assigned []);
        this = λ h. (f.this ∙ h, g h);
        locals = each_of_none;
        pairs = f.pairs;
      }

  -- `this` stands first in it
  pub this_first : (frame : Frame) (is_static : Bool) (ts : List PlainTy) → IsFrameOf units t is_static frame → HasThisFirst frame (first_types t.name is_static ts)
  this_first frame true ts f h = let wrong : true ≡ false = sym h ∙ f.this in absurd (cc)
  this_first frame false ts f h = subst (λ (n : Named). At (class_type t.name ∷ ts) 0 (class_type n)) (sym f.class) at_first
