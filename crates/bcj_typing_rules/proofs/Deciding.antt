-- The answers decide what the rules ask of types.
use Rattle.std.proofs.Common.{◌≡◌, Bool, true, false, ◌&&◌, ◌||◌, Option, Some, None, refl, sym, ◌∙◌, ap, subst, inl, inr, Decides, if◌then◌else◌}
use Rattle.std.specs.Option.{option_map_or}
use Rattle.std.proofs.lemmas.Bool.{or_cases, and_parts}
use Rattle.bcj_parser_trees.specs.Trees as source
use Rattle.bcj_symbolic_trees.specs.Types.{PlainTy, class_type, array_type, PlainArg, given, null_arg}
use Rattle.bcj_symbolic_trees.proofs.SameLemmas.{same_type-Decides}
use Rattle.bcj_decl_rules.specs.declared.value.Value.{Value}
use Rattle.bcj_decl_rules.specs.World.{Named, Field, Declared, World, type_named}
use Rattle.bcj_decl_rules.specs.Subtypes.{is_reference, Subtype, Fits}
use Rattle.bcj_decl_rules.specs.Subtypes as subtype
use Rattle.bcj_decl_rules.specs.function.Constants.{value_in}
use Rattle.bcj_typing_rules.specs.Context.{Context, world_at, is_interface, names_no_local, Worth, a_constant, no_constant, FieldWorth, constant_variable, no_constant_variable}
use Rattle.bcj_typing_rules.specs.Expressions.{FoundWorth, of_none, of_field}
use Rattle.bcj_typing_rules.specs.Operators.{is_value}
use Rattle.bcj_typing_rules.specs.Casting.{Castable, up, down, to_interface, from_interface, of_components, GoTogether, two_types, null_first, null_second, of_same, of_supertype, of_other, no_cast, CastAs, to_same, to_supertype, to_other, to_none, Steps, fits, both_null, to_second, to_first, apart, Joins, joins_second, joins_first, void_parts, joins_none}
use Rattle.bcj_typing_rules.specs.function.Expressions as function
use Rattle.bcj_typing_rules.specs.function.Expressions.{Answers, AreRight}

-- the other side of a decision
denied : {b : Bool} {P : Type 0} → Decides b P → b ≡ false → P → ⊥
denied d h p = let t : true ≡ false = sym (d.1 p) ∙ h in cc

or_right : (x y : Bool) → y ≡ true → (x || y) ≡ true
or_right true y h = refl
or_right false y h = h

join_pick : (w : World) (s t : PlainArg) (b v d : Bool) → is_value s ≡ v → Decides b (Steps w s t) → Decides d (Steps w t s)
    → Joins w s t (if b then (if v then to_second else apart) else (if d then to_first else apart))
join_pick w s t true true d h x y = joins_second h (x.0 refl)
join_pick w s t true false d h x y = void_parts (λ k. let e : true ≡ false = sym k ∙ h in cc) (x.0 refl)
join_pick w s t false v true h x y = joins_first (denied x refl) (y.0 refl)
join_pick w s t false v false h x y = joins_none (denied x refl) (denied y refl)

cast_pick : (w : World) (s : PlainArg) (t : PlainTy) (b f g : Bool) → Decides b (s ≡ given t) → Decides f (Fits w s t) → Decides g (GoTogether w s (given t))
    → CastAs w s t (if b then of_same else (if f then of_supertype else (if g then of_other else no_cast)))
cast_pick w s t true f g x y z = subst (λ u. CastAs w u t of_same) (sym (x.0 refl)) to_same
cast_pick w s t false true g x y z = to_supertype (denied x refl) (y.0 refl)
cast_pick w s t false false true x y z = to_other (denied y refl) (z.0 refl)
cast_pick w s t false false false x y z = to_none (denied y refl) (denied z refl)

found_interface : (o : Option Declared) → option_map_or (λ t. t.interface) o false ≡ true → (d : Declared) × (o ≡ Some d) × (d.interface ≡ true)
found_interface None h = cc
found_interface (Some d) h = (d, refl, h)

module _ (c : Context) (a : Answers) (right : AreRight c.units a) where
  pub fits_decides : (s : PlainArg) (t : PlainTy) → Decides (function.fits a s t) (Fits (world_at c) s t)
  fits_decides (given s) t = (λ h. subtype.typed ((right.subtype s t).0 h), λ f. elim f [ subtype.typed p ↦ (right.subtype s t).1 p ])
  fits_decides null_arg t = (λ h. subtype.null h, λ f. elim f [ subtype.null h ↦ h ])

  steps_find : (s t : PlainArg) → Steps (world_at c) s t → function.steps a s t ≡ true
  steps_find s (given t) (fits p) = (fits_decides s t).1 p
  steps_find null_arg null_arg both_null = refl
  steps_find (given s) null_arg h = elim h [ ]

  pub steps_decide : (s t : PlainArg) → Decides (function.steps a s t) (Steps (world_at c) s t)
  steps_decide s (given t) = (λ h. fits ((fits_decides s t).0 h), steps_find s (given t))
  steps_decide null_arg null_arg = (λ h. both_null, λ f. refl)
  steps_decide (given s) null_arg = (λ h. cc, steps_find (given s) null_arg)

  pub joins_right : (s t : PlainArg) → Joins (world_at c) s t (function.join_of a s t)
  joins_right s t = join_pick (world_at c) s t (function.steps a s t) (is_value s) (function.steps a t s) refl (steps_decide s t) (steps_decide t s)

  interface_of : (t : Named) → is_interface c t ≡ true → (d : Declared) × (type_named (world_at c) t ≡ Some d) × (d.interface ≡ true)
  interface_of t h = found_interface (type_named (world_at c) t) h

  is_an_interface : (t : Named) (d : Declared) → type_named (world_at c) t ≡ Some d → d.interface ≡ true → is_interface c t ≡ true
  is_an_interface t d e h = ap (λ o. option_map_or (λ u. u.interface) o false) e ∙ h

  either_tells : (s t : PlainTy) → function.either_way a s t ≡ true → Castable (world_at c) s t
  either_tells s t h =
      elim (or_cases (is_reference s && a.subtype s t) (is_reference t && a.subtype t s) h) [
        | inl k ↦
            let p : (is_reference s ≡ true) × (a.subtype s t ≡ true) = and_parts (is_reference s) (a.subtype s t) k in
            up p.0 ((right.subtype s t).0 p.1)
        | inr k ↦
            let p : (is_reference t ≡ true) × (a.subtype t s ≡ true) = and_parts (is_reference t) (a.subtype t s) k in
            down p.0 ((right.subtype t s).0 p.1)
      ]

  castable_tells : (s t : PlainTy) → function.castable a c s t ≡ true → Castable (world_at c) s t
  castable_tells (class_type s) (class_type t) h =
      elim (or_cases (function.either_way a (class_type s) (class_type t)) (is_interface c t || is_interface c s) h) [
        | inl k ↦ either_tells (class_type s) (class_type t) k
        | inr k ↦
            elim (or_cases (is_interface c t) (is_interface c s) k) [
              | inl i ↦ let d : (d : Declared) × (type_named (world_at c) t ≡ Some d) × (d.interface ≡ true) = interface_of t i in to_interface d.0 d.1 d.2
              | inr i ↦ let d : (d : Declared) × (type_named (world_at c) s ≡ Some d) × (d.interface ≡ true) = interface_of s i in from_interface d.0 d.1 d.2
            ]
      ]
  castable_tells (array_type s) (array_type t) h =
      elim (or_cases (function.either_way a (array_type s) (array_type t)) (function.castable a c s t) h) [
        | inl k ↦ either_tells (array_type s) (array_type t) k
        | inr k ↦ of_components (castable_tells s t k)
      ]
  castable_tells s t h = either_tells s t h

  either_castable : (s t : PlainTy) → function.either_way a s t ≡ true → function.castable a c s t ≡ true
  either_castable (class_type s) (class_type t) h = ap (λ b. b || (is_interface c t || is_interface c s)) h
  either_castable (array_type s) (array_type t) h = ap (λ b. b || function.castable a c s t) h
  either_castable s t h = h

  castable_finds : (s t : PlainTy) → Castable (world_at c) s t → function.castable a c s t ≡ true
  castable_finds s t (up r p) =
      either_castable s t (ap (λ b. (b && a.subtype s t) || (is_reference t && a.subtype t s)) r ∙ ap (λ b. b || (is_reference t && a.subtype t s)) ((right.subtype s t).1 p))
  castable_finds s t (down r p) =
      either_castable s t (or_right (is_reference s && a.subtype s t) (is_reference t && a.subtype t s) (ap (λ b. b && a.subtype t s) r ∙ (right.subtype t s).1 p))
  castable_finds (class_type s) (class_type t) (to_interface d e i) =
      or_right (function.either_way a (class_type s) (class_type t)) (is_interface c t || is_interface c s) (ap (λ b. b || is_interface c s) (is_an_interface t d e i))
  castable_finds (class_type s) (class_type t) (from_interface d e i) =
      or_right (function.either_way a (class_type s) (class_type t)) (is_interface c t || is_interface c s) (or_right (is_interface c t) (is_interface c s) (is_an_interface s d e i))
  castable_finds (array_type s) (array_type t) (of_components p) =
      or_right (function.either_way a (array_type s) (array_type t)) (function.castable a c s t) (castable_finds s t p)

  together_finds : (s t : PlainArg) → GoTogether (world_at c) s t → function.go_together a c s t ≡ true
  together_finds (given s) (given t) (two_types p) = castable_finds s t p
  together_finds null_arg t (null_first h) = h
  together_finds null_arg null_arg (null_second h) = refl
  together_finds (given s) null_arg (null_second h) = h

  pub together_decides : (s t : PlainArg) → Decides (function.go_together a c s t) (GoTogether (world_at c) s t)
  together_decides (given s) (given t) = (λ h. two_types (castable_tells s t h), together_finds (given s) (given t))
  together_decides null_arg t = (λ h. null_first h, together_finds null_arg t)
  together_decides (given s) null_arg = (λ h. null_second h, together_finds (given s) null_arg)

  pub same_decides : (s : PlainArg) (t : PlainTy) → Decides (function.is_same a c s t) (s ≡ given t)
  same_decides (given s) t = (λ h. ap given ((same_type-Decides s t).0 h), λ e. let same : s ≡ t = cc in (same_type-Decides s t).1 same)
  same_decides null_arg t = (λ h. cc, λ e. cc)

  pub cast_right : (s : PlainArg) (t : PlainTy) → CastAs (world_at c) s t (function.cast_form a c s t)
  cast_right s t =
      cast_pick (world_at c) s t (function.is_same a c s t) (function.fits a s t) (function.go_together a c s (given t)) (same_decides s t) (fits_decides s t)
      (together_decides s (given t))

  worth_pick : (e : source.PlainExpr) (b : Bool) (o : Option Value) → names_no_local c e ≡ b → value_in (world_at c) a.constant c.class e ≡ o → Worth c e (if b then o else None)
  worth_pick e true (Some v) n h = a_constant (record { constant = (right.value c.class e v).0 h; of_fields = n })
  worth_pick e true None n h = no_constant (λ v k. let both : None ≡ Some v = sym h ∙ (right.value c.class e v).1 k.constant in cc)
  worth_pick e false o n h = no_constant (λ v k. let both : true ≡ false = sym k.of_fields ∙ n in cc)

  pub worth_here : (e : source.PlainExpr) → Worth c e (function.value_here a c e)
  worth_here e = worth_pick e (names_no_local c e) (value_in (world_at c) a.constant c.class e) refl refl

  pub field_pick : (f : Field) (o : Option Value) → a.constant f ≡ o → FieldWorth c f o
  field_pick f (Some v) h = constant_variable ((right.constant f v).0 h)
  field_pick f None h = no_constant_variable (λ v k. let both : None ≡ Some v = sym h ∙ (right.constant f v).1 k in cc)

  pub found_worth : (f : Option Field) → FoundWorth c f (function.found_value a c f)
  found_worth None = of_none
  found_worth (Some f) = of_field (field_pick f (a.constant f) refl)
