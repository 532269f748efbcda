-- Outcomes behind one another.
use Rattle.std.proofs.Common.{◌≡◌, refl, ap, sym, ◌∙◌, ℕ, Option, None, Some, Result, Ok, Err}
use Rattle.bcj_typing_rules.specs.declared.kind.Kind.{Kind}
use Rattle.bcj_typing_rules.specs.function.Expressions.{Outcome, result, fault, and_then, settled}
use Rattle.bcj_typing_node.specs.declared.miss.Miss.{Miss}
use Rattle.bcj_typing_node.specs.declared.miss.Miss.TheVariants.{Untyped, NoMemory}
use Rattle.bcj_typing_node.specs.Outcomes.{Tells}

-- why there is nothing
abbrev pub Misses : {A : Type 0} → Outcome A → Miss → Type 0
Misses o (Untyped at k) = o ≡ fault at k
Misses o NoMemory = Unit {0}

-- the first part decides
pub found : {A B : Type 0} (o : Outcome A) (f : A → Outcome B) (x : A) → o ≡ result x → and_then o f ≡ f x
found o f x h = ap (λ p. and_then p f) h

-- what the first part misses the whole misses
pub missed : {A B : Type 0} (o : Outcome A) (f : A → Outcome B) (e : Miss) → Misses o e → Misses (and_then o f) e
missed o f (Untyped at k) h = ap (λ p. and_then p f) h
missed o f NoMemory h = tt

-- an outcome that is another misses what that misses
pub same_missed : {A : Type 0} (o p : Outcome A) (e : Miss) → p ≡ o → Misses o e → Misses p e
same_missed o p (Untyped at k) h m = h ∙ m
same_missed o p NoMemory h m = tt

-- a part that is seen by what it says misses what its view misses
pub unseen : {A B : Type 0} (o : Outcome A) (g : A → B) (e : Miss) → Misses (and_then o (λ x. result (g x))) e → Misses o e
unseen (result x) g (Untyped at k) h = absurd (cc)
unseen (fault at k) g (Untyped at' k') h = cc
unseen o g NoMemory h = tt

-- behind a part that is seen by what it says
pub carried : {A B C : Type 0} (o : Outcome A) (g : A → B) (f : B → Outcome C) (x : B) → and_then o (λ y. result (g y)) ≡ result x → and_then o (λ y. f (g y)) ≡ f x
carried (result y) g f x h = ap (λ p. and_then p f) h
carried (fault at k) g f x h = absurd (cc)

-- an outcome that is only passed on
pub unchanged : {A : Type 0} (o : Outcome A) → and_then o (λ x. result x) ≡ o
unchanged (result x) = refl
unchanged (fault at k) = refl

-- what is settled and then read otherwise
pub told : {R A B : Type 0} (of : R → A) (view : A → B) (o : Outcome B) (at : ℕ) (m : Option Kind) (x : A) (r : Result R Miss)
    → o ≡ settled at m (view x) → Tells of (settled at m x) r → Tells (λ y. view (of y)) o r
told of view o at None x (Ok y) h t = h ∙ ap (λ p. and_then p (λ z. result (view z))) t
told of view o at (Some k) x (Ok y) h t = absurd (cc)
told of view o at None x (Err (Untyped a j)) h t = absurd (cc)
told of view o at (Some k) x (Err (Untyped a j)) h t = h ∙ ap (λ p. and_then p (λ z. result (view z))) t
told of view o at m x (Err NoMemory) h t = tt

-- what is settled, seen by a view
viewed : {A B : Type 0} (view : A → B) (at : ℕ) (m : Option Kind) (x : A) → and_then (settled at m x) (λ z. result (view z)) ≡ settled at m (view x)
viewed view at None x = refl
viewed view at (Some k) x = refl

-- what is settled well is so under a view
pub settled_viewed : {A B : Type 0} (view : A → B) (at : ℕ) (m : Option Kind) (x y : A) → settled at m x ≡ result y → settled at m (view x) ≡ result (view y)
settled_viewed view at m x y h = sym (viewed view at m x) ∙ ap (λ p. and_then p (λ z. result (view z))) h

-- what is settled badly is so under a view
pub settled_missed : {A B : Type 0} (view : A → B) (at : ℕ) (m : Option Kind) (x : A) (e : Miss) → Misses (settled at m x) e → Misses (settled at m (view x)) e
settled_missed view at m x e h =
    same_missed (and_then (settled at m x) (λ z. result (view z))) (settled at m (view x)) e (sym (viewed view at m x)) (missed (settled at m x) (λ z. result (view z)) e h)
