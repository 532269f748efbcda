-- A fault of a part is one of the whole, and what is found goes on.
use Rattle.std.proofs.Common.{◌≡◌, ◌∙◌, refl, ap, sym, subst, Result, Option, None, Some, ℕ, List, [], ◌++◌}
use Rattle.std.specs.Prelude.{IfSome}
use Rattle.bcj_parser_trees.specs.declared.names.Mods.{Mods}
use Rattle.bcj_parser_trees.specs.declared.names.TypeName.{TypeName}
use Rattle.bcj_decl_rules.specs.World.{Named, Field, field_with}
use Rattle.bcj_decl_rules.specs.Methods.{Choice, one, none_applies, ambiguous}
use Rattle.bcj_symbolic_trees.specs.Names.{constructor_name}
use Rattle.bcj_symbolic_trees.specs.Types.{PlainTy, given, class_type}
use Rattle.bcj_parser_trees.specs.Trees as source
use Rattle.bcj_typing_rules.specs.Premises.{earliest_missing}
use Rattle.bcj_typing_rules.specs.Context.{Context}
use Rattle.bcj_typing_rules.specs.Casting.{uses}
use Rattle.bcj_typing_rules.specs.Expressions.{Typing, choice_needs, types_in, steps_in, argument_steps}
use Rattle.bcj_typing_rules.specs.Statements.{Effects}
use Rattle.bcj_typing_rules.specs.function.Statements.{run_all}
use Rattle.bcj_typing_rules.specs.Members.{Added, call_added, constructor_call, nothing_added}
use Rattle.bcj_typing_rules.specs.function.Expressions.{Answers, Outcome, result, fault, and_then, settled}
use Rattle.bcj_typing_rules.specs.function.Members.{type_first, type_instance}
use Rattle.bcj_typing_node.specs.declared.miss.Miss.{Miss}
use Rattle.bcj_typing_node.specs.declared.miss.Miss.TheVariants as miss
use Rattle.bcj_typing_node.specs.Outcomes.{Tells}
use Rattle.bcj_typing_member.specs.declared.typed.Added as declared
use Rattle.bcj_typing_member.specs.declared.typed.Body.{Body}
use Rattle.bcj_typing_call.specs.Calls.{first_added}
use Rattle.bcj_typing_member.specs.Parts.{initialised_in, instance_in}
use Rattle.bcj_typing_member.specs.Typed.{added_of, effects_of}

-- why there is nothing
abbrev pub Misses : {A : Type 0} → Outcome A → Miss → Type 0
Misses o (miss.Untyped at k) = o ≡ fault at k
Misses o miss.NoMemory = Unit {0}

-- what the first part misses the whole misses
pub missed : {A B : Type 0} (o : Outcome A) (f : A → Outcome B) (m : Miss) → Misses o m → Misses (and_then o f) m
missed o f (miss.Untyped at k) h = ap (λ p. and_then p f) h
missed o f miss.NoMemory h = tt

-- an outcome that is another misses what that misses
pub same_missed : {A : Type 0} (o p : Outcome A) (m : Miss) → p ≡ o → Misses o m → Misses p m
same_missed o p (miss.Untyped at k) e h = e ∙ h
same_missed o p miss.NoMemory e h = tt

-- behind a part that is found
pub missed_behind : {A B : Type 0} (o : Outcome A) (f : A → Outcome B) (x : A) (m : Miss) → o ≡ result x → Misses (f x) m → Misses (and_then o f) m
missed_behind o f x m e h = same_missed (f x) (and_then o f) m (ap (λ p. and_then p f) e) h

pub found : {A B : Type 0} (o : Outcome A) (f : A → Outcome B) (x : A) → o ≡ result x → and_then o f ≡ f x
found o f x h = ap (λ p. and_then p f) h

pub go_on : {A B S : Type 0} (to : S → B) (o : Outcome A) (f : A → Outcome B) (x : A) (r : Result S Miss) → o ≡ result x → Tells to (f x) r → Tells to (and_then o f) r
go_on {A} {B} {S} to o f x r e h = let P : Outcome A → Type 0 = λ p. Tells to (and_then p f) r in subst P (sym e) h

-- a body in the same context
pub run_moved : (a b : Answers) (c d : Context) (s t : List PlainTy) (body : source.PlainStmts) (r : Result Body Miss) → a ≡ b → c ≡ d → s ≡ t → Tells effects_of (run_all a c s body) r
    → Tells effects_of (run_all b d t body) r
run_moved a b c d s t body r p q w h = let P : Outcome Effects → Type 0 = λ o. Tells effects_of o r in subst P (λ i. run_all (p i) (q i) (w i) body) h

-- an initialiser in the same context
pub initialised_moved : (a b : Answers) (c d : Context) (at : ℕ) (f : Field) (e : source.PlainExpr) (r : Result declared.Added Miss) → a ≡ b → c ≡ d → Tells added_of (initialised_in a c at f e) r
    → Tells added_of (initialised_in b d at f e) r
initialised_moved a b c d at f e r p q h = let P : Outcome Added → Type 0 = λ o. Tells added_of o r in subst P (λ i. initialised_in (p i) (q i) at f e) h

-- ---- first calls hang on the class alone

-- what a first call adds, by the name of the class
added_by : Named → Named → List Typing → Choice → Added
added_by own class ts (one m) =
    record { trees = constructor_call class ts m; steps = steps_in ts ++ (uses (given (class_type own)) (class_type class) ++ argument_steps ts m.params) }
added_by own class ts none_applies = nothing_added
added_by own class ts ambiguous = nothing_added

added_is : (c : Context) (class : Named) (ts : List Typing) (m : Choice) → call_added c class ts m ≡ added_by c.class class ts m
unfolding added_by
added_is c class ts (one m) = refl
added_is c class ts none_applies = refl
added_is c class ts ambiguous = refl

settled_by : Answers → Named → Named → ℕ → List Typing → Outcome Added
settled_by a own class at ts =
    let m : Choice = a.choose own class constructor_name (types_in ts) in
    settled at (earliest_missing (choice_needs (λ n. []) m)) (added_by own class ts m)

first_is : (a : Answers) (units : List source.PlainUnit) (c : Context) (at : ℕ) (ts : List Typing) (class : Named) → type_first a units c at ts (Some class) ≡ settled_by a c.class class at ts
unfolding settled_by
first_is a units c at ts class =
    let m : Choice = a.choose c.class class constructor_name (types_in ts) in ap (settled at (earliest_missing (choice_needs (λ n. []) m))) (added_is c class ts m)

pub first_alike : (a : Answers) (units : List source.PlainUnit) (c d : Context) → c.class ≡ d.class → (at : ℕ) (ts : List Typing) (o : Option Named) → type_first a units c at ts o ≡ type_first a units d at ts o
first_alike a units c d e at ts None = refl
first_alike a units c d e at ts (Some class) = first_is a units c at ts class ∙ (ap (λ n. settled_by a n class at ts) e ∙ sym (first_is a units d at ts class))

-- the named call of the rules is that of its choice
added_first : (c : Context) (class : Named) (ts : List Typing) (m : Choice) → call_added c class ts m ≡ first_added c.class class ts m
added_first c class ts (one m) = refl
added_first c class ts none_applies = refl
added_first c class ts ambiguous = refl

pub called : (a : Answers) (units : List source.PlainUnit) (c : Context) (at : ℕ) (ts : List Typing) (class own : Named) (m : Choice) → own ≡ c.class → m ≡ a.choose c.class class constructor_name (types_in ts)
    → type_first a units c at ts (Some class) ≡ settled at (earliest_missing (choice_needs (λ n. []) m)) (first_added own class ts m)
called a units c at ts class own m e h =
    ap (λ k. settled at (earliest_missing (choice_needs (λ n. []) k)) (call_added c class ts k)) (sym h)
    ∙ (ap (settled at (earliest_missing (choice_needs (λ n. []) m))) (added_first c class ts m) ∙ ap (λ n. settled at (earliest_missing (choice_needs (λ k. []) m)) (first_added n class ts m)) (sym e))

-- ---- what runs where an object is made

pub if_all : {A : Type 0} (P : A → Type 0) (o : Option A) → ((x : A) → P x) → IfSome o P
if_all P None h = tt
if_all P (Some x) h = h x

pub instance_is : (a : Answers) (units : List source.PlainUnit) (t : source.PlainType) (at : ℕ) (mods : Mods) (ty : TypeName) (name : Named) (init : source.PlainOption)
    → type_instance a units t (source.field_member at mods ty name init) ≡ instance_in a units at (field_with t.interface t.name mods ty name) init
instance_is a units t at mods ty name source.absent = refl
instance_is a units t at mods ty name (source.present e) = refl
