-- Methods without a body that pass to a class.
use Rattle.std.specs.Prelude.{◌≡◌, ◌⊎◌, ℕ, Bool, true, false, not, ◌&&◌, List, [], ◌∷◌, slice_get, MatchBool}
use Rattle.std.specs.Option.{option_map_or}
use Rattle.bcj_decl_rules.specs.World.{Method, Declared, World}
use Rattle.bcj_decl_rules.specs.Members.{declares_method, is_constructor}
use Rattle.bcj_decl_rules.specs.Faults.{lacks_body}
use Rattle.bcj_decl_graph.specs.Reached.{Reached}

-- it holds, or it doesn't
abbrev pub AnswersWhether : Bool → Type 0 → Type 0
AnswersWhether b P = MatchBool b P (P → ⊥)

-- one of the items has it
abbrev pub SomeOf : {X : Type 0} → (X → Type 0) → List X → Type 0
SomeOf P [] = ⊥
SomeOf P (x ∷ xs) = P x ⊎ SomeOf P xs

-- the type at a place declares a method of the name and parameters of this one
abbrev pub closed_by : World → Method → ℕ → Bool
closed_by w m k = option_map_or (declares_method m) (slice_get w k) false

-- a method that would pass to a type, and which lacks a body there
abbrev pub may_lack : World → Declared → Method → Bool
may_lack w t m = not m.is_private && (not (is_constructor m) && lacks_body w t m)

-- which passes there from a place
pub record Lacks (w : World) (steps : List (List ℕ)) (t : Declared) (from : List ℕ) (k : ℕ) (m : Method) : Type 0 where
  pub lacking : may_lack w t m ≡ true
  pub passes : Reached steps (closed_by w m) from k

-- a method of the type at a place does
abbrev pub LacksOf : World → List (List ℕ) → Declared → List ℕ → ℕ → Type 0
LacksOf w steps t from k = SomeOf (Lacks w steps t from k) (option_map_or (λ u. u.methods) (slice_get w k) [])
