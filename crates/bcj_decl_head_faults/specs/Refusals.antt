-- What is refused of a head.
use Rattle.std.specs.Prelude.{◌≡◌, ◌≤◌, ℕ, false, List, ◌∷◌, ◌++◌, map, length, Option, None, Some}
use Rattle.bcj_parser_trees.specs.Trees.{PlainType}
use Rattle.bcj_decl_rules.specs.World.{Declared, World, boot_types, declared_type}
use Rattle.bcj_decl_rules.specs.Faults.{Refusal, duplicate, unknown, bad_hierarchy, bad_member, rank}
use Rattle.bcj_decl_graph.specs.Reached.{Reached}
use Rattle.bcj_decl_head_faults.specs.declared.head.HeadRefusal.{HeadRefusal}
use Rattle.bcj_decl_head_faults.specs.declared.head.HeadRefusal.TheVariants.{Duplicate, Unknown, BadHierarchy, BadMember}
use Rattle.bcj_decl_head_faults.specs.Lacks.{LacksOf}

abbrev pub refusal_of : HeadRefusal → Refusal
refusal_of (Duplicate name) = duplicate name
refusal_of (Unknown name) = unknown name
refusal_of BadHierarchy = bad_hierarchy
refusal_of BadMember = bad_member

-- the type stands at the place in the world, behind the boot types and these source types
pub record StandsBehind (w : World) (place : ℕ) (before : List PlainType) (t : PlainType) : Type 0 where
  pub behind : List PlainType
  pub is_world : w ≡ boot_types ++ map declared_type (before ++ t ∷ behind)
  pub is_place : length (boot_types ++ map declared_type before) ≡ place

-- nothing is refused, or a refusal of least rank
abbrev pub IsFirstRefusal : (Refusal → Type 0) → Option Refusal → Type 0
IsFirstRefusal IsFault None = (s : Refusal) → IsFault s → ⊥
IsFirstRefusal IsFault (Some r) = IsFault r × ((s : Refusal) → IsFault s → rank r ≤ rank s)

-- a type that steps lead to from these declares a method that the type lacks
pub record LacksAbove (w : World) (steps : List (List ℕ)) (t : Declared) (from : List ℕ) : Type 0 where
  pub place : ℕ
  pub above : Reached steps (λ k. false) from place
  pub lacks : LacksOf w steps t from place

-- what a search above a type refuses: that it leads back to its place, or that a class that isn't abstract lacks a method
abbrev pub IsRefusedAbove : World → List (List ℕ) → Declared → List ℕ → ℕ → Option Refusal → Type 0
IsRefusedAbove w steps t from place None =
    (Reached steps (λ k. false) from place → ⊥) × (t.interface ≡ false → t.is_abstract ≡ false → LacksAbove w steps t from → ⊥)
IsRefusedAbove w steps t from place (Some bad_hierarchy) = Reached steps (λ k. false) from place
IsRefusedAbove w steps t from place (Some bad_member) =
    (Reached steps (λ k. false) from place → ⊥) × (t.interface ≡ false) × (t.is_abstract ≡ false) × LacksAbove w steps t from
IsRefusedAbove w steps t from place (Some (duplicate name)) = ⊥
IsRefusedAbove w steps t from place (Some (unknown name)) = ⊥
