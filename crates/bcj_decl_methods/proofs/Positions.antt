-- The methods at the positions of a name.
use Rattle.std.proofs.Common.{◌≡◌, ◌+◌, ◌++◌, List, [], ◌∷◌, filter, Option, Some, None, Bool, true, false, cond, refl, sym, ◌∙◌, ap, ℕ, suc, arith, inl, inr, slice_get}
use Rattle.std.proofs.lemmas.Bool.{cases_Bool}
use Rattle.std.specs.List.{flat_map}
use Rattle.std.specs.Option.{option_and_then, option_map_or, option_to_list}
use Rattle.std.specs.Str.{bytes_eq}
use Rattle.bcj_decl_rules.specs.World.{Named, Method, Declared, World}
use Rattle.bcj_decl_rules.specs.Methods.{methods_named}
use Rattle.bcj_decl_listing.specs.Places.{positions_from, method_positions}
use Rattle.bcj_decl_methods.specs.Candidates.{is_open}
use Rattle.bcj_decl_methods.specs.Search.{method_at, shown, offered}

shown_first : (all : Bool) (m : Method) (ms : List Method) → shown all (m ∷ []) ++ shown all ms ≡ shown all (m ∷ ms)
shown_first true m ms = refl
shown_first false m ms = elim (is_open m) as (λ b. cond b (m ∷ []) [] ++ filter is_open ms ≡ cond b (m ∷ filter is_open ms) (filter is_open ms)) [ true ↦ refl | false ↦ refl ]

shown_none : (all : Bool) → shown all [] ≡ []
shown_none true = refl
shown_none false = refl

-- the methods of a list stand in the whole from a position on
at_positions : (all : Bool) (name : Named) (whole ms : List Method) (i : ℕ) → ((j : ℕ) → slice_get whole (i + j) ≡ slice_get ms j)
    → flat_map (λ at. shown all (option_to_list (slice_get whole at))) (positions_from i name ms) ≡ shown all (methods_named name ms)
at_positions all name whole [] i stand = sym (shown_none all)
at_positions all name whole (m ∷ ms) i stand =
    let next : (j : ℕ) → slice_get whole ((i + 1) + j) ≡ slice_get ms j = λ j. (let same : (i + 1) + j ≡ i + suc j = omega arith in ap (slice_get whole) same ∙ stand (suc j)) in
    let rest : flat_map (λ at. shown all (option_to_list (slice_get whole at))) (positions_from (i + 1) name ms) ≡ shown all (methods_named name ms) = at_positions all name whole ms (i + 1) next in
    let start : i ≡ i + 0 = omega arith in
    let first : slice_get whole i ≡ Some m = ap (slice_get whole) start ∙ stand 0 in
    elim (cases_Bool (bytes_eq m.name name)) [
      | inl it ↦
          ap (λ b. flat_map (λ at. shown all (option_to_list (slice_get whole at))) (cond b (i ∷ positions_from (i + 1) name ms) (positions_from (i + 1) name ms))) it
          ∙ ((λ k. shown all (option_to_list (first k)) ++ rest k) ∙ (shown_first all m (methods_named name ms) ∙ ap (λ b. shown all (cond b (m ∷ methods_named name ms) (methods_named name ms))) (sym it)))
      | inr other ↦
          ap (λ b. flat_map (λ at. shown all (option_to_list (slice_get whole at))) (cond b (i ∷ positions_from (i + 1) name ms) (positions_from (i + 1) name ms))) other
          ∙ (rest ∙ ap (λ b. shown all (cond b (m ∷ methods_named name ms) (methods_named name ms))) (sym other))
    ]

from_zero : (ms : List Method) (j : ℕ) → slice_get ms (0 + j) ≡ slice_get ms j
from_zero ms j = let same : 0 + j ≡ j = omega arith in ap (slice_get ms) same

positions_by : (all : Bool) (name : Named) (o : Option Declared)
    → flat_map (λ at. shown all (option_to_list (option_and_then (λ t. slice_get t.methods at) o))) (option_map_or (λ t. positions_from 0 name t.methods) o [])
    ≡ shown all (option_map_or (λ t. methods_named name t.methods) o [])
positions_by all name None = sym (shown_none all)
positions_by all name (Some t) = at_positions all name t.methods t.methods 0 (from_zero t.methods)

pub positions_offered : (all : Bool) (w : World) (name : Named) (k : ℕ)
    → flat_map (λ at. shown all (option_to_list (method_at w (record { class = k; at = at })))) (method_positions w k name) ≡ offered all w name k
positions_offered all w name k = positions_by all name (slice_get w k)
