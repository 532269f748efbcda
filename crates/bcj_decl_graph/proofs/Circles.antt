-- A type stands above itself just where the steps from it lead back to it.
use Rattle.std.proofs.Common.{◌≡◌, ℕ, false, List, slice_get, Some, refl, sym, subst, ◌∙◌}
use Rattle.std.specs.List.{Contains}
use Rattle.bcj_decl_rules.specs.World.{Named, Declared, World, type_named}
use Rattle.bcj_decl_rules.specs.Subtypes.{Sub, same, through, StepsTo, ProperSub, direct_supertypes}
use Rattle.bcj_decl_listing.specs.Places.{place_of, steps_from, steps_of_world}
use Rattle.bcj_decl_graph.specs.Reached.{steps_of, Reached, start, onward}
use Rattle.bcj_decl_graph.specs.Laws as law
use Rattle.bcj_decl_graph.proofs.Within.{GivenBy, given_item}
use Rattle.bcj_decl_graph.proofs.Stepping.{type_of_place, Placed, placed, same_name, StepFrom, step_from, steps_at, steps_to}

-- one step behind a chain
behind : (w : World) (a b c : Named) → Sub w a b → StepsTo w b c → Sub w a c
behind w a b c same step = through step same
behind w a b c (through first rest) step = through first (behind w _ b c rest step)

-- the name of a place, with a chain to it
record Chained (w : World) (s : Named) (k : ℕ) : Type 0 where
  name : Named
  at : place_of w name ≡ Some k
  chain : ProperSub w s name

reached_chain : (w : World) (s : Named) (t : Declared) → type_named w s ≡ Some t → (k : ℕ) → Reached (steps_of_world w) (λ _. false) (steps_from w t) k → Chained w s k
reached_chain w s t it k (start h) =
    let g : GivenBy (place_of w) (direct_supertypes t) k = given_item (place_of w) (direct_supertypes t) k h in
    record { name = g.item; at = g.gives; chain = record { between = g.item; first = record { type = t; is_it = it; names_it = g.among }; rest = same } }
reached_chain w s t it k (onward {j = j} before free step) =
    let c : Chained w s j = reached_chain w s t it j before in
    let f : StepFrom w j k = step_from w j k step in
    let g : GivenBy (place_of w) (direct_supertypes f.type) k = given_item (place_of w) (direct_supertypes f.type) k f.leads in
    let last : StepsTo w c.name g.item = record { type = f.type; is_it = type_of_place w c.name j c.at ∙ f.stands; names_it = g.among } in
    record { name = g.item; at = g.gives; chain = record { between = c.chain.between; first = c.chain.first; rest = behind w c.chain.between c.name g.item c.chain.rest last } }

-- a name from which a chain leads to a type is that of a type
chain_placed : (w : World) (u s : Named) (t : Declared) → type_named w s ≡ Some t → Sub w u s → Placed w u
chain_placed w u s t it same = placed w s t it
chain_placed w u s t it (through first rest) = placed w u first.type first.is_it

-- what is reached is so along a chain
chain_reached : (w : World) (from : List ℕ) (u s : Named) (t : Declared) → type_named w s ≡ Some t → (j k : ℕ) → place_of w u ≡ Some j → place_of w s ≡ Some k
    → Reached (steps_of_world w) (λ _. false) from j → Sub w u s → Reached (steps_of_world w) (λ _. false) from k
chain_reached w from u s t it j k at_u at_s before same =
    let both : Some j ≡ Some k = sym at_u ∙ at_s in
    let it_is : j ≡ k = cc in
    let P : ℕ → Type 0 = λ n. Reached (steps_of_world w) (λ _. false) from n in
    subst P it_is before
chain_reached w from u s t it j k at_u at_s before (through {u = v} first rest) =
    let next : Placed w v = chain_placed w v s t it rest in
    let stands : slice_get w j ≡ Some first.type = sym (type_of_place w u j at_u) ∙ first.is_it in
    let step : Contains (steps_of (steps_of_world w) j) next.place = steps_at w j next.place first.type stands (steps_to w first.type v next.place first.names_it next.at) in
    chain_reached w from v s t it next.place k next.at at_s (onward before refl step) rest

pub each_circle_is_reached : law.EachCircleIsReached
each_circle_is_reached w s t it = (
  λ p.
      let it_is : Some p.first.type ≡ Some t = sym p.first.is_it ∙ it in
      let type_is : p.first.type ≡ t = cc in
      let P : Declared → Type 0 = λ x. Contains (direct_supertypes x) p.between in
      let next : Placed w p.between = chain_placed w p.between s t it p.rest in
      let own : Placed w s = placed w s t it in
      let first : Contains (steps_from w t) next.place = steps_to w t p.between next.place (subst P type_is p.first.names_it) next.at in
      (own.place, own.at, chain_reached w (steps_from w t) p.between s t it next.place own.place next.at own.at (start first) p.rest),
  λ r.
      let c : Chained w s r.0 = reached_chain w s t it r.0 r.2 in
      let it_is : s ≡ c.name = same_name w s c.name r.0 t it r.1 c.at in
      let P : Named → Type 0 = λ n. ProperSub w s n in
      subst P (sym it_is) c.chain,
)
