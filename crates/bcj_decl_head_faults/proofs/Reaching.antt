-- What a search decides of a method.
use Rattle.std.proofs.Common.{◌≡◌, ◌↔◌, ℕ, List, [], map, Bool, true, false, nat_eq, sym, ◌∙◌, ap, subst, Some, slice_get, option_map, unwrap_or, length}
use Rattle.std.proofs.lemmas.Option.{slice_get-map}
use Rattle.std.specs.Option.{option_map_or}
use Rattle.std.proofs.lemmas.Bool.{eqb-true}
use Rattle.std.proofs.lemmas.Cmp.{nat_eq_equiv}
use Rattle.std.proofs.lemmas.Map.Views.{Contains-from_any, list_any-from_Contains}
use Rattle.std.specs.List.{Contains, list_any}
use Rattle.bcj_decl_rules.specs.World.{Method, Declared, World}
use Rattle.bcj_decl_table.specs.declared.info.MethodInfo.{MethodInfo}
use Rattle.bcj_decl_table.specs.declared.info.TypeInfo.{TypeInfo}
use Rattle.bcj_decl_table.specs.Views.{method_of_info, declared_of, world_in}
use Rattle.bcj_decl_graph.specs.Reached.{Reached, IsWithin, AreBelow}
use Rattle.bcj_decl_head_faults.specs.Lacks.{AnswersWhether, SomeOf, Lacks, LacksOf, closed_by, may_lack}
use Rattle.bcj_decl_head_faults.proofs.Some.{decided, some-map, some-unmap, holding, some_contained}
use Rattle.bcj_decl_head_faults.specs.Refusals.{LacksAbove}

-- whether a place is among those found decides whether it is reached
pub found_decides : (steps : List (List ℕ)) (closed : ℕ → Bool) (from found : List ℕ) → ((k : ℕ) → Contains found k ↔ Reached steps closed from k) → (k : ℕ) (b : Bool) → b ≡ list_any (nat_eq k) found
    → AnswersWhether b (Reached steps closed from k)
found_decides steps closed from found all k true e = (all k).0 (Contains-from_any eqb-true k found (sym e))
found_decides steps closed from found all k false e = λ r. let has : list_any (nat_eq k) found ≡ true = list_any-from_Contains nat_eq_equiv k found ((all k).1 r) in let no : false ≡ true = e ∙ has in cc

pub lacks_by : (w : World) (steps : List (List ℕ)) (t : Declared) (from : List ℕ) (k : ℕ) (m : Method) (b : Bool) → may_lack w t m ≡ true → AnswersWhether b (Reached steps (closed_by w m) from k)
    → AnswersWhether b (Lacks w steps t from k m)
lacks_by w steps t from k m true h d = record { lacking = h; passes = d }
lacks_by w steps t from k m false h d = λ l. d l.passes

-- the methods of the type at a place
pub methods_at : (types : List TypeInfo) (k : ℕ) (t : TypeInfo) → Some t ≡ slice_get types k → map method_of_info t.methods ≡ option_map_or (λ u. u.methods) (slice_get (world_in types) k) []
methods_at types k t e = ap (λ o. option_map_or (λ u. u.methods) (option_map declared_of o) []) e ∙ ap (λ o. option_map_or (λ u. u.methods) o []) (sym (slice_get-map declared_of types k))

pub lacks_of_type : (w : World) (steps : List (List ℕ)) (t : Declared) (from : List ℕ) (k : ℕ) (methods : List MethodInfo) (b : Bool) → map method_of_info methods ≡ option_map_or (λ u. u.methods) (slice_get w k) []
    → AnswersWhether b (SomeOf (λ m. Lacks w steps t from k (method_of_info m)) methods) → AnswersWhether b (LacksOf w steps t from k)
lacks_of_type w steps t from k methods b e =
    let P : Method → Type 0 = Lacks w steps t from k in
    let Q : List Method → Type 0 = λ ms. SomeOf P ms in
    decided b (λ h. subst Q e (some-map P method_of_info methods h)) (λ h. some-unmap P method_of_info methods (subst Q (sym e) h))

-- ---- the types above, as a search has found them

pub some_above : (w : World) (steps : List (List ℕ)) (t : Declared) (from found places : List ℕ) → ((k : ℕ) → Contains found k ↔ Reached steps (λ j. false) from k) → places ≡ found
    → SomeOf (LacksOf w steps t from) places → LacksAbove w steps t from
some_above w steps t from found places all e h =
    let P : List ℕ → Type 0 = λ l. SomeOf (LacksOf w steps t from) l in
    let it = holding (LacksOf w steps t from) found (subst P e h) in
    record { place = it.item; above = (all it.item).0 it.among; lacks = it.has_it }

pub above_some : (w : World) (steps : List (List ℕ)) (t : Declared) (from found places : List ℕ) → ((k : ℕ) → Contains found k ↔ Reached steps (λ j. false) from k) → places ≡ found
    → LacksAbove w steps t from → SomeOf (LacksOf w steps t from) places
above_some w steps t from found places all e l =
    let P : List ℕ → Type 0 = λ xs. SomeOf (LacksOf w steps t from) xs in
    subst P (sym e) (some_contained (LacksOf w steps t from) found l.place ((all l.place).1 l.above) l.lacks)

pub starts_within : (steps : List (List ℕ)) (k : ℕ) (from : List ℕ) → IsWithin steps → Some from ≡ slice_get steps k → AreBelow (length steps) from
starts_within steps k from within e =
    let P : List ℕ → Type 0 = λ l. AreBelow (length steps) l in
    subst P (ap (λ o. unwrap_or o []) (sym e)) (within k)
