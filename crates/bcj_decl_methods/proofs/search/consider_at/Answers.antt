use Rattle.std.proofs.Common.{◌≡◌, [], ◌∷◌, List, Option, None, Some, Bool, true, false, cond, ◌||◌, sym, ◌∙◌, ap, subst}
use Rattle.std.specs.Option.{option_copied, option_map, option_to_list}
use Rattle.bcj_symbolic_trees.specs.Types.{PlainArg}
use Rattle.bcj_decl_rules.specs.World.{Named, Method, World}
use Rattle.bcj_decl_table.specs.Views.{method_of_info}
use Rattle.bcj_decl_methods.specs.Candidates.{is_open}
use Rattle.bcj_decl_methods.specs.Search.{shown}
use Rattle.bcj_decl_methods.specs.Passes.{Best, Passed, over}
use Rattle.bcj_decl_methods.proofs.search.consider_at.Goals as goal

none_shown : (w : World) (from : Named) (args : List PlainArg) (b : Best) (all : Bool) (o : Option Method) → o ≡ None → Passed w from args b (shown all (option_to_list o)) b
none_shown w from args b true o e = let P : Option Method → Type 0 = λ p. Passed w from args b (option_to_list p) b in subst P (sym e) over
none_shown w from args b false o e = let P : Option Method → Type 0 = λ p. Passed w from args b (shown false (option_to_list p)) b in subst P (sym e) over

pub returns-in-None : goal.returns-in-None
returns-in-None c = none_shown _ _ _ _ c.args.all _ (sym c.method.ensures ∙ ap (λ o. option_map method_of_info (option_copied o)) c.in-None.is)

hidden_shown : (w : World) (from : Named) (args : List PlainArg) (b : Best) (all : Bool) (o : Option Method) (m : Method) → o ≡ Some m → (all || is_open m) ≡ false
    → Passed w from args b (shown all (option_to_list o)) b
hidden_shown w from args b true o m e h = cc
hidden_shown w from args b false o m e h =
    let P : Option Method → Type 0 = λ p. Passed w from args b (shown false (option_to_list p)) b in
    let Q : Bool → Type 0 = λ t. Passed w from args b (cond t (m ∷ []) []) b in
    subst P (sym e) (subst Q (sym h) over)

offered_shown : (w : World) (from : Named) (args : List PlainArg) (b c : Best) (all : Bool) (o : Option Method) (m : Method) → o ≡ Some m → (all || is_open m) ≡ true → Passed w from args b (m ∷ []) c
    → Passed w from args b (shown all (option_to_list o)) c
offered_shown w from args b c true o m e h it = let P : Option Method → Type 0 = λ p. Passed w from args b (option_to_list p) c in subst P (sym e) it
offered_shown w from args b c false o m e h it =
    let P : Option Method → Type 0 = λ p. Passed w from args b (shown false (option_to_list p)) c in
    let Q : Bool → Type 0 = λ t. Passed w from args b (cond t (m ∷ []) []) c in
    subst P (sym e) (subst Q (sym h) it)

pub returns-then-is_offered : goal.returns-then-is_offered
returns-then-is_offered c =
    offered_shown _ _ _ _ _ c.args.all _ (method_of_info c.in-Some.info.now) (sym c.method.ensures ∙ ap (λ o. option_map method_of_info (option_copied o)) c.in-Some.is)
    (sym c.is_offered.ensures ∙ c.if-is_offered.true)
    c.consider.ensures

pub returns-else-is_offered : goal.returns-else-is_offered
returns-else-is_offered c =
    hidden_shown _ _ _ _ c.args.all _ (method_of_info c.in-Some.info.now) (sym c.method.ensures ∙ ap (λ o. option_map method_of_info (option_copied o)) c.in-Some.is)
    (sym c.is_offered.ensures ∙ c.if-is_offered.false)
