use Rattle.std.proofs.Common.{◌≡◌, ◌⊎◌, inl, inr, List, [], ◌∷◌, ◌++◌, refl, sym, ap, ◌∙◌, append-nil}
use Rattle.std.proofs.lemmas.Slice.Zip.{either_empty_from_Zip}
use Rattle.bcj_symbolic_trees.specs.declared.type_tree.Ty.{Ty}
use Rattle.bcj_symbolic_trees.specs.Types.{types_of}
use Rattle.bcj_typing_rules.specs.Expressions as rules
use Rattle.bcj_typing_node.specs.declared.typing.Typing.{Typing}
use Rattle.bcj_typing_node.specs.Typings.{pairs_of, typings_of}
use Rattle.bcj_typing_call.proofs.argument.argument_steps.Goals as goal

-- where arguments or parameters are used up, no step is left
used_up : (ts : List Typing) (ps : List Ty) → (ts ≡ []) ⊎ (ps ≡ []) → rules.argument_steps (typings_of ts) (types_of ps) ≡ []
used_up [] ps h = refl
used_up (t ∷ ts) [] h = refl
used_up (t ∷ ts) (p ∷ ps) (inl e) = cc
used_up (t ∷ ts) (p ∷ ps) (inr e) = cc

pub returns : goal.returns
returns c =
    let at = c.loop-arg in
    let none = used_up _ _ (either_empty_from_Zip at.arg-iterator c.next.new.self _ refl c.in-None.ensures.steps) in
    sym (append-nil (pairs_of at.steps)) ∙ ap (λ l. pairs_of at.steps ++ l) (sym none) ∙ at.invariant
