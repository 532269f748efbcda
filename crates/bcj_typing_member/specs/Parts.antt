-- Initialisers by their context.
use Rattle.std.specs.Prelude.{ℕ, List, [], ◌∷◌, ◌++◌, if◌then◌else◌}
use Rattle.bcj_parser_trees.specs.Trees as source
use Rattle.bcj_symbolic_trees.specs.Trees as tree
use Rattle.bcj_decl_rules.specs.World.{Field}
use Rattle.bcj_typing_rules.specs.declared.kind.Kind.TheVariants as kind
use Rattle.bcj_typing_rules.specs.Premises.{need, earliest_missing}
use Rattle.bcj_typing_rules.specs.Casting.{uses}
use Rattle.bcj_typing_rules.specs.Context.{Context}
use Rattle.bcj_typing_rules.specs.Members.{Added, nothing_added, set_own}
use Rattle.bcj_typing_rules.specs.function.Expressions.{Answers, Outcome, result, and_then, settled, fits, type_expr}
use Rattle.bcj_typing_rules.specs.function.Members.{type_initialiser}

-- what the initialiser of a field adds
abbrev pub initialised_in : Answers → Context → ℕ → Field → source.PlainExpr → Outcome Added
initialised_in a c at f e =
    and_then (type_expr a c e)
    (λ v.
    settled at (earliest_missing (need kind.Assign (fits a v.type f.ty) ∷ []))
    (record { trees = tree.evaluate (set_own f v.tree) ∷ []; steps = v.steps ++ uses v.type f.ty }))

-- what a field adds where an object is made
abbrev pub instance_in : Answers → List source.PlainUnit → ℕ → Field → source.PlainOption → Outcome Added
instance_in a units at f source.absent = result nothing_added
instance_in a units at f (source.present e) = if f.is_static then result nothing_added else type_initialiser a units at f e
