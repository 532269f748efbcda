-- What the declared world answers is what the functions answer.
use Rattle.std.proofs.Common.{◌≡◌, ◌↔◌, ℤ, List, Bool, true, false, Option, Some, None, refl, sym, ◌∙◌, ap, subst, IsTrue}
use Rattle.std.proofs.lemmas.Bool.Decides.{same_from_decides}
use Rattle.bcj_parser_trees.specs.Trees.{PlainUnit}
use Rattle.bcj_symbolic_trees.specs.Types.{PlainTy, int_type, bool_type, void_type, class_type, array_type, PlainArg}
use Rattle.bcj_decl_rules.specs.declared.value.Value.{Value}
use Rattle.bcj_decl_rules.specs.declared.value.Value.TheVariants as value
use Rattle.bcj_decl_rules.specs.World.{Named, Field, world_of}
use Rattle.bcj_decl_rules.specs.Constants.{of_type, IsConstantField, constant_variable}
use Rattle.bcj_decl_rules.specs.Faults.{IsDeclared}
use Rattle.bcj_decl_rules.specs.Methods.{Choice, MostSpecific}
use Rattle.bcj_decl_rules.specs.Subtypes.{Subtype}
use Rattle.bcj_decl.specs.Worlds.{IsConstantOf, number_of}
use Rattle.bcj_typing_answers.specs.Answers.{answers_of}
use Rattle.bcj_typing_answers.proofs.Answered.{answered, one_answer}
use Rattle.bcj_typing_node.specs.Forms.{value_for}

-- a test of subtypes answers as the function does
pub subtype_answered : (units : List PlainUnit) → IsDeclared units → (s t : PlainTy) (r : Bool) → (IsTrue r ↔ Subtype (world_of units) s t) → r ≡ (answers_of units).subtype s t
subtype_answered units fine s t r h = same_from_decides r ((answers_of units).subtype s t) h ((answered units fine).subtype s t)

-- the number of a value of a type stands for the value
value_back : (t : PlainTy) (u v : Value) → of_type t u ≡ Some v → value_for t (Some (number_of v)) ≡ Some v
value_back int_type (value.Int x) v e =
    let it : value.Int x ≡ v = cc in
    subst (λ (w : Value). value_for int_type (Some (number_of w)) ≡ Some w) it refl
value_back bool_type (value.Bool true) v e =
    let it : value.Bool true ≡ v = cc in
    subst (λ (w : Value). value_for bool_type (Some (number_of w)) ≡ Some w) it refl
value_back bool_type (value.Bool false) v e =
    let it : value.Bool false ≡ v = cc in
    subst (λ (w : Value). value_for bool_type (Some (number_of w)) ≡ Some w) it refl
value_back t u v e = cc

no_value : (t : PlainTy) → value_for t None ≡ None
no_value int_type = refl
no_value bool_type = refl
no_value void_type = refl
no_value (class_type name) = refl
no_value (array_type component) = refl

-- so it does for a constant field
stands_for : (units : List PlainUnit) (f : Field) (v : Value) → IsConstantField units f v → value_for f.ty (Some (number_of v)) ≡ Some v
stands_for units f v (constant_variable {v = u} final init is gives) = value_back f.ty u v gives

nothing : (o : Option Value) → ((v : Value) → o ≡ Some v → ⊥) → o ≡ None
nothing None none = refl
nothing (Some v) none = absurd (none v refl)

-- the value that the number of a field stands for is the one that is answered
pub worth_answered : (units : List PlainUnit) → IsDeclared units → (f : Field) (n : Option ℤ) → IsConstantOf units f n → value_for f.ty n ≡ (answers_of units).constant f
worth_answered units fine f None none =
    no_value f.ty ∙ sym (nothing ((answers_of units).constant f) (λ v e. none v (((answered units fine).constant f v).0 e)))
worth_answered units fine f (Some n) is =
    ap (λ m. value_for f.ty (Some m)) (sym is.2) ∙ (stands_for units f is.0 is.1 ∙ sym (((answered units fine).constant f is.0).1 is.1))

-- a choice of the world is the one that is answered
pub choice_answered : (units : List PlainUnit) → IsDeclared units → (from class name : Named) (args : List PlainArg) (m : Choice) → MostSpecific (world_of units) from class name args m
    → m ≡ (answers_of units).choose from class name args
choice_answered units fine from class name args m h = sym ((one_answer units fine).choose from class name args m h)
