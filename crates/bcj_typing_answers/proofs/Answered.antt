-- A declared world is answered, and by one answer.
use Rattle.std.proofs.Common.{List}
use Rattle.bcj_parser_trees.specs.Trees.{PlainUnit}
use Rattle.bcj_decl_rules.specs.World.{World, world_of}
use Rattle.bcj_decl_rules.specs.Methods.{candidates}
use Rattle.bcj_decl_rules.specs.Faults.{IsDeclared}
use Rattle.bcj_decl_soundness.proofs.Constants.{each_value_is_constant, each_constant_is_found, each_field_is_found}
use Rattle.bcj_decl_orders.proofs.Circles.{no_circles}
use Rattle.bcj_decl_fields.specs.Hierarchy.{IsHierarchy}
use Rattle.bcj_decl_fields.proofs.Declared.{hierarchy}
use Rattle.bcj_decl_fields.proofs.Places as places
use Rattle.bcj_decl_fields.proofs.Supertypes.{Ends, is_subtype_right, is_subtype_whole}
use Rattle.bcj_typing_answers.specs.Answers.{answers_of, constant_of}
use Rattle.bcj_typing_answers.specs.Laws as law
use Rattle.bcj_typing_answers.proofs.Choosing.{chosen_right, chosen_only}
use Rattle.bcj_typing_answers.proofs.Rounds.{constants_right, constants_whole}

searches_end : (units : List PlainUnit) → IsDeclared units → Ends (world_of units)
searches_end units declared = places.ends (world_of units) (no_circles units declared)

pub answered : law.DeclaredWorldsAreAnswered
unfolding answers_of
answered units declared =
    let w : World = world_of units in
    let ends : Ends w = searches_end units declared in
    let fine : IsHierarchy w = hierarchy units declared in
    record {
      subtype = λ s t. (is_subtype_right w fine s t, is_subtype_whole w ends fine s t);
      choose = λ from class name args. chosen_right w ends fine from args (candidates w class name);
      constant = λ f v. (constants_right units f v, each_field_is_found units (constant_of units) (constants_whole units) f v);
      value =
          λ from e v. (
            each_value_is_constant units (constant_of units) (constants_right units) from e v,
            each_constant_is_found units (constant_of units) (constants_whole units) from e v,
          );
    }

pub one_answer : law.DeclaredWorldsHaveOneAnswer
unfolding answers_of
one_answer units declared =
    let w : World = world_of units in
    record { choose = λ from class name args m h. chosen_only w (searches_end units declared) (hierarchy units declared) from args (candidates w class name) m h }
