-- The boot unit is well typed: it is finite, and its marks compute.
use Rattle.std.specs.Prelude.{refl}
use Rattle.bcj_names.specs.Identifiers.{reserved_words, is_reserved, is_identifier}
use Rattle.bcj_symbolic_check.specs.Steps.{is_value_type, is_result_type, is_listed, steps_to}
use Rattle.bcj_symbolic_check.specs.Judgements.{int_part, bool_part, part_steps, are_value_types, is_constructor_name, is_method_ref, is_constructor_ref, no_types, local_rule, local_known, is_special, special_rule, print_rule}
use Rattle.bcj_symbolic_check.specs.Classes.{has_right_superclass, superclass_named, are_identifiers, head_holds, constant_holds, field_access_holds, field_holds, same_field, locals_hold, named_by_kind, body_by_kind, method_access_holds, method_holds, same_method, has_constructor, constructors_first, has_field, fields_differ, has_method, methods_differ, fields_hold, methods_hold, pair_holds, pairs_hold, has_class, members_hold, class_holds, init_frame, method_frame, class_marks, first_fault, faults_from}
use Rattle.bcj_symbolic.specs.Boot.{BootIsWellTyped}

pub boot_typed : BootIsWellTyped
unfolding reserved_words is_reserved is_identifier is_constructor_name is_value_type is_result_type is_listed steps_to int_part bool_part part_steps are_value_types is_method_ref is_constructor_ref no_types local_rule local_known is_special special_rule print_rule has_right_superclass superclass_named are_identifiers head_holds constant_holds field_access_holds field_holds same_field locals_hold named_by_kind body_by_kind method_access_holds method_holds same_method has_constructor constructors_first has_field fields_differ has_method methods_differ fields_hold methods_hold pair_holds pairs_hold has_class members_hold class_holds init_frame method_frame class_marks first_fault faults_from
boot_typed = refl
