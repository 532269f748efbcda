use Rattle.std.proofs.Common.{◌∙◌, sym, refl, ap}
use Rattle.bcj_parser_trees.specs.Plain.{expr_of}
use Rattle.bcj_typing_scope.specs.Scopes.{answers_in, context_of}
use Rattle.bcj_typing_expression.specs.Typed.{Types}
use Rattle.bcj_typing_expression.proofs.Arms.{bool_types, element_place_types, element_types, int_types, least_types, null_types, paren_types, step_types, this_types, unary_types}
use Rattle.bcj_typing_expression.proofs.Lists.{far_begin, far_done, far_more, far_stops}
use Rattle.bcj_typing_expression.proofs.Walks.{assign-place, assign-value, binary-left, binary-right, call-args, cast-part, conditional-first, conditional-second, conditional-test, dot-target, dot_call-args, dot_call-target, dot_place-target, element-array, element-index, element_place-array, element_place-index, instance_of-part, moved, moved_place, new_array-length, new_object-args, node-Assign, node-Binary, node-Bool, node-Call, node-Cast, node-Cond, node-Dot, node-DotCall, node-Elem, node-InstanceOf, node-Int, node-Name, node-New, node-NewArray, node-Null, node-Paren, node-Step, node-SuperCall, node-SuperField, node-This, node-Unary, step-place, super_call-args, type_call-args, unary-part, ended}
use Rattle.bcj_typing_expression.proofs.walk.+expression.Goals as goal

pub expression-returns-in-Int : goal.expression-returns-in-Int
expression-returns-in-Int t c =
    let h : Types (answers_in c.args.scope.now) (context_of c.args.scope.now) (expr_of c.args.e.now) c.int_literal.result = moved _ _ _ _ _ (node-Int _ _ _ _ c.in-Int.is) (int_types _ _ _ _ _ _ (record { judges = c.int_literal.ensures })) in
    record { typing = h.typing; worth = h.worth }

pub expression-returns-in-Bool : goal.expression-returns-in-Bool
expression-returns-in-Bool t c =
    let h : Types (answers_in c.args.scope.now) (context_of c.args.scope.now) (expr_of c.args.e.now) c.bool_literal.result = moved _ _ _ _ _ (node-Bool _ _ _ c.in-Bool.is) (bool_types _ _ _ _ _ (record { judges = c.bool_literal.ensures })) in
    record { typing = h.typing; worth = h.worth }

pub expression-returns-in-Null : goal.expression-returns-in-Null
expression-returns-in-Null t c =
    let h : Types (answers_in c.args.scope.now) (context_of c.args.scope.now) (expr_of c.args.e.now) c.null_literal.result = moved _ _ _ _ _ (node-Null _ _ c.in-Null.is) (null_types _ _ _ _ (record { judges = c.null_literal.ensures })) in
    record { typing = h.typing; worth = h.worth }

pub expression-returns-in-This : goal.expression-returns-in-This
expression-returns-in-This t c =
    let h : Types (answers_in c.args.scope.now) (context_of c.args.scope.now) (expr_of c.args.e.now) c.this_value.result = moved _ _ _ _ _ (node-This _ _ c.in-This.is) (this_types _ _ _ _ _ _ c.class.ensures c.has_this.ensures (record { judges = c.this_value.ensures })) in
    record { typing = h.typing; worth = h.worth }

pub expression-returns-in-Name : goal.expression-returns-in-Name
expression-returns-in-Name t c =
    let h : Types (answers_in c.args.scope.now) (context_of c.args.scope.now) (expr_of c.args.e.now) c.simple_name.result = moved _ _ _ _ _ (node-Name _ _ _ c.in-Name.is) (c.simple_name.ensures) in
    record { typing = h.typing; worth = h.worth }

pub expression-returns-in-Paren : goal.expression-returns-in-Paren
expression-returns-in-Paren t c =
    let h : Types (answers_in c.args.scope.now) (context_of c.args.scope.now) (expr_of c.args.e.now) c.expression.result = moved _ _ _ _ _ (node-Paren _ _ _ _ c.in-Paren.is c.get.ensures) (paren_types _ _ _ _ _ (record { typing = c.expression.ensures.typing; worth = c.expression.ensures.worth })) in
    record { typing = h.typing; worth = h.worth }

pub expression-returns-in-Dot : goal.expression-returns-in-Dot
expression-returns-in-Dot t c =
    let h : Types (answers_in c.args.scope.now) (context_of c.args.scope.now) (expr_of c.args.e.now) c.dot.result = moved _ _ _ _ _ (node-Dot _ _ _ _ _ c.in-Dot.is c.get-in-Dot.ensures) (c.dot.ensures) in
    record { typing = h.typing; worth = h.worth }

pub expression-returns-in-SuperField : goal.expression-returns-in-SuperField
expression-returns-in-SuperField t c =
    let h : Types (answers_in c.args.scope.now) (context_of c.args.scope.now) (expr_of c.args.e.now) c.super_field.result = moved _ _ _ _ _ (node-SuperField _ _ _ c.in-SuperField.is) (c.super_field.ensures) in
    record { typing = h.typing; worth = h.worth }

pub expression-returns-in-Unary : goal.expression-returns-in-Unary
expression-returns-in-Unary t c =
    let h : Types (answers_in c.args.scope.now) (context_of c.args.scope.now) (expr_of c.args.e.now) c.signed.result = moved _ _ _ _ _ (node-Unary _ _ _ _ _ c.in-Unary.is c.get-in-Unary.ensures) (c.signed.ensures) in
    record { typing = h.typing; worth = h.worth }

pub expression-returns-in_err-typed-in-Call : goal.expression-returns-in_err-typed-in-Call
expression-returns-in_err-typed-in-Call t c =
    let h : Types (answers_in c.args.scope.now) (context_of c.args.scope.now) (expr_of c.args.e.now) c.from_residual.result = moved _ _ _ _ _ (node-Call _ _ _ _ _ c.in-Call.is c.as_slice.ensures) (call-args _ _ _ _ _ _ _ (ended _ c.in_err-typed-in-Call.field-0.0 c.from_residual.ensures) c.in_err-typed-in-Call.ensures) in
    record { typing = h.typing; worth = h.worth }

pub expression-returns-in_ok-typed-in-Call : goal.expression-returns-in_ok-typed-in-Call
expression-returns-in_ok-typed-in-Call t c =
    let h : Types (answers_in c.args.scope.now) (context_of c.args.scope.now) (expr_of c.args.e.now) c.called_by_name.result = moved _ _ _ _ _ (node-Call _ _ _ _ _ c.in-Call.is c.as_slice.ensures) (c.called_by_name.ensures _ (record { typings = c.in_ok-typed-in-Call.ensures })) in
    record { typing = h.typing; worth = h.worth }

pub expression-returns-in_err-typed-in-SuperCall : goal.expression-returns-in_err-typed-in-SuperCall
expression-returns-in_err-typed-in-SuperCall t c =
    let h : Types (answers_in c.args.scope.now) (context_of c.args.scope.now) (expr_of c.args.e.now) c.from_residual-in_err-typed-in-SuperCall.result = moved _ _ _ _ _ (node-SuperCall _ _ _ _ _ c.in-SuperCall.is c.as_slice-in-SuperCall.ensures) (super_call-args _ _ _ _ _ _ _ (ended _ c.in_err-typed-in-SuperCall.field-0.0 c.from_residual-in_err-typed-in-SuperCall.ensures) c.in_err-typed-in-SuperCall.ensures) in
    record { typing = h.typing; worth = h.worth }

pub expression-returns-in_ok-typed-in-SuperCall : goal.expression-returns-in_ok-typed-in-SuperCall
expression-returns-in_ok-typed-in-SuperCall t c =
    let h : Types (answers_in c.args.scope.now) (context_of c.args.scope.now) (expr_of c.args.e.now) c.called_of_super.result = moved _ _ _ _ _ (node-SuperCall _ _ _ _ _ c.in-SuperCall.is c.as_slice-in-SuperCall.ensures) (c.called_of_super.ensures _ (record { typings = c.in_ok-typed-in-SuperCall.ensures })) in
    record { typing = h.typing; worth = h.worth }

pub expression-returns-in_err-typed-in-New : goal.expression-returns-in_err-typed-in-New
expression-returns-in_err-typed-in-New t c =
    let h : Types (answers_in c.args.scope.now) (context_of c.args.scope.now) (expr_of c.args.e.now) c.from_residual-in_err-typed-in-New.result = moved _ _ _ _ _ (node-New _ _ _ _ _ c.in-New.is c.as_slice-in-New.ensures) (new_object-args _ _ _ _ _ _ _ (ended _ c.in_err-typed-in-New.field-0.0 c.from_residual-in_err-typed-in-New.ensures) c.in_err-typed-in-New.ensures) in
    record { typing = h.typing; worth = h.worth }

pub expression-returns-in_ok-typed-in-New : goal.expression-returns-in_ok-typed-in-New
expression-returns-in_ok-typed-in-New t c =
    let h : Types (answers_in c.args.scope.now) (context_of c.args.scope.now) (expr_of c.args.e.now) c.object_made.result = moved _ _ _ _ _ (node-New _ _ _ _ _ c.in-New.is c.as_slice-in-New.ensures) (c.object_made.ensures _ (record { typings = c.in_ok-typed-in-New.ensures })) in
    record { typing = h.typing; worth = h.worth }

pub expression-returns-in_err-length-in-NewArray : goal.expression-returns-in_err-length-in-NewArray
expression-returns-in_err-length-in-NewArray t c =
    let h : Types (answers_in c.args.scope.now) (context_of c.args.scope.now) (expr_of c.args.e.now) c.from_residual-in_err-length-in-NewArray.result = moved _ _ _ _ _ (node-NewArray _ _ _ _ _ _ c.in-NewArray.is c.get-in-NewArray.ensures) (new_array-length _ _ _ _ _ _ _ _ (ended _ c.in_err-length-in-NewArray.field-0.0 c.from_residual-in_err-length-in-NewArray.ensures) c.in_err-length-in-NewArray.ensures.typing) in
    record { typing = h.typing; worth = h.worth }

pub expression-returns-in_ok-length-in-NewArray : goal.expression-returns-in_ok-length-in-NewArray
expression-returns-in_ok-length-in-NewArray t c =
    let h : Types (answers_in c.args.scope.now) (context_of c.args.scope.now) (expr_of c.args.e.now) c.array_made.result = moved _ _ _ _ _ (node-NewArray _ _ _ _ _ _ c.in-NewArray.is c.get-in-NewArray.ensures) (c.array_made.ensures _ (record { typing = c.in_ok-length-in-NewArray.ensures.typing; worth = c.in_ok-length-in-NewArray.ensures.worth })) in
    record { typing = h.typing; worth = h.worth }

pub expression-returns-in_err-part-in-Cast : goal.expression-returns-in_err-part-in-Cast
expression-returns-in_err-part-in-Cast t c =
    let h : Types (answers_in c.args.scope.now) (context_of c.args.scope.now) (expr_of c.args.e.now) c.from_residual-in_err-part-in-Cast.result = moved _ _ _ _ _ (node-Cast _ _ _ _ _ c.in-Cast.is c.get-in-Cast.ensures) (cast-part _ _ _ _ _ _ _ (ended _ c.in_err-part-in-Cast.field-0.0 c.from_residual-in_err-part-in-Cast.ensures) c.in_err-part-in-Cast.ensures.typing) in
    record { typing = h.typing; worth = h.worth }

pub expression-returns-in_ok-part-in-Cast : goal.expression-returns-in_ok-part-in-Cast
expression-returns-in_ok-part-in-Cast t c =
    let h : Types (answers_in c.args.scope.now) (context_of c.args.scope.now) (expr_of c.args.e.now) c.cast_to.result = moved _ _ _ _ _ (node-Cast _ _ _ _ _ c.in-Cast.is c.get-in-Cast.ensures) (c.cast_to.ensures _ (record { typing = c.in_ok-part-in-Cast.ensures.typing; worth = c.in_ok-part-in-Cast.ensures.worth })) in
    record { typing = h.typing; worth = h.worth }

pub expression-returns-in_err-part-in-InstanceOf : goal.expression-returns-in_err-part-in-InstanceOf
expression-returns-in_err-part-in-InstanceOf t c =
    let h : Types (answers_in c.args.scope.now) (context_of c.args.scope.now) (expr_of c.args.e.now) c.from_residual-in_err-part-in-InstanceOf.result = moved _ _ _ _ _ (node-InstanceOf _ _ _ _ _ c.in-InstanceOf.is c.get-in-InstanceOf.ensures) (instance_of-part _ _ _ _ _ _ _ (ended _ c.in_err-part-in-InstanceOf.field-0.0 c.from_residual-in_err-part-in-InstanceOf.ensures) c.in_err-part-in-InstanceOf.ensures.typing) in
    record { typing = h.typing; worth = h.worth }

pub expression-returns-in_ok-part-in-InstanceOf : goal.expression-returns-in_ok-part-in-InstanceOf
expression-returns-in_ok-part-in-InstanceOf t c =
    let h : Types (answers_in c.args.scope.now) (context_of c.args.scope.now) (expr_of c.args.e.now) c.tested.result = moved _ _ _ _ _ (node-InstanceOf _ _ _ _ _ c.in-InstanceOf.is c.get-in-InstanceOf.ensures) (c.tested.ensures _ (record { typing = c.in_ok-part-in-InstanceOf.ensures.typing; worth = c.in_ok-part-in-InstanceOf.ensures.worth })) in
    record { typing = h.typing; worth = h.worth }

pub expression-returns-in_err-array-in-Elem : goal.expression-returns-in_err-array-in-Elem
expression-returns-in_err-array-in-Elem t c =
    let h : Types (answers_in c.args.scope.now) (context_of c.args.scope.now) (expr_of c.args.e.now) c.from_residual-in_err-array-in-Elem.result = moved _ _ _ _ _ (node-Elem _ _ _ _ _ _ c.in-Elem.is c.get-in-Elem.ensures refl) (element-array _ _ _ _ _ _ _ (ended _ c.in_err-array-in-Elem.field-0.0 c.from_residual-in_err-array-in-Elem.ensures) c.in_err-array-in-Elem.ensures.typing) in
    record { typing = h.typing; worth = h.worth }

pub expression-returns-in_err-index-in-Elem : goal.expression-returns-in_err-index-in-Elem
expression-returns-in_err-index-in-Elem t c =
    let h : Types (answers_in c.args.scope.now) (context_of c.args.scope.now) (expr_of c.args.e.now) c.from_residual-in_err-index-in-Elem.result = moved _ _ _ _ _ (node-Elem _ _ _ _ _ _ c.in-Elem.is c.get-in-Elem.ensures c.get-in-Elem-2.ensures) (element-index _ _ _ _ _ _ _ _ (record { typing = c.in_ok-array-in-Elem.ensures.typing; worth = c.in_ok-array-in-Elem.ensures.worth }) (ended _ c.in_err-index-in-Elem.field-0.0 c.from_residual-in_err-index-in-Elem.ensures) c.in_err-index-in-Elem.ensures.typing) in
    record { typing = h.typing; worth = h.worth }

pub expression-returns-in_ok-index-in-Elem : goal.expression-returns-in_ok-index-in-Elem
expression-returns-in_ok-index-in-Elem t c =
    let h : Types (answers_in c.args.scope.now) (context_of c.args.scope.now) (expr_of c.args.e.now) c.element.result = moved _ _ _ _ _ (node-Elem _ _ _ _ _ _ c.in-Elem.is c.get-in-Elem.ensures c.get-in-Elem-2.ensures) (element_types _ _ _ _ _ _ _ _ (record { typing = c.in_ok-array-in-Elem.ensures.typing; worth = c.in_ok-array-in-Elem.ensures.worth }) (record { typing = c.in_ok-index-in-Elem.ensures.typing; worth = c.in_ok-index-in-Elem.ensures.worth }) (record { judges = c.element.ensures })) in
    record { typing = h.typing; worth = h.worth }

pub expression-returns-in_err-placed-in-Step : goal.expression-returns-in_err-placed-in-Step
expression-returns-in_err-placed-in-Step t c =
    let h : Types (answers_in c.args.scope.now) (context_of c.args.scope.now) (expr_of c.args.e.now) c.from_residual-in_err-placed-in-Step.result = moved _ _ _ _ _ (node-Step _ _ _ _ _ _ c.in-Step.is c.get-in-Step.ensures) (step-place _ _ _ _ _ _ _ _ (ended _ c.in_err-placed-in-Step.field-0.0 c.from_residual-in_err-placed-in-Step.ensures) c.in_err-placed-in-Step.ensures.placing) in
    record { typing = h.typing; worth = h.worth }

pub expression-returns-in_ok-placed-in-Step : goal.expression-returns-in_ok-placed-in-Step
expression-returns-in_ok-placed-in-Step t c =
    let h : Types (answers_in c.args.scope.now) (context_of c.args.scope.now) (expr_of c.args.e.now) c.step.result = moved _ _ _ _ _ (node-Step _ _ _ _ _ _ c.in-Step.is c.get-in-Step.ensures) (step_types _ _ _ _ _ _ _ _ (record { placing = c.in_ok-placed-in-Step.ensures.placing }) (record { judges = c.step.ensures })) in
    record { typing = h.typing; worth = h.worth }

pub expression-returns-in_err-left-in-Binary : goal.expression-returns-in_err-left-in-Binary
expression-returns-in_err-left-in-Binary t c =
    let h : Types (answers_in c.args.scope.now) (context_of c.args.scope.now) (expr_of c.args.e.now) c.from_residual-in_err-left-in-Binary.result = moved _ _ _ _ _ (node-Binary _ _ _ _ _ _ _ c.in-Binary.is c.get-in-Binary.ensures refl) (binary-left _ _ _ _ _ _ _ _ (ended _ c.in_err-left-in-Binary.field-0.0 c.from_residual-in_err-left-in-Binary.ensures) c.in_err-left-in-Binary.ensures.typing) in
    record { typing = h.typing; worth = h.worth }

pub expression-returns-in_err-right-in-Binary : goal.expression-returns-in_err-right-in-Binary
expression-returns-in_err-right-in-Binary t c =
    let h : Types (answers_in c.args.scope.now) (context_of c.args.scope.now) (expr_of c.args.e.now) c.from_residual-in_err-right-in-Binary.result = moved _ _ _ _ _ (node-Binary _ _ _ _ _ _ _ c.in-Binary.is c.get-in-Binary.ensures c.get-in-Binary-2.ensures) (binary-right _ _ _ _ _ _ _ _ _ (record { typing = c.in_ok-left-in-Binary.ensures.typing; worth = c.in_ok-left-in-Binary.ensures.worth }) (ended _ c.in_err-right-in-Binary.field-0.0 c.from_residual-in_err-right-in-Binary.ensures) c.in_err-right-in-Binary.ensures.typing) in
    record { typing = h.typing; worth = h.worth }

pub expression-returns-in_ok-right-in-Binary : goal.expression-returns-in_ok-right-in-Binary
expression-returns-in_ok-right-in-Binary t c =
    let h : Types (answers_in c.args.scope.now) (context_of c.args.scope.now) (expr_of c.args.e.now) c.operated.result = moved _ _ _ _ _ (node-Binary _ _ _ _ _ _ _ c.in-Binary.is c.get-in-Binary.ensures c.get-in-Binary-2.ensures) (c.operated.ensures _ _ (record { typing = c.in_ok-left-in-Binary.ensures.typing; worth = c.in_ok-left-in-Binary.ensures.worth }) (record { typing = c.in_ok-right-in-Binary.ensures.typing; worth = c.in_ok-right-in-Binary.ensures.worth })) in
    record { typing = h.typing; worth = h.worth }

pub expression-returns-in_err-test-in-Cond : goal.expression-returns-in_err-test-in-Cond
expression-returns-in_err-test-in-Cond t c =
    let h : Types (answers_in c.args.scope.now) (context_of c.args.scope.now) (expr_of c.args.e.now) c.from_residual-in_err-test-in-Cond.result = moved _ _ _ _ _ (node-Cond _ _ _ _ _ _ _ _ c.in-Cond.is c.get-in-Cond.ensures refl refl) (conditional-test _ _ _ _ _ _ _ _ (ended _ c.in_err-test-in-Cond.field-0.0 c.from_residual-in_err-test-in-Cond.ensures) c.in_err-test-in-Cond.ensures.typing) in
    record { typing = h.typing; worth = h.worth }

pub expression-returns-in_err-first-in-Cond : goal.expression-returns-in_err-first-in-Cond
expression-returns-in_err-first-in-Cond t c =
    let h : Types (answers_in c.args.scope.now) (context_of c.args.scope.now) (expr_of c.args.e.now) c.from_residual-in_err-first-in-Cond.result = moved _ _ _ _ _ (node-Cond _ _ _ _ _ _ _ _ c.in-Cond.is c.get-in-Cond.ensures c.get-in-Cond-2.ensures refl) (conditional-first _ _ _ _ _ _ _ _ _ (record { typing = c.in_ok-test-in-Cond.ensures.typing; worth = c.in_ok-test-in-Cond.ensures.worth }) (ended _ c.in_err-first-in-Cond.field-0.0 c.from_residual-in_err-first-in-Cond.ensures) c.in_err-first-in-Cond.ensures.typing) in
    record { typing = h.typing; worth = h.worth }

pub expression-returns-in_err-second-in-Cond : goal.expression-returns-in_err-second-in-Cond
expression-returns-in_err-second-in-Cond t c =
    let h : Types (answers_in c.args.scope.now) (context_of c.args.scope.now) (expr_of c.args.e.now) c.from_residual-in_err-second-in-Cond.result = moved _ _ _ _ _ (node-Cond _ _ _ _ _ _ _ _ c.in-Cond.is c.get-in-Cond.ensures c.get-in-Cond-2.ensures c.get-in-Cond-3.ensures) (conditional-second _ _ _ _ _ _ _ _ _ _ (record { typing = c.in_ok-test-in-Cond.ensures.typing; worth = c.in_ok-test-in-Cond.ensures.worth }) (record { typing = c.in_ok-first-in-Cond.ensures.typing; worth = c.in_ok-first-in-Cond.ensures.worth }) (ended _ c.in_err-second-in-Cond.field-0.0 c.from_residual-in_err-second-in-Cond.ensures) c.in_err-second-in-Cond.ensures.typing) in
    record { typing = h.typing; worth = h.worth }

pub expression-returns-in_ok-second-in-Cond : goal.expression-returns-in_ok-second-in-Cond
expression-returns-in_ok-second-in-Cond t c =
    let h : Types (answers_in c.args.scope.now) (context_of c.args.scope.now) (expr_of c.args.e.now) c.decided.result = moved _ _ _ _ _ (node-Cond _ _ _ _ _ _ _ _ c.in-Cond.is c.get-in-Cond.ensures c.get-in-Cond-2.ensures c.get-in-Cond-3.ensures) (c.decided.ensures _ _ _ (record { typing = c.in_ok-test-in-Cond.ensures.typing; worth = c.in_ok-test-in-Cond.ensures.worth }) (record { typing = c.in_ok-first-in-Cond.ensures.typing; worth = c.in_ok-first-in-Cond.ensures.worth }) (record { typing = c.in_ok-second-in-Cond.ensures.typing; worth = c.in_ok-second-in-Cond.ensures.worth })) in
    record { typing = h.typing; worth = h.worth }

pub expression-returns-in_err-placed-in-Assign : goal.expression-returns-in_err-placed-in-Assign
expression-returns-in_err-placed-in-Assign t c =
    let h : Types (answers_in c.args.scope.now) (context_of c.args.scope.now) (expr_of c.args.e.now) c.from_residual-in_err-placed-in-Assign.result = moved _ _ _ _ _ (node-Assign _ _ _ _ _ _ _ c.in-Assign.is c.get-in-Assign.ensures refl) (assign-place _ _ _ _ _ _ _ _ (ended _ c.in_err-placed-in-Assign.field-0.0 c.from_residual-in_err-placed-in-Assign.ensures) c.in_err-placed-in-Assign.ensures.placing) in
    record { typing = h.typing; worth = h.worth }

pub expression-returns-in_err-value-in-Assign : goal.expression-returns-in_err-value-in-Assign
expression-returns-in_err-value-in-Assign t c =
    let h : Types (answers_in c.args.scope.now) (context_of c.args.scope.now) (expr_of c.args.e.now) c.from_residual-in_err-value-in-Assign.result = moved _ _ _ _ _ (node-Assign _ _ _ _ _ _ _ c.in-Assign.is c.get-in-Assign.ensures c.get-in-Assign-2.ensures) (assign-value _ _ _ _ _ _ _ _ _ (record { placing = c.in_ok-placed-in-Assign.ensures.placing }) (ended _ c.in_err-value-in-Assign.field-0.0 c.from_residual-in_err-value-in-Assign.ensures) c.in_err-value-in-Assign.ensures.typing) in
    record { typing = h.typing; worth = h.worth }

pub expression-returns-in_ok-value-in-Assign : goal.expression-returns-in_ok-value-in-Assign
expression-returns-in_ok-value-in-Assign t c =
    let h : Types (answers_in c.args.scope.now) (context_of c.args.scope.now) (expr_of c.args.e.now) c.assigned.result = moved _ _ _ _ _ (node-Assign _ _ _ _ _ _ _ c.in-Assign.is c.get-in-Assign.ensures c.get-in-Assign-2.ensures) (c.assigned.ensures _ _ (record { placing = c.in_ok-placed-in-Assign.ensures.placing }) (record { typing = c.in_ok-value-in-Assign.ensures.typing; worth = c.in_ok-value-in-Assign.ensures.worth })) in
    record { typing = h.typing; worth = h.worth }

pub expression-returns-in_err-typed-in-Some : goal.expression-returns-in_err-typed-in-Some
expression-returns-in_err-typed-in-Some t c =
    let h : Types (answers_in c.args.scope.now) (context_of c.args.scope.now) (expr_of c.args.e.now) c.from_residual-in_err-typed-in-Some.result = moved _ _ _ _ _ (node-DotCall _ _ _ _ _ _ _ c.in-DotCall.is c.get-target.ensures c.as_slice-args.ensures) (type_call-args _ _ _ _ _ _ _ _ _ (sym c.in-Some.ensures) (ended _ c.in_err-typed-in-Some.field-0.0 c.from_residual-in_err-typed-in-Some.ensures) c.in_err-typed-in-Some.ensures) in
    record { typing = h.typing; worth = h.worth }

pub expression-returns-in_ok-typed-in-Some : goal.expression-returns-in_ok-typed-in-Some
expression-returns-in_ok-typed-in-Some t c =
    let h : Types (answers_in c.args.scope.now) (context_of c.args.scope.now) (expr_of c.args.e.now) c.called_of_type.result = moved _ _ _ _ _ (node-DotCall _ _ _ _ _ _ _ c.in-DotCall.is c.get-target.ensures c.as_slice-args.ensures) (c.called_of_type.ensures _ _ (sym c.in-Some.ensures) (record { typings = c.in_ok-typed-in-Some.ensures })) in
    record { typing = h.typing; worth = h.worth }

pub expression-returns-in_err-value-in-None : goal.expression-returns-in_err-value-in-None
expression-returns-in_err-value-in-None t c =
    let h : Types (answers_in c.args.scope.now) (context_of c.args.scope.now) (expr_of c.args.e.now) c.from_residual-in_err-value-in-None.result = moved _ _ _ _ _ (node-DotCall _ _ _ _ _ _ _ c.in-DotCall.is c.get-target.ensures refl) (dot_call-target _ _ _ _ _ _ _ _ (sym c.in-None.ensures) (ended _ c.in_err-value-in-None.field-0.0 c.from_residual-in_err-value-in-None.ensures) c.in_err-value-in-None.ensures.typing) in
    record { typing = h.typing; worth = h.worth }

pub expression-returns-in_err-typed-in-None : goal.expression-returns-in_err-typed-in-None
expression-returns-in_err-typed-in-None t c =
    let h : Types (answers_in c.args.scope.now) (context_of c.args.scope.now) (expr_of c.args.e.now) c.from_residual-in_err-typed-in-None.result = moved _ _ _ _ _ (node-DotCall _ _ _ _ _ _ _ c.in-DotCall.is c.get-target.ensures c.as_slice-args.ensures) (dot_call-args _ _ _ _ _ _ _ _ _ (sym c.in-None.ensures) (record { typing = c.in_ok-value-in-None.ensures.typing; worth = c.in_ok-value-in-None.ensures.worth }) (ended _ c.in_err-typed-in-None.field-0.0 c.from_residual-in_err-typed-in-None.ensures) c.in_err-typed-in-None.ensures) in
    record { typing = h.typing; worth = h.worth }

pub expression-returns-in_ok-typed-in-None : goal.expression-returns-in_ok-typed-in-None
expression-returns-in_ok-typed-in-None t c =
    let h : Types (answers_in c.args.scope.now) (context_of c.args.scope.now) (expr_of c.args.e.now) c.called_of_value.result = moved _ _ _ _ _ (node-DotCall _ _ _ _ _ _ _ c.in-DotCall.is c.get-target.ensures c.as_slice-args.ensures) (c.called_of_value.ensures _ _ (sym c.in-None.ensures) (record { typing = c.in_ok-value-in-None.ensures.typing; worth = c.in_ok-value-in-None.ensures.worth }) (record { typings = c.in_ok-typed-in-None.ensures })) in
    record { typing = h.typing; worth = h.worth }

pub dot-returns-in-Some : goal.dot-returns-in-Some
dot-returns-in-Some t c = c.field_of_type.ensures _ (sym c.in-Some.ensures)

pub dot-returns-in_ok-value-in-None : goal.dot-returns-in_ok-value-in-None
dot-returns-in_ok-value-in-None t c = c.field_of_value.ensures _ (sym c.in-None.ensures) (record { typing = c.in_ok-value-in-None.ensures.typing; worth = c.in_ok-value-in-None.ensures.worth })

pub dot-returns-in_err-value-in-None : goal.dot-returns-in_err-value-in-None
dot-returns-in_err-value-in-None t c = dot-target _ _ _ _ _ _ _ (sym c.in-None.ensures) (ended _ c.in_err-value-in-None.field-0.0 c.from_residual.ensures) c.in_err-value-in-None.ensures.typing

pub dot_place-returns-in-Some : goal.dot_place-returns-in-Some
dot_place-returns-in-Some t c = c.place_of_type.ensures _ (sym c.in-Some.ensures)

pub dot_place-returns-in_ok-value-in-None : goal.dot_place-returns-in_ok-value-in-None
dot_place-returns-in_ok-value-in-None t c = c.place_of_value.ensures _ (sym c.in-None.ensures) c.way_behind.ensures (record { typing = c.in_ok-value-in-None.ensures.typing; worth = c.in_ok-value-in-None.ensures.worth })

pub dot_place-returns-in_err-value-in-None : goal.dot_place-returns-in_err-value-in-None
dot_place-returns-in_err-value-in-None t c = dot_place-target _ _ _ _ _ _ _ (sym c.in-None.ensures) (ended _ c.in_err-value-in-None.field-0.0 c.from_residual.ensures) c.in_err-value-in-None.ensures.typing

pub place-returns-in-Name : goal.place-returns-in-Name
place-returns-in-Name t c = moved_place _ _ _ _ _ (node-Name _ _ _ c.in-Name.is) c.simple_place.ensures

pub place-returns-in-Dot : goal.place-returns-in-Dot
place-returns-in-Dot t c = moved_place _ _ _ _ _ (node-Dot _ _ _ _ _ c.in-Dot.is c.get.ensures) c.dot_place.ensures

pub place-returns-in-SuperField : goal.place-returns-in-SuperField
place-returns-in-SuperField t c = moved_place _ _ _ _ _ (node-SuperField _ _ _ c.in-SuperField.is) c.super_place.ensures

pub place-returns-in_err-array-in-Elem : goal.place-returns-in_err-array-in-Elem
place-returns-in_err-array-in-Elem t c = moved_place _ _ _ _ _ (node-Elem _ _ _ _ _ _ c.in-Elem.is c.get-in-Elem.ensures refl) (element_place-array _ _ _ _ _ _ _ (ended _ c.in_err-array-in-Elem.field-0.0 c.from_residual.ensures) c.in_err-array-in-Elem.ensures.typing)

pub place-returns-in_err-index-in-Elem : goal.place-returns-in_err-index-in-Elem
place-returns-in_err-index-in-Elem t c = moved_place _ _ _ _ _ (node-Elem _ _ _ _ _ _ c.in-Elem.is c.get-in-Elem.ensures c.get-in-Elem-2.ensures) (element_place-index _ _ _ _ _ _ _ _ (record { typing = c.in_ok-array-in-Elem.ensures.typing; worth = c.in_ok-array-in-Elem.ensures.worth }) (ended _ c.in_err-index-in-Elem.field-0.0 c.from_residual-in_err-index-in-Elem.ensures) c.in_err-index-in-Elem.ensures.typing)

pub place-returns-in_ok-index-in-Elem : goal.place-returns-in_ok-index-in-Elem
place-returns-in_ok-index-in-Elem t c = moved_place _ _ _ _ _ (node-Elem _ _ _ _ _ _ c.in-Elem.is c.get-in-Elem.ensures c.get-in-Elem-2.ensures) (element_place_types _ _ _ _ _ _ _ _ (record { typing = c.in_ok-array-in-Elem.ensures.typing; worth = c.in_ok-array-in-Elem.ensures.worth }) (record { typing = c.in_ok-index-in-Elem.ensures.typing; worth = c.in_ok-index-in-Elem.ensures.worth }) (record { places = c.element_place.ensures }))

pub signed-returns-then-spells_least : goal.signed-returns-then-spells_least
signed-returns-then-spells_least t c = least_types _ _ _ _ _ _ (sym c.spells_least.ensures ∙ c.if-spells_least.true) (record { judges = c.least.ensures })

pub signed-returns-in_err-part : goal.signed-returns-in_err-part
signed-returns-in_err-part t c = unary-part _ _ _ _ _ _ _ (sym c.spells_least.ensures ∙ c.if-spells_least.false) (ended _ c.in_err-part.field-0.0 c.from_residual.ensures) c.in_err-part.ensures.typing

pub signed-returns : goal.signed-returns
signed-returns t c = unary_types _ _ _ _ _ _ _ (sym c.spells_least.ensures ∙ c.if-spells_least.false) (record { typing = c.in_ok-part.ensures.typing; worth = c.in_ok-part.ensures.worth }) (record { judges = c.unary.ensures })

pub arguments-loop-argument-init : goal.arguments-loop-argument-init
arguments-loop-argument-init t c = far_begin _ _ _ _ c.new-typed.ensures

pub arguments-loop-argument-preserved : goal.arguments-loop-argument-preserved
arguments-loop-argument-preserved t c = far_more _ _ _ _ _ _ _ _ c.loop-argument-test.true c.argument-item.is c.in_ok-one.ensures.typing c.in_ok-push.ensures.ok c.loop-argument.invariant

pub arguments-returns : goal.arguments-returns
arguments-returns t c = far_done _ _ _ _ _ c.loop-argument-test.false c.loop-argument.invariant

pub arguments-returns-in_err-one : goal.arguments-returns-in_err-one
arguments-returns-in_err-one t c = far_stops _ _ _ _ _ _ _ _ c.loop-argument-test.true c.argument-item.is (ended _ c.in_err-one.field-0.0 c.from_residual.ensures) c.in_err-one.ensures.typing c.loop-argument.invariant
