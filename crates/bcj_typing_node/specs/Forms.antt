-- The plain form of answers.
use Rattle.std.specs.Prelude.{ℤ, pos, List, map, not, Option, None, Some, reverse}
use Rattle.std.specs.Ordering.{int_eq}
use Rattle.bcj_symbolic_trees.specs.Types.{PlainTy, int_type, bool_type, ty_of}
use Rattle.bcj_decl_rules.specs.declared.value.Value.{Value}
use Rattle.bcj_decl_rules.specs.declared.value.Value.TheVariants as value
use Rattle.bcj_decl_rules.specs.Methods as rules
use Rattle.bcj_decl_table.specs.declared.info.FieldInfo.{FieldInfo}
use Rattle.bcj_decl_table.specs.Views.{field_of_info, method_of_info}
use Rattle.bcj_typing_rules.specs.Context as context
use Rattle.bcj_typing_rules.specs.Casting as casting
use Rattle.bcj_typing_node.specs.declared.form.CastForm.{CastForm}
use Rattle.bcj_typing_node.specs.declared.form.CastForm.TheVariants as cast_form
use Rattle.bcj_typing_node.specs.declared.form.Join.{Join}
use Rattle.bcj_typing_node.specs.declared.form.Join.TheVariants as join
use Rattle.bcj_typing_node.specs.declared.form.Finals.{Finals}
use Rattle.bcj_typing_node.specs.declared.form.Finals.TheVariants as finals
use Rattle.bcj_typing_node.specs.declared.form.Way.{Way}
use Rattle.bcj_typing_node.specs.declared.form.Way.TheVariants as way
use Rattle.bcj_typing_node.specs.declared.form.Variable.{Variable}
use Rattle.bcj_typing_node.specs.declared.form.Meaning.{Meaning}
use Rattle.bcj_typing_node.specs.declared.form.Meaning.TheVariants as meaning
use Rattle.bcj_typing_node.specs.declared.form.Chosen.{Chosen}
use Rattle.bcj_typing_node.specs.declared.form.Chosen.TheVariants as chosen

abbrev pub cast_form_of : CastForm → casting.CastForm
cast_form_of cast_form.Same = casting.of_same
cast_form_of cast_form.Supertype = casting.of_supertype
cast_form_of cast_form.Other = casting.of_other
cast_form_of cast_form.Not = casting.no_cast

abbrev pub join_of : Join → casting.Join
join_of join.Second = casting.to_second
join_of join.First = casting.to_first
join_of join.Apart = casting.apart

abbrev pub finals_of : Finals → context.Finals
finals_of finals.Not = context.no_finals
finals_of finals.Instance = context.instance_finals
finals_of finals.Static = context.static_finals

abbrev pub way_of : Way → context.Way
way_of way.Name = context.by_name
way_of way.This = context.by_this
way_of way.Other = context.otherwise

abbrev pub local_of : Variable → context.Local
local_of v = record { name = v.name; ty = ty_of v.ty; number = v.number }

-- the innermost first
abbrev pub locals_of : List Variable → List context.Local
locals_of vs = map local_of (reverse vs)

abbrev pub meaning_of : Meaning → context.Meaning
meaning_of (meaning.Local v) = context.a_local (local_of v.now)
meaning_of (meaning.Field f) = context.a_field (field_of_info f.now)
meaning_of meaning.Nothing = context.no_variable

abbrev pub choice_of : Chosen → rules.Choice
choice_of (chosen.One m) = rules.one (method_of_info m.now)
choice_of chosen.NoneApplies = rules.none_applies
choice_of chosen.Ambiguous = rules.ambiguous

-- the value that a number stands for as one of a type
abbrev pub value_for : PlainTy → Option ℤ → Option Value
value_for int_type (Some n) = Some (value.Int n)
value_for bool_type (Some n) = Some (value.Bool (not (int_eq n (pos 0))))
value_for _ _ = None

-- the value of a field as a constant variable
abbrev pub worth_of : FieldInfo → Option Value
worth_of f = value_for (ty_of f.ty) f.constant
