use Rattle.bcj_typing_variable.proofs.Contexts as context
use Rattle.bcj_typing_variable.proofs.fields_become_what_the_rules_say.Goals as goal

pub returns-clause-own_field : goal.returns-clause-own_field
returns-clause-own_field c = context.own-typing-is

pub returns-clause-own_place : goal.returns-clause-own_place
returns-clause-own_place c = context.own-placing-is

pub returns-clause-type_place : goal.returns-clause-type_place
returns-clause-type_place c = context.type-placing-is

pub returns-clause-behind_place : goal.returns-clause-behind_place
returns-clause-behind_place c = context.behind-placing-is

pub returns-clause-super_field : goal.returns-clause-super_field
returns-clause-super_field c = context.super-typing-is

pub returns-clause-super_place : goal.returns-clause-super_place
returns-clause-super_place c = context.super-placing-is
