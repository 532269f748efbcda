-- The plain form of what a name is looked up in.
use Rattle.bcj_typing_rules.specs.Expressions as rules
use Rattle.bcj_typing_expression.specs.declared.members.Member.{Member}
use Rattle.bcj_typing_expression.specs.declared.members.Member.TheVariants as member

abbrev pub member_form : Member → rules.MemberOf
member_form member.Length = rules.array_size
member_form (member.OfClass class) = rules.of_class class
member_form member.Nothing = rules.no_member
