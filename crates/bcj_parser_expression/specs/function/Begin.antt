-- Where the reading of an expression begins, in plain form.
use Rattle.bcj_parser_rules.specs.function.Expressions as rule
use Rattle.bcj_parser_expression.specs.declared.begin.Begin.{Begin}
use Rattle.bcj_parser_expression.specs.declared.begin.Begin.TheVariants as begin

abbrev pub begin_of : Begin → rule.Begin
begin_of begin.Fresh = rule.fresh
begin_of (begin.Name at name) = rule.behind_name at name
begin_of (begin.Bracket at name) = rule.behind_bracket at name
begin_of (begin.This at) = rule.behind_this at
begin_of (begin.Super at) = rule.behind_super at
