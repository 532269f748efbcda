-- The variables of a declaration, in plain form.
use Rattle.bcj_parser_trees.specs.Plain.{option_of}
use Rattle.bcj_parser_rules.specs.Grammar as grammar
use Rattle.bcj_parser_statement.specs.declared.variable.Variable.{Variable}

abbrev pub variable_of : Variable → grammar.Variable
variable_of v = record { name = v.name; init = option_of v.init }
