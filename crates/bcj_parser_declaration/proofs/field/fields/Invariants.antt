use Rattle.std.proofs.Common.{◌≡◌, ◌++◌, length, map}
use Rattle.std.specs.Vec.Iter.{into_iter_items, into_iter_len}
use Rattle.bcj_parser_trees.specs.Plain.{member_of}
use Rattle.bcj_parser_rules.specs.function.Declarations as rule
use Rattle.bcj_parser_statement.specs.function.Variables.{variable_of}
use Rattle.bcj_parser_declaration.proofs.field.fields.Given as goal

abbrev pub invariant-loop-variable : goal.invariant-loop-variable
invariant-loop-variable l = (map member_of l.found.items ++ rule.field_nodes l.at l.mods l.ty (map variable_of (into_iter_items l.variable-iterator)) ≡ rule.field_nodes l.at l.mods l.ty (map variable_of l.fn.variables.items))
    × (into_iter_len l.variable-iterator ≡ length (into_iter_items l.variable-iterator))
