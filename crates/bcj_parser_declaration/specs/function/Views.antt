-- What is read of declarations, in plain form.
use Rattle.std.specs.Prelude.{ℕ, suc, List, max, map}
use Rattle.bcj_parser_trees.specs.declared.names.TypeName.{TypeName}
use Rattle.bcj_parser_trees.specs.declared.names.Mods.{Mods}
use Rattle.bcj_parser_trees.specs.Plain.{stmt_of, first_of_constructor}
use Rattle.bcj_parser_rules.specs.declared.stop.Site.TheVariants as site
use Rattle.bcj_parser_rules.specs.function.Steps.{Parser, ◌>>=◌, pure}
use Rattle.bcj_parser_rules.specs.function.Expressions.{expression}
use Rattle.bcj_parser_rules.specs.function.Statements.{variables_behind}
use Rattle.bcj_parser_rules.specs.function.Declarations as rule
use Rattle.bcj_parser_declaration.specs.declared.body.Body.{Body}

abbrev pub body_of : Body → rule.Body
body_of b = record { first = first_of_constructor b.first; first_high = b.first_high; statements = map stmt_of b.statements.items; high = b.high }

-- the fields behind the type and the name of the first one
abbrev pub fields_behind : ℕ → ℕ → Mods → TypeName → List ℕ → Parser rule.Members
fields_behind r at mods ty x = variables_behind (expression (suc r)) site.DeclaredName x >>= λ vs. pure (rule.field_nodes at mods ty vs.0, suc (max ty.dims vs.1))
