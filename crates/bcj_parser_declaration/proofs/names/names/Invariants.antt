use Rattle.std.proofs.Common.{◌≡◌, ◌-◌}
use Rattle.bcj_parser_rules.specs.declared.stop.Site.TheVariants as site
use Rattle.bcj_parser_rules.specs.function.Expressions.{separated}
use Rattle.bcj_parser_rules.specs.function.Declarations.{one_name}
use Rattle.bcj_parser_declaration.proofs.Lists.{name_list}
use Rattle.bcj_parser_declaration.proofs.names.names.Given as goal

abbrev pub invariant-loop-turn : goal.invariant-loop-turn
invariant-loop-turn l = name_list l.fn.cursor ≡ separated (one_name site.Elsewhere) (l._turn-end - l._turn) l.found.items 0 l.cursor
