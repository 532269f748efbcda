use Rattle.std.proofs.Common.{◌≡◌, take}
use Rattle.std.specs.Option.{option_copied, option_map}
use Rattle.bcj_typing_node.specs.Forms.{local_of, locals_of}
use Rattle.bcj_typing_rules.specs.Context.{local_named}
use Rattle.bcj_typing_scope.proofs.local.local_named.Given as goal

abbrev pub invariant-loop-variable : goal.invariant-loop-variable
invariant-loop-variable l =
    option_map local_of (option_copied l.found) ≡ local_named (locals_of (take l.variable-index l.locals)) l.name
