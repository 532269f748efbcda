-- Initialisers by one member.
use Rattle.std.specs.Prelude.{Bool, Option, None, Some, if◌then◌else◌}
use Rattle.std.specs.Str.{bytes_eq}
use Rattle.bcj_parser_trees.specs.Trees.{PlainMember, field_member}
use Rattle.bcj_decl_rules.specs.World.{Named}
use Rattle.bcj_typing_rules.specs.Context.{is_absent}

-- whether a member that declares the field has no initialiser
abbrev pub blank_there : Named → PlainMember → Option Bool
blank_there name (field_member at mods ty other init) = if bytes_eq other name then Some (is_absent init) else None
blank_there name _ = None
