-- What calls take, by address.
use Rattle.std.specs.Prelude.{ℕ, Option, None, Some, Result, Ok, Err}
use Rattle.bcj_hier_rules.specs.declared.link_error.LinkError.{LinkError}
use Rattle.bcj_hier_rules.specs.Shapes.{Named}
use Rattle.bcj_hier_rules.specs.Resolution.{FoundMethod}
use Rattle.bcj_layout_rules.specs.Rows.{Classes}
use Rattle.bcj_layout_rules.specs.Entries.{address_of_method}

-- the address of a method where there is one
abbrev pub address_if : Classes → Named → Result FoundMethod LinkError → Option ℕ
address_if cs main (Ok f) = Some (address_of_method cs main f)
address_if cs main (Err e) = None
