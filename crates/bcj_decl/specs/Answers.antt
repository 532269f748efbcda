-- What a refusal says.
use Rattle.std.specs.Prelude.{ℕ, List, Option, None, Some, MatchOption}
use Rattle.bcj_parser_trees.specs.Trees.{PlainUnit}
use Rattle.bcj_decl_rules.specs.Faults as rules
use Rattle.bcj_decl.specs.declared.stop.Place.{Place}
use Rattle.bcj_decl.specs.declared.stop.DeclStop.{DeclStop}
use Rattle.bcj_decl.specs.declared.stop.DeclStop.TheVariants as stop

abbrev pub place_of : Place → rules.Place
place_of p = record { file = p.file; at = p.at }

-- a fault with its place
pub record Told : Type 0 where
  pub place : rules.Place
  pub refusal : rules.Refusal

abbrev pub told : Place → rules.Refusal → Option Told
told p r = Some (record { place = place_of p; refusal = r })

-- the fault that a refusal tells; want of memory tells none
abbrev pub told_by : DeclStop → Option Told
told_by (stop.Duplicate name at) = told at (rules.duplicate name)
told_by (stop.Unknown name at) = told at (rules.unknown name)
told_by (stop.BadHierarchy at) = told at rules.bad_hierarchy
told_by (stop.BadMember at) = told at rules.bad_member
told_by stop.NoMemory = None

-- a refusal tells the first fault of the units, but for want of memory
abbrev pub IsCause : List PlainUnit → DeclStop → Type 0
IsCause units s = MatchOption (told_by s) (Unit {0}) (λ t. rules.IsFirstFault units t.place t.refusal)
