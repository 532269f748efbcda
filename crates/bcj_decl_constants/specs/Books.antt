-- The fields of a world with what is known of each before any value is.
use Rattle.std.specs.Prelude.{◌≡◌, ℕ, List, map, length, Option, None, Some}
use denote.Ref.{Bor}
use Rattle.bcj_parser_trees.specs.declared.expression.Expr.{Expr}
use Rattle.bcj_parser_trees.specs.Trees.{PlainOption, absent, present, PlainUnit}
use Rattle.bcj_parser_trees.specs.Plain.{expr_of}
use Rattle.bcj_decl_rules.specs.World.{World, world_of}
use Rattle.bcj_decl_table.specs.Views.{field_of_info}
use Rattle.bcj_decl_constants.specs.Initials.{initials_in}
use Rattle.bcj_decl_constants.specs.Needs.{fields_in}
use Rattle.bcj_decl_constants.specs.Numbers.{EachOnce, offsets_from, meant, needs_of, worth}
use Rattle.bcj_decl_constants.specs.Waiting.{Worth, list_at, State}
use Rattle.bcj_decl_constants.specs.declared.book.Book.{Book}
use Rattle.bcj_decl_constants.specs.declared.work.Work.{Work}

-- a written initialiser
abbrev pub initial_of : Option (Bor Expr) → PlainOption
initial_of None = absent
initial_of (Some r) = present (expr_of r.now)

abbrev pub initials : Book → List PlainOption
initials b = map initial_of b.initialisers.items

pub record IsBook (w : World) (b : Book) : Type 0 where
  pub offsets : b.offsets.items ≡ offsets_from 0 w
  pub fields : map (λ r. field_of_info r.now) b.fields.items ≡ fields_in w
  pub once : EachOnce (fields_in w)
  pub inits : length b.initialisers.items ≡ length (fields_in w)
  pub needs : length b.needs.items ≡ length (fields_in w)
  pub means : (n : ℕ) → meant w (list_at b.needs.items n) ≡ map Some (needs_of w (initials b) n)

abbrev pub worth_in : World → Book → Worth
worth_in w b = worth w (initials b)

abbrev pub state_of : Work → State
state_of work = record { values = work.values.items; waiting = work.waiting.items; found = work.found.items }

-- that of units, with their initialisers
pub record IsBookOf (units : List PlainUnit) (b : Book) : Type 0 where
  pub book : IsBook (world_of units) b
  pub written : initials b ≡ initials_in units
