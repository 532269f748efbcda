-- What the world of units answers to typing, as functions.
use Rattle.std.specs.Prelude.{ℕ, zero, suc, Bool, true, false, not, ◌&&◌, ◌||◌, List, [], ◌∷◌, length, Option, None, Some, if◌then◌else◌}
use Rattle.std.specs.List.{list_any, list_all, find}
use Rattle.std.specs.Str.{bytes_eq}
use Rattle.bcj_parser_trees.specs.Trees.{PlainUnit}
use Rattle.bcj_symbolic_trees.specs.Types.{PlainTy, PlainArg}
use Rattle.bcj_decl_rules.specs.World.{Named, Method, World, world_of}
use Rattle.bcj_decl_rules.specs.Methods.{Choice, one, none_applies, ambiguous, candidates}
use Rattle.bcj_decl_rules.specs.function.Constants.{Known, field_value}
use Rattle.bcj_decl_constants.specs.Needs.{fields_in}
use Rattle.bcj_decl_fields.specs.Searches.{is_subtype, does_fit}
use Rattle.bcj_typing_rules.specs.function.Expressions.{Answers}

-- ---- the method that a call takes

-- each argument fits its parameter, and there are as many
abbrev pub each_fits : World → List PlainArg → List PlainTy → Bool
each_fits w [] [] = true
each_fits w (a ∷ args) (t ∷ params) = does_fit w a t && each_fits w args params
each_fits w _ _ = false

abbrev pub each_is_subtype : World → List PlainTy → List PlainTy → Bool
each_is_subtype w [] [] = true
each_is_subtype w (s ∷ ss) (t ∷ ts) = is_subtype w s t && each_is_subtype w ss ts
each_is_subtype w _ _ = false

-- a private method applies in its own type alone
abbrev pub does_apply : World → Named → List PlainArg → Method → Bool
does_apply w from args m = (not m.is_private || bytes_eq m.class from) && each_fits w args m.params

-- it applies, and is as specific as each of these that does
abbrev pub is_most_specific : World → Named → List PlainArg → List Method → Method → Bool
is_most_specific w from args all m =
    does_apply w from args m && list_all (λ n. not (does_apply w from args n) || each_is_subtype w m.params n.params) all

-- the method that was found; where none was, it tells whether any applies
abbrev pub chosen_or : Bool → Option Method → Choice
chosen_or applies (Some m) = one m
chosen_or applies None = if applies then ambiguous else none_applies

-- the first that is most specific
abbrev pub chosen_of : World → Named → List PlainArg → List Method → Choice
chosen_of w from args all = chosen_or (list_any (does_apply w from args) all) (find (is_most_specific w from args all) all)

-- ---- the values of constant fields

-- what is known of fields after a number of rounds, each of which works out all values by those of the round before
abbrev pub known_after : List PlainUnit → ℕ → Known
known_after units zero f = None
known_after units (suc n) f = field_value units (known_after units n) f

-- a constant hangs on no more fields, one through the other, than the world has
unfoldable pub constant_of : List PlainUnit → Known
constant_of units = known_after units (suc (length (fields_in (world_of units))))

-- ---- all of them

unfoldable pub answers_of : List PlainUnit → Answers
answers_of units =
    record {
      subtype = is_subtype (world_of units);
      choose = λ from class name args. chosen_of (world_of units) from args (candidates (world_of units) class name);
      constant = constant_of units;
    }
