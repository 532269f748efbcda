-- Fields by number.
use Rattle.std.specs.Prelude.{◌≡◌, ℕ, ◌+◌, List, [], ◌∷◌, map, length, Option, None, Some, slice_get, if◌then◌else◌}
use Rattle.std.specs.Option.{option_and_then, option_map_or}
use Rattle.bcj_parser_trees.specs.Trees.{PlainOption, absent, present}
use Rattle.bcj_decl_rules.specs.declared.value.Value.{Value}
use Rattle.bcj_decl_rules.specs.World.{Field, World}
use Rattle.bcj_decl_rules.specs.function.Constants.{Known, initial_value}
use Rattle.bcj_decl_constants.specs.Needs.{fields_in, known_in, needs}

-- the field at a place and a position
abbrev pub field_at : World → ℕ → ℕ → Option Field
field_at w place position = option_and_then (λ t. slice_get t.fields position) (slice_get w place)

-- the number of the first field of each type, counted from a number
abbrev pub offsets_from : ℕ → World → List ℕ
offsets_from n [] = []
offsets_from n (t ∷ ts) = n ∷ offsets_from (n + length t.fields) ts

-- no field of the list is another's double
abbrev pub EachOnce : List Field → Type 0
EachOnce fields = (m n : ℕ) (f : Field) → slice_get fields m ≡ Some f → slice_get fields n ≡ Some f → m ≡ n

-- what numbers mean
abbrev pub meant : World → List ℕ → List (Option Field)
meant w numbers = map (slice_get (fields_in w)) numbers

-- the fields that a field needs with an initialiser, and those that the field of a number needs
abbrev pub needs_with : World → Field → PlainOption → List Field
needs_with w f absent = []
needs_with w f (present e) = if f.is_final then needs w f.class e else []

abbrev pub needs_of : World → List PlainOption → ℕ → List Field
needs_of w inits n = option_map_or (λ f. option_map_or (needs_with w f) (slice_get inits n) []) (slice_get (fields_in w) n) []

-- what a field with an initialiser is worth by the values that are known
abbrev pub worth_of : World → Known → Field → PlainOption → Option Value
worth_of w known f init = if f.is_final then initial_value w known f init else None

-- the same of the field of a number
abbrev pub worth : World → List PlainOption → List (Option Value) → ℕ → Option Value
worth w inits values n = option_and_then (λ f. option_and_then (worth_of w (known_in (fields_in w) values) f) (slice_get inits n)) (slice_get (fields_in w) n)

-- the number of a field that is there
abbrev pub IsNumberOf : World → Option Field → Option ℕ → Type 0
IsNumberOf w None n = n ≡ None
IsNumberOf w (Some f) None = ⊥
IsNumberOf w (Some f) (Some n) = slice_get (fields_in w) n ≡ Some f

-- the value at a number, if one is known
abbrev pub value_of_number : List (Option Value) → ℕ → Option Value
value_of_number values n = option_and_then (λ o. o) (slice_get values n)
