-- The value at a field's number is what is known of the field.
use Rattle.std.proofs.Common.{◌≡◌, ◌<◌, ℕ, List, length, Option, Some, None, refl, sym, ◌∙◌, ap, arith, slice_get, get_or}
use Rattle.std.proofs.lemmas.Option.{slice_get_within, slice_get-get_or}
use Rattle.std.specs.Option.{option_and_then}
use Rattle.bcj_decl_rules.specs.declared.value.Value.{Value}
use Rattle.bcj_decl_rules.specs.World.{Field, World}
use Rattle.bcj_decl_rules.specs.function.Constants.{value_of_field}
use Rattle.bcj_decl_constants.specs.Needs.{fields_in, known_in}
use Rattle.bcj_decl_constants.specs.Numbers.{EachOnce, IsNumberOf, value_of_number}
use Rattle.bcj_decl_constants.proofs.Tables.{known_is}

pub value_of_none : (w : World) (values : List (Option Value)) (o : Option Field) → IsNumberOf w o None → None ≡ value_of_field (known_in (fields_in w) values) o
value_of_none w values None h = refl
value_of_none w values (Some f) h = absurd h

pub value_of_number_is : (w : World) (values : List (Option Value)) (o : Option Field) (n : ℕ) → EachOnce (fields_in w) → length values ≡ length (fields_in w) → IsNumberOf w o (Some n)
    → value_of_number values n ≡ value_of_field (known_in (fields_in w) values) o
value_of_number_is w values None n once e h = absurd (cc)
value_of_number_is w values (Some f) n once e h =
    let below : n < length (fields_in w) = slice_get_within (fields_in w) n f h in
    let within : n < length values = omega arith in
    let got : slice_get values n ≡ Some (get_or values n None) = slice_get-get_or values n None within in
    ap (option_and_then (λ o. o)) got ∙ sym (known_is (fields_in w) values n f (get_or values n None) once h got)
