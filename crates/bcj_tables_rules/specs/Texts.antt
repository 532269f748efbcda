-- Names of members, and descriptors of types and methods as texts (JVMS 4.3.2, 4.3.3).
use Rattle.std.specs.Prelude.{◌≡◌, ℕ, zero, suc, ◌+◌, List, [], ◌∷◌, length, take, drop, Bool, true, false, ◌&&◌, ◌||◌, ◌==◌, nat_lt, Option, Some, None, codes, refl, if◌then◌else◌}
use Rattle.std.specs.Option.{option_map_or, option_and_then}
use Rattle.std.specs.Str.{bytes_eq}
use Rattle.bcj_names.specs.Identifiers.{is_identifier}
use Rattle.bcj_symbolic_trees.specs.Names.{constructor_name, class_initialiser_name}

abbrev pub is_empty : List ℕ → Bool
is_empty [] = true
is_empty (b ∷ text) = false

-- an identifier, or the name of constructors or class initialisers
abbrev pub is_member_name : List ℕ → Bool
is_member_name name = is_identifier name || bytes_eq name constructor_name || bytes_eq name class_initialiser_name

-- behind the brackets at the front, n at most
unfoldable pub behind_brackets : ℕ → List ℕ → List ℕ
behind_brackets zero text = text
behind_brackets (suc n) [] = []
behind_brackets (suc n) (b ∷ text) = if b == 91 then behind_brackets n text else b ∷ text

-- the bytes before the first semicolon
unfoldable pub semicolon_at : List ℕ → ℕ
semicolon_at [] = 0
semicolon_at (b ∷ text) = if b == 59 then 0 else suc (semicolon_at text)

-- behind a class's name and its semicolon
unfoldable pub behind_name : List ℕ → Option (List ℕ)
behind_name text =
    if nat_lt (semicolon_at text) (length text) && is_identifier (take (semicolon_at text) text) then Some (drop (semicolon_at text + 1) text) else None

-- behind `I`, `Z` or `LNAME;`
unfoldable pub behind_element : List ℕ → Option (List ℕ)
behind_element [] = None
behind_element (b ∷ text) = if b == 73 || b == 90 then Some text else (if b == 76 then behind_name text else None)

-- behind the descriptor of a type, which has 255 dimensions at most
unfoldable pub behind_type : List ℕ → Option (List ℕ)
behind_type text = behind_element (behind_brackets 255 text)

-- the descriptor of a type
unfoldable pub is_type : List ℕ → Bool
is_type text = option_map_or is_empty (behind_type text) false

-- that of a class, `LNAME;`
unfoldable pub is_class_type : List ℕ → Bool
is_class_type [] = false
is_class_type (b ∷ text) = if b == 76 then is_type (b ∷ text) else false

-- that of an array
unfoldable pub is_array_type : List ℕ → Bool
is_array_type [] = false
is_array_type (b ∷ text) = if b == 91 then is_type (b ∷ text) else false

-- that of a result: a type or `V`
unfoldable pub is_result : List ℕ → Bool
is_result text = bytes_eq text (codes "V") || is_type text

-- behind the parameters and the parenthesis that ends them, in n turns
unfoldable pub behind_parameters : ℕ → List ℕ → Option (List ℕ)
behind_parameters zero text = None
behind_parameters (suc n) [] = None
behind_parameters (suc n) (b ∷ text) = if b == 41 then Some text else option_and_then (behind_parameters n) (behind_type (b ∷ text))

-- the descriptor of a method
unfoldable pub is_method_descriptor : List ℕ → Bool
is_method_descriptor [] = false
is_method_descriptor (b ∷ text) = if b == 40 then option_map_or is_result (behind_parameters (length text) text) false else false

pub mixed_row : is_method_descriptor (codes "(IZLA;[[LB;)[[I") ≡ true
unfolding is_method_descriptor behind_parameters behind_type behind_element behind_name behind_brackets semicolon_at is_result is_type is_identifier Rattle.bcj_names.specs.Identifiers.is_reserved Rattle.bcj_names.specs.Identifiers.reserved_words
mixed_row = refl

pub void_row : is_type (codes "V") ≡ false
unfolding is_type behind_type behind_element behind_brackets
void_row = refl
