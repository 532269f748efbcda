-- The separators and operators
use Rattle.std.specs.Prelude.{List, [], ◌∷◌, codes}
use Rattle.bcj_lexer.specs.Bytes.{Text}

-- JLS 3.11, and `...` and `@`, which JLS 8.4.1 and 9.7 use
unfoldable pub separators : List Text
separators =
    codes "(" ∷ codes ")" ∷ codes "{" ∷ codes "}" ∷ codes "[" ∷ codes "]" ∷ codes ";" ∷ codes "," ∷ codes "." ∷ codes "..." ∷ codes "@" ∷ []

-- JLS 3.12
unfoldable pub operators : List Text
operators =
    codes "=" ∷ codes ">" ∷ codes "<" ∷ codes "!" ∷ codes "~" ∷ codes "?" ∷ codes ":" ∷ codes "==" ∷ codes "<=" ∷ codes ">=" ∷ codes "!=" ∷ codes "&&" ∷ codes "||" ∷ codes "++" ∷ codes "--"
    ∷ codes "+" ∷ codes "-" ∷ codes "*" ∷ codes "/" ∷ codes "&" ∷ codes "|" ∷ codes "^" ∷ codes "%" ∷ codes "<<" ∷ codes ">>" ∷ codes ">>>"
    ∷ codes "+=" ∷ codes "-=" ∷ codes "*=" ∷ codes "/=" ∷ codes "&=" ∷ codes "|=" ∷ codes "^=" ∷ codes "%=" ∷ codes "<<=" ∷ codes ">>=" ∷ codes ">>>=" ∷ []

-- the word is one of the list
pub data Among : List Text → Text → Type 0 where
  here : {w : Text} {ws : List Text} → Among (w ∷ ws) w
  later : {v w : Text} {ws : List Text} → Among ws w → Among (v ∷ ws) w
