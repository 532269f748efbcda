-- The last token of some.
use Rattle.std.proofs.Common.{◌≡◌, suc, ◌-◌, ◌≤◌, [], ◌∷◌, length, slice_index_or, ap, ◌∙◌, arith}
use Rattle.bcj_parser_rules.specs.Lexemes.{Lexeme, Lexemes}
use Rattle.bcj_parser_rules.specs.LeftOut.{last_terminal}

pub last_is : (i : Lexemes) (t : Lexeme) → 1 ≤ length i → t ≡ slice_index_or i (length i - 1) t → t.terminal ≡ last_terminal i
last_is [] t h e = absurd (omega arith)
last_is (u ∷ []) t h e = ap (λ x. x.terminal) e
last_is (u ∷ v ∷ r) t h e =
    let z : length (u ∷ v ∷ r) - 1 ≡ suc (length (v ∷ r) - 1) = omega arith in
    last_is (v ∷ r) t (omega arith) (e ∙ ap (λ n. slice_index_or (u ∷ v ∷ r) n t) z)
