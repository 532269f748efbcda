-- What an outcome hangs on: the tokens that were taken and the next one, and the answers that a larger room or limit keeps.
use Rattle.std.specs.Prelude.{◌≡◌, Bool, true, ◌++◌, Result, Ok, Err}
use Rattle.bcj_parser_rules.specs.declared.stop.Stop.{Stop}
use Rattle.bcj_parser_rules.specs.declared.stop.Stop.TheVariants.{TooDeep, TooMany}
use Rattle.bcj_parser_rules.specs.Lexemes.{Lexemes}
use Rattle.bcj_parser_rules.specs.function.Steps.{Outcome, Parser}
use Rattle.bcj_parser_rules.specs.Texts.{SameFirst}

-- every stop, but `too deep` only where the rooms are the same, and `too many` only where the limits are
abbrev pub KeptStop : Bool → Bool → Stop → Type 0
KeptStop strict full TooDeep = strict ≡ true
KeptStop strict full TooMany = full ≡ true
KeptStop strict full _ = Unit {0}

abbrev pub Kept : {A : Type 0} → Bool → Bool → Result A Stop → Type 0
Kept strict full (Ok x) = Unit {0}
Kept strict full (Err e) = KeptStop strict full e

-- the tokens before the rest, and what holds of them in front of any tokens that begin as the rest does
pub record Knows {A : Type 0} (strict full : Bool) (Q : Lexemes → Outcome A → Type 0) (i : Lexemes) (o : Outcome A) : Type 0 where
  pub before : Lexemes
  pub whole : i ≡ before ++ o.1
  pub same : (b : Lexemes) → SameFirst o.1 b → Kept strict full o.0 → Q (before ++ b) (o.0, b)

-- the second parser answers as the first does, wherever the tokens that this takes and the next one stand
abbrev pub Agrees : {A : Type 0} → Bool → Bool → Parser A → Parser A → Type 0
Agrees strict full p q = (i : Lexemes) → Knows strict full (λ j o. q j ≡ o) i (p i)
