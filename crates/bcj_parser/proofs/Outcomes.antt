-- What the answer of the parser as a function says of the text
use Rattle.std.proofs.Common.{◌≡◌, ℕ, ◌-◌, ◌≤◌, false, List, ◌++◌, length, take, Option, Some, None, Ok, Err, Result, IfOk, refl, sym, ◌∙◌, ap, subst, arith, length-append}
use Rattle.std.specs.Result.{IfErr}
use Rattle.std.proofs.Math.Seq.{take-append_seam}
use Rattle.bcj_lexer.specs.declared.Token.{Token}
use Rattle.bcj_parser_trees.specs.declared.unit.Unit as declared
use Rattle.bcj_parser_trees.specs.Trees.{PlainUnit}
use Rattle.bcj_parser_trees.specs.Plain.{unit_of}
use Rattle.bcj_parser_rules.specs.declared.construct.Construct.{Construct}
use Rattle.bcj_parser_rules.specs.declared.stop.Site.{Site}
use Rattle.bcj_parser_rules.specs.declared.stop.Stop.TheVariants as stop
use Rattle.bcj_parser_rules.specs.Lexemes.{Lexemes, lexemes_of}
use Rattle.bcj_parser_rules.specs.Grammar.{derives}
use Rattle.bcj_parser_rules.specs.function.Steps.{Outcome}
use Rattle.bcj_parser_rules.specs.LeftOut.{construct_at}
use Rattle.bcj_parser_rules.specs.Limits.{max_types}
use Rattle.bcj_parser_rules.specs.Texts.{IsUnit, TypesRead, place_of, IsRefused, IsTooDeep, IsTooMany}
use Rattle.bcj_parser_rules.specs.function.Declarations as rule
use Rattle.bcj_parser_rules.specs.function.Declarations.{unit_room}
use Rattle.bcj_parser_soundness.specs.Laws as sound
use Rattle.bcj_parser_soundness.proofs.Units.{unit_sound}
use Rattle.bcj_parser_completeness.proofs.Units.{each_unit_is_read, has_one_unit}
use Rattle.bcj_parser_prefix.proofs.Units.{units_agree, no_unit, too_deep}
use Rattle.bcj_parser.specs.declared.ParseStop.{ParseStop}
use Rattle.bcj_parser.specs.declared.ParseStop.TheVariants.{Syntax, NotInProfile, TooDeep, TooMany, NoMemory}
use Rattle.bcj_parser.specs.Answers.{StopCause}
use Rattle.bcj_parser.specs.function.Answer.{refusal, before, answer_by, answer, Answers}

abbrev unit_or : PlainUnit → Result PlainUnit ParseStop → PlainUnit
unit_or d (Ok u) = u
unit_or d (Err e) = d

abbrev stop_or : ParseStop → Result PlainUnit ParseStop → ParseStop
stop_or d (Ok u) = d
stop_or d (Err e) = e

-- the outcome of all tokens of a text
abbrev Said : Lexemes → Outcome (PlainUnit × ℕ) → Type 0
Said i o = sound.Both (sound.IsWhole unit_room max_types i) (sound.StopShows unit_room max_types i) o

-- ---- a unit

whole_by : (text : List ℕ) (tokens : List Token) (u : PlainUnit) (o : Outcome (PlainUnit × ℕ)) → Said (lexemes_of text tokens) o → answer_by text (lexemes_of text tokens) o ≡ Ok u → IsUnit text tokens u
whole_by text tokens u (Ok p, a) w e = let same = ap (unit_or u) e in record {
  height = p.1;
  derived = subst (λ v. derives text tokens v p.1) same w.derived;
  low = w.low;
  few = subst (λ v. length v ≤ max_types) same w.few;
}
whole_by text tokens u (Err s, a) w e = absurd (cc)

whole : (text : List ℕ) (tokens : List Token) (u : PlainUnit) → answer text (lexemes_of text tokens) ≡ Ok u → IsUnit text tokens u
whole text tokens u e = whole_by text tokens u _ (unit_sound unit_room max_types (lexemes_of text tokens)) e

read_whole : (text : List ℕ) (tokens : List Token) (v : PlainUnit) → IsUnit text tokens v → answer text (lexemes_of text tokens) ≡ Ok v
read_whole text tokens v u = ap (answer_by text (lexemes_of text tokens)) (each_unit_is_read unit_room max_types (lexemes_of text tokens) v u.height u.derived u.low u.few)

no_stop : (o : Result PlainUnit ParseStop) (v : PlainUnit) (e : ParseStop) → o ≡ Ok v → o ≡ Err e → ⊥
no_stop o v e g h = absurd (cc)

pub is_unit : (text : List ℕ) (tokens : List Token) (r : Result declared.Unit ParseStop) → Answers (answer text (lexemes_of text tokens)) r → IfOk r (λ u. IsUnit text tokens (unit_of u))
is_unit text tokens (Ok u) a = whole text tokens (unit_of u) a
is_unit text tokens (Err e) a = tt

pub only_unit : (text : List ℕ) (tokens : List Token) (r : Result declared.Unit ParseStop) → Answers (answer text (lexemes_of text tokens)) r → IfOk r (λ u. (v : PlainUnit) (h : ℕ) → derives text tokens v h → unit_of u ≡ v)
only_unit text tokens (Ok u) a = λ v h d. let w = whole text tokens (unit_of u) a in has_one_unit text tokens (unit_of u) v w.height h w.derived d
only_unit text tokens (Err e) a = tt

pub no_unit_left : (text : List ℕ) (tokens : List Token) (v : PlainUnit) (r : Result declared.Unit ParseStop) → IsUnit text tokens v → Answers (answer text (lexemes_of text tokens)) r → IfErr r (λ e. e ≡ NoMemory)
no_unit_left text tokens v (Ok u) w a = tt
no_unit_left text tokens v (Err NoMemory) w a = refl
no_unit_left text tokens v (Err (Syntax at)) w a = absurd (no_stop _ v _ (read_whole text tokens v w) a)
no_unit_left text tokens v (Err (NotInProfile at x)) w a = absurd (no_stop _ v _ (read_whole text tokens v w) a)
no_unit_left text tokens v (Err (TooDeep at)) w a = absurd (no_stop _ v _ (read_whole text tokens v w) a)
no_unit_left text tokens v (Err (TooMany at)) w a = absurd (no_stop _ v _ (read_whole text tokens v w) a)

-- ---- a stop

before_is : (i b f : Lexemes) → i ≡ b ++ f → before i f ≡ b
before_is i b f e = let n : length (b ++ f) - length f ≡ length b = omega (arith, length-append b f) in ap (λ j. before j f) e ∙ ap (λ n. take n (b ++ f)) n ∙ take-append_seam b f

refused_by : (text : List ℕ) (tokens : List Token) (at : ℕ) (o : Option Construct) → IsRefused text tokens at o → StopCause text tokens (refusal at o)
refused_by text tokens at None r = r
refused_by text tokens at (Some w) r = r

refused : (text : List ℕ) (tokens : List Token) (w : Site) (a : Lexemes) → rule.unit unit_room max_types (lexemes_of text tokens) ≡ (Err (stop.Refused w), a) → IsRefused text tokens (place_of text a) (construct_at w (before (lexemes_of text tokens) a) a)
refused text tokens w a q = let (b, is, bad) = no_unit each_unit_is_read (lexemes_of text tokens) a w q in record {
  before = b;
  from = a;
  whole = is;
  place = refl;
  cause = record {
    bad = bad;
    site = w;
    at = subst (λ j. rule.unit unit_room max_types j ≡ (Err (stop.Refused w), a)) is q;
    named = ap (λ c. construct_at w c a) (sym (before_is (lexemes_of text tokens) b a is));
  };
}

deep : (text : List ℕ) (tokens : List Token) (a : Lexemes) → rule.unit unit_room max_types (lexemes_of text tokens) ≡ (Err stop.TooDeep, a) → IsTooDeep text tokens (place_of text a)
deep text tokens a q = let (b, is, bad) = too_deep each_unit_is_read (lexemes_of text tokens) a q in record { before = b; from = a; whole = is; place = refl; cause = bad }

full : (text : List ℕ) (tokens : List Token) (a : Lexemes) → rule.unit unit_room max_types (lexemes_of text tokens) ≡ (Err stop.TooMany, a) → sound.IsFullAt unit_room max_types (lexemes_of text tokens) a → IsTooMany text tokens (place_of text a)
full text tokens a q s =
    let k = units_agree false false unit_room unit_room max_types max_types (omega arith) (omega arith) (λ e. refl) (λ e. refl) (lexemes_of text tokens) in
    let is = k.whole ∙ ap (λ o. k.before ++ o.1) q in record {
      before = k.before;
      from = a;
      whole = is;
      place = refl;
      cause = record {
        types = s.types;
        height = s.height;
        full = s.full;
        read = subst (λ j. TypesRead j a s.types s.height) is s.read;
        low = s.low;
        next = s.next;
      };
    }

caused_by : (text : List ℕ) (tokens : List Token) (e : ParseStop) (o : Outcome (PlainUnit × ℕ)) → rule.unit unit_room max_types (lexemes_of text tokens) ≡ o → Said (lexemes_of text tokens) o → answer_by text (lexemes_of text tokens) o ≡ Err e → StopCause text tokens e
caused_by text tokens e (Ok p, a) q s h = absurd (cc)
caused_by text tokens e (Err (stop.Refused w), a) q s h = subst (StopCause text tokens) (ap (stop_or e) h) (refused_by text tokens _ _ (refused text tokens w a q))
caused_by text tokens e (Err stop.TooDeep, a) q s h = subst (StopCause text tokens) (ap (stop_or e) h) (deep text tokens a q)
caused_by text tokens e (Err stop.TooMany, a) q s h = subst (StopCause text tokens) (ap (stop_or e) h) (full text tokens a q s)
caused_by text tokens e (Err stop.NoMemory, a) q s h = absurd s

caused : (text : List ℕ) (tokens : List Token) (e : ParseStop) → answer text (lexemes_of text tokens) ≡ Err e → StopCause text tokens e
caused text tokens e h = caused_by text tokens e _ refl (unit_sound unit_room max_types (lexemes_of text tokens)) h

pub stop_cause : (text : List ℕ) (tokens : List Token) (r : Result declared.Unit ParseStop) → Answers (answer text (lexemes_of text tokens)) r → IfErr r (λ e. StopCause text tokens e)
stop_cause text tokens (Ok u) a = tt
stop_cause text tokens (Err NoMemory) a = tt
stop_cause text tokens (Err (Syntax at)) a = caused text tokens _ a
stop_cause text tokens (Err (NotInProfile at x)) a = caused text tokens _ a
stop_cause text tokens (Err (TooDeep at)) a = caused text tokens _ a
stop_cause text tokens (Err (TooMany at)) a = caused text tokens _ a
