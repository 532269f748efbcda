-- Lists of names.
use Rattle.std.proofs.Common.{◌≡◌, ℕ, List, [], ◌∷◌, length, sym, refl, Ok, Err}
use Rattle.bcj_parser_rules.specs.declared.stop.Site.{Site}
use Rattle.bcj_parser_rules.specs.declared.stop.Site.TheVariants as site
use Rattle.bcj_parser_rules.specs.declared.stop.Stop.{Stop}
use Rattle.bcj_parser_rules.specs.Lexemes.{Lexemes}
use Rattle.bcj_parser_rules.specs.function.Steps.{Outcome, named}
use Rattle.bcj_parser_rules.specs.function.Expressions.{separated, listed}
use Rattle.bcj_parser_rules.specs.function.Declarations.{one_name, names}

pub one_name_read : (w : Site) (i j a : Lexemes) (x : List ℕ) → i ≡ j → named w i ≡ (Ok x, a) → one_name w j ≡ (Ok (x, 0), a)
unfolding one_name
one_name_read w i j a x s e = rw (sym s) (rw e refl)

pub one_name_refused : (w : Site) (i j a : Lexemes) (e : Stop) → i ≡ j → named w i ≡ (Err e, a) → one_name w j ≡ (Err e, a)
unfolding one_name
one_name_refused w i j a e s o = rw (sym s) (rw o refl)

-- the first name, and those behind it
abbrev pub name_list : Lexemes → Outcome (List (List ℕ) × ℕ)
name_list = listed (one_name site.Elsewhere) (one_name site.Elsewhere)

pub names_read : (i a : Lexemes) (ns : List (List ℕ)) → name_list i ≡ (Ok (ns, 0), a) → names i ≡ (Ok ns, a)
unfolding names
names_read i a ns e = rw e refl

pub names_refused : (i a : Lexemes) (e : Stop) → name_list i ≡ (Err e, a) → names i ≡ (Err e, a)
unfolding names
names_refused i a e o = rw o refl

pub name_list_begins : (i a : Lexemes) (x : List ℕ) → named site.Elsewhere i ≡ (Ok x, a) → name_list i ≡ separated (one_name site.Elsewhere) (length a) (x ∷ []) 0 a
unfolding listed
name_list_begins i a x e = rw (one_name_read site.Elsewhere i i a x refl e) refl
