-- The units that sources are, one each.
use Rattle.std.proofs.Common.{◌≡◌, refl, sym, ap, ◌∙◌, subst, ℕ, zero, suc, ◌+◌, List, [], ◌∷◌, ◌++◌, map, take, length, Option, None, Some, arith}
use Rattle.std.specs.Prelude.{slice_get, IsSomeAnd, MatchOption}
use Rattle.std.specs.List.{AllZip}
use Rattle.std.proofs.lemmas.List.{map-append}
use Rattle.std.proofs.lemmas.Slice.Zip.{AllZip-left}
use Rattle.bcj_lexer.specs.declared.Token.{Token}
use Rattle.bcj_lexer.specs.Pieces.{TokensOf}
use Rattle.bcj_lexer.specs.Answers.{IsBad}
use Rattle.bcj_lexer.specs.Laws.{OneList}
use Rattle.bcj_parser_trees.specs.declared.unit.Unit as tree
use Rattle.bcj_parser_trees.specs.Trees.{PlainUnit}
use Rattle.bcj_parser_trees.specs.Plain.{unit_of}
use Rattle.bcj_parser_rules.specs.Grammar.{derives}
use Rattle.bcj_parser_rules.specs.Texts.{IsUnit, HasOneUnit}
use Rattle.bcj_cli_compile.specs.Texts.{Parses, IsNoUnit}

-- one more source with its unit
units_push : (sources : List (List ℕ)) (units : List PlainUnit) (text : List ℕ) (unit : PlainUnit) → AllZip Parses sources units → Parses text unit
    → AllZip Parses (sources ++ text ∷ []) (units ++ unit ∷ [])
units_push [] [] text unit all p = (p, tt)
units_push [] (u ∷ us) text unit all p = absurd all
units_push (s ∷ ss) [] text unit all p = absurd all
units_push (s ∷ ss) (u ∷ us) text unit all p = (all.0, units_push ss us text unit all.1 p)

none_some : {A : Type 0} {x : A} → None ≡ Some x → ⊥
none_some h = cc

-- one item more of the front of a list
front_more : {A : Type 0} (xs : List A) (i : ℕ) (x : A) → slice_get xs i ≡ Some x → take (i + 1) xs ≡ take i xs ++ x ∷ []
front_more [] i x is = absurd (none_some is)
front_more (y ∷ ys) zero x is = let same : y ≡ x = cc in ap (λ z. z ∷ []) same
front_more (y ∷ ys) (suc i) x is =
    let next : suc i + 1 ≡ suc (i + 1) = omega arith in
    ap (λ n. take n (y ∷ ys)) next ∙ ap (λ zs. y ∷ zs) (front_more ys i x is)

pub units_more : (sources : List (List ℕ)) (old new : List tree.Unit) (file : ℕ) (text : List ℕ) (unit : tree.Unit) → slice_get sources file ≡ Some text → new ≡ old ++ unit ∷ []
    → AllZip Parses (take file sources) (map unit_of old) → Parses text (unit_of unit) → AllZip Parses (take (file + 1) sources) (map unit_of new)
units_more sources old new file text unit is pushed before p =
    let fronts : take (file + 1) sources ≡ take file sources ++ text ∷ [] = front_more sources file text is in
    let units : map unit_of new ≡ map unit_of old ++ unit_of unit ∷ [] = ap (map unit_of) pushed ∙ map-append unit_of old (unit ∷ []) in
    subst (λ us. AllZip Parses (take (file + 1) sources) us) (sym units)
    (subst (λ ss. AllZip Parses ss (map unit_of old ++ unit_of unit ∷ [])) (sym fronts) (units_push (take file sources) (map unit_of old) text (unit_of unit) before p))

-- where a source is no unit, not each of them is one
some_parses : (o : Option PlainUnit) (text : List ℕ) → IsNoUnit text → IsSomeAnd o (Parses text) → ⊥
some_parses None text none p = p
some_parses (Some u) text none p = none u p

pub not_all : (sources : List (List ℕ)) (file : ℕ) (text : List ℕ) (units : List PlainUnit) → slice_get sources file ≡ Some text → IsNoUnit text → AllZip Parses sources units → ⊥
not_all sources file text units is none all =
    some_parses (slice_get units file) text none
    (subst (λ o. MatchOption o (Unit {0}) (λ x. IsSomeAnd (slice_get units file) (Parses x))) is (AllZip-left Parses sources units all file))

-- no unit is cut into no tokens
pub not_lexed : (text : List ℕ) (at : ℕ) → IsBad text at → IsNoUnit text
not_lexed text at bad unit p = bad.uncut p.lexed.pieces p.lexed.cutting

module _ (lists : OneList) where
  pub not_parsed : (text : List ℕ) (tokens : List Token) → TokensOf text tokens → ((u : PlainUnit) → IsUnit text tokens u → ⊥) → IsNoUnit text
  not_parsed text tokens lexed none u p = none u (subst (λ ts. IsUnit text ts u) (lists text p.tokens tokens p.lexed lexed) p.parsed)

  module _ (units : HasOneUnit) where
    one_parse : (text : List ℕ) (u v : PlainUnit) → Parses text u → Parses text v → u ≡ v
    one_parse text u v p q =
        let same : q.tokens ≡ p.tokens = lists text q.tokens p.tokens q.lexed p.lexed in
        units text p.tokens u v p.parsed.height q.parsed.height p.parsed.derived (subst (λ ts. derives text ts v q.parsed.height) same q.parsed.derived)

    -- sources are one list of units at most
    pub same_units : (sources : List (List ℕ)) (us vs : List PlainUnit) → AllZip Parses sources us → AllZip Parses sources vs → us ≡ vs
    same_units [] [] [] p q = refl
    same_units [] [] (v ∷ vs) p q = absurd q
    same_units [] (u ∷ us) vs p q = absurd p
    same_units (s ∷ ss) [] vs p q = absurd p
    same_units (s ∷ ss) (u ∷ us) [] p q = absurd q
    same_units (s ∷ ss) (u ∷ us) (v ∷ vs) p q = ap (λ w. w ∷ us) (one_parse s u v p.0 q.0) ∙ ap (λ ws. v ∷ ws) (same_units ss us vs p.1 q.1)
