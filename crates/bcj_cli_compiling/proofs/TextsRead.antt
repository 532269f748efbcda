-- The texts of files that were read in their order.
use Rattle.std.proofs.Common.{◌≡◌, refl, sym, ap, ◌∙◌, subst, ℕ, zero, suc, ◌+◌, ◌-◌, ◌<◌, ◌≤◌, List, [], ◌∷◌, ◌++◌, take, drop, length, get_or, Option, None, Some, arith}
use Rattle.std.specs.Prelude.{slice_get, All, Any, IsSomeAnd, MatchOption}
use Rattle.std.specs.List.{AllZip}
use Rattle.std.specs.FinMap as map
use Rattle.std.proofs.lemmas.List.{take_all, length-drop}
use Rattle.bcj_edge.specs.Store.{Store, Has, HasMore, Lacks}
use Rattle.bcj_lexer.specs.Answers.{max_source_bytes}
use Rattle.bcj_cli_compiling.specs.Compilations.{HasText, HaveTexts, AreUnreadable}
use Rattle.bcj_cli_telling.specs.Faults.{Counts}
use Rattle.bcj_cli_compiling.specs.function.Named.{IsPushed, Later}
use Rattle.bcj_cli_compiling.proofs.Named.{file_at}

none_some : {A : Type 0} {x : A} → None ≡ Some x → ⊥
none_some h = cc

-- ---- the loop

front_more : {A : Type 0} (xs : List A) (i : ℕ) (x : A) → slice_get xs i ≡ Some x → take (i + 1) xs ≡ take i xs ++ x ∷ []
front_more [] i x is = absurd (none_some is)
front_more (y ∷ ys) zero x is = let same : y ≡ x = cc in ap (λ z. z ∷ []) same
front_more (y ∷ ys) (suc i) x is =
    let next : suc i + 1 ≡ suc (i + 1) = omega arith in
    ap (λ n. take n (y ∷ ys)) next ∙ ap (λ zs. y ∷ zs) (front_more ys i x is)

texts_push : (held : Option Store) (files texts : List (List ℕ)) (file text : List ℕ) → HaveTexts held files texts → HasText held file text → HaveTexts held (files ++ file ∷ []) (texts ++ text ∷ [])
texts_push held [] [] file text all h = (h, tt)
texts_push held [] (t ∷ ts) file text all h = absurd all
texts_push held (f ∷ fs) [] file text all h = absurd all
texts_push held (f ∷ fs) (t ∷ ts) file text all h = (all.0, texts_push held fs ts file text all.1 h)

-- one more file was read
pub more_read : (held now : Option Store) (words : List (List ℕ)) (at : ℕ) (file : List ℕ) (old new : List (List ℕ)) → 2 ≤ at → slice_get words at ≡ Some file → now ≡ held
    → HaveTexts held (take (at - 2) (drop 2 words)) old → IsPushed now file old new → HaveTexts held (take (at + 1 - 2) (drop 2 words)) new
more_read held now words at file old new low is same have pushed =
    let next : at + 1 - 2 ≡ at - 2 + 1 = omega arith in
    let fronts : take (at + 1 - 2) (drop 2 words) ≡ take (at - 2) (drop 2 words) ++ file ∷ [] =
    ap (λ n. take n (drop 2 words)) next ∙ front_more (drop 2 words) (at - 2) file (file_at words at file low is) in
    subst (λ fs. HaveTexts held fs new) (sym fronts)
    (subst (λ ts. HaveTexts held (take (at - 2) (drop 2 words) ++ file ∷ []) ts) (sym pushed.is)
    (texts_push held (take (at - 2) (drop 2 words)) old file pushed.text have (subst (λ h. HasText h file pushed.text) same pushed.has)))

-- all were
pub all_read : (held : Option Store) (words : List (List ℕ)) (at : ℕ) (texts : List (List ℕ)) → length words ≤ at → HaveTexts held (take (at - 2) (drop 2 words)) texts → HaveTexts held (drop 2 words) texts
all_read held words at texts last have =
    subst (λ fs. HaveTexts held fs texts) (take_all (at - 2) (drop 2 words) (omega (arith, length-drop 2 words))) have

-- ---- what the texts are

pub are_short : (held : Option Store) (files texts : List (List ℕ)) → HaveTexts held files texts → All (λ t. length t ≤ max_source_bytes) texts
are_short held [] [] have k d lt = absurd (omega arith)
are_short held [] (t ∷ ts) have k d lt = absurd have
are_short held (f ∷ fs) [] have k d lt = absurd have
are_short held (f ∷ fs) (t ∷ ts) have zero d lt = have.0.short
are_short held (f ∷ fs) (t ∷ ts) have (suc k) d lt = are_short held fs ts have.1 k d (omega arith)

pub are_many : (held : Option Store) (files texts : List (List ℕ)) → HaveTexts held files texts → length texts ≡ length files
are_many held [] [] have = refl
are_many held [] (t ∷ ts) have = absurd have
are_many held (f ∷ fs) [] have = absurd have
are_many held (f ∷ fs) (t ∷ ts) have = ap suc (are_many held fs ts have.1)

-- ---- where the store is told

same_text : (m : Store) (file t u : List ℕ) → map.get m file ≡ Some t → map.get m file ≡ Some u → t ≡ u
same_text m file t u p q = let both : Some t ≡ Some u = sym p ∙ q in cc

pub same_texts : (m : Store) (files texts others : List (List ℕ)) → HaveTexts (Some m) files texts → HaveTexts (Some m) files others → texts ≡ others
same_texts m [] [] [] p q = refl
same_texts m [] [] (u ∷ us) p q = absurd q
same_texts m [] (t ∷ ts) us p q = absurd p
same_texts m (f ∷ fs) [] us p q = absurd p
same_texts m (f ∷ fs) (t ∷ ts) [] p q = absurd q
same_texts m (f ∷ fs) (t ∷ ts) (u ∷ us) p q = ap (λ w. w ∷ ts) (same_text m f t u p.0.has q.0.has) ∙ ap (λ ws. u ∷ ws) (same_texts m fs ts us p.1 q.1)

-- each file has a text
pub has_one : (held : Option Store) (files texts : List (List ℕ)) (n : ℕ) (file : List ℕ) → HaveTexts held files texts → slice_get files n ≡ Some file → (text : List ℕ) × HasText held file text
has_one held [] texts n file have is = absurd (none_some is)
has_one held (f ∷ fs) [] n file have is = absurd have
has_one held (f ∷ fs) (t ∷ ts) zero file have is = let same : f ≡ file = cc in (t, subst (λ g. HasText held g t) same have.0)
has_one held (f ∷ fs) (t ∷ ts) (suc n) file have is = has_one held fs ts n file have.1 is

pub not_lacking : (m : Store) (file text : List ℕ) → HasText (Some m) file text → Lacks (Some m) file → ⊥
not_lacking m file text h lacks = none_some (sym lacks ∙ h.has)

pub not_more : (m : Store) (file text : List ℕ) → HasText (Some m) file text → HasMore (Some m) file max_source_bytes → ⊥
not_more m file text h more =
    let same : more.0 ≡ text = same_text m file more.0 text more.1 h.has in
    let short : length text ≤ max_source_bytes = h.short in
    let long : max_source_bytes < length more.0 = more.2 in
    omega (arith, ap length same)

-- ---- counts

pub still_later : (a b c : Counts) → Later a b → Later b c → Later a c
still_later a b c p q = record {
  read_faults = (let f = p.read_faults in let g = q.read_faults in omega (arith, f, g));
  absents = (let f = p.absents in let g = q.absents in omega (arith, f, g));
  overs = (let f = p.overs in let g = q.overs in omega (arith, f, g));
}
