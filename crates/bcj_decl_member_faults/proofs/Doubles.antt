-- Names that stand twice, from behind.
use Rattle.std.proofs.Common.{◌≡◌, ◌<◌, ◌≤◌, ◌+◌, ◌-◌, ℕ, zero, suc, Bool, true, false, ◌||◌, cond, List, [], ◌∷◌, length, get_or, drop, refl, sym, ◌∙◌, ap, arith}
use Rattle.std.proofs.lemmas.Bool.{or_left, or_right, or_from}
use Rattle.std.proofs.lemmas.Bool.Decides.{same_from_decides, Decides-like}
use Rattle.std.proofs.lemmas.List.{drop_more}
use Rattle.std.proofs.lemmas.Slice.Eq.{bytes_eq-Decides}
use Rattle.std.specs.List.{list_any}
use Rattle.std.specs.Str.{bytes_eq}
use Rattle.bcj_parser_trees.specs.declared.names.Param.{Param}
use Rattle.bcj_decl_rules.specs.World.{Named}
use Rattle.bcj_decl_rules.specs.Faults.{stands_twice, param_names}

-- the test goes both ways
bytes_swap : (a b : Named) → bytes_eq a b ≡ bytes_eq b a
bytes_swap a b = same_from_decides (bytes_eq a b) (bytes_eq b a) (bytes_eq-Decides a b) (Decides-like (bytes_eq b a) sym sym (bytes_eq-Decides b a))

-- the names from one parameter on
pub names_behind : (xs : List Param) (i : ℕ) (x : Param) (name : Named) → 0 < i → i ≤ length xs → x ≡ get_or xs (i - 1) x → name ≡ x.name → param_names (drop (i - 1) xs) ≡ name ∷ param_names (drop i xs)
names_behind xs i x name positive within e same =
    let less : i - 1 < length xs = omega arith in
    let next : (i - 1) + 1 ≡ i = omega arith in
    let parts : drop (i - 1) xs ≡ get_or xs (i - 1) x ∷ drop ((i - 1) + 1) xs = drop_more xs (i - 1) x less in
    ap param_names parts ∙ ((λ j. (sym e j).name ∷ param_names (drop (next j) xs)) ∙ ap (λ n. n ∷ param_names (drop i xs)) (sym same))

-- one more or the others
in_front : (b a : Bool) → cond b true a ≡ (b || a)
in_front true a = refl
in_front false a = refl

-- one name more is seen
pub seen_more : (names rest : List Named) (x : Named) (old new : Named → Bool) → names ≡ x ∷ rest → ((q : Named) → old q ≡ list_any (bytes_eq q) rest) → ((q : Named) → new q ≡ cond (bytes_eq x q) true (old q))
    → (q : Named) → new q ≡ list_any (bytes_eq q) names
seen_more names rest x old new e was is q =
    is q ∙ (in_front (bytes_eq x q) (old q) ∙ ((λ i. bytes_swap x q i || was q i) ∙ sym (ap (list_any (bytes_eq q)) e)))

-- a new name in front of different ones
pub none_twice : (names rest : List Named) (x : Named) (b : Bool) → names ≡ x ∷ rest → b ≡ list_any (bytes_eq x) rest → b ≡ false → stands_twice rest ≡ false → stands_twice names ≡ false
none_twice names rest x b e was not_it none = ap stands_twice e ∙ or_from (list_any (bytes_eq x) rest) (stands_twice rest) (sym was ∙ not_it) none

-- what stands twice behind stands twice
twice_behind : (k : ℕ) (xs : List Param) → stands_twice (param_names (drop k xs)) ≡ true → stands_twice (param_names xs) ≡ true
twice_behind zero xs h = h
twice_behind (suc k) [] h = h
twice_behind (suc k) (x ∷ xs) h = or_right (list_any (bytes_eq x.name) (param_names xs)) (stands_twice (param_names xs)) (twice_behind k xs h)

-- a name that stands behind again
pub some_twice : (xs : List Param) (k : ℕ) (rest : List Named) (x : Named) (b : Bool) → param_names (drop k xs) ≡ x ∷ rest → b ≡ list_any (bytes_eq x) rest → b ≡ true → true ≡ stands_twice (param_names xs)
some_twice xs k rest x b e was it = sym (twice_behind k xs (ap stands_twice e ∙ or_left (list_any (bytes_eq x) rest) (stands_twice rest) (sym was ∙ it)))
