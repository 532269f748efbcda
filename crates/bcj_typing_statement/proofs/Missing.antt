-- The earliest kind of what is missing, of needs one behind the other.
use Rattle.std.proofs.Common.{◌≡◌, refl, ap, sym, ◌∙◌, ℕ, Bool, true, false, nat_lt, List, [], ◌∷◌, ◌++◌, Option, None, Some, if◌then◌else◌, arith}
use Rattle.std.proofs.lemmas.Bool.Decides.{nat_tests}
use Rattle.bcj_typing_rules.specs.declared.kind.Kind.{Kind}
use Rattle.bcj_typing_rules.specs.Premises.{Need, rank, earlier_kind, earliest_missing}
use Rattle.bcj_typing_effect.specs.Catches.{earlier_of}

-- of three numbers in order
below_both : (x y z : ℕ) → nat_lt x y ≡ true → nat_lt y z ≡ true → nat_lt x z ≡ true
below_both x y z h k = grind (arith, nat_tests)

-- of three numbers in the other order
not_below : (x y z : ℕ) → nat_lt y x ≡ false → nat_lt z y ≡ false → nat_lt z x ≡ false
not_below x y z h k = grind (arith, nat_tests)

-- nothing more that is missing
pub earlier_of-none : (m : Option Kind) → earlier_of m None ≡ m
earlier_of-none None = refl
earlier_of-none (Some k) = refl

-- of three kinds, by two tests
three : (k l m : Kind) (p q : Bool) → nat_lt (rank l) (rank k) ≡ p → nat_lt (rank m) (rank l) ≡ q
    → earlier_of (earlier_of (Some k) (Some l)) (Some m) ≡ earlier_of (Some k) (earlier_of (Some l) (Some m))
three k l m true true h j = let g : nat_lt (rank m) (rank k) ≡ true = below_both (rank m) (rank l) (rank k) j h in rw (h, j, g) refl
three k l m true false h j = rw (h, j) (rw h refl)
three k l m false true h j = rw (h, j) refl
three k l m false false h j = let g : nat_lt (rank m) (rank k) ≡ false = not_below (rank k) (rank l) (rank m) h j in rw (h, j, g) (rw h refl)

-- the earliest of three is found in either way
pub earlier_of-assoc : (m n o : Option Kind) → earlier_of (earlier_of m n) o ≡ earlier_of m (earlier_of n o)
earlier_of-assoc None n o = refl
earlier_of-assoc (Some k) None o = refl
earlier_of-assoc (Some k) (Some l) None = refl
earlier_of-assoc (Some k) (Some l) (Some m) = three k l m (nat_lt (rank l) (rank k)) (nat_lt (rank m) (rank l)) refl refl

-- a need before others
one_missing : Bool → Kind → Option Kind → Option Kind
one_missing met k m = if met then m else Some (earlier_kind k m)

-- the same of a need before two lists
one_before : (met : Bool) (k : Kind) (m o : Option Kind) → one_missing met k (earlier_of m o) ≡ earlier_of (one_missing met k m) o
unfolding one_missing
one_before true k m o = refl
one_before false k m o = sym (earlier_of-assoc (Some k) m o)

-- of needs and others behind them
pub earliest_missing-append : (ns os : List Need) → earliest_missing (ns ++ os) ≡ earlier_of (earliest_missing ns) (earliest_missing os)
unfolding one_missing
earliest_missing-append [] os = refl
earliest_missing-append (n ∷ ns) os =
    ap (one_missing n.met n.kind) (earliest_missing-append ns os) ∙ one_before n.met n.kind (earliest_missing ns) (earliest_missing os)
