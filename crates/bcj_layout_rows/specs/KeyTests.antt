-- `same_type` and `same_reference` decide `≡`, so that they tell keys apart and equal ones have equal hashes.
use Rattle.std.proofs.Common.{◌≡◌, ap, IsTrue}
use Rattle.std.specs.Bool.{Decides}
use Rattle.std.specs.Cmp.{IsEquivalence, IsPartialEquivalence, decided, on_equiv, partial_equiv_from_equiv}
use Rattle.std.proofs.lemmas.Bool.Decides.{Decides-and, Decides-like}
use Rattle.std.proofs.lemmas.Slice.Eq.{bytes_eq-Decides}
use Rattle.bcj_symbolic_trees.specs.Same.{same_type}
use Rattle.bcj_symbolic_trees.proofs.SameLemmas.{same_type-Decides}
use Rattle.bcj_hier_rules.specs.Shapes.{Reference}
use Rattle.bcj_layout_rules.specs.Rows.{same_reference}
use Rattle.bcj_layout_rows.specs.declared.keys.TypeKey.{TypeKey}
use Rattle.bcj_layout_rows.specs.declared.keys.ReferenceKey.{ReferenceKey}
use Rattle.bcj_layout_rows.specs.Keys.{type_in, type_writes, reference_in, reference_writes}

-- types are told apart
pub types_equivalence : IsEquivalence (λ (x y : TypeKey). same_type (type_in x) (type_in y))
types_equivalence = on_equiv type_in (decided same_type same_type-Decides)

-- and so by `==`
pub types_partial : IsPartialEquivalence (λ (x y : TypeKey). same_type (type_in x) (type_in y))
types_partial = partial_equiv_from_equiv types_equivalence

-- equal types have equal hashes
pub types_respect : (x y : TypeKey) → IsTrue (same_type (type_in x) (type_in y)) → type_writes (type_in x) ≡ type_writes (type_in y)
types_respect x y h = ap type_writes ((same_type-Decides (type_in x) (type_in y)).0 h)

-- references that have the same names are equal
pub same_reference-Decides : (a b : Reference) → Decides (same_reference a b) (a ≡ b)
same_reference-Decides a b =
    Decides-like (same_reference a b)
    (λ e. λ i. record { class = e.0 i; name = e.1.0 i; desc = e.1.1 i })
    (λ e. (ap (λ r. r.class) e, (ap (λ r. r.name) e, ap (λ r. r.desc) e)))
    (Decides-and _ _ (bytes_eq-Decides a.class b.class) (Decides-and _ _ (bytes_eq-Decides a.name b.name) (bytes_eq-Decides a.desc b.desc)))

-- references are told apart
pub references_equivalence : IsEquivalence (λ (x y : ReferenceKey). same_reference (reference_in x) (reference_in y))
references_equivalence = on_equiv reference_in (decided same_reference same_reference-Decides)

-- and so by `==`
pub references_partial : IsPartialEquivalence (λ (x y : ReferenceKey). same_reference (reference_in x) (reference_in y))
references_partial = partial_equiv_from_equiv references_equivalence

-- equal references have equal hashes
pub references_respect : (x y : ReferenceKey) → IsTrue (same_reference (reference_in x) (reference_in y)) → reference_writes (reference_in x) ≡ reference_writes (reference_in y)
references_respect x y h = ap reference_writes ((same_reference-Decides (reference_in x) (reference_in y)).0 h)
