-- `same_entry` decides `≡`, so that it tells entries apart and equal ones have equal hashes.
use Rattle.std.proofs.Common.{◌≡◌, refl, ap, subst, ◌==◌, true, IsTrue}
use Rattle.std.specs.Bool.{Decides}
use Rattle.std.specs.Cmp.{IsEquivalence, IsPartialEquivalence, decided, on_equiv, partial_equiv_from_equiv}
use Rattle.std.proofs.lemmas.Bool.Decides.{Decides-and, Decides-like}
use Rattle.bcj_symbolic_trees.proofs.SameLemmas.{same_type-Decides, same_field_ref-Decides, same_method_ref-Decides}
use Rattle.bcj_symbolic_measure.specs.declared.entry.Role.{Role}
use Rattle.bcj_symbolic_measure.specs.declared.entry.Role.TheVariants as role
use Rattle.bcj_symbolic_measure.specs.declared.entry.Entry.{Entry}
use Rattle.bcj_symbolic_measure.specs.Entries.{PlainEntry, PlainTarget, type_target, field_target, method_target, role_number, same_target, same_entry}
use Rattle.bcj_symbolic_measure.specs.function.Counts.{entry_of}
use Rattle.bcj_symbolic_measure.specs.function.Hashes.{entry_writes}

role-tells : (a b : Role) → (role_number a == role_number b) ≡ true → a ≡ b
role-tells role.Row role.Row e = refl
role-tells role.New role.New e = refl
role-tells role.FieldOffset role.FieldOffset e = refl
role-tells role.MethodOffset role.MethodOffset e = refl
role-tells role.FieldAddress role.FieldAddress e = refl
role-tells role.StaticMethod role.StaticMethod e = refl
role-tells role.SpecialMethod role.SpecialMethod e = refl
role-tells role.InterfaceMethod role.InterfaceMethod e = refl
role-tells _ _ e = cc

role-refl : (a : Role) → (role_number a == role_number a) ≡ true
role-refl role.Row = refl
role-refl role.New = refl
role-refl role.FieldOffset = refl
role-refl role.MethodOffset = refl
role-refl role.FieldAddress = refl
role-refl role.StaticMethod = refl
role-refl role.SpecialMethod = refl
role-refl role.InterfaceMethod = refl

role-Decides : (a b : Role) → Decides (role_number a == role_number b) (a ≡ b)
role-Decides a b = (role-tells a b, λ e. let P : Role → Type 0 = λ t. (role_number a == role_number t) ≡ true in subst P e (role-refl a))

target-tells : (a b : PlainTarget) → same_target a b ≡ true → a ≡ b
target-tells (type_target s) (type_target t) e = ap type_target ((same_type-Decides s t).0 e)
target-tells (field_target f) (field_target g) e = ap field_target ((same_field_ref-Decides f g).0 e)
target-tells (method_target m) (method_target n) e = ap method_target ((same_method_ref-Decides m n).0 e)
target-tells _ _ e = cc

target-refl : (a : PlainTarget) → same_target a a ≡ true
target-refl (type_target s) = (same_type-Decides s s).1 refl
target-refl (field_target f) = (same_field_ref-Decides f f).1 refl
target-refl (method_target m) = (same_method_ref-Decides m m).1 refl

target-Decides : (a b : PlainTarget) → Decides (same_target a b) (a ≡ b)
target-Decides a b = (target-tells a b, λ e. let P : PlainTarget → Type 0 = λ t. same_target a t ≡ true in subst P e (target-refl a))

pub same_entry-Decides : (a b : PlainEntry) → Decides (same_entry a b) (a ≡ b)
same_entry-Decides a b =
    Decides-like (same_entry a b)
    (λ e. λ i. record { role = e.0 i; target = e.1 i })
    (λ e. (ap (λ r. r.role) e, ap (λ r. r.target) e))
    (Decides-and _ _ (role-Decides a.role b.role) (target-Decides a.target b.target))

pub entries_equivalence : IsEquivalence (λ (x y : Entry). same_entry (entry_of x) (entry_of y))
entries_equivalence = on_equiv entry_of (decided same_entry same_entry-Decides)

pub entries_partial : IsPartialEquivalence (λ (x y : Entry). same_entry (entry_of x) (entry_of y))
entries_partial = partial_equiv_from_equiv entries_equivalence

pub entries_respect : (x y : Entry) → IsTrue (same_entry (entry_of x) (entry_of y)) → entry_writes (entry_of x) ≡ entry_writes (entry_of y)
entries_respect x y h = ap entry_writes ((same_entry-Decides (entry_of x) (entry_of y)).0 h)
