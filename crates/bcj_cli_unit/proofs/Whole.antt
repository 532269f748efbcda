-- The same of units, and the bounds that each program keeps.
use Rattle.std.proofs.Common.{◌≡◌, ℕ, ◌+◌, ◌-◌, ◌*◌, ◌≤◌, true, false, not, ◌&&◌, nat_eq, List, [], ◌∷◌, None, Some, sym, ap, ◌∙◌, refl, subst, arith, codes, bytes_eq}
use Rattle.std.proofs.lemmas.Bool.{false≢true, and_parts, and_from, not-true, not_from_false, eqb-true}
use Rattle.bcj_cli_language.specs.Tree.{Sum, number, Act, Acts}
use Rattle.bcj_cli_language.specs.Scopes.{AreScoped, declared_in, blocks_in}
use Rattle.bcj_cli_language.specs.Bounds.{temporaries_of, HasSmallNumbers, IsSmallSum, IsSmallTest, IsSmall, AreSmall}
use Rattle.bcj_cli_language.specs.Tree.{Test}
use Rattle.bcj_parser_trees.specs.declared.names.Base.{Base}
use Rattle.bcj_parser_trees.specs.declared.names.Base.TheVariants as base
use Rattle.bcj_parser_trees.specs.declared.names.TypeName.{TypeName}
use Rattle.bcj_parser_trees.specs.declared.names.Access.{Access}
use Rattle.bcj_parser_trees.specs.declared.names.Access.TheVariants as access
use Rattle.bcj_parser_trees.specs.declared.names.Mods.{Mods}
use Rattle.bcj_parser_trees.specs.declared.names.Param.{Param}
use Rattle.bcj_parser_trees.specs.declared.expression.BinOp.{BinOp}
use Rattle.bcj_parser_trees.specs.declared.expression.BinOp.TheVariants as op
use Rattle.bcj_parser_trees.specs.Trees.{PlainExpr, PlainStmt, PlainStmts, PlainElse, PlainBody, no_body, with_body, PlainMember, field_member, method_member, constructor_member, static_member, PlainType, PlainUnit}
use Rattle.bcj_cli_language.specs.Bounds.{max_int, max_blocks, max_locals}
use Rattle.bcj_cli_unit.specs.Kinds.{tightness, is_among, boot_types, is_void_base, is_void, is_open, is_static_alone, is_empty, is_main, is_one, is_main_class}
use Rattle.bcj_cli_unit.specs.Program.{IsSum, a_number, a_local, grouped, joined, IsWholeSum, IsTest, compared, IsStatement, prints, declares, assigns, chooses, repeats, AreStatements, none, more, IsBlock, a_block, IsElse, without, with_block, static_alone, void_type, main_method, IsClass, a_class, IsProgramOf}
use Rattle.bcj_cli_unit.specs.Lacking.{first_of, unless, option_lacking, start, all_lacks, body_lacks, method_lacks, first_lacks, member_lacks, members_lack, first_lacking}
use Rattle.bcj_cli_unit.specs.function.Built.{program_built}
use Rattle.bcj_cli_unit.specs.Laws.{ProgramsAreTheFittingUnits, EachIsBounded}
use Rattle.bcj_cli_unit.proofs.Sums.{some_none, first_none, first_both, never_first, unless_true, unless_none, bytes_same, bytes_equal}
use Rattle.bcj_cli_unit.proofs.Blocks.{AllFit, all_sound, all_hold}

-- ---- `main` and its class

open_is : (a : Access) → is_open a ≡ true → a ≡ access.Open
open_is access.Open h = refl
open_is access.Public h = absurd (false≢true h)
open_is access.Protected h = absurd (false≢true h)
open_is access.Private h = absurd (false≢true h)

static_is : (m : Mods) → is_static_alone m ≡ true → m ≡ static_alone
static_is m h =
    let a = and_parts (is_open m.access) (m.is_static && (not m.is_abstract && not m.is_final)) h in
    let b = and_parts m.is_static (not m.is_abstract && not m.is_final) a.1 in
    let c = and_parts (not m.is_abstract) (not m.is_final) b.1 in
    let same_access : m.access ≡ access.Open = open_is m.access a.0 in
    let same_static : m.is_static ≡ true = b.0 in
    let same_abstract : m.is_abstract ≡ false = not-true m.is_abstract c.0 in
    let same_final : m.is_final ≡ false = not-true m.is_final c.1 in
    λ i. record { access = same_access i; is_static = same_static i; is_abstract = same_abstract i; is_final = same_final i }

void_base_is : (b : Base) → is_void_base b ≡ true → b ≡ base.Void
void_base_is base.Void h = refl
void_base_is base.Bool h = absurd (false≢true h)
void_base_is base.Int h = absurd (false≢true h)
void_base_is (base.Named x) h = absurd (false≢true h)

void_is : (ty : TypeName) → is_void ty ≡ true → ty ≡ void_type
void_is ty h =
    let both = and_parts (is_void_base ty.base) (nat_eq ty.dims 0) h in
    let same_base : ty.base ≡ base.Void = void_base_is ty.base both.0 in
    let same_dims : ty.dims ≡ 0 = eqb-true ty.dims 0 both.1 in
    λ i. record { base = same_base i; dims = same_dims i }

empty_is : {A : Type 0} (xs : List A) → is_empty xs ≡ true → xs ≡ []
empty_is [] h = refl
empty_is (x ∷ xs) h = absurd (false≢true h)

record MainFits (m : PlainMember) : Type 0 where
  at : ℕ
  body : PlainStmts
  is : m ≡ main_method at body
  fits : AllFit start max_blocks body

main_sound : (at : ℕ) (mods : Mods) (ty : TypeName) (x : List ℕ) (params : List Param) (throws : List (List ℕ)) (body : PlainBody)
    → method_lacks body ≡ None → is_main mods ty x params throws body ≡ true → MainFits (method_member at mods ty x params throws body)
main_sound at mods ty x params throws no_body h k =
    let a = and_parts (is_static_alone mods) (is_void ty && (bytes_eq x (codes "main") && (is_empty params && (is_empty throws && false)))) k in
    let b = and_parts (is_void ty) (bytes_eq x (codes "main") && (is_empty params && (is_empty throws && false))) a.1 in
    let c = and_parts (bytes_eq x (codes "main")) (is_empty params && (is_empty throws && false)) b.1 in
    let d = and_parts (is_empty params) (is_empty throws && false) c.1 in
    absurd (false≢true (and_parts (is_empty throws) false d.1).1)
main_sound at mods ty x params throws (with_body ss) h k =
    let a = and_parts (is_static_alone mods) (is_void ty && (bytes_eq x (codes "main") && (is_empty params && (is_empty throws && true)))) k in
    let b = and_parts (is_void ty) (bytes_eq x (codes "main") && (is_empty params && (is_empty throws && true))) a.1 in
    let c = and_parts (bytes_eq x (codes "main")) (is_empty params && (is_empty throws && true)) b.1 in
    let d = and_parts (is_empty params) (is_empty throws && true) c.1 in
    let e = and_parts (is_empty throws) true d.1 in
    let same_mods : mods ≡ static_alone = static_is mods a.0 in
    let same_type : ty ≡ void_type = void_is ty b.0 in
    let same_name : x ≡ codes "main" = bytes_equal x (codes "main") c.0 in
    let same_params : params ≡ [] = empty_is params d.0 in
    let same_throws : throws ≡ [] = empty_is throws e.0 in
    record {
      at = at;
      body = ss;
      is = λ i. method_member at (same_mods i) (same_type i) (same_name i) (same_params i) (same_throws i) (with_body ss);
      fits = all_sound start max_blocks ss h;
    }

member_sound : (m : PlainMember) → member_lacks m ≡ None → MainFits m
member_sound (method_member at mods ty x params throws body) h =
    let parts = first_none (method_lacks body) (unless (is_main mods ty x params throws body) at) h in
    main_sound at mods ty x params throws body parts.0 (unless_true (is_main mods ty x params throws body) at parts.1)
member_sound (field_member at mods ty x init) h = absurd (never_first (option_lacking [] init) at h)
member_sound (constructor_member at mods x params throws first ss) h =
    absurd (never_first (body_lacks ss) at (first_none (first_lacks first) (first_of (body_lacks ss) (Some at)) h).1)
member_sound (static_member at ss) h = absurd (never_first (body_lacks ss) at h)

record OneFits (ms : List PlainMember) : Type 0 where
  at : ℕ
  body : PlainStmts
  is : ms ≡ main_method at body ∷ []
  fits : AllFit start max_blocks body

one_sound : (ms : List PlainMember) → members_lack ms ≡ None → is_one ms ≡ true → OneFits ms
one_sound [] h k = absurd (false≢true k)
one_sound (m ∷ n ∷ ms) h k = absurd (false≢true k)
one_sound (m ∷ []) h k =
    let f = member_sound m (first_none (member_lacks m) None h).0 in
    record { at = f.at; body = f.body; is = ap (λ x. x ∷ []) f.is; fits = f.fits }

class_sound : (main : List ℕ) (t : PlainType) → members_lack t.members ≡ None → is_main_class main t ≡ true → (p : Acts) × IsProgramOf main (t ∷ []) p
class_sound main t h k =
    let last = is_empty t.implements && is_one t.members in
    let e3 = is_empty t.extends && last in
    let e2 = not (is_among boot_types main) && e3 in
    let e1 = bytes_eq t.name main && e2 in
    let a = and_parts (not t.interface) (not t.is_abstract && e1) k in
    let b = and_parts (not t.is_abstract) e1 a.1 in
    let c = and_parts (bytes_eq t.name main) e2 b.1 in
    let d = and_parts (not (is_among boot_types main)) e3 c.1 in
    let e = and_parts (is_empty t.extends) last d.1 in
    let f = and_parts (is_empty t.implements) (is_one t.members) e.1 in
    let one = one_sound t.members h f.1 in
    let same_interface : t.interface ≡ false = not-true t.interface a.0 in
    let same_abstract : t.is_abstract ≡ false = not-true t.is_abstract b.0 in
    let same_name : t.name ≡ main = bytes_equal t.name main c.0 in
    let same_extends : t.extends ≡ [] = empty_is t.extends e.0 in
    let same_implements : t.implements ≡ [] = empty_is t.implements f.0 in
    let same_members : t.members ≡ main_method one.at one.body ∷ [] = one.is in
    let plain : PlainType = record { at = t.at; interface = false; is_abstract = false; name = main; extends = []; implements = []; members = main_method one.at one.body ∷ [] } in
    let same : t ≡ plain = (λ i. record { at = t.at; interface = same_interface i; is_abstract = same_abstract i; name = same_name i; extends = same_extends i; implements = same_implements i; members = same_members i }) in (
      one.fits.acts,
      record {
        is_class = subst (λ u. IsClass main (u ∷ []) one.fits.acts) (sym same) (a_class (not-true (is_among boot_types main) d.0) one.fits.are);
        scoped = one.fits.scoped;
        declared = omega (arith, one.fits.left);
        blocks = one.fits.depth;
      },
    )

unit_sound : (main : List ℕ) (u : PlainUnit) → first_lacking main u ≡ None → (p : Acts) × IsProgramOf main u p
unit_sound main [] h = absurd (some_none h)
unit_sound main (t ∷ []) h =
    let parts = first_none (members_lack t.members) (first_of (unless (is_main_class main t) t.at) None) h in
    class_sound main t parts.0 (unless_true (is_main_class main t) t.at (first_none (unless (is_main_class main t) t.at) None parts.1).0)
unit_sound main (t ∷ u ∷ us) h =
    let others = first_of (members_lack u.members) (Some u.at) in
    let parts = first_none (members_lack t.members) (first_of (unless (is_main_class main t) t.at) others) h in
    absurd (never_first (members_lack u.members) u.at (first_none (unless (is_main_class main t) t.at) others parts.1).1)

record UnitHolds (main : List ℕ) (u : PlainUnit) (p : Acts) : Type 0 where
  nothing : first_lacking main u ≡ None
  built : program_built u ≡ Some p

class_holds : (main : List ℕ) (u : PlainUnit) (p : Acts) → IsClass main u p → AreScoped [] p → declared_in p ≤ max_locals → blocks_in p ≤ max_blocks → UnitHolds main u p
class_holds main u p (a_class {at = at} {i = i} {ss = ss} boot are) scoped declared blocks =
    let f = all_hold are start max_blocks scoped declared blocks in
    let new = not (is_among boot_types main) in
    record {
      nothing = first_both (first_of (first_of (all_lacks max_blocks start ss) None) None) (first_of (unless (bytes_eq main main && (new && true)) at) None)
          (first_both (first_of (all_lacks max_blocks start ss) None) None (first_both (all_lacks max_blocks start ss) None f.nothing refl) refl)
          (first_both (unless (bytes_eq main main && (new && true)) at) None
          (unless_none (bytes_eq main main && (new && true)) at (and_from (bytes_eq main main) (new && true) (bytes_same main) (and_from new true (not_from_false (is_among boot_types main) boot) refl))) refl);
      built = f.built;
    }

unit_holds : (main : List ℕ) (u : PlainUnit) (p : Acts) → IsProgramOf main u p → UnitHolds main u p
unit_holds main u p m = class_holds main u p m.is_class m.scoped m.declared m.blocks

some_same : {A : Type 0} {x y : A} → Some x ≡ Some y → x ≡ y
some_same h = cc

pub fitting : ProgramsAreTheFittingUnits
fitting main u = record {
  fits = λ p m. (unit_holds main u p m).nothing;
  program = unit_sound main u;
  one = λ p q m n. some_same (sym (unit_holds main u p m).built ∙ (unit_holds main u q n).built);
}

-- ---- what is built of a unit that lacks nothing

pub built_is_program : (main : List ℕ) (u : PlainUnit) (p : Acts) → first_lacking main u ≡ None → program_built u ≡ Some p → IsProgramOf main u p
built_is_program main u p h e =
    let f = unit_sound main u h in
    subst (λ q. IsProgramOf main u q) (some_same (sym (unit_holds main u f.0 f.1).built ∙ e)) f.1

pub never_unbuilt : (main : List ℕ) (u : PlainUnit) → first_lacking main u ≡ None → program_built u ≡ None → ⊥
never_unbuilt main u h e =
    let f = unit_sound main u h in
    some_none (sym (unit_holds main u f.0 f.1).built ∙ e)

-- ---- bounds

tight_low : (o : BinOp) → tightness o ≤ 1
tight_low op.OrElse = omega arith
tight_low op.AndAlso = omega arith
tight_low op.Or = omega arith
tight_low op.Xor = omega arith
tight_low op.And = omega arith
tight_low op.Eq = omega arith
tight_low op.Ne = omega arith
tight_low op.Lt = omega arith
tight_low op.Gt = omega arith
tight_low op.Le = omega arith
tight_low op.Ge = omega arith
tight_low op.Shl = omega arith
tight_low op.Shr = omega arith
tight_low op.Ushr = omega arith
tight_low op.Add = omega arith
tight_low op.Sub = omega arith
tight_low op.Mul = omega arith
tight_low op.Div = omega arith
tight_low op.Rem = omega arith

record IsLow (n : ℕ) (s : Sum) : Type 0 where
  small : HasSmallNumbers s
  low : temporaries_of s ≤ n

small_number : (n : ℕ) → n ≤ max_int → HasSmallNumbers (number n)
small_number n h = omega arith

sum_low : {v d : ℕ} {e : PlainExpr} {s : Sum} → IsSum v d e s → IsLow (2 * d + (2 - v)) s
sum_low (a_number {n = n} h) = record { small = small_number n h; low = omega arith }
sum_low a_local = record { small = tt; low = omega arith }
sum_low (grouped i) = record { small = (sum_low i).small; low = omega (arith, (sum_low i).low) }
sum_low (joined {o = o} e le i j) = record { small = ((sum_low i).small, (sum_low j).small); low = omega (arith, le, tight_low o, (sum_low i).low, (sum_low j).low) }

small_sum : {e : PlainExpr} {s : Sum} → IsWholeSum e s → IsSmallSum s
small_sum i = ((sum_low i).small, omega (arith, (sum_low i).low))

small_test : {e : PlainExpr} {t : Test} → IsTest e t → IsSmallTest t
small_test (compared h i j) = (small_sum i, small_sum j)

mutual
  small_act : {s : PlainStmt} {a : Act} → IsStatement s a → IsSmall a
  small_act (prints i) = small_sum i
  small_act (declares i) = small_sum i
  small_act (assigns i) = small_sum i
  small_act (chooses t i j) = (small_test t, small_block i, small_else j)
  small_act (repeats t i) = (small_test t, small_block i)

  small_acts : {ss : PlainStmts} {p : Acts} → AreStatements ss p → AreSmall p
  small_acts none = tt
  small_acts (more i j) = (small_act i, small_acts j)

  small_block : {s : PlainStmt} {p : Acts} → IsBlock s p → AreSmall p
  small_block (a_block i) = small_acts i

  small_else : {e : PlainElse} {p : Acts} → IsElse e p → AreSmall p
  small_else without = tt
  small_else (with_block i) = small_block i

small_class : (main : List ℕ) (u : PlainUnit) (p : Acts) → IsClass main u p → AreSmall p
small_class main u p (a_class boot are) = small_acts are

pub bounded : EachIsBounded
bounded main u p m = record { scoped = m.scoped; declared = m.declared; blocks = m.blocks; small = small_class main u p m.is_class }
