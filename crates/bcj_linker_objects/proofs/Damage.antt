-- Bytes that are an object, and their damage.
use Rattle.std.proofs.Common.{◌≡◌, ℕ, ◌+◌, ◌-◌, List, length, Option, None, Some, Err, sym, ap, subst, ◌∙◌, inl, inr}
use Rattle.bcj_elf.specs.Plain.{PlainObject}
use Rattle.bcj_elf.specs.Layout.{rec_at, sizes}
use Rattle.bcj_elf.proofs.Again as elf_law
use Rattle.bcj_tables_rules.specs.declared.records.Records.{Records}
use Rattle.bcj_tables_rules.specs.declared.records.ClassRecord.{ClassRecord}
use Rattle.bcj_tables_rules.specs.declared.stop.Stop.TheVariants.{Bad}
use Rattle.bcj_tables_rules.specs.Steps.{Outcome}
use Rattle.bcj_tables_rules.specs.Spelling as tables
use Rattle.bcj_tables_rules.specs.Records.{Meets, IsFirstBad, records_reading}
use Rattle.bcj_tables_rules.proofs.Conclusions as tables_law
use Rattle.bcj_tables.specs.Places.{outside_of}
use Rattle.bcj_linker_rules.specs.Memory.{Linked}
use Rattle.bcj_linker_objects.specs.Objects.{IsLinked, IsBadObject}

abbrev records_with : ℕ → List ClassRecord → Records
records_with version classes = record { version = version; classes = classes }

-- ---- the laws

-- bytes that are an object aren't damaged
pub no_object_is_bad : (bytes : List ℕ) (l : Linked) (at : ℕ) → IsLinked bytes l → IsBadObject bytes at → ⊥
no_object_is_bad bytes l at is (inl n) = n.none l.object is.object is.spelled
no_object_is_bad bytes l at is (inr h) =
    let same : l.object ≡ h.object = elf_law.one_spelling l.object h.object is.object h.is (is.spelled ∙ sym h.spelled) in
    h.none (records_with is.version l.classes) (subst (λ (o : PlainObject). Meets (outside_of o) (records_with is.version l.classes)) same is.meets)
    (is.recorded ∙ ap (λ (o : PlainObject). o.rec) same)

abbrev linked_with : PlainObject → List ClassRecord → Linked
linked_with o cs = record { object = o; classes = cs }

-- bytes are one object at most
pub one_object : (bytes : List ℕ) (k l : Linked) → IsLinked bytes k → IsLinked bytes l → k ≡ l
one_object bytes k l this that =
    let same : k.object ≡ l.object = elf_law.one_spelling k.object l.object this.object that.object (this.spelled ∙ sym that.spelled) in
    let meets : Meets (outside_of l.object) (records_with this.version k.classes) =
    subst (λ (o : PlainObject). Meets (outside_of o) (records_with this.version k.classes)) same this.meets in
    let spelled : tables.spelling (records_with this.version k.classes) ≡ tables.spelling (records_with that.version l.classes) =
    this.recorded ∙ ap (λ (o : PlainObject). o.rec) same ∙ sym that.recorded in
    let records : records_with this.version k.classes ≡ records_with that.version l.classes =
    tables_law.one_spelling (outside_of l.object) (records_with this.version k.classes) (records_with that.version l.classes) meets that.meets spelled in
    ap (λ (o : PlainObject). linked_with o k.classes) same ∙ ap (λ (r : Records). linked_with l.object r.classes) records

abbrev offset_or : Option (ℕ × List ℕ) → ℕ
offset_or None = 0
offset_or (Some p) = p.0

-- what is left of records at their first bad field is one list
pub one_rest : {A : Type 0} (o : Outcome A) (k l : List ℕ) → o ≡ (Err Bad, k) → o ≡ (Err Bad, l) → k ≡ l
one_rest {A = A} o k l e f = ap (λ (p : Outcome A). p.1) (sym e ∙ f)

-- an object's records have one first bad field
pub one_field : (o p : PlainObject) (i j : ℕ) → o ≡ p → IsFirstBad (outside_of o) o.rec i → IsFirstBad (outside_of p) p.rec j → rec_at (sizes o) + i ≡ rec_at (sizes p) + j
one_field o p i j same f g =
    let f2 : IsFirstBad (outside_of p) p.rec i = subst (λ (q : PlainObject). IsFirstBad (outside_of q) q.rec i) same f in
    let left : f2.0 ≡ g.0 = one_rest (records_reading (outside_of p) p.rec) f2.0 g.0 f2.1.0 g.1.0 in
    let inside : i ≡ j = f2.1.1 ∙ ap (λ l. length p.rec - length l) left ∙ sym g.1.1 in
    ap (λ (q : PlainObject). rec_at (sizes q) + i) same ∙ ap (λ n. rec_at (sizes p) + n) inside

-- the place of damage is one
pub one_place : (bytes : List ℕ) (at other : ℕ) → IsBadObject bytes at → IsBadObject bytes other → at ≡ other
one_place bytes at other (inl m) (inl n) = ap offset_or (sym m.first ∙ n.first)
one_place bytes at other (inl m) (inr h) = absurd (m.none h.object h.is h.spelled)
one_place bytes at other (inr h) (inl m) = absurd (m.none h.object h.is h.spelled)
one_place bytes at other (inr g) (inr h) =
    g.offset ∙ one_field g.object h.object g.inside h.inside (elf_law.one_spelling g.object h.object g.is h.is (g.spelled ∙ sym h.spelled)) g.first h.first ∙ sym h.offset
