-- What is written is read again, and what is read was written.
use Rattle.std.proofs.Common.{◌≡◌, ℕ, List, [], ◌∷◌, ◌++◌, Ok, Err, refl, sym, ap, subst, ◌∙◌}
use Rattle.std.proofs.lemmas.List.{append-nil}
use Rattle.bcj_tables_rules.specs.declared.stop.Stop.TheVariants.{Bad}
use Rattle.bcj_tables_rules.specs.declared.records.Records.{Records}
use Rattle.bcj_tables_rules.specs.Spelling.{spelling}
use Rattle.bcj_tables_rules.specs.Steps.{Outcome, AreBytes, then_read}
use Rattle.bcj_tables_rules.specs.Records.{Outside, records_format, records_reading, whole, Meets}
use Rattle.bcj_tables_rules.proofs.Lawful.{bound, same_value, never_read}
use Rattle.bcj_tables_rules.proofs.Descriptions.{records_lawful}
use Rattle.bcj_tables_rules.proofs.Spelled.{records_spelled}

pub reads_again : (o : Outside) (r : Records) → Meets o r → records_reading o (spelling r) ≡ (Ok r, [])
unfolding records_reading
reads_again o r h =
    let same : spelling r ≡ (records_format o).spell r ++ [] = sym (append-nil ((records_format o).spell r) ∙ records_spelled o r) in
    ap (λ (z : List ℕ). then_read ((records_format o).reads z) whole) same ∙ ap (λ (x : Outcome Records). then_read x whole) ((records_lawful o).complete r [] h)

record Ended (v r : Records) (m left : List ℕ) : Type 0 where
  same : v ≡ r
  nothing : m ≡ []

ended : (v r : Records) (m left : List ℕ) → whole v m ≡ (Ok r, left) → Ended v r m left
ended v r [] left e = record { same = (same_value v r [] left e).0; nothing = refl }
ended v r (b ∷ m) left e = absurd (never_read Bad r (b ∷ m) left e)

pub reads_only_spellings : (o : Outside) (bytes left : List ℕ) (r : Records) → AreBytes bytes → records_reading o bytes ≡ (Ok r, left) → Meets o r × (spelling r ≡ bytes)
unfolding records_reading
reads_only_spellings o bytes left r are e =
    let cut = bound ((records_format o).reads bytes) whole r left e in
    let s = (records_lawful o).sound bytes cut.middle cut.value are cut.first in
    let ends = ended cut.value r cut.middle left cut.second in
    let spelled : spelling cut.value ≡ bytes =
    sym (records_spelled o cut.value) ∙ (sym (append-nil ((records_format o).spell cut.value)) ∙ (ap (λ (z : List ℕ). (records_format o).spell cut.value ++ z) (sym ends.nothing) ∙ s.0)) in
    (subst (λ (v : Records). Meets o v) ends.same s.1, ap spelling (sym ends.same) ∙ spelled)

pub refuses_no_spelling : (o : Outside) (bytes left : List ℕ) → records_reading o bytes ≡ (Err Bad, left) → (r : Records) → Meets o r → spelling r ≡ bytes → ⊥
refuses_no_spelling o bytes left e r h same = never_read Bad r left [] (sym e ∙ (ap (records_reading o) (sym same) ∙ reads_again o r h))

pub one_spelling : (o : Outside) (r s : Records) → Meets o r → Meets o s → spelling r ≡ spelling s → r ≡ s
one_spelling o r s h k same = (same_value r s [] [] (sym (reads_again o r h) ∙ (ap (records_reading o) same ∙ reads_again o s k))).0
