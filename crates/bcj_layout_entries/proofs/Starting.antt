-- The three entries of the start's region.
use Rattle.std.proofs.Common.{◌≡◌, ◌∙◌, sym, ap, subst, List, [], ◌∷◌, ◌++◌, None}
use Rattle.std.proofs.lemmas.List.Elements.{All-push, All-nil}
use Rattle.bcj_symbolic_trees.specs.Types.{class_type}
use Rattle.bcj_hier_rules.specs.Shapes.{Named}
use Rattle.bcj_layout_rules.specs.Rows.{Classes, arguments_type}
use Rattle.bcj_layout_entries.specs.declared.entries.Entry.{Entry}
use Rattle.bcj_layout_entries.specs.Entries.{IsAmong}
use Rattle.bcj_layout_entries.specs.Listed.{IsEntry}
use Rattle.bcj_layout_entries.specs.Start.{AreStartEntries, type_result, main_class, main_result, declaring_class}

-- three entries that are put one behind another
pub three-entries : (cs : Classes) (main : Named) (l0 l1 l2 l3 : List Entry) (e1 e2 e3 : Entry) → l0 ≡ [] → l1 ≡ l0 ++ e1 ∷ [] → l2 ≡ l1 ++ e2 ∷ [] → l3 ≡ l2 ++ e3 ∷ []
    → IsEntry cs (type_result cs main (class_type main)) (main_class cs main) e1 → IsEntry cs (type_result cs main arguments_type) None e2
    → IsEntry cs (main_result cs main) (declaring_class cs main (main_result cs main)) e3 → AreStartEntries cs main l3
three-entries cs main l0 l1 l2 l3 e1 e2 e3 none first second third a b c =
    let whole : l3 ≡ e1 ∷ e2 ∷ e3 ∷ [] = third ∙ ap (λ l. l ++ e3 ∷ []) (second ∙ ap (λ l. l ++ e2 ∷ []) (first ∙ ap (λ l. l ++ e1 ∷ []) none)) in
    let P = IsAmong cs in
    subst (AreStartEntries cs main) (sym whole)
    (record {
      words = λ i. a.is_word i ∷ b.is_word i ∷ c.is_word i ∷ [];
      classes = λ i. a.is_class i ∷ b.is_class i ∷ c.is_class i ∷ [];
      among = All-push P (e1 ∷ e2 ∷ []) e3 (All-push P (e1 ∷ []) e2 (All-push P [] e1 (All-nil P) a.among) b.among) c.among;
    })
