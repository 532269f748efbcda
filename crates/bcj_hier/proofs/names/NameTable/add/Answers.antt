use Rattle.std.proofs.Common.{◌≡◌, ap, ◌∙◌, sym, string_bytes, position, List, ℕ, not, cond, None, Some}
use Rattle.std.specs.Str.{bytes_eq}
use Rattle.std.specs.List.{list_any, position_or_len}
use Rattle.bcj_hier.specs.Numbers.{numbered}
use Rattle.bcj_hier.proofs.Places.{position_of_images, position_by}
use Rattle.bcj_hier.proofs.names.NameTable.add.Goals as goal
use Rattle.bcj_hier.proofs.names.NameTable.add.Goals.{then-added, else-added}

pub returns-clause-absent : goal.returns-clause-absent
returns-clause-absent c =
    let text : string_bytes c.in_ok-text.text ≡ c.args.name.now = c.in_ok-text.ensures.ok ∙ c.as_str.ensures in
    let whole : cond (not (list_any (λ k. bytes_eq (string_bytes c.in_ok-text.text) (string_bytes k)) c.self.inside.index.keys)) None (Some (position_or_len (λ k. bytes_eq (string_bytes c.in_ok-text.text) (string_bytes k)) c.self.inside.index.keys)) ≡ numbered c.args.self.now c.args.name.now =
    position_by (λ k. bytes_eq (string_bytes c.in_ok-text.text) (string_bytes k)) c.self.inside.index.keys
    ∙ (ap (λ (t : List ℕ). position (λ k. bytes_eq t (string_bytes k)) c.self.inside.index.keys) text
    ∙ (sym (position_of_images (λ k. string_bytes k) (bytes_eq c.args.name.now) c.self.inside.index.keys) ∙ ap (λ (names : List (List ℕ)). numbered names c.args.name.now) c.self.view_is)) in
    let at : cond (not (list_any (λ k. bytes_eq (string_bytes c.in_ok-text.text) (string_bytes k)) c.self.inside.index.keys)) None (Some (position_or_len (λ k. bytes_eq (string_bytes c.in_ok-text.text) (string_bytes k)) c.self.inside.index.keys)) ≡ cond c.in_ok-number.added None (Some c.in_ok-number.number) =
    ap (λ b. cond b None (Some (position_or_len (λ k. bytes_eq (string_bytes c.in_ok-text.text) (string_bytes k)) c.self.inside.index.keys))) (sym c.in_ok-number.ensures.added) ∙ ap (λ n. cond c.in_ok-number.added None (Some n)) (sym c.in_ok-number.ensures.index) in
    elim c.if-added.branch [
      | then-added w ↦ w.result-is ∙ (ap (λ b. cond b None (Some c.in_ok-number.number)) (sym w.if-added.true) ∙ (sym at ∙ whole))
      | else-added w ↦ w.result-is ∙ (ap (λ b. cond b None (Some c.in_ok-number.number)) (sym w.if-added.false) ∙ (sym at ∙ whole))
    ]
