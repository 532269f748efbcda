use Rattle.std.proofs.Common.{ap, ◌∙◌, sym, string_bytes, position, List, ℕ}
use Rattle.std.specs.Str.{bytes_eq}
use Rattle.bcj_hier.specs.Numbers.{numbered}
use Rattle.bcj_hier.proofs.Places.{position_of_images}
use Rattle.bcj_hier.proofs.names.NameTable.find.Goals as goal

pub returns-clause-number : goal.returns-clause-number
returns-clause-number c =
    c.get_index_of.ensures.index
    ∙ (ap (λ (t : List ℕ). position (λ k. bytes_eq t (string_bytes k)) c.self.inside.index.keys) c.as_str.ensures
    ∙ (sym (position_of_images (λ k. string_bytes k) (bytes_eq c.args.name.now) c.self.inside.index.keys) ∙ ap (λ (names : List (List ℕ)). numbered names c.args.name.now) c.self.view_is))
