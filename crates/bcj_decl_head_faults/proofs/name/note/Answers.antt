use Rattle.std.proofs.Common.{◌≡◌, ◌∙◌, ap, cond, true, string_bytes}
use Rattle.std.proofs.lemmas.Map.Text.{hash_set_updates_text}
use Rattle.std.specs.HashSet.{contains_text}
use Rattle.std.specs.Str.{bytes_eq}
use Rattle.bcj_decl_head_faults.proofs.name.note.Goals as goal

pub returns-clause-noted : goal.returns-clause-noted
returns-clause-noted c = λ q.
    let same : string_bytes c.in_ok-from_str.field-0 ≡ c.args.name.now = cc (c.in_ok-from_str.ensures.ok, c.as_str.ensures) in
    hash_set_updates_text _ c.args.seen.now c.insert.new.self _ c.in_ok-is_new.ensures.updates q ∙ ap (λ n. cond (bytes_eq n q) true (contains_text c.args.seen.now q)) same
