use Rattle.std.proofs.Common.{ap, sym, ◌∙◌}
use Rattle.std.proofs.lemmas.Cmp.{nat_list_cmp_total}
use Rattle.std.specs.FinMap.{get, get-from_entries}
use Rattle.bcj_edge.proofs.mem_files.MemFiles.get.Goals as goal

pub returns : goal.returns
returns c =
    c.find.ensures
    ∙ sym (get-from_entries nat_list_cmp_total _ _)
    ∙ ap (λ s. get s.files c.args.name.now) c.self.view_is
