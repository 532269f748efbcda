use Rattle.std.proofs.Common.{refl, sym, ap, ◌∙◌, ◌++◌, append-nil, map}
use Rattle.std.specs.Iterator.Adapters.{zip_first, zip_second}
use Rattle.std.specs.Slice.Iter.{iter_rest}
use Rattle.std.proofs.lemmas.Slice.Zip.{either_empty_from_Zip}
use Rattle.bcj_lower.specs.Views.{relocation_in}
use Rattle.bcj_lower.proofs.EmittedLemmas.{used_up}
use Rattle.bcj_lower.proofs.relocations.push_relocations.Goals as goal

pub returns : goal.returns
returns c =
    let at = c.loop-line in
    let built = map relocation_in at.relocs.items in
    λ uses h. sym (append-nil built)
    ∙ ap (λ l. built ++ l)
    (sym (used_up uses c.args.start (iter_rest (zip_first at.line-iterator)) (iter_rest (zip_second at.line-iterator)) (either_empty_from_Zip at.line-iterator c.next.new.self _ refl c.in-None.ensures.steps)))
    ∙ at.invariant uses h
