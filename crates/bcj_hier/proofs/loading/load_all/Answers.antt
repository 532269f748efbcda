use Rattle.std.proofs.Common.{◌∙◌, List, ap, map}
use Rattle.bcj_hier.specs.declared.loading.Progress.{Progress}
use Rattle.bcj_hier.specs.Loads.{final_error}
use Rattle.bcj_hier.proofs.Sound.{all_loaded}
use Rattle.bcj_hier.proofs.loading.load_all.Goals as goal

pub returns : goal.returns
returns c =
    all_loaded c.args.heads.now c.in_ok-states.field-0.states.items c.in_ok-states.field-0.rows.items c.in_ok-errors.errors.items c.requires.distinct c.in_ok-states.ensures.sound c.in_ok-states.ensures.settled
    (c.in_ok-errors.ensures ∙ ap (λ (s : List Progress). map final_error s) c.deref.ensures.value)
