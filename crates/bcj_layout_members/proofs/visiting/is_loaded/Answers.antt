use Rattle.std.proofs.Common.{◌∙◌}
use Rattle.bcj_hier_rules.specs.Loading.{load_error}
use Rattle.bcj_layout_rules.specs.Rows.{mixture_of}
use Rattle.bcj_layout_members.specs.Places.{name_at}
use Rattle.bcj_layout_members.proofs.Loading.{load_same, no_error}
use Rattle.bcj_layout_members.proofs.visiting.is_loaded.Goals as goal

pub returns : goal.returns
returns c =
    no_error c.load.result c.is_ok.result (load_error (mixture_of c.args.classes.now) (name_at c.args.classes.now c.args.c.0)) c.is_ok.ensures.value
    (c.load.ensures ∙ load_same c.args.classes.now c.args.hier.now c.requires.agree c.args.c)
