use Rattle.std.proofs.Common.{ap, sym, ◌∙◌}
use Rattle.std.proofs.lemmas.List.{length-map}
use Rattle.bcj_symbolic_trees.specs.Types.{ty_of}
use Rattle.bcj_symbolic_trees.specs.Plain.{stmts_of}
use Rattle.bcj_lower_bodies.proofs.Whole.{method_made}
use Rattle.bcj_lower_bodies.proofs.method.method_code.Goals as goal

pub returns-clause-lines : goal.returns-clause-lines
returns-clause-lines c =
    method_made _ _ _ _ _ _ _ _ _ _ _ _ _ _ _ c.requires c.in_ok-first.ensures (c.len.ensures ∙ sym (length-map c.args.method.now.locals ty_of)) c.saturating_sub-zeroed.ensures
    c.method_body-body.ensures (ap stmts_of c.as_slice.ensures) c.no_loop.ensures
    c.new-code.ensures.lines c.in_ok-enter.ensures c.in_ok-zero_locals.ensures c.in_ok-statements.ensures.lines c.in_ok-last_value.ensures c.in_ok-exit.ensures
