use Rattle.std.proofs.Common.{◌+◌, ◌-◌, [], ◌∷◌, ◌++◌, length, ap, ◌∙◌, arith, rules}
use Rattle.std.proofs.Math.ListN.{length-set}
use Rattle.bcj_cli_code.specs.function.Code.{ahead}
use Rattle.bcj_cli_language.proofs.PlainLemmas.{act-If, act-While}
use Rattle.bcj_cli_language.specs.declared.tree.Statement.TheViews.{the_lemmas}
use Rattle.bcj_cli_language.specs.Plain.{act_of, acts_of}
use Rattle.bcj_cli_code.proofs.Emitting.{progress_start, progress_at, fits_at, frames_end, frame_leaves, first_fits, second_fits, jumps_ahead, jumps_near, choose_written, body_fits, back_near, loop_near, loop_ahead, repeat_written}
use Rattle.bcj_cli_code.proofs.program.+emit.Goals as goal

pub put_block-put_statement-requires : goal.put_block-put_statement-requires
put_block-put_statement-requires t c = (search (rules, the_lemmas), fits_at _ _ _ _ _ c.loop-s-test.true c.s-item.is c.loop-s.invariant.fits)

pub put_block-loop-s-init : goal.put_block-loop-s-init
put_block-loop-s-init t c = progress_start _ _ _ c.requires

pub put_block-loop-s-preserved : goal.put_block-loop-s-preserved
put_block-loop-s-preserved t c = progress_at _ _ _ _ _ _ _ _ _ _ c.loop-s-test.true c.s-item.is c.in_ok-put_statement.ensures.code c.in_ok-put_statement.ensures.scope c.loop-s.invariant

pub put_block-returns-clause-scope : goal.put_block-returns-clause-scope
put_block-returns-clause-scope t c = c.leave.ensures ∙ frame_leaves c.loop-s.scope c.args.scope.now (acts_of c.args.block.now) _ (frames_end c.loop-s.scope c.args.scope.now (acts_of c.args.block.now) c.args.block.now c.loop-s.s-index c.loop-s-test.false c.loop-s.invariant.frames) c.len-outer.ensures

pub put_statement-put_block-requires : goal.put_statement-put_block-requires
put_statement-put_block-requires t c =
    (search (rules, the_lemmas), first_fits _ _ _ _ _ (ap act_of c.in-If.is ∙ act-If _ _ _) _ _ _ c.in_ok-put_condition-in-If.ensures c.in_ok-skip-in-If.ensures.code c.requires _ c.as_slice.ensures)

pub put_statement-put_block-requires-in-If : goal.put_statement-put_block-requires-in-If
put_statement-put_block-requires-in-If t c = (
  search (rules, the_lemmas),
  second_fits _ _ _ _ _ (ap act_of c.in-If.is ∙ act-If _ _ _) _ _ _ c.in_ok-put_condition-in-If.ensures c.in_ok-skip-in-If.ensures.code c.requires
      _ _ _ _ _ c.as_slice.ensures c.as_slice-in-If.ensures c.in_ok-put_block-in-If.ensures.scope c.in_ok-put_block-in-If.ensures.code c.in_ok-jump-in-If.ensures.code,
)

pub put_statement-jump_to-requires-clause-ahead : goal.put_statement-jump_to-requires-clause-ahead
put_statement-jump_to-requires-clause-ahead t c =
    jumps_ahead _ _ _ _ _ (ap act_of c.in-If.is ∙ act-If _ _ _) _ _ _ c.in_ok-put_condition-in-If.ensures c.in_ok-skip-in-If.ensures.code c.requires
    _ _ _ _ _ c.as_slice.ensures c.as_slice-in-If.ensures c.in_ok-put_block-in-If.ensures.scope c.in_ok-put_block-in-If.ensures.code c.in_ok-jump-in-If.ensures.code
    _ _ c.in_ok-skip-in-If.ensures.place c.in_ok-jump-in-If.ensures.place

pub put_statement-jump_to-requires-clause-near : goal.put_statement-jump_to-requires-clause-near
put_statement-jump_to-requires-clause-near t c =
    jumps_near _ _ _ _ _ (ap act_of c.in-If.is ∙ act-If _ _ _) _ _ _ c.in_ok-put_condition-in-If.ensures c.in_ok-skip-in-If.ensures.code c.requires
    _ _ _ _ _ c.as_slice.ensures c.as_slice-in-If.ensures c.in_ok-put_block-in-If.ensures.scope c.in_ok-put_block-in-If.ensures.code c.in_ok-jump-in-If.ensures.code
    _ c.in_ok-put_block-in-If-2.ensures.code

pub put_statement-jump_to-requires-in-If-clause-near : goal.put_statement-jump_to-requires-in-If-clause-near
put_statement-jump_to-requires-in-If-clause-near t c =
    omega (
      arith,
      ap length c.jump_to.ensures,
      length-set c.put_block-in-If.new.code.items c.in_ok-skip-in-If.skip (ahead (c.in_ok-jump-in-If.jump + 1 - c.in_ok-skip-in-If.skip - 1)),
      jumps_near _ _ _ _ _ (ap act_of c.in-If.is ∙ act-If _ _ _) _ _ _ c.in_ok-put_condition-in-If.ensures c.in_ok-skip-in-If.ensures.code c.requires
          _ _ _ _ _ c.as_slice.ensures c.as_slice-in-If.ensures c.in_ok-put_block-in-If.ensures.scope c.in_ok-put_block-in-If.ensures.code c.in_ok-jump-in-If.ensures.code
          _ c.in_ok-put_block-in-If-2.ensures.code,
    )

pub put_statement-returns-in_ok-put_block-in-If-2-clause-code : goal.put_statement-returns-in_ok-put_block-in-If-2-clause-code
put_statement-returns-in_ok-put_block-in-If-2-clause-code t c =
    choose_written _ _ _ _ _ (ap act_of c.in-If.is ∙ act-If _ _ _) _ _ _ c.in_ok-put_condition-in-If.ensures c.in_ok-skip-in-If.ensures.code c.requires
    _ _ _ _ _ c.as_slice.ensures c.as_slice-in-If.ensures c.in_ok-put_block-in-If.ensures.scope c.in_ok-put_block-in-If.ensures.code c.in_ok-jump-in-If.ensures.code
    _ _ _ _ _ _ c.in_ok-skip-in-If.ensures.place c.in_ok-jump-in-If.ensures.place c.in_ok-put_block-in-If-2.ensures.code c.jump_to.ensures c.here-end.ensures c.jump_to-in-If.ensures

pub put_statement-put_block-requires-in-While : goal.put_statement-put_block-requires-in-While
put_statement-put_block-requires-in-While t c =
    (search (rules, the_lemmas), body_fits _ _ _ _ (ap act_of c.in-While.is ∙ act-While _ _) _ _ _ _ c.in_ok-put_turn-in-While.ensures c.in_ok-put_condition-in-While.ensures c.in_ok-skip-in-While.ensures.code c.requires _ c.as_slice-in-While.ensures)

pub put_statement-jump_back-requires-clause-near : goal.put_statement-jump_back-requires-clause-near
put_statement-jump_back-requires-clause-near t c =
    back_near _ _ _ _ (ap act_of c.in-While.is ∙ act-While _ _) _ _ _ _ c.in_ok-put_turn-in-While.ensures c.in_ok-put_condition-in-While.ensures c.in_ok-skip-in-While.ensures.code c.requires _ _ c.as_slice-in-While.ensures c.in_ok-put_block-in-While.ensures.code
    _ _ c.here-start.ensures c.here-far.ensures

pub put_statement-jump_to-requires-in-While-clause-ahead : goal.put_statement-jump_to-requires-in-While-clause-ahead
put_statement-jump_to-requires-in-While-clause-ahead t c =
    loop_ahead _ _ _ _ (ap act_of c.in-While.is ∙ act-While _ _) _ _ _ _ c.in_ok-put_turn-in-While.ensures c.in_ok-put_condition-in-While.ensures c.in_ok-skip-in-While.ensures.code c.requires _ _ c.as_slice-in-While.ensures c.in_ok-put_block-in-While.ensures.code
    _ _ c.in_ok-put-in-While.ensures _ _ c.in_ok-skip-in-While.ensures.place c.here-end-in-While.ensures

pub put_statement-jump_to-requires-in-While-clause-near : goal.put_statement-jump_to-requires-in-While-clause-near
put_statement-jump_to-requires-in-While-clause-near t c =
    loop_near _ _ _ _ (ap act_of c.in-While.is ∙ act-While _ _) _ _ _ _ c.in_ok-put_turn-in-While.ensures c.in_ok-put_condition-in-While.ensures c.in_ok-skip-in-While.ensures.code c.requires _ _ c.as_slice-in-While.ensures c.in_ok-put_block-in-While.ensures.code
    _ _ c.in_ok-put-in-While.ensures

pub put_statement-returns-in_ok-put-in-While-clause-code : goal.put_statement-returns-in_ok-put-in-While-clause-code
put_statement-returns-in_ok-put-in-While-clause-code t c =
    repeat_written _ _ _ _ (ap act_of c.in-While.is ∙ act-While _ _) _ _ _ _ c.in_ok-put_turn-in-While.ensures c.in_ok-put_condition-in-While.ensures c.in_ok-skip-in-While.ensures.code c.requires _ _ c.as_slice-in-While.ensures c.in_ok-put_block-in-While.ensures.code
    _ _ _ _ _ _ c.here-start.ensures c.in_ok-skip-in-While.ensures.place c.here-far.ensures (c.in_ok-put-in-While.ensures ∙ ap (λ i. c.put_block-in-While.new.code.items ++ i ∷ []) c.jump_back.ensures) c.here-end-in-While.ensures c.jump_to-in-While.ensures
