use Rattle.bcj_cli_showing.proofs.Puts.{put_more, put_part, put_piece_part}
use Rattle.bcj_cli_showing.proofs.pieces.put_pieces.Goals as goal

pub returns-in_err-put-clause-part : goal.returns-in_err-put-clause-part
returns-in_err-put-clause-part g c = put_piece_part _ _ _ _ _ _ _ 4096 c.loop-rest.invariant c.in_err-put.ensures.front

pub loop-rest-preserved : goal.loop-rest-preserved
loop-rest-preserved g c = put_more _ _ _ _ _ _ _ _ 4096 c.loop-rest.invariant c.in_ok-put.ensures.ok c.in_ok-put.ensures.later

pub returns-clause-part : goal.returns-clause-part
returns-clause-part g c = put_part _ _ _ _ _ _ _ c.loop-rest.invariant c.put_some.ensures.part
