use Rattle.bcj_cli_language.specs.Plain.{acts_of}
use Rattle.bcj_cli_code.proofs.Emitting.{start_fits}
use Rattle.bcj_cli_code.proofs.program.instructions.Goals as goal

pub put_block-requires : goal.put_block-requires
put_block-requires c = start_fits (acts_of c.args.body.now) _ _ _ _ c.requires.bounded c.requires.short c.new-code.ensures.items c.in_ok-put_turn.ensures c.in_ok-put_turn-2.ensures c.new-scope.ensures
