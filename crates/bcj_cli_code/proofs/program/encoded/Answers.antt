use Rattle.bcj_cli_code.proofs.program.encoded.Goals as goal

pub encode-requires : goal.encode-requires
encode-requires c = c.requires _ _ c.loop-i-test.true
