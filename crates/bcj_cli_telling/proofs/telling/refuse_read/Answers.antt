use Rattle.bcj_cli_telling.proofs.telling.refuse_read.Goals as goal

pub returns-in-Failed-clause-part : goal.returns-in-Failed-clause-part
returns-in-Failed-clause-part g c = rw c.in-Failed.is c.refuse.ensures.part
