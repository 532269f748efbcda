use Rattle.bcj_elf.proofs.reading.one_spelling.Goals as goal
use Rattle.bcj_elf.proofs.Again as law

pub returns : goal.returns
returns c = law.one_spelling
