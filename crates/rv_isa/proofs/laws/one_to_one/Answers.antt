use Rattle.rv_isa.proofs.Spelled.{spelled_once, spelled_or}
use Rattle.rv_isa.proofs.laws.one_to_one.Goals as goal

pub returns : goal.returns
returns c = record { once = spelled_once; told = spelled_or }
