use Rattle.bcj_cli_showing.proofs.Digits.{digits_write_words}
use Rattle.bcj_cli_showing.proofs.laws.digits_write_words.Goals as goal

pub returns : goal.returns
returns c = digits_write_words
