use Rattle.std.proofs.Common.{sym, ◌∙◌}
use Rattle.bcj_cli.proofs.WordLists.{list_of_five}
use Rattle.bcj_cli.proofs.command.read_words.Goals as goal

pub returns-in_ok-get-in-5-5 : goal.returns-in_ok-get-in-5-5
returns-in_ok-get-in-5-5 c =
    rw (list_of_five _ _ _ _ _ _ (sym c.len.ensures ∙ c.in-5.is) c.in_ok-get-in-5.ensures.value c.in_ok-get-in-5-2.ensures.value
    c.in_ok-get-in-5-3.ensures.value c.in_ok-get-in-5-4.ensures.value c.in_ok-get-in-5-5.ensures.value)
    c.limited.ensures
