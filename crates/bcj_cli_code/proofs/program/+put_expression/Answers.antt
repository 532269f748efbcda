use Rattle.std.proofs.Common.{ap, ◌∙◌, arith, rules}
use Rattle.bcj_cli_language.proofs.PlainLemmas.{sum-Binary}
use Rattle.bcj_cli_language.specs.declared.tree.Expression.TheViews.{the_lemmas}
use Rattle.bcj_cli_language.specs.Plain.{sum_of}
use Rattle.bcj_cli_language.specs.Bounds.{temporaries_of}
use Rattle.bcj_cli_code.proofs.program.+put_expression.Goals as goal

pub put_expression-requires : goal.put_expression-requires
put_expression-requires t c = (search (rules, the_lemmas), omega (arith, ap temporaries_of (ap sum_of c.in-Binary.is ∙ sum-Binary _ _ _), ap (λ x. temporaries_of (sum_of x)) c.get.ensures))

pub put_expression-requires-in-Binary : goal.put_expression-requires-in-Binary
put_expression-requires-in-Binary t c = (search (rules, the_lemmas), omega (arith, ap temporaries_of (ap sum_of c.in-Binary.is ∙ sum-Binary _ _ _), ap (λ x. temporaries_of (sum_of x)) c.get-in-Binary.ensures))
