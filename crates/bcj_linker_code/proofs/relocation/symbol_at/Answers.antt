use Rattle.std.proofs.lemmas.Result.{MatchResult-weaker}
use Rattle.bcj_linker_code.proofs.Symbols.{code_at, tables_at}
use Rattle.bcj_linker_code.proofs.relocation.symbol_at.Goals as goal

pub returns-then-symbol-eq1 : goal.returns-then-symbol-eq1
returns-then-symbol-eq1 c =
    MatchResult-weaker c.address_at.result c.address_at.ensures
    (λ address there cs main h. code_at cs main c.args.places.now c.args.first c.args.symbol c.in_ok-class.class address c.in_ok-class.ensures c.if-symbol-eq1.true there h) (λ e h. h)

pub returns-else-symbol-eq1 : goal.returns-else-symbol-eq1
returns-else-symbol-eq1 c =
    MatchResult-weaker c.address_at-else-symbol-eq1.result c.address_at-else-symbol-eq1.ensures
    (λ address there cs main h. tables_at cs main c.args.places.now c.args.first c.args.symbol c.in_ok-class.class address c.in_ok-class.ensures c.if-symbol-eq1.false there h) (λ e h. h)
