use Rattle.std.proofs.Common.{◌≡◌, ap, ◌∙◌, ◌++◌, ◌∷◌, [], arith}
use Rattle.std.proofs.lemmas.List.{map_push}
use Rattle.bcj_elf.specs.Plain.{plain_symbols}
use Rattle.bcj_elf.specs.function.Reading.{symbol_at}
use Rattle.bcj_elf.proofs.Loops.{symbols_go_on, symbols_end}
use Rattle.bcj_elf.proofs.decoding.symbols_of.Goals as goal

pub loop-rest-preserved : goal.loop-rest-preserved
loop-rest-preserved c =
    let s = c.in_ok-symbol_of.field-0 in
    let e : plain_symbols c.push.new.self.items ≡ plain_symbols c.loop-rest.symbols.items ++ symbol_at c.loop-rest.rest.now c.loop-rest.names.now ∷ [] =
    rw c.in_ok-push.ensures.items (map_push _ c.loop-rest.symbols.items s ∙ ap (λ z. plain_symbols c.loop-rest.symbols.items ++ z ∷ []) c.in_ok-symbol_of.ensures) in
    rw (e, c.behind-rest.ensures, c.after_name-names.ensures) (symbols_go_on (plain_symbols c.loop-rest.symbols.items) c.loop-rest.rest.now c.loop-rest.names.now _ c.loop-rest-test.true c.loop-rest.invariant)

pub returns : goal.returns
returns c = symbols_end (plain_symbols c.loop-rest.symbols.items) c.loop-rest.rest.now c.loop-rest.names.now _ (omega arith) c.loop-rest.invariant
