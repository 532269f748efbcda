use Rattle.std.proofs.Common.{◌≤◌, ◌^◌, ◌∙◌, sym, subst, length, arith}
use Rattle.bcj_elf.specs.declared.object.Symbol.{Symbol}
use Rattle.bcj_elf.specs.Plain.{plain_symbols}
use Rattle.bcj_elf.specs.Layout.{strings}
use Rattle.std.specs.Prelude.{List}
use Rattle.bcj_elf.proofs.Accepting.{meets, is_met}
use Rattle.bcj_elf.proofs.rules.is_object.Goals as goal

pub returns-in-Some : goal.returns-in-Some
returns-in-Some c = (λ h. meets _ (sym c.meets_rules.ensures ∙ h), λ h. c.meets_rules.ensures ∙ is_met _ h)

pub returns-in-None : goal.returns-in-None
returns-in-None c =
    let many : 2 ^ 32 ≤ length (strings (plain_symbols c.args.o.now.symbols.items)) =
    subst (λ (z : List Symbol). 2 ^ 32 ≤ length (strings (plain_symbols z))) c.deref.ensures.value c.in-None.ensures.none in
    (λ h. absurd cc, λ h. let small = h.small in absurd (omega arith))
