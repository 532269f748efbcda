use Rattle.std.proofs.Common.{sym, arith, rules, length-drop}
use Rattle.std.proofs.lemmas.List.{take_all}
use Rattle.bcj_elf.specs.declared.object.Symbol.{Symbol}
use Rattle.bcj_elf.proofs.Facts.{pairs_go_on}
use Rattle.bcj_elf.proofs.rules.are_symbols.Goals as goal

pub loop-rest-preserved : goal.loop-rest-preserved
loop-rest-preserved c = record {
  same = pairs_go_on c.args.text c.args.tab c.loop-rest.text_at c.loop-rest.tab_at c.loop-rest.rest.now _ c.code-item.result c.tables-item.result _
      c.in-len2-up.len_at_least c.code-item.is c.tables-item.is (take_all _ _ (omega (arith, length-drop {A = Symbol})))
      (rw (← c.deref.ensures.value, ← c.deref-in-len2-up.ensures.value) (sym c.if-not-is_named.ensures))
      (sym c.if-not-is_region.ensures.value) (sym c.if-not-is_region-2.ensures.value) c.loop-rest.invariant.same;
  in_text = search rules;
  in_tab = search rules;
}
