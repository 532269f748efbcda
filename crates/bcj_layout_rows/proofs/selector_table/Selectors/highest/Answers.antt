use Rattle.std.proofs.Common.{◌∙◌, ◌<◌, ◌-◌, sym, length, arith}
use Rattle.bcj_hier_rules.specs.Heads.{name_of}
use Rattle.bcj_layout_rules.specs.Rows.{mixture_of}
use Rattle.bcj_layout_resolution.specs.Places.{heads_in}
use Rattle.bcj_layout_rows.specs.Found.{selectors_in}
use Rattle.bcj_layout_rows.proofs.HighestLemmas.{highest-here, highest-before}
use Rattle.bcj_layout_rows.proofs.selector_table.Selectors.highest.Goals as goal

pub returns-then-is_implemented-clause-number : goal.returns-then-is_implemented-clause-number
returns-then-is_implemented-clause-number c =
    let n = c.loop-count.count in
    let rs = selectors_in c.args.self.now in
    let inside : n - 1 < length rs = omega (arith, c.loop-count.invariant.within, c.loop-count-test.true) in
    let here_it = highest-here (mixture_of c.args.resolver.now) (name_of (heads_in c.args.resolver.now) c.args.class) rs n (n - 1) (omega (arith, c.loop-count-test.true)) inside (sym c.is_implemented.ensures ∙ c.if-is_implemented.true) in
    sym here_it ∙ c.loop-count.invariant.left

pub loop-count-preserved : goal.loop-count-preserved
loop-count-preserved c =
    let n = c.loop-count.count in
    let rs = selectors_in c.args.self.now in
    let inside : n - 1 < length rs = omega (arith, c.loop-count.invariant.within, c.loop-count-test.true) in
    record {
      within = omega (arith, inside);
      left = sym (highest-before (mixture_of c.args.resolver.now) (name_of (heads_in c.args.resolver.now) c.args.class) rs n (n - 1) (omega (arith, c.loop-count-test.true)) inside (sym c.is_implemented.ensures ∙ c.if-is_implemented.false))
          ∙ c.loop-count.invariant.left;
    }
