use Rattle.std.proofs.Common.{◌≡◌, ◌∙◌, ◌<◌, ap, sym, subst, length, arith}
use Rattle.std.specs.List.{AllByRecursion}
use Rattle.std.proofs.lemmas.List.{length-map, length_push}
use Rattle.bcj_hier_rules.specs.Trees.{loads}
use Rattle.bcj_layout_rules.specs.Rows.{mixture_of}
use Rattle.bcj_layout_rows.specs.Found.{IsLoading}
use Rattle.bcj_layout_rows.proofs.HierLemmas.{loaded-kept, loaded-skipped, more-loading}
use Rattle.bcj_layout_rows.proofs.loading.loaded.Goals as goal
use Rattle.bcj_layout_rows.proofs.loading.loaded.Goals.{then-loads+in_ok-push, else-loads}

pub loop-k-preserved : goal.loop-k-preserved
loop-k-preserved c =
    let cs = c.args.resolver.now in
    let count : c.len-count.result ≡ length cs = c.len-count.ensures.count ∙ (ap length c.hier.ensures ∙ length-map cs (λ x. x.head)) in
    let inside : c.loop-k.k < length cs = omega (arith, count, c.loop-k-test.true) in
    elim c.if-loads.branch [
      | then-loads+in_ok-push w ↦
          let next = w.ids-is ∙ w.in_ok-push.ensures.ok in
          record {
            names = loaded-kept (loads (mixture_of cs)) cs c.loop-k.k c.loop-k.ids c.if-loads.ids next inside (sym c.loads.ensures ∙ w.if-loads.true) ∙ c.loop-k.invariant.names;
            loading = more-loading cs c.loop-k.k c.loop-k.ids c.if-loads.ids next inside (sym c.loads.ensures ∙ w.if-loads.true) c.loop-k.invariant.loading;
            few = omega (arith, ap length next ∙ length_push c.loop-k.ids (record { 0 = c.loop-k.k }), c.loop-k.invariant.few);
          }
      | else-loads w ↦
          record {
            names = loaded-skipped (loads (mixture_of cs)) cs c.loop-k.k c.loop-k.ids c.if-loads.ids w.ids-is inside (sym c.loads.ensures ∙ w.if-loads.false) ∙ c.loop-k.invariant.names;
            loading = subst (AllByRecursion (IsLoading cs)) (sym w.ids-is) c.loop-k.invariant.loading;
            few = omega (arith, ap length w.ids-is, c.loop-k.invariant.few);
          }
    ]
