use Rattle.std.proofs.Common.{◌≡◌, ◌∙◌, ◌<◌, ◌≤◌, ◌+◌, ap, sym, subst, length, arith, Bool, true, false, ℕ, Some, None, if◌then◌else◌, ◌++◌, ◌∷◌, []}
use Rattle.std.proofs.lemmas.List.{length-map}
use Rattle.bcj_symbolic_trees.specs.Types.{class_type}
use Rattle.bcj_hier_rules.specs.Heads.{AreDistinct, name_of}
use Rattle.bcj_hier_rules.specs.Trees.{loads}
use Rattle.bcj_layout_resolution.specs.Places.{heads_in}
use Rattle.bcj_layout_rules.specs.Rows.{mixture_of, row_number}
use Rattle.bcj_layout_rows.proofs.ClassRowLemmas.{class-row, taken-step, rows-step}
use Rattle.bcj_layout_rows.proofs.loading.class_rows.Goals as goal

-- the next number grows by one at most
at-most : (b : Bool) (n next k : ℕ) → next ≡ n + (if b then 1 else 0) → n ≤ k → next ≤ k + 1
at-most true n next k e h = omega arith
at-most false n next k e h = omega arith

pub loop-k-preserved : goal.loop-k-preserved
loop-k-preserved c =
    let cs = c.args.resolver.now in
    let k = c.loop-k.k in
    let p = loads (mixture_of cs) in
    let count : c.len-count.result ≡ length cs = c.len-count.ensures.count ∙ (ap length c.hier.ensures ∙ length-map cs (λ x. x.head)) in
    let inside : k < length cs = omega (arith, count, c.loop-k-test.true) in
    let distinct : AreDistinct (heads_in cs) = subst AreDistinct c.hier.ensures c.len-count.ensures.distinct in
    let row : c.row_if.result ≡ row_number cs (class_type (name_of (heads_in cs) (record { 0 = k }))) =
    c.row_if.ensures
    ∙ (ap (λ b. if b then Some c.loop-k.next else None) c.loads-is_loaded.ensures
    ∙ (ap (λ n. if p (name_of (heads_in cs) (record { 0 = k })) then Some n else None) c.loop-k.invariant.next ∙ sym (class-row cs k distinct inside))) in
    record {
      next = c.next_if-next.ensures
          ∙ (ap (λ b. c.loop-k.next + (if b then 1 else 0)) c.loads-is_loaded.ensures
          ∙ (ap (λ n. n + (if p (name_of (heads_in cs) (record { 0 = k })) then 1 else 0)) c.loop-k.invariant.next ∙ sym (taken-step p cs k inside)));
      few = at-most c.loads-is_loaded.result c.loop-k.next c.next_if-next.result k c.next_if-next.ensures c.loop-k.invariant.few;
      rows = rows-step (λ n. row_number cs (class_type n)) cs k c.loop-k.rows c.push.new.self (c.in_ok-push.ensures.ok ∙ ap (λ r. c.loop-k.rows ++ r ∷ []) row) inside ∙ c.loop-k.invariant.rows;
    }
