use Rattle.std.proofs.Common.{◌≡◌, ◌+◌, ◌≤◌, List, [], ℕ, length, sym, subst, arith, nat_eq}
use Rattle.indexmap.specs.IndexSet.{insert_all}
use Rattle.bcj_decl_graph.specs.Found.{found_of}
use Rattle.bcj_decl_graph.proofs.Explored.{Explored, opened, explored_start, explored_more, explored_fits, explored_whole}
use Rattle.bcj_decl_graph.proofs.search.Search.run.Goals as goal

pub loop-next-init : goal.loop-next-init
loop-next-init g c =
    let first : found_of c.insert_each.new.self ≡ insert_all nat_eq [] c.args.from.now = cc (c.in_ok-insert_each.ensures, c.clear.ensures.empty) in
    let P : List ℕ → Type 0 = λ l. Explored c.args.steps.now (g.B.Barrier.closed c.args.barrier.now) c.args.from.now l 0 in
    subst P (sym first) (explored_start c.args.steps.now (g.B.Barrier.closed c.args.barrier.now) c.args.from.now c.requires.starts)

pub loop-next-smaller : goal.loop-next-smaller
loop-next-smaller g c =
    let fits : length (found_of c.loop-next.self) ≤ length c.args.steps.now = explored_fits _ _ _ _ _ c.loop-next.invariant in
    omega (arith, fits, c.len.ensures.len)

pub loop-next-preserved : goal.loop-next-preserved
loop-next-preserved g c =
    let more : found_of c.open.new.self ≡ insert_all nat_eq (found_of c.loop-next.self) (opened c.args.steps.now (g.B.Barrier.closed c.args.barrier.now) c.index-place.result.now) = c.in_ok-open.ensures in
    let P : List ℕ → Type 0 = λ l. Explored c.args.steps.now (g.B.Barrier.closed c.args.barrier.now) c.args.from.now l (c.loop-next.next + 1) in
    subst P (sym more) (explored_more c.args.steps.now (g.B.Barrier.closed c.args.barrier.now) c.args.from.now (found_of c.loop-next.self) c.loop-next.next c.index-place.result.now c.requires.within c.index-place.ensures c.loop-next.invariant)

pub returns-clause-reached : goal.returns-clause-reached
returns-clause-reached g c =
    let all : length (found_of c.loop-next.self) ≤ c.loop-next.next = omega (arith, c.len.ensures.len) in
    λ k. (c.loop-next.invariant.reached k, explored_whole c.args.steps.now (g.B.Barrier.closed c.args.barrier.now) c.args.from.now (found_of c.loop-next.self) c.loop-next.next c.loop-next.invariant all k)
