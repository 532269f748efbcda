use Rattle.std.proofs.Common.{◌≡◌, ℕ, List, ◌∷◌, Some, Bool, true, false, cond, string_bytes, nat_eq, ap, sym, ◌∙◌}
use Rattle.std.specs.Ordering.{nat_cmp}
use Rattle.std.specs.Cmp.Lexicographic.{slice_cmp, pointwise, texts_ties}
use Rattle.std.specs.FinMap.{find}
use Rattle.bcj_edge.specs.declared.mem_files.File.{File}
use Rattle.bcj_edge.specs.function.Entries.{entries_of}
use Rattle.bcj_edge.proofs.mem_files.find.Goals as goal

-- the first file decides by the comparison of the names
first_decides : (q : List ℕ) (f : File) (fs : List File) (b : Bool) → pointwise nat_eq q (string_bytes f.name) ≡ b
    → find (slice_cmp nat_cmp) q (entries_of (f ∷ fs)) ≡ cond b (Some f.bytes) (find (slice_cmp nat_cmp) q (entries_of fs))
first_decides q f fs b e =
    ap (λ t. cond t (Some f.bytes) (find (slice_cmp nat_cmp) q (entries_of fs))) (sym (texts_ties q (string_bytes f.name)) ∙ e)

pub returns-then-eq : goal.returns-then-eq
returns-then-eq c =
    sym (c.loop-file.invariant
    ∙ ap (λ fs. find (slice_cmp nat_cmp) c.args.name.now (entries_of fs)) c.in-Some.ensures.steps
    ∙ first_decides c.args.name.now c.in-Some.file.now _ true
    (ap (pointwise nat_eq c.args.name.now) (sym c.as_str.ensures.value) ∙ sym c.eq.ensures ∙ c.if-eq.true))

pub loop-file-preserved : goal.loop-file-preserved
loop-file-preserved c =
    c.loop-file.invariant
    ∙ ap (λ fs. find (slice_cmp nat_cmp) c.args.name.now (entries_of fs)) c.in-Some.ensures.steps
    ∙ first_decides c.args.name.now c.in-Some.file.now _ false
    (ap (pointwise nat_eq c.args.name.now) (sym c.as_str.ensures.value) ∙ sym c.eq.ensures ∙ c.if-eq.false)
