use Rattle.std.proofs.Common.{◌≡◌, ◌∙◌, ap, map, [], slice_get}
use Rattle.std.proofs.lemmas.Result.{IfOk-weaker}
use Rattle.std.specs.Option.{option_map_or}
use Rattle.bcj_decl_table.specs.Views.{method_of_info, declared_of, world_in}
use Rattle.bcj_decl_head_faults.specs.Lacks.{AnswersWhether, Lacks, LacksOf, SomeOf}
use Rattle.bcj_decl_head_faults.proofs.Reaching.{methods_at, lacks_of_type}
use Rattle.bcj_decl_head_faults.proofs.ancestor.lacks_at.Goals as goal

pub returns-in-Some : goal.returns-in-Some
returns-in-Some c =
    let w = world_in c.args.listing.now.types in
    let t = declared_of c.args.info.now in
    let steps = c.args.steps.now in
    let from = c.args.from.now in
    let k = c.args.place in
    let methods = c.as_slice.result.now in
    let e : map method_of_info methods ≡ option_map_or (λ u. u.methods) (slice_get w k) [] =
    ap (map method_of_info) c.as_slice.ensures ∙ methods_at c.args.listing.now.types k c.in-Some.above.now c.in-Some.ensures.value in
    IfOk-weaker c.lacks_one.result (λ b. AnswersWhether b (SomeOf (λ m. Lacks w steps t from k (method_of_info m)) methods)) (λ b. AnswersWhether b (LacksOf w steps t from k))
    (λ b d. lacks_of_type w steps t from k methods b e d) c.lacks_one.ensures
