use Rattle.std.proofs.Common.{ℕ, List, length, sym, ◌∙◌, subst}
use Rattle.bcj_decl_table.specs.Views.{method_of_info, world_in}
use Rattle.bcj_decl_graph.specs.Found.{found_of}
use Rattle.bcj_decl_graph.specs.Reached.{AreBelow, IsWithin}
use Rattle.bcj_decl_graph.proofs.Within.{world_within}
use Rattle.bcj_decl_member_faults.proofs.Clashes.{clash_answer}
use Rattle.bcj_decl_member_faults.proofs.inherited.clashes.Goals as goal

pub run-requires-clause-within : goal.run-requires-clause-within
run-requires-clause-within c = let P : List (List ℕ) → Type 0 = λ s. IsWithin s in subst P (sym c.requires.steps) (world_within (world_in c.args.listing.now.types))

pub run-requires-clause-starts : goal.run-requires-clause-starts
run-requires-clause-starts c = let P : List ℕ → Type 0 = λ l. AreBelow (length c.args.steps.now) l in subst P (sym c.as_slice.ensures) c.requires.starts

pub returns : goal.returns
returns c = λ t e.
    clash_answer c.passing_methods_are_reached.ensures (world_in c.args.listing.now.types) t (method_of_info c.args.method.now) c.args.steps.now c.as_slice.result.now (found_of c.run.new.self) c.places.result.now c.clashes_at_one.result
    c.requires.steps (c.as_slice.ensures ∙ e) c.in_ok-run.ensures.reached c.places.ensures.places c.clashes_at_one.ensures
