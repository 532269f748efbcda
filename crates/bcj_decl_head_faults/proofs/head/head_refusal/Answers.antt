use Rattle.std.proofs.Common.{◌≡◌, ◌∙◌, sym, subst, true, false, Some, List, ℕ, option_map}
use Rattle.std.proofs.lemmas.Result.{IfOk-weaker}
use Rattle.std.specs.Result.{IfOk}
use Rattle.bcj_parser_trees.specs.Plain as tree
use Rattle.bcj_decl_rules.specs.World.{Named, has_type, declared_type}
use Rattle.bcj_decl_rules.specs.Faults.{HeadFault, duplicate, unknown}
use Rattle.bcj_decl_table.specs.Views.{world_in}
use Rattle.bcj_decl_listing.specs.Places.{steps_from, steps_of_world}
use Rattle.bcj_decl_head_faults.specs.Refusals.{IsFirstRefusal, IsRefusedAbove, refusal_of}
use Rattle.bcj_decl_head_faults.proofs.Heads.{first_duplicate, first_unknown_name, wrong_names, first_hierarchy, refused_above, Named_well}
use Rattle.bcj_decl_head_faults.proofs.Standing.{taken_before, earlier_types}
use Rattle.bcj_decl_head_faults.proofs.head.head_refusal.Goals as goal

pub returns-then-is_taken : goal.returns-then-is_taken
returns-then-is_taken c = λ before s.
    let w = world_in c.args.listing.now.types in
    let t = tree.type_of c.args.decl.now in
    let taken : has_type (earlier_types before) t.name ≡ true = sym (taken_before w c.args.place before t s) ∙ (sym c.is_taken.ensures ∙ c.if-is_taken.true) in
    let P : Named → Type 0 = λ n. IsFirstRefusal (HeadFault w before t) (Some (duplicate n)) in
    subst P (sym c.in_ok-copy.ensures) (first_duplicate w before t taken)

pub returns-in-Some : goal.returns-in-Some
returns-in-Some c = λ before s.
    let w = world_in c.args.listing.now.types in
    let t = tree.type_of c.args.decl.now in
    let new : has_type (earlier_types before) t.name ≡ false = sym (taken_before w c.args.place before t s) ∙ (sym c.is_taken.ensures ∙ c.if-is_taken.false) in
    let P : Named → Type 0 = λ n. IsFirstRefusal (HeadFault w before t) (Some (unknown n)) in
    subst P (sym c.in_ok-copy-2.ensures) (first_unknown_name w before t c.in-Some.name.now new (sym c.in-Some.ensures))

pub returns-then-branch : goal.returns-then-branch
returns-then-branch c = λ before s.
    let w = world_in c.args.listing.now.types in
    let t = tree.type_of c.args.decl.now in
    let new : has_type (earlier_types before) t.name ≡ false = sym (taken_before w c.args.place before t s) ∙ (sym c.is_taken.ensures ∙ c.if-is_taken.false) in
    let well : Named_well w before t = record { new = new; known = sym c.in_default.ensures } in
    first_hierarchy w before t well (wrong_names w before t (sym c.in_ok-has_bad_names.ensures ∙ c.if-branch.true))

pub returns : goal.returns
returns c = λ before s.
    let w = world_in c.args.listing.now.types in
    let t = tree.type_of c.args.decl.now in
    let new : has_type (earlier_types before) t.name ≡ false = sym (taken_before w c.args.place before t s) ∙ (sym c.is_taken.ensures ∙ c.if-is_taken.false) in
    let well : Named_well w before t = record { new = new; known = sym c.in_default.ensures } in
    let d = declared_type t in
    let P : List (List ℕ) → Type 0 = λ steps. IfOk c.refusal_at.result (λ o. IsRefusedAbove w steps d (steps_from w d) c.args.place (option_map refusal_of o)) in
    IfOk-weaker c.refusal_at.result (λ o. IsRefusedAbove w (steps_of_world w) d (steps_from w d) c.args.place (option_map refusal_of o))
    (λ o. IsFirstRefusal (HeadFault w before t) (option_map refusal_of o))
    (λ o h. refused_above c.circles_are_reached.ensures c.passing_methods_are_reached.ensures w c.args.place before t s well (sym c.in_ok-has_bad_names.ensures ∙ c.if-branch.false) (option_map refusal_of o) h)
    (subst P c.requires (c.refusal_at.ensures before t s))
