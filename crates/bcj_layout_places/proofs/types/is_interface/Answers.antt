use Rattle.std.proofs.Common.{rules, arith, ◌≡◌, ◌<◌, ℕ, List, Some, length, slice_get, sym, ◌∙◌, ap, subst}
use Rattle.std.proofs.lemmas.List.{length-map}
use Rattle.std.specs.Option.{option_copied}
use Rattle.bcj_symbolic_trees.specs.declared.class_tree.ClassHead.{ClassHead}
use Rattle.bcj_hier_rules.specs.Heads.{AreDistinct}
use Rattle.bcj_layout_places.proofs.Interfaces.{interface_by_record}
use Rattle.bcj_layout_places.proofs.types.is_interface.Goals as goal

pub returns-in-None : goal.returns-in-None
returns-in-None c =
    let Q : ℕ → Type 0 = λ n. c.args.class.0 < n in
    let there : c.args.class.0 < length c.args.resolver.now = subst Q (length-map c.args.resolver.now (λ r. r.head)) c.requires.there in
    search (rules, arith, there, c.in-None.ensures.none, c.records.ensures)

pub returns-in-Some : goal.returns-in-Some
returns-in-Some c =
    let P : List ClassHead → Type 0 = λ hs. AreDistinct hs in
    let found : slice_get c.args.resolver.now c.args.class.0 ≡ Some c.in-Some.record.now =
    sym (ap (λ cs. slice_get cs c.args.class.0) c.records.ensures) ∙ (sym c.get.ensures.value ∙ ap option_copied c.in-Some.is) in
    interface_by_record c.args.resolver.now c.args.class c.in-Some.record.now (subst P c.hier.ensures c.len-facts.ensures.distinct) found
