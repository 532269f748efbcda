use Rattle.std.proofs.Common.{◌+◌, Bool, arith, sym, ◌∙◌, ap, position}
use Rattle.bcj_hier_rules.specs.Shapes.{Method, method_of_record, behind_first}
use Rattle.bcj_layout_resolution.specs.Searches.{fits}
use Rattle.bcj_layout_resolution.proofs.Searching.{method_numbered, no_method_numbered}
use Rattle.bcj_layout_resolution.proofs.resolver.Resolver.own_method.Goals as goal

pub returns-in-None : goal.returns-in-None
returns-in-None c =
    let p : Method → Bool = fits c.args.sought c.args.name.now c.args.desc.now in
    no_method_numbered c.args.self.now c.args.record.now p (ap (λ ms. position (λ m. p (method_of_record m)) (behind_first ms)) (sym c.as_slice.ensures) ∙ (ap (position (λ m. p (method_of_record m))) (sym c.named_methods.ensures) ∙ sym c.in-None.ensures))

pub returns-in-Some : goal.returns-in-Some
returns-in-Some c =
    let p : Method → Bool = fits c.args.sought c.args.name.now c.args.desc.now in
    method_numbered c.args.self.now c.args.class c.args.record.now p c.in-Some.number (c.in-Some.number + 1) c.requires.record
    (ap (λ ms. position (λ m. p (method_of_record m)) (behind_first ms)) (sym c.as_slice.ensures) ∙ (ap (position (λ m. p (method_of_record m))) (sym c.named_methods.ensures) ∙ sym c.in-Some.ensures)) (omega arith)
