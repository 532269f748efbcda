use Rattle.std.proofs.Common.{◌≡◌, ◌∙◌, Some, None, sym, ap}
use Rattle.bcj_hier_rules.specs.declared.link_error.LinkError.TheVariants as error
use Rattle.bcj_hier_rules.specs.Heads.{of_heads}
use Rattle.bcj_hier_rules.specs.Loading.{load_error}
use Rattle.bcj_hier_rules.specs.Linking.{class_pair}
use Rattle.bcj_hier.specs.Numbers.{name_at}
use Rattle.bcj_hier.proofs.ByParts.{missing_error, name_found}
use Rattle.bcj_hier.proofs.hierarchy.Hier.class_holds.Goals as goal

pub places_hold-requires-clause-loads : goal.places_hold-requires-clause-loads
places_hold-requires-clause-loads c = ap (load_error (of_heads c.args.self.now)) (name_found c.args.self.now c.args.s.now c.in-Some.below (sym c.in-Some.ensures.number)) ∙ c.requires.loads

pub returns-in-None : goal.returns-in-None
returns-in-None c =
    let gone : Some error.NoClassDefFound ≡ None = sym (missing_error c.args.self.now c.args.s.now (sym c.in-None.ensures.number)) ∙ c.requires.loads in
    absurd (cc)

pub places_hold-requires-clause-other_loads : goal.places_hold-requires-clause-other_loads
places_hold-requires-clause-other_loads c =
    ap (load_error (of_heads c.args.self.now)) (name_found c.args.self.now c.args.t.now c.in-Some-place_of.above (sym c.in-Some-place_of.ensures.number)) ∙ c.requires.other_loads

pub returns-in-None-place_of : goal.returns-in-None-place_of
returns-in-None-place_of c =
    let gone : Some error.NoClassDefFound ≡ None = sym (missing_error c.args.self.now c.args.t.now (sym c.in-None-place_of.ensures.number)) ∙ c.requires.other_loads in
    absurd (cc)

pub returns-in-Some-place_of : goal.returns-in-Some-place_of
returns-in-Some-place_of c =
    c.places_hold.ensures
    ∙ (ap (λ n. class_pair (of_heads c.args.self.now) n (name_at c.args.self.now c.in-Some-place_of.above)) (name_found c.args.self.now c.args.s.now c.in-Some.below (sym c.in-Some.ensures.number))
    ∙ ap (class_pair (of_heads c.args.self.now) c.args.s.now) (name_found c.args.self.now c.args.t.now c.in-Some-place_of.above (sym c.in-Some-place_of.ensures.number)))
