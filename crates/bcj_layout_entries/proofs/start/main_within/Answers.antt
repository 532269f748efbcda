use Rattle.std.proofs.Common.{◌≡◌, ◌∙◌, sym, ap, subst, length, get_or, slice_get, position, Some, Ok, if◌then◌else◌}
use Rattle.std.proofs.lemmas.List.{length-map}
use Rattle.std.proofs.lemmas.Option.{slice_get_read, slice_get-map}
use Rattle.std.specs.Option.{option_map}
use Rattle.bcj_tables_rules.specs.declared.records.ClassRecord.{ClassRecord}
use Rattle.bcj_hier_rules.specs.Heads.{AreDistinct}
use Rattle.bcj_layout_rules.specs.Places.{is_main, main_descriptor, main_with_arguments, main_without, method_at}
use Rattle.bcj_layout_resolution.specs.Places.{heads_in}
use Rattle.bcj_layout_addresses.specs.Addresses.{own_addresses}
use Rattle.bcj_layout_members.proofs.Elements.{some_at}
use Rattle.bcj_layout_entries.specs.Start.{declaring_class}
use Rattle.bcj_layout_entries.proofs.Words.{name-there}
use Rattle.bcj_layout_entries.proofs.Mains.{IsTaken, main-missing, main-taken, position-within}
use Rattle.bcj_layout_entries.proofs.start.main_within.Goals as goal
use Rattle.bcj_layout_entries.proofs.start.main_within.Goals.{After-main_number}

-- what is known of the class and of the search in it
taken : (c : After-main_number) → IsTaken c.args.parts.now.resolver.now c.args.parts.now.main.now c.args.class.0 c.index-classes-class.result c.main_number.result
taken c =
    let cs = c.args.parts.now.resolver.now in
    let r = c.index-classes-class.result in
    let there : slice_get cs c.args.class.0 ≡ Some r =
    slice_get_read cs (length (heads_in cs)) c.args.class.0 r (length-map cs (λ x. x.head)) c.requires.there (c.index-classes-class.is ∙ ap (λ xs. get_or xs c.args.class.0 r) (c.as_slice-classes.ensures ∙ c.records.ensures)) in
    record {
      distinct = subst AreDistinct c.hier.ensures c.len-distinct.ensures.distinct;
      there = there;
      named = sym (name-there cs c.args.class r there) ∙ c.requires.named;
      number = c.main_number.ensures
          ∙ ((λ i. position (is_main (c.main_descriptor-desc.ensures i)) (c.as_slice-methods.ensures i))
          ∙ (ap (λ (d : ClassRecord). position (is_main (if c.args.parts.now.places.now.takes_arguments then main_with_arguments else main_without)) d.methods) (sym c.index-classes-class.is)
          ∙ ap (λ b. position (is_main (if b then main_with_arguments else main_without)) r.methods) c.requires.parts.places.arguments));
    }

pub returns-in-None : goal.returns-in-None
returns-in-None c =
    let cs = c.args.parts.now.resolver.now in
    let main = c.args.parts.now.main.now in
    let is = taken (goal.at.returns-in-None c).After-main_number in
    let missing = main-missing cs main c.args.class.0 c.index-classes-class.result is.distinct is.there is.named (sym is.number ∙ c.in-None.is) in
    let h = c.unresolved.ensures cs in
    record { is_word = h.is_word ∙ sym missing; is_class = h.is_class ∙ sym (ap (declaring_class cs main) missing); among = h.among }

pub returns-in-Some : goal.returns-in-Some
returns-in-Some c =
    let cs = c.args.parts.now.resolver.now in
    let main = c.args.parts.now.main.now in
    let k = c.args.class.0 in
    let r = c.index-classes-class.result in
    let n = c.in-Some.number in
    let is = taken (goal.at.returns-in-Some c).After-main_number in
    let at : position (is_main (main_descriptor cs main)) r.methods ≡ Some n = sym is.number ∙ c.in-Some.is in
    let m = some_at r.methods n (position-within (is_main (main_descriptor cs main)) r.methods n at) in
    let found = main-taken cs main k r is.distinct is.there is.named n m.0 at m.1 in
    let own : slice_get c.as_slice.result.now k ≡ Some (own_addresses cs main k r) = ap (λ l. slice_get l k) c.as_slice.ensures ∙ c.requires.parts.addresses.own k r is.there in
    let word = c.word_of.ensures (own_addresses cs main k r) own (method_at cs main k r m.0) (slice_get-map (method_at cs main k r) r.methods n ∙ ap (option_map (method_at cs main k r)) m.1) in
    record {
      is_word = ap Ok word ∙ sym found;
      is_class = ap Some c.requires.named ∙ sym (ap (declaring_class cs main) found);
      among = c.requires.there;
    }
