use Rattle.std.proofs.Common.{◌≡◌, ◌∙◌, ℕ, List, length, map, slice_get, get_or, ap, subst}
use Rattle.bcj_hier_rules.specs.Heads.{AreDistinct}
use Rattle.bcj_layout_rules.specs.Rows.{Classes}
use Rattle.bcj_layout_resolution.specs.Places.{heads_in}
use Rattle.bcj_layout_addresses.specs.Lists.{code_at, found_at, fields_by, by_number}
use Rattle.bcj_layout_addresses.proofs.Growing.{number_count}
use Rattle.bcj_layout_addresses.proofs.Classes.{own_made, found_made, fields_made}
use Rattle.bcj_layout_addresses.proofs.addresses.find_addresses.Goals as goal

pub returns : goal.returns
returns c =
    let cs : Classes = c.args.resolver.now in
    let main : List ℕ = c.args.main.now in
    let text : List ℕ = c.args.places.now.text in
    let statics : List ℕ = c.args.places.now.statics in
    let same : c.as_slice-classes.result.now ≡ cs = c.as_slice-classes.ensures ∙ c.records.ensures in
    let distinct : AreDistinct (heads_in cs) = subst AreDistinct c.hier.ensures c.len-distinct.ensures.distinct in
    let own : c.in_ok-own_lists.field-0 ≡ by_number (λ k r. map (code_at (get_or text k 0) r.methods) r.methods) 0 cs =
    c.in_ok-own_lists.ensures ∙ λ i. by_number (λ k r. map (code_at (get_or (c.as_slice.ensures i) k 0) r.methods) r.methods) 0 (same i) in
    let methods : c.in_ok-found_lists.field-0 ≡ by_number (λ k r. map (found_at (get_or text k 0) r.methods) r.methods) 0 cs =
    c.in_ok-found_lists.ensures ∙ λ i. by_number (λ k r. map (found_at (get_or (c.as_slice-2.ensures i) k 0) r.methods) r.methods) 0 (same i) in
    let fields : c.in_ok-field_lists.field-0 ≡ by_number (λ k r. fields_by (get_or statics k 0) cs r) 0 cs =
    c.in_ok-field_lists.ensures ∙ λ i. by_number (λ k r. fields_by (get_or (c.as_slice-3.ensures i) k 0) cs r) 0 cs in
    record {
      own_count = ap length own ∙ number_count (λ k r. map (code_at (get_or text k 0) r.methods) r.methods) 0 cs;
      own = λ k r e. ap (λ l. slice_get l k) own ∙ own_made cs main text c.requires.places.text k r e;
      methods = methods ∙ found_made cs main text distinct c.requires.places.text;
      fields = fields ∙ fields_made cs main statics distinct c.requires.places.statics;
    }
