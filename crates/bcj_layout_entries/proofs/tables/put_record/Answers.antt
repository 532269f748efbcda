use Rattle.std.proofs.Common.{◌≡◌, ◌∙◌, map, ◌++◌}
use Rattle.bcj_hier_rules.specs.Heads.{name_of}
use Rattle.bcj_layout_rules.specs.Entries as spec
use Rattle.bcj_layout_resolution.specs.Places.{heads_in}
use Rattle.bcj_layout_entries.specs.Classes.{ctable_class, atable_class, no_class}
use Rattle.bcj_layout_entries.proofs.Words.{name-there, is-there}
use Rattle.bcj_layout_entries.proofs.Listing.{four-words, four-classes, four-among}
use Rattle.bcj_layout_entries.proofs.tables.put_record.Goals as goal

pub put_offsets-requires-clause-there : goal.put_offsets-requires-clause-there
put_offsets-requires-clause-there c = is-there c.args.parts.now.resolver.now c.args.from c.args.class.now c.requires.there

pub put_addresses-requires-clause-there : goal.put_addresses-requires-clause-there
put_addresses-requires-clause-there c = is-there c.args.parts.now.resolver.now c.args.from c.args.class.now c.requires.there

pub put_interfaces-requires-clause-there : goal.put_interfaces-requires-clause-there
put_interfaces-requires-clause-there c = is-there c.args.parts.now.resolver.now c.args.from c.args.class.now c.requires.there

pub returns : goal.returns
returns c =
    let cs = c.args.parts.now.resolver.now in
    let main = c.args.parts.now.main.now in
    let named : name_of (heads_in cs) c.args.from ≡ c.args.class.now.head.name = name-there cs c.args.from c.args.class.now c.requires.there in
    let first = c.in_ok-put_classes.ensures in
    let second = c.in_ok-put_offsets.ensures in
    let third = c.in_ok-put_addresses.ensures in
    let fourth = c.in_ok-put_interfaces.ensures in
    record {
      words = four-words cs _ _ _ _ _ _ _ _ _ _ _ _ _ c.new-entries.ensures first second third fourth
          ∙ λ i. map (spec.ctable_word cs main) (c.as_slice.ensures i)
          ++ (map (spec.otable_word cs main (named i)) (c.as_slice-2.ensures i) ++ (map (spec.atable_word cs main (named i)) (c.as_slice-3.ensures i) ++ map (spec.itable_word cs main (named i)) (c.as_slice-4.ensures i)));
      classes = four-classes cs _ _ _ _ _ _ _ _ _ _ _ _ _ c.new-entries.ensures first second third fourth
          ∙ λ i. map (ctable_class cs) (c.as_slice.ensures i)
          ++ (map no_class (c.as_slice-2.ensures i) ++ (map (atable_class cs (named i)) (c.as_slice-3.ensures i) ++ map no_class (c.as_slice-4.ensures i)));
      among = four-among cs _ _ _ _ _ _ _ _ _ _ _ _ _ c.new-entries.ensures first second third fourth;
    }
